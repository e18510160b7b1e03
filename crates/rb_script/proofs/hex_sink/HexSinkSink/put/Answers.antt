use Rattle.std.proofs.Common.{◌≡◌, ◌∙◌, [], MatchOption, subst, sym}
use Rattle.rb_script.specs.Ends.{IsOfAnswers}
use Rattle.rb_script.specs.Sinks.{GainsAll, hex_of_pieces}
use Rattle.rb_script.proofs.sinks.SinkLaws.{all_is_front, fails_again, fails_front, none_failed, one_failed, some_now}
use Rattle.rb_script.proofs.sinks.SinkLaws.{now_failed, still_sound, piece_gained}
use Rattle.rb_script.proofs.hex_sink.HexSinkSink.put.Goals as goal

pub invariant_of-self : goal.invariant_of-self
invariant_of-self g c =
    let old = c.args.self.now in
    let new = c.push.new.self.pieces in
    let is = c.push.ensures in
    let w = g.W.Write.contents old.to.writer.now in
    record {
      name = old.name;
      none = old.none;
      sound = still_sound old.to.fault (old.failed.pieces ≡ []) (new ≡ []) c.if-is_some.ensures old.sound;
      all = λ none. one_failed {A = GainsAll g.L.Loan.before w (hex_of_pieces old.taken.pieces)} old.failed.pieces new
          c.args.piece.now is none;
      front = fails_again g.L.Loan.before w old.taken.pieces old.failed.pieces new c.args.piece.now is old.front;
    }

pub invariant_of-self-in-Ok : goal.invariant_of-self-in-Ok
invariant_of-self-in-Ok g c =
    let old = c.args.self.now in
    let new = c.push-in-Ok.new.self.pieces in
    let is = c.push-in-Ok.ensures in
    let w = g.W.Write.contents old.to.writer.now in
    let w' = g.W.Write.contents c.write.new.self.writer.now in
    let wrote = c.in-Ok.ensures in
    let unfailed = none_failed old.to.fault (old.failed.pieces ≡ []) c.if-is_some.ensures old.sound in
    let all = piece_gained g.L.Loan.before w w' old.taken.pieces new c.args.piece.now is (old.all unfailed) wrote.ok in
    record {
      name = wrote.name ∙ old.name;
      none = wrote.some.0 ∙ some_now old.taken.pieces new c.args.piece.now is;
      sound = subst (λ fault. MatchOption fault (old.failed.pieces ≡ []) IsOfAnswers) (sym wrote.some.1) old.sound;
      all = λ _. all;
      front = all_is_front g.L.Loan.before w' new old.failed.pieces unfailed all;
    }

pub invariant_of-self-in-Err : goal.invariant_of-self-in-Err
invariant_of-self-in-Err g c =
    let old = c.args.self.now in
    let new = c.push-in-Err.new.self.pieces in
    let is = c.push-in-Err.ensures in
    let w = g.W.Write.contents old.to.writer.now in
    let w' = g.W.Write.contents c.write.new.self.writer.now in
    let wrote = c.in-Err.ensures in
    let unfailed = none_failed old.to.fault (old.failed.pieces ≡ []) c.if-is_some.ensures old.sound in
    record {
      name = wrote.name ∙ old.name;
      none = wrote.fault.0 ∙ old.none;
      sound = now_failed c.write.new.self.fault (new ≡ []) wrote.fault.1;
      all = λ none. one_failed {A = GainsAll g.L.Loan.before w' (hex_of_pieces old.taken.pieces)} old.failed.pieces new
          c.args.piece.now is none;
      front = fails_front g.L.Loan.before w w' old.taken.pieces old.failed.pieces new c.args.piece.now unfailed is
          (old.all unfailed) wrote.err;
    }
