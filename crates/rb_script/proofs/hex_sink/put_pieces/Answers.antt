use Rattle.std.proofs.Common.{◌≡◌, [], ap, sym, ◌∙◌}
use Rattle.cs_write.specs.Text.{text_of}
use Rattle.rb_script.specs.Sinks.{has_none}
use Rattle.rb_script.proofs.sinks.SinkLaws.{all_is_front, begins_all, is_unfaulted}
use Rattle.rb_script.proofs.sinks.PutLaws.{on_ok_word, on_ok_none, on_err_front, on_err_fault}
use Rattle.rb_script.proofs.hex_sink.put_pieces.Goals as goal

pub invariant_of-sink : goal.invariant_of-sink
invariant_of-sink g c =
    let taken = c.new.result.pieces in
    let failed = c.new-2.result.pieces in
    let w = g.W.Write.contents c.args.to.writer.now in
    let all = begins_all g.L.Loan.before w taken c.requires.before c.new.ensures in
    record {
      name = c.requires.name;
      none = c.requires.fresh.0 ∙ sym (ap has_none c.new.ensures);
      sound = is_unfaulted c.args.to.fault (failed ≡ []) c.requires.fresh.1 c.new-2.ensures;
      all = λ _. all;
      front = all_is_front g.L.Loan.before w taken failed c.new-2.ensures all;
    }

pub returns-clause-word : goal.returns-clause-word
returns-clause-word g c =
    let sink = c.write_pieces-written.new.sink in
    on_ok_word c.write_pieces-written.result (text_of c.args.changeset.now) c.new.result.pieces sink.taken.pieces
    c.new-2.result.pieces sink.failed.pieces sink.to.empty g.L.Loan.before (g.W.Write.contents c.args.to.writer.now)
    (g.W.Write.contents sink.to.writer.now) c.new.ensures c.new-2.ensures c.requires.before sink.all sink.none
    c.write_pieces-written.ensures

pub returns-clause-none : goal.returns-clause-none
returns-clause-none g c =
    let sink = c.write_pieces-written.new.sink in
    on_ok_none c.write_pieces-written.result (text_of c.args.changeset.now) c.new.result.pieces sink.taken.pieces
    c.new-2.result.pieces sink.failed.pieces sink.to.empty g.L.Loan.before (g.W.Write.contents c.args.to.writer.now)
    (g.W.Write.contents sink.to.writer.now) c.new.ensures c.new-2.ensures c.requires.before sink.all sink.none
    c.write_pieces-written.ensures

pub returns-clause-front : goal.returns-clause-front
returns-clause-front g c =
    let sink = c.write_pieces-written.new.sink in
    on_err_front c.write_pieces-written.result (text_of c.args.changeset.now) c.new.result.pieces sink.taken.pieces
    c.new-2.result.pieces sink.failed.pieces g.L.Loan.before (g.W.Write.contents c.args.to.writer.now)
    (g.W.Write.contents sink.to.writer.now) c.new.ensures c.new-2.ensures c.requires.before sink.front
    c.write_pieces-written.ensures

pub returns-clause-fault : goal.returns-clause-fault
returns-clause-fault g c =
    let sink = c.write_pieces-written.new.sink in
    on_err_fault c.write_pieces-written.result (text_of c.args.changeset.now) c.new.result.pieces sink.taken.pieces
    c.new-2.result.pieces sink.failed.pieces sink.to.fault sink.sound c.write_pieces-written.ensures
