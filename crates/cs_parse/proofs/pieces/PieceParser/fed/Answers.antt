use Rattle.std.proofs.Common.{◌≡◌, ◌+◌, ◌-◌, ◌++◌, ℕ, List, None, length, sym, ap, subst, arith}
use Rattle.cs_model.specs.Bytes.{AreBytes}
use Rattle.cs_model.specs.Section.{Section}
use Rattle.cs_parse.specs.Front.{KeepsSpot, IsReadOut}
use Rattle.cs_parse.specs.Lack.{IsPaused}
use Rattle.cs_parse.specs.Progress.{Progress, last_flags, advanced}
use Rattle.cs_parse.proofs.feeding.RestLaws.{out_short}
use Rattle.cs_parse.proofs.feeding.WaitLaws.{keeps_more, paused_behind, paused_fed}
use Rattle.cs_parse.proofs.pieces.PieceParser.fed.Goals as goal

pub invariant_of-self-then-no_end : goal.invariant_of-self-then-no_end
invariant_of-self-then-no_end c =
    let old = c.self.inside in
    let piece = c.args.piece.now in
    let fits : AreBytes piece = λ i. omega (arith, c.type_inv.piece i) in
    let none = c.no_end.ensures c.if-no_end.true in
    let new_is = sym c.in_ok-extend.ensures.ok in (
      omega (arith, c.self.invariant.0, c.if-piece-self.true),
      subst (λ (t : List Section × List ℕ). KeepsSpot (last_flags t.0) t.1 old.spot) new_is
          (keeps_more (last_flags old.text.0) old.text.1 piece old.spot fits c.self.invariant.1),
      subst (λ (t : List Section × List ℕ). IsPaused old.fault t.0 t.1 old.header (old.lacking - length piece)) new_is
          (paused_behind old.fault old.text.0 old.text.1 piece old.header old.lacking c.if-piece-self.true none
          c.self.invariant.2),
      subst (λ (t : List Section × List ℕ). IsReadOut t.0 t.1) new_is
          (out_short old.text.0 (old.text.1 ++ piece)
          (c.self.invariant.2.lacks piece c.if-piece-self.true none)),
    )

pub returns-then-no_end-clause-fed : goal.returns-then-no_end-clause-fed
returns-then-no_end-clause-fed c =
    let old = c.self.inside in
    let piece = c.args.piece.now in
    let seen : Progress = record { sections = old.text.0; pending = old.text.1; offset = old.offset; fault = old.fault }
    in
    let put : List Section × List ℕ → Progress =
    λ t. record { sections = t.0; pending = t.1; offset = old.offset + length piece; fault = old.fault } in
    let none = c.no_end.ensures c.if-no_end.true in
    let new = put c.extend.new.self in
    subst (λ p. ((advanced p piece).fault ≡ None) × (new ≡ advanced p piece)) c.self.view_is
    (paused_fed seen new piece old.header old.lacking c.self.invariant.0 c.if-piece-self.true none c.self.invariant.2
    (ap put c.in_ok-extend.ensures.ok))
