use Rattle.std.proofs.Common.{◌+◌, ◌≤◌, ◌++◌, Err, length, take, ap, subst, sym, ◌∙◌, arith}
use Rattle.std.proofs.lemmas.Bool.{eqb-false}
use Rattle.std.proofs.lemmas.List.{length-take}
use Rattle.cs_model.specs.Changeset.{most_bytes}
use Rattle.cs_parse.specs.Front.{TakesIn}
use Rattle.cs_parse.specs.Progress.{Progress, FeedAnswers, read_on}
use Rattle.cs_parse.specs.contracts.pieces.PieceParser.{the_view}
use Rattle.cs_parse.specs.declared.fault.ParseFault.{ParseFault}
use Rattle.cs_parse.proofs.feeding.RestLaws.{full_answers}
use Rattle.cs_parse.proofs.joining.FaultPlaces.{fault_within}
use Rattle.cs_parse.proofs.pieces.PieceParser.read_in.Goals as goal

pub break_off-requires-in-Err-Fault : goal.break_off-requires-in-Err-Fault
break_off-requires-in-Err-Fault c =
    let old = c.args.self.now in
    let bytes = take c.min.result c.args.piece.now in
    let x = c.in-Err-Fault in
    let few : old.offset + length bytes ≤ most_bytes =
    omega (
      arith,
      length-take c.min.result c.args.piece.now,
      c.min.ensures,
      c.self.invariant,
      ap (λ p. p.offset) c.self.view_is,
    ) in
    let told = subst (λ e. TakesIn {A = Unit {0}} (Err e) old bytes c.take_in.new.self) x.field-0-is x.ensures in
    let within = fault_within (old.offset + length bytes) (read_on old.sections (old.pending ++ bytes)) x.fault few
    told in
    omega (arith, within, few, ap (λ (f : ParseFault). f.at) x.fault-is)

pub returns-then-not-is_empty-clause-fed : goal.returns-then-not-is_empty-clause-fed
returns-then-not-is_empty-clause-fed c =
    let b = c.break_off in
    let some = sym c.is_empty.ensures ∙ c.if-not-is_empty.true in
    subst (λ (p : Progress). FeedAnswers {A = Unit {0}} (Err b.result) p c.args.piece.now b.new.self) c.self.view_is
    (full_answers b.result (the_view c.self.inside) c.args.piece.now b.new.self b.ensures.told b.ensures.broken
    (omega (arith, c.self.invariant.0, c.if-room-eq0.true)) (omega (arith, eqb-false (length c.args.piece.now) 0 some)) c.self.invariant.3
    c.in_default.is)
