use Rattle.std.proofs.Common.{◌≡◌, ℕ, length, List, ◌∷◌, ◌++◌, not, eqb, ap, ◌∙◌, arith}
use Rattle.cs_model.specs.PackedChanges.{changes_bytes, records_by, unpacked_changes}
use Rattle.cs_model.proofs.packing.PackedChangeLaws.{changes_none, changes_short, changes_first, records_no_longer}
use Rattle.cs_model.proofs.spelling.SaidLaws.{still_front, changes_go, changes_end}
use Rattle.cs_model.proofs.canonical.add_said.Goals as goal

pub loop-preserved : goal.loop-preserved
loop-preserved c =
    let read : unpacked_changes c.args.columns c.loop.rest.now
    ≡ (records_by c.args.columns c.op_of.result (not (eqb c.in-Some-split_first.field-0-0.now 0))
    c.in-Some-split_first.fields.now).0 ∷ unpacked_changes c.args.columns c.in_ok-rest.rest.now
    = changes_first c.args.columns c.loop.rest.now c.in-Some.behind.now c.in-Some.field-0-0.now
    c.in-Some-split_first.field-0-0.now c.in-Some-split_first.fields.now _ c.in_ok-rest.rest.now
    c.in-Some.ensures.cases.0 c.in-Some-split_first.ensures.cases.0
    (ap (λ o. (records_by c.args.columns o (not (eqb c.in-Some-split_first.field-0-0.now 0))
    c.in-Some-split_first.fields.now).0) c.op_of.ensures)
    (rw c.op_of.ensures at c.in_ok-rest.ensures.rest) in
    record {
      enough = omega (
        arith,
        ap length c.in-Some.ensures.cases.0,
        ap length c.in-Some-split_first.ensures.cases.0,
        ap length c.in_ok-rest.ensures.rest,
        records_no_longer c.args.columns c.op_of.result
            (not (eqb c.in-Some-split_first.field-0-0.now 0)) c.in-Some-split_first.fields.now,
      );
      bytes = changes_go c.args.columns c.loop.rest.now c.in_ok-rest.rest.now c.loop.out.items
          c.add_change.new.out.items _ _ read c.in_ok-rest.ensures.ok c.loop.invariant.bytes;
      adds = still_front _ c.loop.out.items c.add_change.new.out.items _ c.loop.invariant.adds c.in_ok-rest.ensures.ok;
    }

pub returns-after-loop-clause-ok : goal.returns-after-loop-clause-ok
returns-after-loop-clause-ok c =
    let none = changes_none c.args.columns c.loop.rest.now (omega arith) in
    changes_end c.args.columns c.loop.rest.now c.loop.out.items _ none c.loop.invariant.bytes
    ∙ ap (λ (w : List ℕ). w ++ changes_bytes (unpacked_changes c.args.columns c.args.bytes.now))
    c.reserve.ensures.items

pub returns-in_default-clause-ok : goal.returns-in_default-clause-ok
returns-in_default-clause-ok c =
    let none = changes_none c.args.columns c.loop.rest.now c.in_default.ensures.cases in
    changes_end c.args.columns c.loop.rest.now c.loop.out.items _ none c.loop.invariant.bytes
    ∙ ap (λ (w : List ℕ). w ++ changes_bytes (unpacked_changes c.args.columns c.args.bytes.now))
    c.reserve.ensures.items

pub returns-in_default-split_first-clause-ok : goal.returns-in_default-split_first-clause-ok
returns-in_default-split_first-clause-ok c =
    let none = changes_short c.args.columns c.loop.rest.now c.in-Some.field-0-0.now c.in-Some.behind.now
    c.in-Some.ensures.cases.0 c.in_default-split_first.ensures.cases in
    changes_end c.args.columns c.loop.rest.now c.loop.out.items _ none c.loop.invariant.bytes
    ∙ ap (λ (w : List ℕ). w ++ changes_bytes (unpacked_changes c.args.columns c.args.bytes.now))
    c.reserve.ensures.items
