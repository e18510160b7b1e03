use Rattle.std.proofs.Common.{◌∙◌, ◌∷◌, ◌+◌, length, sym, ap, subst}
use Rattle.cs_model.specs.declared.change.Change.{Change}
use Rattle.cs_model.specs.PackedChanges.{unpacked_changes}
use Rattle.cs_model.specs.PackedOne.{IsPacked}
use Rattle.cs_model.proofs.packing.PackedOne.{front_packed, packed_change_back}
use Rattle.cs_model.proofs.packed_change.packed_first.Goals as goal

pub invariant_of-packed : goal.invariant_of-packed
invariant_of-packed c =
    let first = c.in_ok-change.ensures in
    let is = front_packed _ _ _ c.split_at.result.0.now _ _ c.requires first.rest first.first c.split_at.ensures.front
    (ap (λ w. 2 + length w) c.bytes.ensures.bytes) in
    subst (λ (d : Change). IsPacked d (2 + length c.bytes.result.now) c.split_at.result.0.now)
    (sym (packed_change_back _ _ _ is)) is

pub returns-clause-first : goal.returns-clause-first
returns-clause-first c =
    let first = c.in_ok-change.ensures in
    let is = front_packed _ _ _ c.split_at.result.0.now _ _ c.requires first.rest first.first c.split_at.ensures.front
    (ap (λ w. 2 + length w) c.bytes.ensures.bytes) in
    first.first ∙ ap (λ (d : Change). d ∷ unpacked_changes c.args.columns c.in_ok-change.after.now)
    (sym (packed_change_back _ _ _ is))
