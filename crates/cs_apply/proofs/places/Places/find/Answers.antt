use Rattle.std.proofs.Common.{Some, sym, ◌∙◌}
use Rattle.cs_apply.proofs.stored.Filled.{found_place, no_place}
use Rattle.cs_apply.proofs.places.Places.find.Goals as goal

pub returns-in_err-place-clause-row : goal.returns-in_err-place-clause-row
returns-in_err-place-clause-row c =
    let e = c.in_err-place.ensures in
    rw c.from_residual.ensures (sym (no_place c.args.self.now.rows.entries c.args.key.now e.unique e.found))

pub returns-in_err-as_ref-clause-row : goal.returns-in_err-as_ref-clause-row
returns-in_err-as_ref-clause-row c =
    let e = c.in_ok-place.ensures in
    let found = found_place c.args.self.now.rows.entries c.args.key.now c.in_ok-row.field-0-0.now c.in_ok-place.place
    c.in_ok-row.row.now e.unique e.index c.in_ok-row.ensures.entry e.value in
    rw c.from_residual-in_err-as_ref.ensures (sym (found.1 ∙ sym c.in_err-as_ref.ensures.value))

pub returns : goal.returns
returns c =
    let e = c.in_ok-place.ensures in
    let found = found_place c.args.self.now.rows.entries c.args.key.now c.in_ok-row.field-0-0.now c.in_ok-place.place
    c.in_ok-row.row.now e.unique e.index c.in_ok-row.ensures.entry e.value in
    record {
      row = sym (found.1 ∙ sym c.in_ok-as_ref.ensures.value);
      place = found.0 ∙ (λ i. Some (c.args.key.now, sym c.in_ok-as_ref.ensures.value i));
    }
