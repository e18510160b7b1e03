use Rattle.std.proofs.Common.{◌∷◌, ◌++◌, [], List, Option, refl, ap, sym, ◌∙◌}
use Rattle.indexmap.specs.Layout.{set_value_at}
use Rattle.cs_model.specs.declared.value.Value.{Value}
use Rattle.cs_apply.specs.Steps.{rows_of}
use Rattle.cs_apply.proofs.stored.Filled.{value_at, set_rows}
use Rattle.cs_apply.proofs.stored.Log.{Back-write}
use Rattle.cs_apply.proofs.places.Places.set.Goals as goal

pub returns-in-Some-clause-ok : goal.returns-in-Some-clause-ok
returns-in-Some-clause-ok c = λ key row at.
    let m = c.args.self.now.rows in
    ap (λ (w : Option (List Value)). rows_of (set_value_at m.entries c.args.place w)) c.replace-back.ensures.after
    ∙ set_rows m c.args.place key row c.args.row c.in-Some.ensures.unique at

pub returns-in-Some-clause-back : goal.returns-in-Some-clause-back
returns-in-Some-clause-back c =
    Back-write c.args.self.now _ c.args.place c.in-Some.found.now c.replace-back.new.dest refl
    (c.push_reserved.ensures.items
    ∙ (λ i. c.reserve.ensures.items i ++ (record { place = c.args.place; back = c.replace-back.ensures.value i })
    ∷ []))
    (sym c.in-Some.ensures.value)

pub returns-in_default-clause-ok : goal.returns-in_default-clause-ok
returns-in_default-clause-ok c = λ key row at.
    let found = c.in_default.ensures.value in
    let here = value_at c.args.self.now.rows.entries c.args.place key row at in
    cc (found, here)
