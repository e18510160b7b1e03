use Rattle.std.proofs.Common.{◌≡◌, true, if◌then◌else◌, Some, Ok, Err, sym, ap, ◌∙◌}
use Rattle.std.specs.FinMap as map
use Rattle.cs_apply.specs.declared.conflict.ConflictKind.TheVariants.{Data}
use Rattle.cs_apply.specs.Effect.{changed, rest_agrees, updated}
use Rattle.cs_apply.specs.Steps.{rows_of}
use Rattle.cs_apply.proofs.changes.update.Goals as goal

pub returns-clause-ok : goal.returns-clause-ok
returns-clause-ok c =
    let rows = rows_of c.args.places.now.rows.entries in
    let key = c.args.key.now in
    let after = c.args.after.now in
    let row = c.in-Some.row.now in
    let agrees : rest_agrees c.args.flags.now c.args.before.now row ≡ true = sym c.if-not-rest_agrees.ensures in
    let done = c.in_ok-set.ensures.ok key (Some row) c.in-Some.ensures.place in
    ap (changed rows key c.args.flags.now c.args.before.now after) (sym c.in-Some.ensures.row)
    ∙ (λ i. if agrees i then Ok (map.insert rows key (updated after row)) else Err Data)
    ∙ ap Ok (sym (done ∙ ap (λ new. map.insert rows key new) c.in_ok-new.ensures))
