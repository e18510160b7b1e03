use Rattle.std.proofs.Common.{◌∙◌, ap, inl, inr, sym}
use Rattle.cs_model.specs.KeyBytes.{key_bytes, key_record}
use Rattle.cs_model.specs.Packed.{packed}
use Rattle.cs_group.proofs.cut_down.KeyPlace.{run_fields}
use Rattle.cs_group.proofs.key.bytes_at.Goals as goal

pub returns-in-Insert : goal.returns-in-Insert
returns-in-Insert c = λ flags run.
    let change = c.args.change.now in
    c.part.ensures ∙ ap packed (sym (run_fields flags c.args.at.first c.args.at.count run change.after))
    ∙ ap (λ op. key_bytes flags (key_record op change.before change.after)) (sym c.in-Insert.is)

pub returns-in-Update : goal.returns-in-Update
returns-in-Update c = λ flags run.
    let change = c.args.change.now in
    c.part-in-Update.ensures
    ∙ ap packed (sym (run_fields flags c.args.at.first c.args.at.count run change.before))
    ∙ elim c.in-Update.is [
      | inl is ↦ ap (λ op. key_bytes flags (key_record op change.before change.after)) (sym is)
      | inr is ↦ ap (λ op. key_bytes flags (key_record op change.before change.after)) (sym is)
    ]
