use Rattle.std.proofs.Common.{◌≡◌, ◌∙◌, IsTrue, length, sym, ap, rules}
use Rattle.std.specs.List.{AllByRecursion}
use Rattle.std.proofs.lemmas.Bool.{true≢false, eq-eqb}
use Rattle.cs_model.specs.KeyBytes.{key_bytes}
use Rattle.cs_model.specs.Packed.{Fits}
use Rattle.cs_model.specs.Row.{row_fields}
use Rattle.replica_store.specs.Changes.{row_body}
use Rattle.replica_store.proofs.statements.BodyLaws.{one_row_of_body}
use Rattle.replica_store.proofs.stored_row.keyed_row.Goals as goal

pub returns-then-not-has_columns : goal.returns-then-not-has_columns
returns-then-not-has_columns c row is keyed =
    let found : (c.args.body.now ≡ row_body c.in-Some.row) × AllByRecursion Fits (row_fields c.in-Some.row) =
    search rules in
    let same = one_row_of_body c.args.body.now row c.in-Some.row is keyed.fit found.0 found.1 in
    let count : length c.in-Some.row ≡ c.len.result = ap length (sym same) ∙ keyed.columns ∙ sym c.len.ensures in
    true≢false (sym (c.has_columns.ensures ∙ eq-eqb _ _ count) ∙ c.if-not-has_columns.true)

pub returns-then-not-branch : goal.returns-then-not-branch
returns-then-not-branch c row is keyed =
    let found : (c.args.body.now ≡ row_body c.in-Some.row) × AllByRecursion Fits (row_fields c.in-Some.row) =
    search rules in
    let same = one_row_of_body c.args.body.now row c.in-Some.row is keyed.fit found.0 found.1 in
    let key : c.args.bytes.now ≡ key_bytes c.args.shape.now.flags (row_fields c.in-Some.row)
    → IsTrue c.in_ok-has_key.field-0 = search rules in
    true≢false (sym (key (keyed.keyed ∙ ap (λ r. key_bytes c.args.shape.now.flags (row_fields r)) same))
    ∙ c.if-not-branch.true)
