use Rattle.std.proofs.Common.{◌≡◌, ◌∙◌, sym, ap, rules}
use Rattle.std.proofs.lemmas.Bool.{true≢false}
use Rattle.cs_model.specs.Packed.{unpacked}
use Rattle.cs_model.specs.Row.{values_of}
use Rattle.replica_store.specs.Changes.{row_body}
use Rattle.replica_store.proofs.statements.BodyLaws.{body_says}
use Rattle.replica_store.proofs.stored_row.row_of_body.Goals as goal

pub returns-then-not-are_same : goal.returns-then-not-are_same
returns-then-not-are_same c row is fit =
    let found : c.in_ok-row.row ≡ values_of (unpacked c.args.body.now) = search rules in
    let same : c.bytes.result.now ≡ c.args.body.now = c.bytes.ensures.bytes
    ∙ ap row_body (found ∙ body_says c.args.body.now row is fit) ∙ sym is in
    true≢false (sym (c.are_same.ensures.1 same) ∙ c.if-not-are_same.true)
