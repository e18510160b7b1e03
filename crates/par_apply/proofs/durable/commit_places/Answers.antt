use Rattle.std.proofs.Common.{◌∙◌, ap, sym}
use Rattle.cs_apply.specs.Held.{HeldState}
use Rattle.par_apply.specs.Staged.{changed_places, changes_staged}
use Rattle.par_apply.proofs.commits.CommitLaws.{changed_without}
use Rattle.par_apply.proofs.durable.commit_places.Goals as goal

pub returns-in-Ok-commit-clause-ok : goal.returns-in-Ok-commit-clause-ok
returns-in-Ok-commit-clause-ok g c =
    let staged = c.in-Ok.staged in
    let held = c.stage.new.tables in
    let changes = changes_staged staged in
    c.commit-in-Ok-commit.ensures.places ∙ sym (changed_without held changes staged.made.items)
    ∙ ap (λ (t : HeldState). changed_places t changes) c.in-Ok.ensures.back
    ∙ ap (changed_places c.args.tables.now) c.in-Ok.ensures.changes
