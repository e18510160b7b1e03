use Rattle.std.proofs.Common.{sym, ap, ◌∙◌}
use Rattle.par_apply.specs.Staged.{without_places}
use Rattle.par_apply.proofs.commits.StageLaws.{last_without}
use Rattle.par_apply.proofs.staged.take_back.Goals as goal

pub loop-index-preserved : goal.loop-index-preserved
loop-index-preserved c =
    let t = c.loop-index.tables in
    let changes = c.args.changes.now in
    let left = c.pop.new.self.items in
    ap (λ u. without_places u changes left) c.take_out.ensures
    ∙ sym (last_without t changes left c.in-Some.index)
    ∙ ap (without_places t changes) (sym c.in-Some.ensures.items) ∙ c.loop-index.invariant
