use Rattle.std.proofs.Common.{sym, ◌∙◌}
use Rattle.par_apply.proofs.workers.PlanLaws.{answers_distinct, plan_ok, plan_refused}
use Rattle.par_apply.proofs.planned.plan_changes.Goals as goal

pub returns-clause-refused : goal.returns-clause-refused
returns-clause-refused g c =
    plan_refused c.args.tables.now c.args.changeset.now c.args.n c.requires.some c.in-Ok.answers.items
    c.gathered.result (sym c.in-Ok.answers.ok.0 ∙ c.in-Ok.ensures.len) c.in-Ok.ensures.each c.gathered.ensures.refused

pub returns-clause-ok : goal.returns-clause-ok
returns-clause-ok g c =
    plan_ok c.args.tables.now c.args.changeset.now c.args.n c.requires.some
    (λ new have is. c.rows_keep_columns.ensures c.args.tables.now new c.args.changeset.now c.iter-sections.ensures.valid have is)
    c.schema-schema.ensures.columns c.in-Ok.answers.items c.gathered.result
    (sym c.in-Ok.answers.ok.0 ∙ c.in-Ok.ensures.len) c.in-Ok.ensures.each c.gathered.ensures.ok

pub gathered-requires : goal.gathered-requires
gathered-requires g c =
    answers_distinct c.args.tables.now c.args.changeset.now c.args.n c.requires.some c.in-Ok.answers.items
    (sym c.in-Ok.answers.ok.0 ∙ c.in-Ok.ensures.len) c.in-Ok.ensures.each
