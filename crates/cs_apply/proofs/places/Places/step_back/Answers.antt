use Rattle.std.proofs.Common.{sym}
use Rattle.cs_apply.proofs.stored.Log.{set_value, set_nothing}
use Rattle.cs_apply.proofs.places.Places.step_back.Goals as goal

pub returns-in-Some-clause-rows : goal.returns-in-Some-clause-rows
returns-in-Some-clause-rows c = sym (set_value c.args.self.now.rows.entries c.args.step.place c.args.step.back)

pub returns-in_default-clause-rows : goal.returns-in_default-clause-rows
returns-in_default-clause-rows c =
    sym (set_nothing c.args.self.now.rows.entries c.args.step.place c.args.step.back c.in_default.ensures.value)
