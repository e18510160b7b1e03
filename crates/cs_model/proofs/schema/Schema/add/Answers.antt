use Rattle.std.proofs.Common.{sym, ◌∙◌}
use Rattle.cs_model.proofs.lists.Tables.{IsSchema-push}
use Rattle.cs_model.proofs.schema.Schema.add.Goals as goal

pub invariant_of-self-in-None : goal.invariant_of-self-in-None
invariant_of-self-in-None c =
    let allowed = sym c.refusal.ensures ∙ c.in-None.is in
    rw c.in_ok-push-in-None.ensures.items
    (IsSchema-push c.self.inside.tables.items c.args.table c.self.invariant (rw c.deref.ensures.value at allowed))
