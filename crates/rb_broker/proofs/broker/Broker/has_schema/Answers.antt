use Rattle.std.proofs.Common.{◌∙◌}
use Rattle.std.proofs.lemmas.Slice.Eq.{slice_eq-Decides}
use Rattle.rb_broker.proofs.SchemaLaws.{decides_on, shape_decides}
use Rattle.rb_broker.proofs.broker.Broker.has_schema.Goals as goal

pub returns : goal.returns
returns g c =
    decides_on c.eq.result c.tables.result.now c.tables-2.result.now _ _ (c.tables.ensures.tables ∙ c.schema.ensures.same)
    (c.tables-2.ensures.tables ∙ c.deref.ensures)
    (slice_eq-Decides shape_decides c.tables.result.now c.tables-2.result.now c.eq.result c.eq.ensures)
