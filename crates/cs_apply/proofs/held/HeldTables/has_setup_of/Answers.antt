use Rattle.std.proofs.Common.{◌≡◌, ◌∙◌, refl, ap}
use Rattle.std.specs.Arc.{arc_value}
use Rattle.std.specs.Bool.{Decides}
use Rattle.std.specs.Cmp.Lexicographic.{pointwise}
use Rattle.cs_model.specs.Schema.{same_shape}
use Rattle.cs_apply.proofs.stored.SameLaws.{decided_off, decided_on, kept_decided, schemas_decided, setup_decided}
use Rattle.cs_apply.proofs.held.HeldTables.has_setup_of.Goals as goal
use Rattle.cs_apply.proofs.held.HeldTables.has_setup_of.Goals.{After-eq}

schemas : (c : After-eq) → Decides c.eq.result (arc_value c.self.inside.schema ≡ arc_value c.other.inside.schema)
schemas c = schemas_decided (arc_value c.self.inside.schema) (arc_value c.other.inside.schema) c.eq.result
    (c.eq.ensures ∙ (λ i. pointwise same_shape ((c.tables.ensures.tables ∙ c.deref.ensures) i)
    ((c.tables-2.ensures.tables ∙ c.deref-2.ensures) i)))

pub returns-then-eq : goal.returns-then-eq
returns-then-eq c =
    setup_decided _ _ _ _ c.eq-then-eq.result (ap (λ t. t.state) c.self.view_is) (ap (λ t. t.state) c.other.view_is)
    (decided_on c.eq.result c.eq-then-eq.result c.eq-then-eq.result c.if-eq.true refl
    (schemas (goal.at.returns-then-eq c).After-eq)
    (kept_decided c.self.inside.kept.items c.other.inside.kept.items c.eq-then-eq.result c.eq-then-eq.ensures))

pub returns-else-eq : goal.returns-else-eq
returns-else-eq c =
    setup_decided _ _ _ _ c.eq.result (ap (λ t. t.state) c.self.view_is) (ap (λ t. t.state) c.other.view_is)
    (decided_off c.eq.result c.eq.result c.if-eq.false refl (schemas (goal.at.returns-else-eq c).After-eq))
