use Rattle.std.proofs.Common.{List, ◌∷◌, ◌++◌, [], sym, ap, ◌∙◌}
use Rattle.cs_model.specs.declared.value.Value.{Value}
use Rattle.cs_model.specs.Row.{values_of}
use Rattle.cs_model.specs.Seen.{field_seen}
use Rattle.cs_model.proofs.packing.RowLaws.{row_pushed}
use Rattle.cs_model.proofs.row.Row.push.Goals as goal

pub invariant_of-self-2 : goal.invariant_of-self-2
invariant_of-self-2 c =
    (row_pushed c.self.inside.bytes.items c.field_push.new.out.items (field_seen c.args.field)
    (sym c.if-not-has_value.ensures) c.in_ok-field_push.ensures.fits c.self.invariant
    c.in_ok-field_push.ensures.ok).1

pub returns-clause-ok : goal.returns-clause-ok
returns-clause-ok c =
    (row_pushed c.self.inside.bytes.items c.field_push.new.out.items (field_seen c.args.field)
    (sym c.if-not-has_value.ensures) c.in_ok-field_push.ensures.fits c.self.invariant
    c.in_ok-field_push.ensures.ok).0
    ∙ ap (λ (vs : List Value). vs ++ values_of (field_seen c.args.field ∷ [])) c.self.view_is
