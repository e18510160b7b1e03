use Rattle.std.proofs.Common.{◌≡◌, [], sym, ap, subst, ◌∙◌}
use Rattle.cs_model.specs.Changeset.{IsChangeset}
use Rattle.std.specs.List.{AllByRecursion}
use Rattle.cs_write.specs.Canon.{by_shape, canon_of, canon}
use Rattle.cs_write.specs.Groups.{IsAlike}
use Rattle.cs_write.proofs.forms.FormLaws.{canon_fits, groups_alike}
use Rattle.cs_write.proofs.form.canonical.Goals as goal

pub of-requires : goal.of-requires
of-requires c =
    let is : c.in_ok-form_of.field-0 ≡ canon c.args.changeset.now =
    c.in_ok-form_of.ensures
    ∙ ap canon_of (c.in_ok-groups.ensures ∙ ap (by_shape []) c.iter.ensures.same) in
    subst IsChangeset (sym is) (canon_fits c.args.changeset.now c.iter.ensures.valid)

pub form_of-requires : goal.form_of-requires
form_of-requires c = subst (AllByRecursion IsAlike) (sym c.in_ok-groups.ensures) (groups_alike [] c.iter.result)
