use Rattle.std.proofs.Common.{◌≡◌, ◌∙◌, map, filter, sym, ap, subst}
use Rattle.std.specs.List.{AllByRecursion}
use Rattle.cs_model.specs.Changeset.{IsChangeset, IsSection}
use Rattle.cs_write.specs.Canon.{has_changes, joined_section}
use Rattle.cs_group.specs.Group.{combined_section, group_of}
use Rattle.cs_group.proofs.all_tables.Fitting.{groups_fit, group_fits}
use Rattle.cs_group.proofs.output.changeset_of.Goals as goal

pub sections_of-requires : goal.sections_of-requires
sections_of-requires c =
    subst (λ groups. AllByRecursion IsSection (map joined_section groups)) (sym c.in_ok-groups.ensures)
    (groups_fit c.args.sections.now c.requires)

pub of-requires : goal.of-requires
of-requires c =
    let made : c.in_ok-sections_of.field-0 ≡ group_of c.args.sections.now =
    c.in_ok-sections_of.ensures
    ∙ ap (λ groups. filter has_changes (map (λ group. combined_section (joined_section group)) groups))
    c.in_ok-groups.ensures in
    subst IsChangeset (sym made) (group_fits c.args.sections.now c.requires)
