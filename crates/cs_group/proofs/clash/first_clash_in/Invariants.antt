use Rattle.std.proofs.Common.{◌≡◌, ◌++◌, ◌+◌, take, drop}
use Rattle.std.specs.Prelude.{option_map}
use Rattle.cs_group.specs.Adding.{sections_in}
use Rattle.cs_group.specs.Group.{first_clash}
use Rattle.cs_group.proofs.clash.first_clash_in.Given as goal

-- none of the sections before these clashes
abbrev pub invariant-loop-section : goal.invariant-loop-section
invariant-loop-section l = record {
  rest : l.section-iterator ≡ drop l.index l.sections;
  left : first_clash (l.added ++ sections_in l.earlier) l.sections
      ≡ option_map (λ n. l.index + n) (first_clash ((l.added ++ sections_in l.earlier)
      ++ take l.index l.sections) l.section-iterator);
}
