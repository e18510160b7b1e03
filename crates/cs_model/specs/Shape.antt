-- What a shape feeds a hasher.
use Rattle.std.specs.Prelude.{◌≡◌, [], ◌∷◌, true}
use Rattle.std.proofs.Common.{sym}
use Rattle.std.specs.Cmp.{first_so, second_so}
use Rattle.std.specs.Cmp.Lexicographic.{same_text}
use Rattle.std.specs.Hash as fed
use Rattle.cs_model.specs.declared.shape.Shape.{Shape}
use Rattle.cs_model.specs.Schema.{same_bytes, same_shape}

-- its name and its key flags, the bytes of each at once
abbrev pub shape_fed : Shape → fed.HashWrites
shape_fed s = s.name ∷ s.flags ∷ []

-- equal shapes feed alike
pub shapes_alike : (a b : Shape) → same_shape a b ≡ true → shape_fed a ≡ shape_fed b
shapes_alike a b same =
    let name = first_so (same_bytes a.name b.name) (same_bytes a.flags b.flags) same in
    let flags = second_so (same_bytes a.name b.name) (same_bytes a.flags b.flags) same in
    λ i. same_text a.name b.name (sym name) i ∷ same_text a.flags b.flags (sym flags) i ∷ []
