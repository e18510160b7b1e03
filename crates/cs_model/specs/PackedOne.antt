-- One change as its canonical bytes, with the place where its new record begins.
use Rattle.std.specs.Prelude.{◌≡◌, ℕ, ◌+◌, not, ◌==◌, List, ◌∷◌, length, take, drop, get_or}
use Rattle.std.specs.List.{AllByRecursion}
use Rattle.cs_model.specs.declared.change.Change.{Change}
use Rattle.cs_model.specs.Packed.{packed, unpacked, typed_in, Fits}
use Rattle.cs_model.specs.PackedChanges.{change_bytes, change_of, op_in}

-- there is a first field, and these are the bytes after it
pub record IsAfterFirst (bytes after : List ℕ) : Type 0 where
  pub byte : ℕ
  pub tail : List ℕ
  pub parts : bytes ≡ byte ∷ tail
  pub is_after : after ≡ (typed_in byte tail).1

-- the change that bytes decode to, whose new record begins at `middle`
abbrev pub unpacked_change : ℕ → List ℕ → Change
unpacked_change middle bytes =
    change_of (op_in (get_or bytes 0 0)) (not (get_or bytes 1 0 == 0))
    (unpacked (drop 2 (take middle bytes))) (unpacked (drop middle bytes))

-- the bytes are those of this change, and its new record begins there
pub record IsPacked (c : Change) (middle : ℕ) (bytes : List ℕ) : Type 0 where
  pub parts : bytes ≡ change_bytes c
  pub at : middle ≡ 2 + length (packed c.before)
  pub before : AllByRecursion Fits c.before
  pub after : AllByRecursion Fits c.after
