-- The bytes of a key.
use Rattle.std.specs.Prelude.{ℕ, List}
use Rattle.cs_group.specs.declared.key.KeyBytes.{KeyBytes}
use Rattle.cs_group.specs.declared.key.KeyBytes.TheVariants.{InPlace, Copied}

-- the bytes of a key, where they stand or copied
abbrev pub bytes_of_key : KeyBytes → List ℕ
bytes_of_key (InPlace bytes) = bytes.now
bytes_of_key (Copied bytes) = bytes
