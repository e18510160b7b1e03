-- Varints: all encodings of a number, and the shortest one.
use Rattle.std.specs.Prelude.{◌≡◌, ℕ, zero, suc, ◌+◌, ◌-◌, ◌*◌, ◌/◌, ◌%◌, ◌^◌, ◌<◌, ◌≤◌, ◌⊎◌, List}
use Rattle.std.specs.Prelude.{[], ◌∷◌, ◌++◌, nat_lt, if◌then◌else◌}

-- The bytes encode n, where `high` is the value of the bits before them. `left` bytes may still
-- have the high bit. A byte below 128 is the last and adds seven bits. A byte from 128 on adds its
-- low seven bits, and more bytes follow. If no more bytes may have the high bit, one byte is left
-- and adds all its eight bits.
abbrev pub EndsVarint : ℕ → ℕ → List ℕ → ℕ → Type 0
EndsVarint left high [] n = ⊥
EndsVarint zero high (b ∷ bytes) n = (bytes ≡ []) × (n ≡ 256 * high + b)
EndsVarint (suc left) high (b ∷ bytes) n =
    ((b < 128) × (bytes ≡ []) × (n ≡ 128 * high + b))
    ⊎ ((128 ≤ b) × EndsVarint left (128 * high + (b - 128)) bytes n)

-- the bytes are an encoding of n: one to nine of them, the first eight with seven bits each
abbrev pub IsVarint : List ℕ → ℕ → Type 0
IsVarint bytes n = EndsVarint 8 0 bytes n

-- `count` bytes with the high bit, of seven bits each
abbrev pub groups : ℕ → ℕ → List ℕ
groups zero n = []
groups (suc count) n = groups count (n / 128) ++ (128 + n % 128) ∷ []

-- the same without leading zero groups
abbrev pub short_groups : ℕ → ℕ → List ℕ
short_groups zero n = []
short_groups (suc most) zero = []
short_groups (suc most) (suc n) = short_groups most (suc n / 128) ++ (128 + suc n % 128) ∷ []

-- The shortest encoding of n. Below 2 ^ 56 it has the fewest groups of seven bits that hold n, from
-- there on nine bytes.
unfoldable pub varint : ℕ → List ℕ
varint n =
    if nat_lt n (2 ^ 56) then short_groups 8 (n / 128) ++ (n % 128) ∷ []
    else groups 8 (n / 256) ++ (n % 256) ∷ []
