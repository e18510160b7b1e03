-- A buffer that a text is written to.
use Rattle.std.specs.Prelude.{ℕ, ◌+◌, List, ◌++◌, take, drop, length, nat_lt, if◌then◌else◌}

-- The buffer after a text is written to it. It begins with the text if it has room for it, and is
-- unchanged otherwise.
abbrev pub given : List ℕ → List ℕ → List ℕ
given text out = if nat_lt (length out) (length text) then out else text ++ drop (length text) out

-- The buffer with this text written at this index. The bytes before and after the text are
-- unchanged.
unfoldable pub laid : ℕ → List ℕ → List ℕ → List ℕ
laid at text out = take at out ++ (text ++ drop (at + length text) out)
