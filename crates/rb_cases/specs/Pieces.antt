-- Scripts cut into pieces: the lines of a text, the digits that a line feeds, and how many lines
-- they become.
use Rattle.std.specs.Prelude.{zero, suc, [], ◌∷◌, ◌++◌}
use Rattle.std.specs.Prelude.{ℕ, ◌+◌, ◌*◌, ◌-◌, ◌^◌, ◌%◌, Bool, ◌&&◌, not, ◌==◌, nat_le, List}
use Rattle.std.specs.Prelude.{length, take, drop, max, min, Option, Some, None, if◌then◌else◌}
use Rattle.std.specs.Prelude.{codes}
use Rattle.std.specs.Char.{is_ascii_hexdigit}
use Rattle.std.specs.Cmp.Lexicographic.{pointwise}
use Rattle.std.specs.Int.{div_ceil}
use Rattle.std.specs.List.{flat_map, list_all, position_from}
use Rattle.rb_script.specs.Script.{lines_of}

-- whether the digits of a line are cut: an even number of hexadecimal digits, at least two, in a
-- line of at most 65,536 bytes
abbrev pub are_cut : List ℕ → List ℕ → Bool
are_cut line digits = nat_le (length line) 65536 && (not (length digits == 0)
    && (length digits % 2 == 0 && list_all is_ascii_hexdigit digits))

-- in a line that begins with `feed `, the place of the next space, from there on
abbrev pub space_in : List ℕ → Option ℕ
space_in line = if pointwise (λ a b. a == b) (take 5 line) (codes "feed ") then
    position_from (λ byte. byte == 32) 0 (drop 5 line) else None

-- the part of a line through that space, and the digits after it, if they are cut
abbrev pub fed_after : List ℕ → Option ℕ → Option (List ℕ × List ℕ)
fed_after line None = None
fed_after line (Some space) = if are_cut line (drop (space + 6) line) then
    Some (take (space + 6) line, drop (space + 6) line) else None

abbrev pub fed_parts : List ℕ → Option (List ℕ × List ℕ)
fed_parts line = fed_after line (space_in line)

-- the digits of so many bytes, at least two
abbrev pub digits_in : ℕ → ℕ
digits_in bytes = max (min (bytes * 2) (2 ^ 64 - 1)) 2

-- how many lines a line becomes
abbrev pub pieces_in : Option (List ℕ × List ℕ) → ℕ → ℕ
pieces_in None most = 1
pieces_in (Some parts) most = div_ceil (length parts.1) (digits_in most)

-- the front before each `size` of the digits, each with a line end; at most so many lines
abbrev pub pieces_text : ℕ → ℕ → List ℕ → List ℕ → List ℕ
pieces_text zero size front digits = []
pieces_text (suc most) size front [] = []
pieces_text (suc most) size front (digit ∷ digits) = front ++ (take size (digit ∷ digits)
    ++ 10 ∷ pieces_text most size front (drop size (digit ∷ digits)))

-- the lines that a line becomes
abbrev pub line_text : List ℕ → Option (List ℕ × List ℕ) → ℕ → List ℕ
line_text line None most = line ++ 10 ∷ []
line_text line (Some parts) most =
    pieces_text (length parts.1) (digits_in most) parts.0 parts.1

abbrev pub but_last : List ℕ → List ℕ
but_last bytes = take (length bytes - 1) bytes

-- the script with its lines cut; its last line has no line end
abbrev pub cut_text : ℕ → List ℕ → List ℕ
cut_text most script =
    but_last (flat_map (λ line. line_text line (fed_parts line) most) (lines_of script))
