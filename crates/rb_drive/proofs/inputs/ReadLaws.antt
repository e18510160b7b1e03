-- Reading byte by byte: a line's end, a byte of a line, and where reading stops.
use Rattle.std.proofs.Common.{◌≡◌, ◌≢◌, ℕ, suc, ◌+◌, ◌<◌, ◌≤◌, List, [], ◌∷◌, ◌++◌, length, take, drop, get_or}
use Rattle.std.proofs.Common.{Option, None, Err, refl, sym, ap, subst, ◌∙◌, append_assoc, arith}
use Rattle.std.proofs.Common.{◌⊎◌, inl, inr, length-append, drop-cons, take-append-drop}
use Rattle.std.proofs.lemmas.List.{append-nil}
use Rattle.cs_model.specs.declared.shape.Shape.{Shape}
use Rattle.cs_model.proofs.CallerLemmas.{all_push}
use Rattle.rb_script.specs.Lines.{most_of_line}
use Rattle.rb_script.specs.Script.{IsLine, ended_lines}
use Rattle.rb_drive.specs.declared.fault.DriveError.{DriveError}
use Rattle.rb_drive.specs.declared.fault.DriveError.TheVariants as fault
use Rattle.rb_drive.specs.declared.input.Given.{Given}
use Rattle.rb_drive.specs.declared.input.Input.{Input}
use Rattle.rb_drive.specs.declared.input.Reading.{Reading}
use Rattle.rb_drive.specs.Input.{AreInput, HasBadLine, NoneFollows}
use Rattle.rb_drive.specs.Reading.{AddEnds, IsReadUpTo, ReadingStopsAt, with_line}
use Rattle.rb_drive.proofs.inputs.InputLaws.{some_collected, bad_line, good_line, lines_counted, long_line_is_bad}

-- ---- lists

pub line_not_empty : (xs : List ℕ) (x : ℕ) → xs ++ x ∷ [] ≢ []
line_not_empty xs x is =
    let none : length (xs ++ x ∷ []) ≡ 0 = ap (λ (l : List ℕ). length l) is in
    omega (arith, none, length-append xs (x ∷ []))

pub ended_lines_more : (lines : List (List ℕ)) (line : List ℕ) → ended_lines (lines ++ line ∷ [])
    ≡ ended_lines lines ++ (line ++ 10 ∷ [])
ended_lines_more [] line = refl
ended_lines_more (l ∷ ls) line = ap (λ (t : List ℕ). l ++ 10 ∷ t) (ended_lines_more ls line)
    ∙ sym (append_assoc l (10 ∷ ended_lines ls) (line ++ 10 ∷ []))

-- ---- one byte

-- the input of a reading, and the line that is read of it
abbrev pub line_given : Reading → Option (List Shape × List Given)
line_given reading = with_line reading.input.schema reading.input.givens.items reading.line.items

abbrev pub next_number : Reading → ℕ
next_number reading = length reading.input.schema + length reading.input.givens.items + 1

-- a line ends
pub line_ends : (old new : Reading) (b : ℕ) → b ≡ 10
    → line_given old ≡ some_collected new.input.schema new.input.givens.items → new.line.items ≡ []
    → (before : List ℕ) → IsReadUpTo before old → IsReadUpTo (before ++ b ∷ []) new
line_ends old new b is next begins before r =
    let line : List ℕ = old.line.items in
    record {
      front = r.front ++ line ∷ [];
      parts = ap (λ (t : List ℕ). t ++ b ∷ []) r.parts ∙ append_assoc (ended_lines r.front) line (b ∷ [])
          ∙ ap (λ (n : ℕ). ended_lines r.front ++ (line ++ n ∷ [])) is ∙ sym (ended_lines_more r.front line)
          ∙ sym (append-nil (ended_lines (r.front ++ line ∷ [])))
          ∙ ap (λ (t : List ℕ). ended_lines (r.front ++ line ∷ []) ++ t) (sym begins);
      lines = all_push IsLine r.front line r.lines r.begun;
      begun = rw begins tt;
      short = rw begins (omega arith);
      input = good_line r.front old.input.schema new.input.schema old.input.givens.items new.input.givens.items line
          r.short r.input next;
    }

-- the number of the line that is read
pub number_is : (reading : Reading) (n : ℕ) (bytes : List ℕ) (r : IsReadUpTo bytes reading) → n ≡ next_number reading
    → n ≡ suc (length r.front)
number_is reading n bytes r is =
    omega (arith, is, lines_counted r.front reading.input.schema reading.input.givens.items r.input)

pub are_read : (reading : Reading) (bytes : List ℕ) (r : IsReadUpTo bytes reading) → AreInput r.front
are_read reading bytes r = (reading.input.schema, reading.input.givens.items, r.input)

-- a bad line ends
pub line_is_bad : (reading : Reading) (b n : ℕ) → b ≡ 10 → line_given reading ≡ None → n ≡ next_number reading
    → (before : List ℕ) → IsReadUpTo before reading → HasBadLine (before ++ b ∷ []) ⊥ n
line_is_bad reading b n is bad count before r =
    let line : List ℕ = reading.line.items in
    record {
      front = r.front;
      line = line;
      rest = b ∷ [];
      parts = ap (λ (t : List ℕ). t ++ b ∷ []) r.parts ∙ append_assoc (ended_lines r.front) line (b ∷ []);
      lines = (r.lines, r.begun);
      count = number_is reading n before r count;
      before = are_read reading before r;
      bad = inl (
        ([], ap (λ (x : ℕ). x ∷ []) is),
        bad_line r.front reading.input.schema reading.input.givens.items line r.input bad,
      );
    }

-- a line becomes too long
pub long_line_stops : (reading : Reading) (b n : ℕ) → b ≢ 10 → most_of_line ≤ length reading.line.items
    → n ≡ next_number reading
    → (before : List ℕ) → IsReadUpTo before reading → HasBadLine (before ++ b ∷ []) ⊥ n
long_line_stops reading b n isnt long count before r =
    let line : List ℕ = reading.line.items in
    let all : List ℕ = line ++ b ∷ [] in
    record {
      front = r.front;
      line = all;
      rest = [];
      parts = ap (λ (t : List ℕ). t ++ b ∷ []) r.parts ∙ append_assoc (ended_lines r.front) line (b ∷ [])
          ∙ ap (λ (t : List ℕ). ended_lines r.front ++ t) (sym (append-nil all));
      lines = (r.lines, all_push (λ (byte : ℕ). byte ≢ 10) line b r.begun isnt);
      count = number_is reading n before r count;
      before = are_read reading before r;
      bad = inr (inr (line_not_empty line b, long_line_is_bad r.front all (omega (arith, long, length-append line (b ∷ [])))));
    }

-- how adding the line that is read stops, at its end
adding_so_stops : (reading : Reading) (b : ℕ) (why : DriveError) (after : Input) → b ≡ 10
    → AddEnds (line_given reading) reading.input (Err why) after
    → (before : List ℕ) → IsReadUpTo before reading → ReadingStopsAt (before ++ b ∷ []) ⊥ why
adding_so_stops reading b (fault.Read why) after is h before r = absurd h
adding_so_stops reading b (fault.Write why) after is h before r = absurd h
adding_so_stops reading b (fault.Line n) after is h before r = line_is_bad reading b n is h.0 h.1 before r
adding_so_stops reading b fault.Subscribers after is h before r = absurd h
adding_so_stops reading b fault.Stopped after is h before r = absurd h
adding_so_stops reading b fault.Store after is h before r = absurd h
adding_so_stops reading b fault.Memory after is h before r = tt

-- adding a line to the input of a reading stops so
abbrev pub LineEndsReading : Reading → List ℕ → DriveError → Input → Type 0
LineEndsReading reading line why after =
    AddEnds (with_line reading.input.schema reading.input.givens.items line) reading.input (Err why) after

pub adding_stops : (reading : Reading) (line : List ℕ) (b : ℕ) (why : DriveError) (after : Input)
    → line ≡ reading.line.items → b ≡ 10 → LineEndsReading reading line why after
    → (before : List ℕ) → IsReadUpTo before reading → ReadingStopsAt (before ++ b ∷ []) ⊥ why
adding_stops reading line b why after same is h =
    adding_so_stops reading b why after is (subst (λ (l : List ℕ). LineEndsReading reading l why after) same h)

-- ---- bytes

-- A bad line stays one when more comes. If it ends with the input, nothing may come, and what then
-- holds of the end may be another thing.
pub bad_stays : (bytes more : List ℕ) (A B : Type 0) (n : ℕ) → (A → (more ≡ []) × B) → HasBadLine bytes A n
    → HasBadLine (bytes ++ more) B n
bad_stays bytes more A B n ends h = record {
  front = h.front;
  line = h.line;
  rest = h.rest ++ more;
  parts = ap (λ (t : List ℕ). t ++ more) h.parts ∙ append_assoc (ended_lines h.front) (h.line ++ h.rest) more
      ∙ ap (λ (t : List ℕ). ended_lines h.front ++ t) (append_assoc h.line h.rest more);
  lines = h.lines;
  count = h.count;
  before = h.before;
  bad = by h.bad;
}
  where
    by : (((m : List ℕ) × (h.rest ≡ 10 ∷ m)) × (AreInput (h.front ++ h.line ∷ []) → ⊥))
        ⊎ ((A × (h.line ≢ []) × (h.rest ≡ []) × (AreInput (h.front ++ h.line ∷ []) → ⊥))
        ⊎ ((h.line ≢ []) × NoneFollows h.front h.line))
        → (((m : List ℕ) × (h.rest ++ more ≡ 10 ∷ m)) × (AreInput (h.front ++ h.line ∷ []) → ⊥))
        ⊎ ((B × (h.line ≢ []) × (h.rest ++ more ≡ []) × (AreInput (h.front ++ h.line ∷ []) → ⊥))
        ⊎ ((h.line ≢ []) × NoneFollows h.front h.line))
    by (inl p) = inl ((p.0.0 ++ more, ap (λ (t : List ℕ). t ++ more) p.0.1), p.1)
    by (inr (inl p)) =
        let end = ends p.0 in
        inr (inl (end.1, p.1, ap (λ (t : List ℕ). t ++ more) p.2 ∙ end.0, p.3))
    by (inr (inr p)) = inr (inr p)

stops_at_longer : (bytes more : List ℕ) (why : DriveError) → ReadingStopsAt bytes ⊥ why
    → ReadingStopsAt (bytes ++ more) ⊥ why
stops_at_longer bytes more (fault.Read why) h = absurd h
stops_at_longer bytes more (fault.Write why) h = absurd h
stops_at_longer bytes more (fault.Line n) h = bad_stays bytes more ⊥ ⊥ n (λ (e : ⊥). absurd e) h
stops_at_longer bytes more fault.Subscribers h = absurd h
stops_at_longer bytes more fault.Stopped h = absurd h
stops_at_longer bytes more fault.Store h = absurd h
stops_at_longer bytes more fault.Memory h = tt

-- reading stops at a byte
pub byte_ends_reading : (old now : Reading) (bytes : List ℕ) (i : ℕ) (why : DriveError) → i < length bytes
    → ((before : List ℕ) → IsReadUpTo before old → IsReadUpTo (before ++ take i bytes) now)
    → ((before : List ℕ) → IsReadUpTo before now → ReadingStopsAt (before ++ get_or bytes i 0 ∷ []) ⊥ why)
    → (before : List ℕ) → IsReadUpTo before old → ReadingStopsAt (before ++ bytes) ⊥ why
byte_ends_reading old now bytes i why lt fed step before r =
    let b : ℕ = get_or bytes i 0 in
    let rest : List ℕ = drop (suc i) bytes in
    let split : take i bytes ++ b ∷ rest ≡ bytes =
    ap (λ (t : List ℕ). take i bytes ++ t) (sym (drop-cons bytes i 0 lt)) ∙ take-append-drop i bytes in
    let whole : ((before ++ take i bytes) ++ b ∷ []) ++ rest ≡ before ++ bytes =
    append_assoc (before ++ take i bytes) (b ∷ []) rest ∙ append_assoc before (take i bytes) (b ∷ rest)
    ∙ ap (λ (t : List ℕ). before ++ t) split in
    subst (λ (t : List ℕ). ReadingStopsAt t ⊥ why) whole
    (stops_at_longer ((before ++ take i bytes) ++ b ∷ []) rest why (step (before ++ take i bytes) (fed before r)))
