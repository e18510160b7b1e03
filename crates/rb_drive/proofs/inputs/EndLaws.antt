-- The end of an input.
use Rattle.std.proofs.Common.{◌≡◌, ◌≢◌, ℕ, ◌+◌, ◌<◌, ◌≤◌, List, [], ◌∷◌, ◌++◌, length, take, inl, inr}
use Rattle.std.proofs.Common.{Option, None, Result, Ok, Err, refl, sym, ap, subst, ◌∙◌, arith}
use Rattle.std.proofs.Common.{true, false, eqb, length-append}
use Rattle.std.specs.Io.KnownBytes.{Consumes, Keeps, IsAtEnd}
use Rattle.std.specs.declared.io.Error.{Error}
use Rattle.std.proofs.lemmas.Bool.{eqb-true, eqb-false}
use Rattle.std.proofs.lemmas.List.{append-nil}
use Rattle.cs_model.proofs.CallerLemmas.{all_push}
use Rattle.rb_script.specs.Script.{IsLine, ended_lines}
use Rattle.rb_script.proofs.endings.EndLaws.{length-front}
use Rattle.rb_script.proofs.endings.StreamLaws.{Consumes-trans, Consumes-Keeps}
use Rattle.rb_drive.specs.declared.fault.DriveError.{DriveError}
use Rattle.rb_drive.specs.declared.fault.DriveError.TheVariants as fault
use Rattle.rb_drive.specs.declared.input.Input.{Input}
use Rattle.rb_drive.specs.declared.input.Reading.{Reading}
use Rattle.rb_drive.specs.Input.{AreBytesOf, HasBadLine, HasNoBadLine, InputEnds, IsInput}
use Rattle.rb_drive.specs.Reading.{AddEnds, EndsAfter, IsReadUpTo, ReadingStopsAt}
use Rattle.rb_drive.proofs.inputs.BoundLaws.{bytes_few}
use Rattle.rb_drive.proofs.inputs.InputLaws.{some_collected, bad_line, good_line}
use Rattle.rb_drive.proofs.inputs.ReadLaws.{LineEndsReading, are_read, bad_stays, line_given, next_number, number_is}

-- ---- the last line

pub some_line : (n : ℕ) (line : List ℕ) → n ≡ length line → eqb n 0 ≡ false → line ≢ []
some_line n line sized test is = eqb-false n 0 test (sized ∙ ap (λ (l : List ℕ). length l) is)

pub no_line : (n : ℕ) (line : List ℕ) → n ≡ length line → eqb n 0 ≡ true → line ≡ []
no_line n [] sized test = refl
no_line n (byte ∷ bytes) sized test =
    let none : n ≡ 0 = eqb-true n 0 test in
    absurd (omega (arith, sized, none))

-- nothing comes after the last line end
pub no_line_left : (reading : Reading) → reading.line.items ≡ [] → (bytes : List ℕ) → IsReadUpTo bytes reading
    → ((lines : List (List ℕ)) × AreBytesOf lines bytes
    × IsInput lines reading.input.schema reading.input.givens.items)
no_line_left reading none bytes r = (
  r.front,
  (r.lines, inl (r.parts ∙ ap (λ (t : List ℕ). ended_lines r.front ++ t) none ∙ append-nil (ended_lines r.front))),
  r.input,
)

-- a last line without a line end
pub last_line : (reading : Reading) (after : Input) → reading.line.items ≢ []
    → line_given reading ≡ some_collected after.schema after.givens.items
    → (bytes : List ℕ) → IsReadUpTo bytes reading
    → ((lines : List (List ℕ)) × AreBytesOf lines bytes × IsInput lines after.schema after.givens.items)
last_line reading after some next bytes r =
    let line : List ℕ = reading.line.items in (
      r.front ++ line ∷ [],
      (all_push IsLine r.front line r.lines r.begun, inr (r.front, line, some, refl, r.parts)),
      good_line r.front reading.input.schema after.schema reading.input.givens.items after.givens.items line r.short
          r.input next,
    )

pub last_line_is_bad : (reading : Reading) (n : ℕ) → reading.line.items ≢ [] → line_given reading ≡ None
    → n ≡ next_number reading → (bytes : List ℕ) → IsReadUpTo bytes reading → HasBadLine bytes (Unit {0}) n
last_line_is_bad reading n some bad count bytes r =
    let line : List ℕ = reading.line.items in
    record {
      front = r.front;
      line = line;
      rest = [];
      parts = r.parts ∙ ap (λ (t : List ℕ). ended_lines r.front ++ t) (sym (append-nil line));
      lines = (r.lines, r.begun);
      count = number_is reading n bytes r count;
      before = are_read reading bytes r;
      bad = inr (inl (
        tt,
        some,
        refl,
        bad_line r.front reading.input.schema reading.input.givens.items line r.input bad,
      ));
    }

last_so_stops : (reading : Reading) (why : DriveError) (after : Input) → reading.line.items ≢ []
    → AddEnds (line_given reading) reading.input (Err why) after
    → (bytes : List ℕ) → IsReadUpTo bytes reading → ReadingStopsAt bytes (Unit {0}) why
last_so_stops reading (fault.Read why) after some h bytes r = absurd h
last_so_stops reading (fault.Write why) after some h bytes r = absurd h
last_so_stops reading (fault.Line n) after some h bytes r = last_line_is_bad reading n some h.0 h.1 bytes r
last_so_stops reading fault.Subscribers after some h bytes r = absurd h
last_so_stops reading fault.Stopped after some h bytes r = absurd h
last_so_stops reading fault.Store after some h bytes r = absurd h
last_so_stops reading fault.Memory after some h bytes r = tt

pub last_line_stops : (reading : Reading) (line : List ℕ) (why : DriveError) (after : Input)
    → line ≡ reading.line.items → reading.line.items ≢ [] → LineEndsReading reading line why after
    → (bytes : List ℕ) → IsReadUpTo bytes reading → ReadingStopsAt bytes (Unit {0}) why
last_line_stops reading line why after same some h =
    last_so_stops reading why after some (subst (λ (l : List ℕ). LineEndsReading reading l why after) same h)

-- ---- all bytes

-- these bytes, so many at least, are taken from the reader, and led here
pub record ReadingProgress (r0 r : Option (List ℕ)) (reading : Reading) (count : ℕ) : Type 0 where
  pub bytes : List ℕ
  pub consumed : Consumes r0 r bytes
  pub read : IsReadUpTo bytes reading
  pub counted : count ≤ length bytes

pub input_goes_on : (r0 r r' : Option (List ℕ)) (old new : Reading) (count n : ℕ) (piece : List ℕ)
    → ReadingProgress r0 r old count → Consumes r r' (take n piece) → 0 < n → n ≤ length piece
    → ((before : List ℕ) → IsReadUpTo before old → IsReadUpTo (before ++ take n piece) new)
    → ReadingProgress r0 r' new (count + 1)
input_goes_on r0 r r' old new count n piece so_far now some within fed = record {
  bytes = so_far.bytes ++ take n piece;
  consumed = Consumes-trans r0 r r' so_far.bytes (take n piece) so_far.consumed now;
  read = fed so_far.bytes so_far.read;
  counted = omega (
    arith,
    some,
    so_far.counted,
    length-append so_far.bytes (take n piece),
    length-front n piece within,
  );
}

-- so many pieces don't come
pub input_stops : (r0 r : Option (List ℕ)) (reading : Reading) (count : ℕ) → ReadingProgress r0 r reading count
    → 18446744073709551615 ≤ count → ⊥
input_stops r0 r reading count so_far many =
    omega (arith, so_far.counted, bytes_few so_far.bytes reading so_far.read, many)

-- where it is known whether the input is at its end
bad_there : (bytes : List ℕ) (A B : Type 0) (n : ℕ) → (A → B) → HasBadLine bytes A n → HasBadLine bytes B n
bad_there bytes A B n leads h =
    subst (λ (t : List ℕ). HasBadLine t B n) (append-nil bytes)
    (bad_stays bytes [] A B n (λ (a : A). (refl, leads a)) h)

pub ends_at_stop : (why : DriveError) (bytes : List ℕ) (A : Type 0) (r0 r : Option (List ℕ)) → (A → IsAtEnd r)
    → Consumes r0 r bytes → ReadingStopsAt bytes A why → InputEnds (Err why) r0 r
ends_at_stop (fault.Read why) bytes A r0 r leads read h = absurd h
ends_at_stop (fault.Write why) bytes A r0 r leads read h = absurd h
ends_at_stop (fault.Line n) bytes A r0 r leads read h = (bytes, read, bad_there bytes A (IsAtEnd r) n leads h)
ends_at_stop fault.Subscribers bytes A r0 r leads read h = absurd h
ends_at_stop fault.Stopped bytes A r0 r leads read h = absurd h
ends_at_stop fault.Store bytes A r0 r leads read h = absurd h
ends_at_stop fault.Memory bytes A r0 r leads read h = (bytes, read)

-- a bad line within a piece
pub ends_in_piece : (why : DriveError) (r0 r r' : Option (List ℕ)) (old : Reading) (count : ℕ) (piece : List ℕ)
    → ReadingProgress r0 r old count → Consumes r r' piece
    → ((before : List ℕ) → IsReadUpTo before old → ReadingStopsAt (before ++ piece) ⊥ why) → InputEnds (Err why) r0 r'
ends_in_piece why r0 r r' old count piece so_far now stops =
    ends_at_stop why (so_far.bytes ++ piece) ⊥ r0 r' (λ (e : ⊥). absurd e)
    (Consumes-trans r0 r r' so_far.bytes piece so_far.consumed now) (stops so_far.bytes so_far.read)

-- the reader fails
pub none_is_bad : (bytes : List ℕ) (reading : Reading) → IsReadUpTo bytes reading → HasNoBadLine bytes
none_is_bad bytes reading r = record {
  front = r.front;
  line = reading.line.items;
  parts = r.parts;
  lines = (r.lines, r.begun);
  before = are_read reading bytes r;
  short = r.short;
}

pub read_ends_by_reader : (why : Error) (r0 r r' : Option (List ℕ)) (reading : Reading) (count : ℕ)
    → ReadingProgress r0 r reading count → Keeps r r' → InputEnds (Err (fault.Read why)) r0 r'
read_ends_by_reader why r0 r r' reading count so_far kept = (
  so_far.bytes,
  Consumes-Keeps r0 r r' so_far.bytes so_far.consumed kept,
  none_is_bad so_far.bytes reading so_far.read,
)

-- the input is at its end
pub input_is_ended : (result : Result Input DriveError) (r0 r r' : Option (List ℕ)) (reading : Reading)
    (count : ℕ) → ReadingProgress r0 r reading count → Consumes r r' [] → IsAtEnd r' → EndsAfter reading result
    → InputEnds result r0 r'
input_is_ended (Ok input) r0 r r' reading count so_far none ended h =
    let all : Consumes r0 r' so_far.bytes = subst (Consumes r0 r') (append-nil so_far.bytes)
    (Consumes-trans r0 r r' so_far.bytes [] so_far.consumed none) in
    let found = h so_far.bytes so_far.read in
    (so_far.bytes, found.0, all, ended, found.1, found.2)
input_is_ended (Err why) r0 r r' reading count so_far none ended h =
    let all : Consumes r0 r' so_far.bytes = subst (Consumes r0 r') (append-nil so_far.bytes)
    (Consumes-trans r0 r r' so_far.bytes [] so_far.consumed none) in
    ends_at_stop why so_far.bytes (Unit {0}) r0 r' (λ _. ended) all (h so_far.bytes so_far.read)
