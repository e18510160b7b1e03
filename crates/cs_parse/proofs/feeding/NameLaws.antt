-- Headers up to their names, and incomplete names.
use Rattle.std.proofs.Common.{◌≡◌, ◌==◌, ℕ, zero, suc, ◌+◌, ◌-◌, ◌≤◌, min, true, false, cond, eqb, List, [], ◌∷◌, ◌++◌}
use Rattle.std.proofs.Common.{length, take, drop, position, Option, Some, None, Result, Ok, Err, refl, sym, ap, subst}
use Rattle.std.proofs.Common.{◌∙◌, append_assoc, arith}
use Rattle.std.specs.List.{position_or_len}
use Rattle.std.specs.Option.{is_some}
use Rattle.std.proofs.lemmas.Bool.{le-ltb}
use Rattle.std.proofs.lemmas.List.{nil_from_length, append-nil, take_at, take_all, take-append-drop, take-append-le}
use Rattle.std.proofs.lemmas.List.{drop-append-le, length-append, length-drop}
use Rattle.std.proofs.Math.Seq.{drop-append_seam}
use Rattle.cs_model.specs.declared.shape.Shape.{Shape}
use Rattle.cs_model.specs.Section.{Section}
use Rattle.cs_parse.specs.declared.fault.FaultKind.TheVariants.{EmptyName}
use Rattle.cs_parse.specs.declared.spot.Spot.TheVariants.{Start, Name}
use Rattle.cs_parse.specs.declared.stop.ParseRefusal.{ParseRefusal}
use Rattle.cs_parse.specs.declared.stop.ParseRefusal.TheVariants.{Short}
use Rattle.cs_parse.specs.Progress.{read_on}
use Rattle.cs_parse.specs.Reading.{◌>>=◌, refuse, columns_at, flags_at, name_at, before_name_at, header_at, shape_at}
use Rattle.cs_parse.specs.Reading.{ends_section}
use Rattle.cs_parse.specs.Spot.{InName, StaysHeader}
use Rattle.cs_parse.proofs.reading.Steps.{bind_ok}
use Rattle.cs_parse.proofs.reading.NumberLaws.{columns_takes, columns_again}
use Rattle.cs_parse.proofs.reading.HeaderLaws.{flags_take, flags_again}
use Rattle.cs_parse.proofs.reading.Letters.{is_zero, short_is, found_none, place_more}
use Rattle.cs_parse.proofs.feeding.FrontParts.{header_part, headed}
use Rattle.cs_parse.proofs.joining.PartLaws.{part_refused}

-- ---- up to the name

abbrev name_shaped : List ℕ → List ℕ × List ℕ → Result (Shape × List ℕ) ParseRefusal
name_shaped flags name = Ok (record { name = name.0; flags = flags }, name.1)

-- what stands after the key flags
abbrev name_named_by : List ℕ × List ℕ → Result (Shape × List ℕ) ParseRefusal
name_named_by flags = name_at flags.1 >>= name_shaped flags.0

abbrev name_keyed : ℕ × List ℕ → Result (List ℕ × List ℕ) ParseRefusal
name_keyed count = flags_at count.0 count.1

one_step : (r : Result (ℕ × List ℕ) ParseRefusal) → (r >>= λ count. name_keyed count >>= name_named_by)
    ≡ (r >>= name_keyed >>= name_named_by)
one_step (Ok count) = refl
one_step (Err why) = refl

header_by : (bytes : List ℕ) → header_at bytes ≡ (before_name_at bytes >>= name_named_by)
unfolding header_at before_name_at
header_by bytes = one_step (columns_at bytes)

shape_begins : (rest : List ℕ) → shape_at (84 ∷ rest) ≡ header_at rest
unfolding shape_at
shape_begins rest = refl

-- the bytes before a name, whatever stands behind them
abbrev UpTo : List ℕ → List ℕ → List ℕ → Type 0
UpTo bytes flags rest = (front : List ℕ) × (bytes ≡ front ++ rest)
    × ((back : List ℕ) → header_at (front ++ back) ≡ (name_at back >>= name_shaped flags))

before_takes : (bytes flags rest : List ℕ) → before_name_at bytes ≡ Ok (flags, rest) → UpTo bytes flags rest
unfolding header_at before_name_at
before_takes bytes flags rest e =
    let a = bind_ok (columns_at bytes) name_keyed (flags, rest) e in
    let t0 = columns_takes bytes a.0 a.1 in
    let t1 = flags_take a.0.0 a.0.1 (flags, rest) a.2 in
    let count = t0.0.text in
    let parts : bytes ≡ (count ++ flags) ++ rest = t0.0.parts ∙ ap (λ w. count ++ w) t1.0
    ∙ sym (append_assoc count flags rest) in (
      count ++ flags,
      parts,
      λ back. ap header_at (append_assoc count flags back)
          ∙ ap (λ r. r >>= λ n. name_keyed n >>= name_named_by)
          (columns_again count a.0.0 (flags ++ back) t0.0.spelled t0.1 t0.2)
          ∙ ap (λ n. flags_at n (flags ++ back) >>= name_named_by) (sym t1.1)
          ∙ ap (λ r. r >>= name_named_by) (flags_again flags back t1.2),
    )

-- ---- where a header begins

pub shape_none : (bytes : List ℕ) → length bytes ≡ 0 → shape_at bytes ≡ Err Short
unfolding shape_at
shape_none bytes none = ap shape_at (nil_from_length bytes none)

pub before_short : (bytes : List ℕ) (byte : ℕ) (rest : List ℕ) (why : ParseRefusal) → bytes ≡ byte ∷ rest → byte ≡ 84
    → before_name_at rest ≡ Err why → why ≡ Short → shape_at bytes ≡ Err Short
before_short bytes byte rest why parts is e short =
    ap shape_at (parts ∙ ap (λ b. b ∷ rest) is) ∙ shape_begins rest ∙ header_by rest
    ∙ ap (λ r. r >>= name_named_by) (e ∙ ap (λ w. Err w) short)

pub name_shorter : (bytes : List ℕ) (byte : ℕ) (rest flags name : List ℕ) → bytes ≡ byte ∷ rest → before_name_at rest
    ≡ Ok (flags, name) → length name ≤ length bytes
name_shorter bytes byte rest flags name parts e =
    let b = before_takes rest flags name e in
    omega (arith, ap length parts, ap length b.1, length-append b.0 name)

pub name_begins : (bytes : List ℕ) (byte : ℕ) (rest flags name : List ℕ) → bytes ≡ byte ∷ rest → byte ≡ 84
    → before_name_at rest ≡ Ok (flags, name) → InName bytes (length bytes - length name) 0
name_begins bytes byte rest flags name parts is e =
    let b = before_takes rest flags name e in
    let front = 84 ∷ b.0 in
    let whole : bytes ≡ front ++ name = parts ∙ ap (λ w. byte ∷ w) b.1 ∙ ap (λ n. n ∷ (b.0 ++ name)) is in
    let place : length bytes - length name ≡ length front = omega (arith, ap length whole, length-append front name) in
    let passed : take (length bytes - length name) bytes ≡ front = ap (λ n. take n bytes) place
    ∙ ap (take (length front)) whole ∙ take_at front name (length front) refl in
    record {
      flags = flags;
      within = omega (arith, place);
      passes = λ back. ap (λ w. shape_at (w ++ back)) passed ∙ shape_begins (b.0 ++ back) ∙ b.2 back;
      no_zero = refl;
    }

-- ---- in a name

pub no_some : {A : Type 0} (o : Option A) → is_some o ≡ false → o ≡ None
no_some None e = refl
no_some (Some x) e = absurd (cc e)

-- the place of the first zero byte of two lists, where the first has none
place_behind : (front back : List ℕ) → length front ≤ position_or_len is_zero front
    → position_or_len is_zero (front ++ back) ≡ length front + position_or_len is_zero back
place_behind [] back le = omega arith
place_behind (zero ∷ front) back le = absurd (omega (arith, le))
place_behind (suc b ∷ front) back le =
    let rec = place_behind front back (omega (arith, le, place_more b front)) in
    omega (arith, rec, place_more b (front ++ back))

pub none_behind : (front back : List ℕ) → position is_zero front ≡ None → position is_zero back ≡ None
    → position is_zero (front ++ back) ≡ None
none_behind front back e f =
    let g = found_none (position_or_len is_zero front) (length front) e in
    let h = found_none (position_or_len is_zero back) (length back) f in
    let n = position_or_len is_zero (front ++ back) in
    ap (λ t. cond t (Some n) None)
    (le-ltb n (length (front ++ back)) (omega (arith, g, h, place_behind front back g, length-append front back)))

-- a name that has no zero byte yet
name_short : (name : List ℕ) → length name ≤ 1024 → position is_zero name ≡ None → name_at name ≡ Err Short
unfolding name_at
name_short name short none =
    let most : length name ≡ min (length name) 1025 = omega arith in
    let letters = short_is name (length name) most
    (sym (ap (position is_zero) (take_all (length name) name (omega arith)) ∙ none)) short in
    ap (λ r. r >>= λ n. cond (eqb (length n.0) 0) (refuse EmptyName n.1) (Ok n)) letters

-- ---- more bytes

pub name_more : (bytes more : List ℕ) (place letters : ℕ) → InName bytes place letters
    → InName (bytes ++ more) place letters
name_more bytes more place letters h =
    let le : place ≤ length bytes = omega (arith, h.within) in
    let name = drop place bytes in
    let front : take place (bytes ++ more) ≡ take place bytes = take-append-le place bytes more le in
    let behind : take letters (drop place (bytes ++ more)) ≡ take letters name =
    ap (take letters) (drop-append-le place bytes more le)
    ∙ take-append-le letters name more (omega (arith, h.within, length-drop place bytes)) in
    record {
      flags = h.flags;
      within = omega (arith, h.within, length-append bytes more);
      passes = λ back. ap (λ w. shape_at (w ++ back)) front ∙ h.passes back;
      no_zero = ap (position is_zero) behind ∙ h.no_zero;
    }

-- ---- a name that isn't whole

-- a header whose name has no zero byte yet ends too early
name_still : (bytes : List ℕ) (place letters : ℕ) → InName bytes place letters → length (drop place bytes) ≤ 1024
    → position is_zero (drop letters (drop place bytes)) ≡ None
    → (shape_at bytes ≡ Err Short) × InName bytes place (length (drop place bytes))
name_still bytes place letters h short behind =
    let name = drop place bytes in
    let all : position is_zero name ≡ None = sym (ap (position is_zero) (take-append-drop letters name))
    ∙ none_behind (take letters name) (drop letters name) h.no_zero behind in
    let rest : position is_zero (take (length name) name) ≡ None =
    ap (position is_zero) (take_all (length name) name (omega arith)) ∙ all in
    let reads = ap (λ r. r >>= name_shaped h.flags) (name_short name short all) in (
      sym (ap shape_at (take-append-drop place bytes)) ∙ h.passes name ∙ reads,
      record {
        flags = h.flags;
        within = omega (arith, h.within, length-drop place bytes);
        passes = h.passes;
        no_zero = rest;
      },
    )

-- and so with more bytes behind it, none of which is zero
name_later : (bytes more : List ℕ) (place : ℕ) → InName bytes place (length (drop place bytes))
    → length (drop place bytes) + length more ≤ 1024 → position is_zero more ≡ None → shape_at (bytes ++ more)
    ≡ Err Short
name_later bytes more place h short none =
    let name = drop place bytes in
    let le : place ≤ length bytes = omega (arith, h.within) in
    let longer : drop place (bytes ++ more) ≡ name ++ more = drop-append-le place bytes more le in
    let new : drop (length name) (drop place (bytes ++ more)) ≡ more = ap (drop (length name)) longer
    ∙ drop-append_seam name more in
    (name_still (bytes ++ more) place (length name) (name_more bytes more place (length name) h)
    (omega (arith, ap length longer, length-append name more, short)) (ap (position is_zero) new ∙ none)).0

pub name_goes_on : (bytes : List ℕ) (place letters : ℕ) (name new : List ℕ) → InName bytes place letters → name
    ≡ drop place bytes → new ≡ drop letters name → length name ≤ 1024 → position is_zero new ≡ None
    → StaysHeader bytes (Some (Name place (length name)))
name_goes_on bytes place letters name new h name_is new_is short none =
    let len : length name ≡ length (drop place bytes) = ap length name_is in
    let behind : position is_zero (drop letters (drop place bytes)) ≡ None =
    ap (λ w. position is_zero (drop letters w)) (sym name_is) ∙ ap (position is_zero) (sym new_is) ∙ none in
    let still = name_still bytes place letters h (omega (arith, len, short)) behind in (
      still.0,
      λ _. subst (InName bytes place) (sym len) still.1,
      λ more less no_zero. name_later bytes more place still.1 (omega (arith, len, less)) no_zero,
    )

-- before its name nothing is said of more bytes
pub begins_short : (bytes : List ℕ) → shape_at bytes ≡ Err Short → StaysHeader bytes (Some Start)
begins_short bytes e = (
  e,
  λ _. tt,
  λ more less no_zero. ap (λ w. shape_at (bytes ++ w)) (nil_from_length more (omega (arith, less)))
      ∙ ap shape_at (append-nil bytes) ∙ e,
)

-- ---- behind sections

-- a header that ends too early is the part that isn't read
pub header_waits : (sections : List Section) (bytes : List ℕ) → (length bytes == 0) ≡ false → ends_section bytes ≡ true
    → shape_at bytes ≡ Err Short
    → read_on sections bytes ≡ record { sections = sections; rest = bytes; why = Some Short }
header_waits sections [] some over short = absurd (cc some)
header_waits sections (byte ∷ bytes) some over short =
    part_refused sections byte bytes Short
    (header_part sections (byte ∷ bytes) over ∙ ap (λ r. r >>= headed sections) short)
