-- The faults of key flags are exact.
use Rattle.std.proofs.Common.{◌≡◌, ◌==◌, ℕ, zero, suc, ◌+◌, ◌-◌, ◌<◌, ◌≤◌, inl, inr, true, false, cond, ltb, ◌||◌, List}
use Rattle.std.proofs.Common.{[], ◌∷◌, ◌++◌, length, take, drop, get_or, replicate, Some, None, Result, Ok, Err, refl}
use Rattle.std.proofs.Common.{sym, ap, subst, ◌∙◌, append_assoc, arith}
use Rattle.std.specs.Prelude.{nat_lt}
use Rattle.std.proofs.lemmas.Bool.{ltb-false, le-ltb, lt-ltb, eqb-true, or_parts, cases_lt}
use Rattle.std.proofs.lemmas.List.{take_at, drop_at, take-append-drop, drop_more, length-append, length-take}
use Rattle.std.proofs.lemmas.List.{length-replicate}
use Rattle.std.proofs.lemmas.List.Folds.{list_any-append}
use Rattle.cs_parse.specs.declared.fault.FaultKind.{FaultKind}
use Rattle.cs_parse.specs.declared.fault.FaultKind.TheVariants.{NoKey}
use Rattle.cs_parse.specs.Place.{BytePlace, LastKey, wrong}
use Rattle.cs_parse.proofs.reading.Steps.{steps_are_bytes}
use Rattle.cs_parse.specs.declared.stop.ParseRefusal.{ParseRefusal}
use Rattle.cs_parse.specs.declared.stop.ParseRefusal.TheVariants.{Short, Bad}
use Rattle.cs_parse.specs.Reading.{refuse, flags_at}
use Rattle.cs_parse.proofs.reading.Steps.{steps_chosen}
use Rattle.cs_parse.proofs.reading.HeaderLaws.{any_key, flags_take, flags_again}
use Rattle.cs_parse.proofs.refusing.Exact.{Completes, ExactStopped, ExactReader, stopped_here}

abbrev pub FlagsText : ℕ → List ℕ → List ℕ → Type 0
FlagsText count text flags = (text ≡ flags) × (length flags ≡ count) × (any_key flags ≡ true)

abbrev pub FlagsPlace : ℕ → List ℕ → BytePlace → Type 0
FlagsPlace count front place = (suc (length front) ≡ count) × (any_key front ≡ false) × (place ≡ LastKey)

abbrev keyed : List ℕ → ℕ → List ℕ → Result (List ℕ × List ℕ) ParseRefusal
keyed front byte back = cond (any_key (front ++ byte ∷ [])) (Ok (front ++ byte ∷ [], back)) (refuse NoKey back)

flags_by : (front : List ℕ) (byte : ℕ) (back : List ℕ) → flags_at (suc (length front)) (front ++ byte ∷ back)
    ≡ keyed front byte back
unfolding flags_at
flags_by front byte back =
    let flags = front ++ byte ∷ [] in
    let count = suc (length front) in
    let whole : front ++ byte ∷ back ≡ flags ++ back = sym (append_assoc front (byte ∷ []) back) in
    let len : length flags ≡ count = omega (arith, length-append front (byte ∷ [])) in
    let long : ltb (length (flags ++ back)) count ≡ false = le-ltb _ _ (omega (arith, length-append flags back)) in
    ap (flags_at count) whole ∙ rw (long, take_at flags back count len, drop_at flags back count len) refl

no_more_keys : (front : List ℕ) (byte : ℕ) → any_key (front ++ byte ∷ []) ≡ false → (any_key front ≡ false)
    × (nat_lt 0 byte || false ≡ false)
no_more_keys front byte h =
    or_parts (any_key front) (nat_lt 0 byte || false)
    (sym (list_any-append (λ flag. nat_lt 0 flag) front (byte ∷ [])) ∙ h)

still_no_key : (front : List ℕ) → any_key front ≡ false → any_key (front ++ 0 ∷ []) ≡ false
still_no_key front h = list_any-append (λ flag. nat_lt 0 flag) front (0 ∷ []) ∙ ap (λ b. b || false) h

all_ones : (n : ℕ) → steps_are_bytes (replicate n 1)
all_ones zero = refl
all_ones (suc n) = all_ones n

some_key : (front : List ℕ) (n : ℕ) → any_key (front ++ replicate (suc n) 1) ≡ true
some_key [] n = refl
some_key (zero ∷ front) n = some_key front n
some_key (suc b ∷ front) n = ap (λ t. t || any_key (front ++ replicate (suc n) 1)) (lt-ltb 0 (suc b) (omega arith))

flags_go_on : (count : ℕ) (bytes : List ℕ) → length bytes < count → Completes (FlagsText count) bytes
flags_go_on count bytes less =
    let left = count - suc (length bytes) in
    let ones : length (replicate (suc left) 1) ≡ suc left = length-replicate {A = ℕ} (suc left) 1 in
    let len : length (bytes ++ replicate (suc left) 1) ≡ count =
    omega (arith, length-append bytes (replicate (suc left) 1), ones) in
    record {
      more = replicate (suc left) 1;
      bytes = all_ones (suc left);
      value = bytes ++ replicate (suc left) 1;
      whole = (refl, len, some_key bytes left);
    }

flags_stop : (front : List ℕ) (byte : ℕ) (back : List ℕ) (left : ℕ) (kind : FaultKind) → keyed front byte back
    ≡ Err (Bad left kind) → ExactStopped (FlagsText (suc (length front))) (FlagsPlace (suc (length front)))
    (front ++ byte ∷ back) left kind
flags_stop front byte back left kind e =
    elim (steps_chosen (any_key (front ++ byte ∷ [])) (Ok (front ++ byte ∷ [], back)) (refuse NoKey back)
    (Err (Bad left kind)) e) as
    (λ w. ExactStopped (FlagsText (suc (length front))) (FlagsPlace (suc (length front))) (front ++ byte ∷ back) left
    kind) [
      | inl h ↦ absurd (cc h.1)
      | inr h ↦
          let none = no_more_keys front byte h.0 in
          let zeroed = ltb-false 0 byte (or_parts (nat_lt 0 byte) false none.1).0 in
          let nothing : byte ≡ 0 = omega (arith, zeroed) in
          let len : left ≡ suc (length back) = cc h.1 in
          let same : NoKey ≡ kind = cc h.1 in
          stopped_here front byte back left kind LastKey len (flags_go_on (suc (length front)) front (omega arith))
          (refl, none.0, refl) (ap (wrong LastKey) nothing ∙ ap (λ k. Some k) same)
    ]

split_at : (n : ℕ) (bytes : List ℕ) → n < length bytes → bytes ≡ take n bytes ++ get_or bytes n 0 ∷ drop (n + 1) bytes
split_at n bytes lt = sym (take-append-drop n bytes) ∙ ap (λ w. take n bytes ++ w) (drop_more bytes n 0 lt)

module _ (count : ℕ) (some : 1 ≤ count) where
  flags_short : (bytes : List ℕ) → length bytes < count → flags_at count bytes ≡ Err Short
  unfolding flags_at
  flags_short bytes less = ap
      (λ b. cond b (Err Short) (cond (any_key (take count bytes)) (Ok (take count bytes, drop count bytes))
      (refuse NoKey (drop count bytes)))) (lt-ltb (length bytes) count less)

  -- the bytes up to the last key byte, that byte and those behind it
  flags_whole : (bytes : List ℕ) → count ≤ length bytes → (front : List ℕ) × (byte : ℕ) × (back : List ℕ)
      × (bytes ≡ front ++ byte ∷ back) × (suc (length front) ≡ count) × (flags_at count bytes ≡ keyed front byte back)
  flags_whole bytes long =
      let n = count - 1 in
      let front = take n bytes in
      let byte = get_or bytes n 0 in
      let back = drop (n + 1) bytes in
      let whole = split_at n bytes (omega arith) in
      let len : suc (length front) ≡ count = omega (arith, length-take n bytes) in (
        front,
        byte,
        back,
        whole,
        len,
        ap (flags_at count) whole ∙ ap (λ k. flags_at k (front ++ byte ∷ back)) (sym len)
            ∙ flags_by front byte back,
      )

  flags_stops : (bytes : List ℕ) (left : ℕ) (kind : FaultKind) → flags_at count bytes ≡ Err (Bad left kind)
      → ExactStopped (FlagsText count) (FlagsPlace count) bytes left kind
  flags_stops bytes left kind e =
      elim (cases_lt (length bytes) count) as (λ w. ExactStopped (FlagsText count) (FlagsPlace count) bytes left kind) [
        | inl less ↦
            let none : Err Short ≡ Err (Bad left kind) = sym (flags_short bytes less) ∙ e in
            absurd cc
        | inr long ↦
            let p = flags_whole bytes long in
            let s = flags_stop p.0 p.1 p.2 left kind (sym p.5 ∙ e) in
            subst (λ w. ExactStopped (FlagsText count) (FlagsPlace count) w left kind) (sym p.3)
            (subst (λ n. ExactStopped (FlagsText n) (FlagsPlace n) (p.0 ++ p.1 ∷ p.2) left kind) p.4 s)
      ]

  flags_places : (front : List ℕ) (place : BytePlace) (byte : ℕ) (kind : FaultKind) (more : List ℕ)
      → FlagsPlace count front place → wrong place byte ≡ Some kind → flags_at count (front ++ byte ∷ more)
      ≡ Err (Bad (suc (length more)) kind)
  flags_places front place byte kind more h w =
      elim (steps_chosen (byte == 0) (Some NoKey) None (Some kind) (sym (ap (λ p. wrong p byte) h.2) ∙ w)) as
      (λ w. flags_at count (front ++ byte ∷ more) ≡ Err (Bad (suc (length more)) kind)) [
        | inl is ↦
            let same : NoKey ≡ kind = cc is.1 in
            ap (λ n. flags_at n (front ++ byte ∷ more)) (sym h.0) ∙ flags_by front byte more
            ∙ ap (λ b. keyed front b more) (eqb-true byte 0 is.0)
            ∙ ap (λ t. cond t (Ok (front ++ 0 ∷ [], more)) (refuse NoKey more)) (still_no_key front h.1)
            ∙ ap (λ k. Err (Bad (suc (length more)) k)) same
        | inr other ↦ absurd (cc other.1)
      ]

  flags_complete : (bytes : List ℕ) → flags_at count bytes ≡ Err Short → Completes (FlagsText count) bytes
  flags_complete bytes e = elim (cases_lt (length bytes) count) as (λ w. Completes (FlagsText count) bytes) [
    | inl less ↦ flags_go_on count bytes less
    | inr long ↦
        let p = flags_whole bytes long in
        elim (steps_chosen (any_key (p.0 ++ p.1 ∷ [])) (Ok (p.0 ++ p.1 ∷ [], p.2)) (refuse NoKey p.2) (Err Short)
        (sym p.5 ∙ e)) as (λ w. Completes (FlagsText count) bytes) [
          | inl h ↦ absurd (cc h.1)
          | inr h ↦ absurd (cc h.1)
        ]
  ]

  pub flags_exact : ExactReader (flags_at count) (FlagsText count) (FlagsPlace count)
  flags_exact = record {
    begins = flags_go_on count [] (omega arith);
    takes = λ bytes x fits e.
        let t = flags_take count bytes x e in
        record { text = x.0; parts = t.0; spelled = (refl, t.1, t.2) };
    again = λ text flags rest h. ap (λ w. flags_at count (w ++ rest)) h.0
        ∙ ap (λ n. flags_at n (flags ++ rest)) (sym h.1) ∙ flags_again flags rest h.2;
    stops = λ bytes left kind fits e. flags_stops bytes left kind e;
    places = flags_places;
    completes = λ bytes fits e. flags_complete bytes e;
  }
