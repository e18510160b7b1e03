-- Headers: the bytes encode what is read, and every encoding is read.
use Rattle.std.proofs.Common.{◌≡◌, ℕ, suc, ◌<◌, ◌≤◌, inl, inr, Bool, true, false, cond, ltb, List, [], ◌∷◌, ◌++◌}
use Rattle.std.proofs.Common.{length, take, drop, Result, Ok, Err, refl, sym, ap, subst, ◌∙◌, append_assoc, arith}
use Rattle.std.specs.Prelude.{nat_lt}
use Rattle.std.specs.List.{list_all, list_any}
use Rattle.std.proofs.lemmas.Bool.{ltb-false, le-ltb}
use Rattle.std.proofs.lemmas.List.{take_at, drop_at, take-append-drop, length-append, length-take}
use Rattle.cs_model.specs.declared.shape.Shape.{Shape}
use Rattle.cs_model.specs.Changeset.{IsShape}
use Rattle.cs_model.specs.Text.{SpellsHeader}
use Rattle.cs_model.specs.Varint.{IsVarint}
use Rattle.cs_parse.specs.declared.fault.FaultKind.TheVariants.{NoKey}
use Rattle.cs_parse.specs.declared.stop.ParseRefusal.{ParseRefusal}
use Rattle.cs_parse.specs.declared.stop.ParseRefusal.TheVariants.{Short, Bad}
use Rattle.cs_parse.specs.Reading.{◌>>=◌, refuse, columns_at, flags_at, name_at, header_at}
use Rattle.cs_parse.proofs.reading.Steps.{Takes, bind_ok, done, ok_is, guard_ok, steps_chosen}
use Rattle.cs_parse.proofs.reading.NumberLaws.{columns_takes, columns_again}
use Rattle.cs_parse.proofs.reading.Letters.{name_takes, name_again}

abbrev pub any_key : List ℕ → Bool
any_key flags = list_any (λ flag. nat_lt 0 flag) flags

abbrev HasKey : ℕ → List ℕ → List ℕ × List ℕ → Type 0
HasKey count bytes x = (bytes ≡ x.0 ++ x.1) × (length x.0 ≡ count) × (any_key x.0 ≡ true)

pub flags_take : (count : ℕ) (bytes : List ℕ) (x : List ℕ × List ℕ) → flags_at count bytes ≡ Ok x → HasKey count bytes x
unfolding flags_at
flags_take count bytes x e =
    let front = take count bytes in
    let g = guard_ok (ltb (length bytes) count) Short
    (cond (any_key front) (Ok (front, drop count bytes)) (refuse NoKey (drop count bytes))) x e in
    let long : count ≤ length bytes = ltb-false _ _ g.0 in
    elim (steps_chosen (any_key front) (Ok (front, drop count bytes)) (refuse NoKey (drop count bytes)) (Ok x) g.1) as
    (λ w. HasKey count bytes x) [
      | inl key ↦ subst (λ (y : List ℕ × List ℕ). HasKey count bytes y) (ok_is (front, drop count bytes) x key.1)
          (sym (take-append-drop count bytes), omega (arith, length-take count bytes), key.0)
      | inr other ↦
          let none : Err (Bad (suc (length (drop count bytes))) NoKey) ≡ done x = other.1 in
          absurd cc
    ]

pub flags_again : (flags rest : List ℕ) → any_key flags ≡ true → flags_at (length flags) (flags ++ rest)
    ≡ Ok (flags, rest)
unfolding flags_at
flags_again flags rest key =
    let long : ltb (length (flags ++ rest)) (length flags) ≡ false =
    le-ltb _ _ (omega (arith, length-append flags rest)) in
    rw (long, take_at flags rest (length flags) refl, drop_at flags rest (length flags) refl, key) refl

abbrev shaped : List ℕ → List ℕ × List ℕ → Result (Shape × List ℕ) ParseRefusal
shaped flags name = Ok (record { name = name.0; flags = flags }, name.1)

abbrev named_by : List ℕ × List ℕ → Result (Shape × List ℕ) ParseRefusal
named_by flags = name_at flags.1 >>= shaped flags.0

abbrev pub HeaderTextOf : List ℕ → Shape → Type 0
HeaderTextOf text shape = SpellsHeader (84 ∷ text) shape

pub shape_of_parts : (count : ℕ) (flags name : List ℕ) → length flags ≡ count → 0 < count → count ≤ 2000
    → any_key flags ≡ true → 0 < length name → length name ≤ 1024 → list_all (λ byte. nat_lt 0 byte) name ≡ true
    → IsShape (record { name = name; flags = flags })
shape_of_parts count flags name is some few key named short no_zero =
    record {
      columns = omega (arith, is, some);
      not_more_columns = omega (arith, is, few);
      key = key;
      named = named;
      not_longer = short;
      no_zero = no_zero;
    }

joined_header : (a b c d : List ℕ) → (((a ++ b) ++ c) ++ 0 ∷ []) ++ d ≡ a ++ (b ++ (c ++ 0 ∷ d))
joined_header a b c d = simp append_assoc

pub header_takes : (bytes : List ℕ) (x : Shape × List ℕ) → header_at bytes ≡ Ok x → Takes HeaderTextOf bytes x
    × IsShape x.0
unfolding header_at
header_takes bytes x e =
    let a = bind_ok (columns_at bytes) (λ count. flags_at count.0 count.1 >>= named_by) x e in
    let b = bind_ok (flags_at a.0.0 a.0.1) named_by x a.2 in
    let c = bind_ok (name_at b.0.1) (shaped b.0.0) x b.2 in
    let t0 = columns_takes bytes a.0 a.1 in
    let t1 = flags_take a.0.0 a.0.1 b.0 b.1 in
    let t2 = name_takes b.0.1 c.0 c.1 in
    let count = t0.0.text in
    let text = ((count ++ b.0.0) ++ c.0.0) ++ 0 ∷ [] in
    let whole : bytes ≡ text ++ c.0.1 = t0.0.parts ∙ ap (λ w. count ++ w) (t1.0 ∙ ap (λ w. b.0.0 ++ w) t2.0.0)
    ∙ sym (joined_header count b.0.0 c.0.0 c.0.1) in
    let shape : Shape = record { name = c.0.0; flags = b.0.0 } in
    let spelled : HeaderTextOf text shape =
    record { count = count; parts = refl; is_count = subst (λ n. IsVarint count n) (sym t1.1) t0.0.spelled } in
    let valid = shape_of_parts a.0.0 b.0.0 c.0.0 t1.1 t0.1 t0.2 t1.2 t2.1 t2.0.1 t2.0.2 in
    subst (λ (y : Shape × List ℕ). Takes HeaderTextOf bytes y × IsShape y.0) (ok_is (shape, c.0.1) x c.2)
    (record { text = text; parts = whole; spelled = spelled }, valid)

pub header_again : (header : List ℕ) (shape : Shape) (rest : List ℕ) → (h : SpellsHeader header shape) → IsShape shape
    → header_at ((h.count ++ shape.flags ++ shape.name ++ 0 ∷ []) ++ rest) ≡ Ok (shape, rest)
unfolding header_at
header_again header shape rest h valid =
    let flags = shape.flags in
    let name = shape.name in
    ap header_at (joined_header h.count flags name rest)
    ∙ ap (λ r. r >>= λ count. flags_at count.0 count.1 >>= named_by)
    (columns_again h.count (length flags) (flags ++ (name ++ 0 ∷ rest)) h.is_count valid.columns
    valid.not_more_columns)
    ∙ ap (λ r. r >>= named_by) (flags_again flags (name ++ 0 ∷ rest) valid.key)
    ∙ ap (λ r. r >>= shaped flags) (name_again name rest valid.named valid.not_longer valid.no_zero)
