-- The tables that are known by name, once one more section is there.
use Rattle.std.proofs.Common.{◌≡◌, ◌∙◌, ℕ, suc, ◌+◌, Bool, true, false, cond, not, ◌||◌, List, [], ◌∷◌, ◌++◌, length}
use Rattle.std.proofs.Common.{◌<◌, get_or, take, drop, length-drop}
use Rattle.std.proofs.Common.{Option, Some, None, refl, sym, ap, arith, append_assoc, length-take}
use Rattle.std.proofs.lemmas.Bool.{or_from}
use Rattle.std.proofs.lemmas.List.{take-take, take_more, drop_more}
use Rattle.std.proofs.lemmas.List.Folds.{list_any-append}
use Rattle.std.proofs.lemmas.Option.{none-some}
use Rattle.std.specs.Cmp.Lexicographic.{same_text, nat_list_eq_equiv}
use Rattle.std.specs.Map.{lookup}
use Rattle.std.specs.Prelude.{option_map, ◌&&◌}
use Rattle.cs_model.specs.declared.shape.Shape.{Shape}
use Rattle.cs_model.specs.Schema.{same_bytes, same_shape}
use Rattle.cs_model.specs.Section.{Section}
use Rattle.cs_group.specs.Adding.{Knows, differs_by, known_as}
use Rattle.cs_group.specs.Group.{clashes, differs_from, first_clash}
use Rattle.cs_group.proofs.all_tables.Tables.{same_is}

-- ---- clashes with one section more

or_later : (first rest last : Bool) → (first || (rest || last)) ≡ ((first || rest) || last)
or_later true rest last = refl
or_later false rest last = refl

or_nothing : (b : Bool) → (b || false) ≡ b
or_nothing true = refl
or_nothing false = refl

or_itself : (b : Bool) → (b || b) ≡ b
or_itself true = refl
or_itself false = refl

clashes_more : (earlier : List Section) (last section : Section)
    → clashes (earlier ++ last ∷ []) section ≡ (clashes earlier section || differs_from section last)
clashes_more [] last section = or_nothing (differs_from section last)
clashes_more (first ∷ earlier) last section =
    ap (λ b. differs_from section first || b) (clashes_more earlier last section)
    ∙ or_later (differs_from section first) (clashes earlier section) (differs_from section last)

-- ---- a look-up with one entry more

lookup_more : (test : List ℕ → Bool) (tables : List (List ℕ × Shape)) (entry : List ℕ × Shape)
    → lookup test tables ≡ None
    → lookup test (tables ++ entry ∷ []) ≡ cond (test entry.0) (Some entry.1) None
lookup_more test [] entry none = refl
lookup_more test (first ∷ tables) entry none = by (test first.0) none (lookup_more test tables entry)
  where
    by : (b : Bool) → cond b (Some first.1) (lookup test tables) ≡ None
        → (lookup test tables ≡ None
        → lookup test (tables ++ entry ∷ []) ≡ cond (test entry.0) (Some entry.1) None)
        → cond b (Some first.1) (lookup test (tables ++ entry ∷ [])) ≡ cond (test entry.0) (Some entry.1) None
    by true none more = absurd (none-some _ (sym none))
    by false none more = more none

lookup_apart : (test : List ℕ → Bool) (tables : List (List ℕ × Shape)) (entry : List ℕ × Shape)
    → test entry.0 ≡ false → lookup test (tables ++ entry ∷ []) ≡ lookup test tables
lookup_apart test [] entry apart = ap (λ b. cond b (Some entry.1) None) apart
lookup_apart test (first ∷ tables) entry apart = ap (cond (test first.0) (Some first.1))
    (lookup_apart test tables entry apart)

-- ---- a section whose table is known

not_false : (b : Bool) → not b ≡ false → b ≡ true
not_false true e = refl
not_false false e = sym e

pub knows_old : (earlier : List Section) (section : Section) (tables : List (List ℕ × Shape)) (known : Shape)
    → known_as tables section.shape.name ≡ Some known → Knows earlier tables → clashes earlier section ≡ false
    → Knows (earlier ++ section ∷ []) tables
knows_old earlier section tables known is knows fits other =
    clashes_more earlier section other ∙ by (same_bytes section.shape.name other.shape.name) refl
  where
    shape : known ≡ section.shape
    shape = same_is known section.shape (not_false (same_shape known section.shape)
        (ap (λ k. differs_by k section.shape) (sym is) ∙ sym (knows section) ∙ fits))

    by : (b : Bool) → same_bytes section.shape.name other.shape.name ≡ b
        → (clashes earlier other || (b && not (same_shape section.shape other.shape)))
        ≡ differs_by (known_as tables other.shape.name) other.shape
    by false e = or_nothing (clashes earlier other) ∙ knows other
    by true e =
        let name : other.shape.name ≡ section.shape.name =
        sym (same_text section.shape.name other.shape.name (sym e)) in
        let same : clashes earlier other ≡ not (same_shape section.shape other.shape) =
        knows other ∙ ap (λ k. differs_by k other.shape) (ap (known_as tables) name ∙ is)
        ∙ ap (λ s. not (same_shape s other.shape)) shape in
        ap (λ b. b || not (same_shape section.shape other.shape)) same
        ∙ or_itself (not (same_shape section.shape other.shape)) ∙ sym same ∙ knows other

-- ---- a section of a new table

pub knows_new : (earlier : List Section) (section : Section) (tables : List (List ℕ × Shape)) (shape : Shape)
    → section.shape ≡ shape → lookup (same_bytes section.shape.name) tables ≡ None → Knows earlier tables
    → Knows (earlier ++ section ∷ []) (tables ++ (section.shape.name, shape) ∷ [])
knows_new earlier section tables shape is none knows other =
    clashes_more earlier section other ∙ by (same_bytes other.shape.name section.shape.name) refl
  where
    turned : (b : Bool) → same_bytes other.shape.name section.shape.name ≡ b
        → same_bytes section.shape.name other.shape.name ≡ b
    turned b e = nat_list_eq_equiv.symm section.shape.name other.shape.name ∙ e

    by : (b : Bool) → same_bytes other.shape.name section.shape.name ≡ b
        → (clashes earlier other || (same_bytes section.shape.name other.shape.name
        && not (same_shape section.shape other.shape)))
        ≡ differs_by (known_as (tables ++ (section.shape.name, shape) ∷ []) other.shape.name) other.shape
    by false e =
        ap (λ b. clashes earlier other || (b && not (same_shape section.shape other.shape))) (turned false e)
        ∙ or_nothing (clashes earlier other) ∙ knows other
        ∙ ap (λ k. differs_by k other.shape)
        (sym (lookup_apart (same_bytes other.shape.name) tables (section.shape.name, shape) e))
    by true e =
        let name : other.shape.name ≡ section.shape.name = same_text other.shape.name section.shape.name (sym e) in
        let absent : lookup (same_bytes other.shape.name) tables ≡ None =
        ap (λ n. lookup (same_bytes n) tables) name ∙ none in
        ap (λ b. clashes earlier other || (b && not (same_shape section.shape other.shape))) (turned true e)
        ∙ ap (λ b. b || not (same_shape section.shape other.shape))
        (knows other ∙ ap (λ k. differs_by k other.shape) absent)
        ∙ ap (λ s. not (same_shape s other.shape)) is
        ∙ ap (λ k. differs_by k other.shape)
        (sym (lookup_more (same_bytes other.shape.name) tables (section.shape.name, shape) absent
        ∙ ap (λ b. cond b (Some shape) None) e))

-- ---- entries that are added are kept

pub kept_on : {A : Type 0} (old mid new : List A) → take (length old) mid ≡ old → take (length mid) new ≡ mid
    → take (length old) new ≡ old
kept_on old mid new k l =
    sym (take-take (length old) (length mid) new (omega (arith, ap length k, length-take (length old) mid)))
    ∙ ap (take (length old)) l ∙ k

-- ---- the first clash, from a section on

-- one section further
pub clash_next : (earlier done : List Section) (section : Section) (rest : List Section) (i : ℕ) (total : Option ℕ)
    → clashes (earlier ++ done) section ≡ false
    → total ≡ option_map (λ n. i + n) (first_clash (earlier ++ done) (section ∷ rest))
    → total ≡ option_map (λ n. (i + 1) + n) (first_clash (earlier ++ (done ++ section ∷ [])) rest)
clash_next earlier done section rest i total fits e =
    e ∙ ap (λ b. option_map (λ n. i + n) (cond b (Some 0)
    (option_map suc (first_clash ((earlier ++ done) ++ section ∷ []) rest)))) fits
    ∙ moved (first_clash ((earlier ++ done) ++ section ∷ []) rest)
    ∙ ap (λ ss. option_map (λ n. (i + 1) + n) (first_clash ss rest)) (append_assoc earlier done (section ∷ []))
  where
    moved : (r : Option ℕ) → option_map (λ n. i + n) (option_map suc r) ≡ option_map (λ n. (i + 1) + n) r
    moved None = refl
    moved (Some n) = ap Some (omega arith)

-- ---- the first clash among sections that come one by one

behind_first : {A : Type 0} → List A → List A
behind_first [] = []
behind_first (x ∷ xs) = xs

-- the first element of a rest is the next one
pub next_is : {A : Type 0} (xs : List A) (i : ℕ) (x : A) (rest : List A) → x ∷ rest ≡ drop i xs
    → (take (i + 1) xs ≡ take i xs ++ x ∷ []) × (rest ≡ drop (i + 1) xs)
unfolding behind_first
next_is xs i x rest is =
    let there : i < length xs = omega (arith, ap length is, length-drop i xs) in
    let more : x ∷ rest ≡ get_or xs i x ∷ drop (i + 1) xs = is ∙ drop_more xs i x there in
    (take_more xs i x there ∙ ap (λ y. take i xs ++ y ∷ []) (sym (ap (λ ys. get_or ys 0 x) more)), ap behind_first more)

-- this section clashes with none of those before it
pub clashes_with_none : (added between front : List Section) (section : Section) → false ≡ clashes added section
    → false ≡ clashes between section → false ≡ clashes front section
    → clashes ((added ++ between) ++ front) section ≡ false
clashes_with_none added between front section a b c =
    list_any-append (differs_from section) (added ++ between) front
    ∙ ap (λ r. r || clashes front section) (list_any-append (differs_from section) added between)
    ∙ or_from (clashes added section || clashes between section) (clashes front section)
    (or_from (clashes added section) (clashes between section) (sym a) (sym b)) (sym c)
