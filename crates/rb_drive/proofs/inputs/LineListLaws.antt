-- Each publisher's own lines, when one more line comes.
use Rattle.std.proofs.Common.{◌≡◌, ℕ, zero, suc, ◌+◌, ◌-◌, ◌<◌, List, [], ◌∷◌, ◌++◌, length, map, replicate, set}
use Rattle.std.proofs.Common.{Bool, true, false, cond, eqb, refl, sym, ap, subst, ◌∙◌, arith, slice_index_or}
use Rattle.std.specs.Prelude.{max}
use Rattle.std.proofs.lemmas.List.{append-nil, length-append, length-map, length-replicate, length-set, map-set}
use Rattle.std.proofs.lemmas.Bool.{eqb-true, eqb-false}
use Rattle.rb_drive.specs.declared.input.Given.{Given}
use Rattle.rb_drive.specs.Published.{AreByPublisher, own_lines, publishers_in}

-- ---- how many publishers

one_more_publisher : (front : List Given) (g : Given)
    → publishers_in (front ++ g ∷ []) ≡ max (publishers_in front) (suc g.publisher)
one_more_publisher [] g = omega arith
one_more_publisher (x ∷ front) g =
    ap (λ n. max (suc x.publisher) n) (one_more_publisher front g) ∙ omega arith

-- ---- own lines

abbrev own_one : ℕ → Given → List Given
own_one p g = cond (eqb g.publisher p) (g ∷ []) []

own_first : (p : ℕ) (t : Bool) (x g : Given) (front : List Given)
    → own_lines p (front ++ g ∷ []) ≡ own_lines p front ++ own_one p g
    → cond t (x ∷ own_lines p (front ++ g ∷ [])) (own_lines p (front ++ g ∷ []))
    ≡ cond t (x ∷ own_lines p front) (own_lines p front) ++ own_one p g
own_first p true x g front later = ap (λ xs. x ∷ xs) later
own_first p false x g front later = later

own_one_more : (p : ℕ) (front : List Given) (g : Given)
    → own_lines p (front ++ g ∷ []) ≡ own_lines p front ++ own_one p g
own_one_more p [] g = refl
own_one_more p (x ∷ front) g = own_first p (eqb x.publisher p) x g front (own_one_more p front g)

-- ---- lists of lists

grown_same : (lists : List (List Given)) (n p : ℕ)
    → slice_index_or (lists ++ replicate n []) p [] ≡ slice_index_or lists p []
grown_same [] zero p = refl
grown_same [] (suc n) zero = refl
grown_same [] (suc n) (suc p) = grown_same [] n p
grown_same (x ∷ lists) n zero = refl
grown_same (x ∷ lists) n (suc p) = grown_same lists n p

set_here : (lists : List (List Given)) (q : ℕ) (new : List Given) → q < length lists
    → slice_index_or (set lists q new) q [] ≡ new
set_here [] q new less = absurd (omega (arith, less))
set_here (x ∷ lists) zero new less = refl
set_here (x ∷ lists) (suc q) new less = set_here lists q new (omega (arith, less))

set_elsewhere : (lists : List (List Given)) (p q : ℕ) (new : List Given) → (q ≡ p → ⊥)
    → slice_index_or (set lists q new) p [] ≡ slice_index_or lists p []
set_elsewhere [] p q new other = refl
set_elsewhere (x ∷ lists) zero zero new other = absurd (other refl)
set_elsewhere (x ∷ lists) (suc p) zero new other = refl
set_elsewhere (x ∷ lists) zero (suc q) new other = refl
set_elsewhere (x ∷ lists) (suc p) (suc q) new other = set_elsewhere lists p q new (λ e. other (ap suc e))

-- ---- the line is its publisher's

abbrev with_room : List (List Given) → ℕ → List (List Given)
with_room lists count = lists ++ replicate (count - length lists) []

pub line_added : (front : List Given) (g : Given) (lists : List (List Given)) → AreByPublisher front lists
    → AreByPublisher (front ++ g ∷ []) (set (with_room lists (suc g.publisher)) g.publisher
    (slice_index_or (with_room lists (suc g.publisher)) g.publisher [] ++ g ∷ []))
line_added front g lists were = record {
  count = length-set all g.publisher (here ++ g ∷ []) ∙ long ∙ ap (λ n. max n (suc g.publisher)) were.count
      ∙ sym (one_more_publisher front g);
  own = own;
}
  where
    all : List (List Given)
    all = with_room lists (suc g.publisher)

    here : List Given
    here = slice_index_or all g.publisher []

    long : length all ≡ max (length lists) (suc g.publisher)
    long = length-append lists (replicate (suc g.publisher - length lists) [])
        ∙ ap (λ n. length lists + n) (length-replicate (suc g.publisher - length lists) []) ∙ omega arith

    before : (p : ℕ) → slice_index_or all p [] ≡ own_lines p front
    before p = grown_same lists (suc g.publisher - length lists) p ∙ were.own p

    by : (p : ℕ) (t : Bool) → eqb g.publisher p ≡ t
        → slice_index_or (set all g.publisher (here ++ g ∷ [])) p []
        ≡ own_lines p front ++ cond t (g ∷ []) []
    by p true is =
        let same : g.publisher ≡ p = eqb-true g.publisher p is in
        subst (λ q. slice_index_or (set all g.publisher (here ++ g ∷ [])) q [] ≡ own_lines q front ++ g ∷ []) same
        (set_here all g.publisher (here ++ g ∷ []) (omega (arith, long))
        ∙ ap (λ xs. xs ++ g ∷ []) (before g.publisher))
    by p false is =
        set_elsewhere all p g.publisher (here ++ g ∷ []) (eqb-false g.publisher p is) ∙ before p
        ∙ sym (append-nil (own_lines p front))

    own : (p : ℕ) → slice_index_or (set all g.publisher (here ++ g ∷ [])) p [] ≡ own_lines p (front ++ g ∷ [])
    own p = by p (eqb g.publisher p) refl ∙ sym (own_one_more p front g)

items_at : {V : Type 0} (items : V → List Given) (lists : List V) (i : ℕ) (d : V) → i < length lists
    → slice_index_or (map items lists) i [] ≡ items (slice_index_or lists i d)
items_at items [] i d less = absurd (omega (arith, less))
items_at items (v ∷ lists) zero d less = refl
items_at items (v ∷ lists) (suc i) d less = items_at items lists i d (omega (arith, less))

-- the same where the lists are in other ones
pub line_put : {V : Type 0} (items : V → List Given) (old all : List V) (own new : V) (front : List Given) (g : Given)
    (n : ℕ) → n ≡ length old → map items all ≡ map items old ++ replicate (g.publisher + 1 - n) []
    → g.publisher < length all
    → own ≡ slice_index_or all g.publisher own → items new ≡ items own ++ g ∷ []
    → AreByPublisher front (map items old)
    → AreByPublisher (front ++ g ∷ []) (map items (set all g.publisher new))
line_put items old all own new front g n many are less at put were =
    subst (AreByPublisher (front ++ g ∷ [])) whole (line_added front g lists were)
  where
    lists : List (List Given)
    lists = map items old

    is : map items all ≡ with_room lists (suc g.publisher)
    is = are ∙ (λ j. lists ++ replicate (one j - len j) [])
      where
        one : g.publisher + 1 ≡ suc g.publisher
        one = omega arith

        len : n ≡ length lists
        len = many ∙ sym (length-map old items)

    here : slice_index_or (map items all) g.publisher [] ≡ items own
    here = items_at items all g.publisher own less ∙ ap items (sym at)

    whole : set (with_room lists (suc g.publisher)) g.publisher
        (slice_index_or (with_room lists (suc g.publisher)) g.publisher [] ++ g ∷ []) ≡ map items (set all g.publisher new)
    whole = (λ j. set (sym is j) g.publisher (slice_index_or (sym is j) g.publisher [] ++ g ∷ []))
        ∙ ap (λ xs. set (map items all) g.publisher xs) (ap (λ xs. xs ++ g ∷ []) here ∙ sym put)
        ∙ sym (map-set items all g.publisher new)

pub no_line_added : AreByPublisher [] []
no_line_added = record { count = refl; own = λ p. refl }
