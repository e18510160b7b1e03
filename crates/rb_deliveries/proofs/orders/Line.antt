-- Items with ranks, and the line that they form: how a change to the items changes the line.
use Rattle.std.proofs.Common.{◌≡◌, Bool, true, false, cond, List, [], ◌∷◌, ◌++◌, map, Option, Some, None}
use Rattle.std.proofs.Common.{option_map, filter, find, if◌then◌else◌, append_assoc, append-nil, refl, sym, ap, ◌∙◌}
use Rattle.std.proofs.Common.{arith, nat_lt, ℕ, ◌<◌, ◌≤◌, ◌⊎◌, inl, inr, get_or, slice_get}
use Rattle.std.proofs.lemmas.Bool.{ltb-true, ltb-false}
use Rattle.std.proofs.lemmas.Option.{get_or_from_slice_get}
use Rattle.std.specs.Prelude.{⊤}
use Rattle.std.specs.List.{AllByRecursion}
use Rattle.rb_deliveries.specs.declared.rank.Rank.{Rank}
use Rattle.rb_deliveries.specs.Queues.{earlier}
use Rattle.rb_deliveries.specs.Orders.{placed_in, in_line}

-- ---- ranks

-- no rank is earlier than itself
pub earlier_irreflexive : (a : Rank) → earlier a a ≡ false
earlier_irreflexive a = grind arith

-- a rank that is earlier than an earlier one is earlier
pub earlier_transitive : (a b c : Rank) → earlier a b ≡ true → earlier b c ≡ true → earlier a c ≡ true
earlier_transitive a b c p q = grind arith

-- of two ranks only one is earlier
pub earlier_asymmetric : (a b : Rank) → earlier a b ≡ true → earlier b a ≡ false
earlier_asymmetric a b p = grind arith

-- a rank that is not earlier than one that is not earlier is not earlier
pub later_transitive : (a b c : Rank) → earlier a b ≡ false → earlier b c ≡ false → earlier a c ≡ false
later_transitive a b c p q = grind arith

-- of two ranks, the front of the later one is no smaller
pub not_earlier : (a b : Rank) → earlier a b ≡ false → b.front ≤ a.front
not_earlier a b is = by (nat_lt a.front b.front) refl
  where
    sooner_front : (a b : Rank) → a.front < b.front → earlier a b ≡ true
    sooner_front a b less = grind arith

    by : (t : Bool) → nat_lt a.front b.front ≡ t → b.front ≤ a.front
    by true less = absurd (let e : true ≡ false = sym (sooner_front a b (ltb-true a.front b.front less)) ∙ is in cc)
    by false le = ltb-false a.front b.front le

pub earlier_fronts : (a b : Rank) → earlier a b ≡ true → a.front ≤ b.front
earlier_fronts a b is = not_earlier b a (earlier_asymmetric a b is)

-- ---- what holds of each thing of a list

-- what is read at a place is what is found there
pub read_there : {A : Type 0} (xs : List A) (i : ℕ) (read item : A) → read ≡ get_or xs i read →
    slice_get xs i ≡ Some item → read ≡ item
read_there xs i read item is found = is ∙ get_or_from_slice_get xs i item read found

module _ {A : Type 0} (P : A → Type 0) where
  -- of two lists in a row
  pub all_both : (xs ys : List A) → AllByRecursion P xs → AllByRecursion P ys → AllByRecursion P (xs ++ ys)
  all_both [] ys h k = k
  all_both (x ∷ xs) ys h k = (h.0, all_both xs ys h.1 k)

  -- of the first of two lists in a row, and of the second
  pub all_first : (xs ys : List A) → AllByRecursion P (xs ++ ys) → AllByRecursion P xs
  all_first [] ys h = tt
  all_first (x ∷ xs) ys h = (h.0, all_first xs ys h.1)

  pub all_second : (xs ys : List A) → AllByRecursion P (xs ++ ys) → AllByRecursion P ys
  all_second [] ys h = h
  all_second (x ∷ xs) ys h = all_second xs ys h.1

  -- of those that pass a test, where it holds of what passes
  pub all_passing : (test : A → Bool) (xs : List A) → AllByRecursion (λ x. test x ≡ true → P x) xs
      → AllByRecursion P (filter test xs)
  all_passing test [] h = tt
  all_passing test (x ∷ xs) h = by (test x) h.0 (all_passing test xs h.1)
    where
      by : (b : Bool) → (b ≡ true → P x) → AllByRecursion P (filter test xs)
          → AllByRecursion P (cond b (x ∷ filter test xs) (filter test xs))
      by true first rest = (first refl, rest)
      by false first rest = rest

-- what follows of each
pub all_then : {A : Type 0} (P Q : A → Type 0) (xs : List A) → ((x : A) → P x → Q x) → AllByRecursion P xs
    → AllByRecursion Q xs
all_then P Q [] step h = tt
all_then P Q (x ∷ xs) step h = (step x h.0, all_then P Q xs step h.1)

-- of those that pass a test, where it holds of all
pub all_filter : {A : Type 0} (P : A → Type 0) (test : A → Bool) (xs : List A) → AllByRecursion P xs
    → AllByRecursion P (filter test xs)
all_filter P test xs h = all_passing P test xs (all_then P (λ x. test x ≡ true → P x) xs (λ x p passed. p) h)

-- all pass, or none does
pub filter_all : {A : Type 0} (test : A → Bool) (xs : List A) → AllByRecursion (λ x. test x ≡ true) xs → filter test xs
    ≡ xs
filter_all test [] h = refl
filter_all test (x ∷ xs) h = rw h.0 (ap (λ l. x ∷ l) (filter_all test xs h.1))

pub filter_none : {A : Type 0} (test : A → Bool) (xs : List A) → AllByRecursion (λ x. test x ≡ false) xs
    → filter test xs ≡ []
filter_none test [] h = refl
filter_none test (x ∷ xs) h = rw h.0 (filter_none test xs h.1)

-- ---- the line

-- each of them is earlier than the rank t; none is earlier than e; each has none behind it that is earlier
abbrev pub Before : {X : Type 0} → Rank → List (Rank × X) → Type 0
Before t = AllByRecursion (λ e. earlier e.0 t ≡ true)

abbrev pub LineBehind : {X : Type 0} → Rank → List (Rank × X) → Type 0
LineBehind t = AllByRecursion (λ e. earlier e.0 t ≡ false)

abbrev pub Rises : {X : Type 0} → List (Rank × X) → Type 0
Rises [] = ⊤
Rises (e ∷ rest) = LineBehind e.0 rest × Rises rest

module _ {X : Type 0} where
  -- what is none of it earlier than s is not earlier than t, where s is not
  behind_more : (s t : Rank) (xs : List (Rank × X)) → earlier s t ≡ false → LineBehind s xs → LineBehind t xs
  behind_more s t xs h = all_then (λ e. earlier e.0 s ≡ false) (λ e. earlier e.0 t ≡ false) xs
      (λ e p. later_transitive e.0 s t p h)

  -- what holds of each thing holds of each in line
  all_placed : (P : Rank × X → Type 0) (e : Rank × X) (xs : List (Rank × X)) → P e → AllByRecursion P xs
      → AllByRecursion P (placed_in e xs)
  all_placed P e [] p h = (p, tt)
  all_placed P e (f ∷ xs) p h = by (earlier f.0 e.0) (all_placed P e xs p h.1)
    where
      by : (b : Bool) → AllByRecursion P (placed_in e xs) → AllByRecursion P (cond b (f ∷ placed_in e xs) (e ∷ f ∷ xs))
      by true rest = (h.0, rest)
      by false rest = (p, h)

  pub all_line : (P : Rank × X → Type 0) (xs : List (Rank × X)) → AllByRecursion P xs
      → AllByRecursion P (in_line xs)
  all_line P [] h = tt
  all_line P (e ∷ xs) h = all_placed P e (in_line xs) h.0 (all_line P xs h.1)

  -- a line rises
  rises_placed : (e : Rank × X) (xs : List (Rank × X)) → Rises xs → Rises (placed_in e xs)
  rises_placed e [] h = (tt, tt)
  rises_placed e (f ∷ xs) h = by (earlier f.0 e.0) refl (rises_placed e xs h.1)
    where
      by : (b : Bool) → earlier f.0 e.0 ≡ b → Rises (placed_in e xs) → Rises (cond b (f ∷ placed_in e xs) (e ∷ f ∷ xs))
      by true is rest = (all_placed (λ g. earlier g.0 f.0 ≡ false) e xs (earlier_asymmetric f.0 e.0 is) h.0, rest)
      by false is rest = ((is, behind_more f.0 e.0 xs is h.0), h)

  pub rises_line : (xs : List (Rank × X)) → Rises (in_line xs)
  rises_line [] = tt
  rises_line (e ∷ xs) = rises_placed e (in_line xs) (rises_line xs)

  -- ahead of things that are none of them earlier a thing is placed first, and behind earlier ones it is placed among
  -- the rest
  pub placed_first : (e : Rank × X) (xs ys : List (Rank × X)) → LineBehind e.0 ys → placed_in e (xs ++ ys)
      ≡ placed_in e xs ++ ys
  placed_first e [] [] h = refl
  placed_first e [] (f ∷ ys) h = rw h.0 refl
  placed_first e (f ∷ xs) ys h = by (earlier f.0 e.0) (placed_first e xs ys h)
    where
      by : (b : Bool) → placed_in e (xs ++ ys) ≡ placed_in e xs ++ ys
          → cond b (f ∷ placed_in e (xs ++ ys)) (e ∷ f ∷ (xs ++ ys)) ≡ cond b (f ∷ placed_in e xs) (e ∷ f ∷ xs) ++ ys
      by true rest = ap (λ (l : List (Rank × X)). f ∷ l) rest
      by false rest = refl

  pub placed_behind : (e : Rank × X) (xs ys : List (Rank × X)) → Before e.0 xs → placed_in e (xs ++ ys) ≡ xs
      ++ placed_in e ys
  placed_behind e [] ys h = refl
  placed_behind e (f ∷ xs) ys h = rw h.0 (ap (λ (l : List (Rank × X)). f ∷ l) (placed_behind e xs ys h.1))

  -- what is left of a line in which a thing was placed
  filter_placed : (test : Rank × X → Bool) (e : Rank × X) (xs : List (Rank × X)) → Rises xs
      → filter test (placed_in e xs) ≡ cond (test e) (placed_in e (filter test xs)) (filter test xs)
  filter_placed test e [] h = refl
  filter_placed test e (f ∷ xs) h = by (earlier f.0 e.0) refl (filter_placed test e xs h.1)
    where
      front : LineBehind e.0 xs → placed_in e (filter test xs) ≡ e ∷ filter test xs
      front low = placed_first e [] (filter test xs) (all_filter (λ g. earlier g.0 e.0 ≡ false) test xs low)

      pass : (b c : Bool) → earlier f.0 e.0 ≡ true → filter test (placed_in e xs)
          ≡ cond c (placed_in e (filter test xs)) (filter test xs)
          → cond b (f ∷ filter test (placed_in e xs)) (filter test (placed_in e xs))
          ≡ cond c (placed_in e (cond b (f ∷ filter test xs) (filter test xs)))
          (cond b (f ∷ filter test xs) (filter test xs))
      pass true true is rest = rw is (ap (λ (l : List (Rank × X)). f ∷ l) rest)
      pass true false is rest = ap (λ (l : List (Rank × X)). f ∷ l) rest
      pass false true is rest = rest
      pass false false is rest = rest

      stop : (b c : Bool) → earlier f.0 e.0 ≡ false
          → cond c (e ∷ cond b (f ∷ filter test xs) (filter test xs)) (cond b (f ∷ filter test xs) (filter test xs))
          ≡ cond c (placed_in e (cond b (f ∷ filter test xs) (filter test xs)))
          (cond b (f ∷ filter test xs) (filter test xs))
      stop true true is = rw is refl
      stop true false is = refl
      stop false true is = sym (front (behind_more f.0 e.0 xs is h.0))
      stop false false is = refl

      by : (b : Bool) → earlier f.0 e.0 ≡ b → filter test (placed_in e xs)
          ≡ cond (test e) (placed_in e (filter test xs)) (filter test xs)
          → filter test (cond b (f ∷ placed_in e xs) (e ∷ f ∷ xs))
          ≡ cond (test e) (placed_in e (filter test (f ∷ xs))) (filter test (f ∷ xs))
      by true is rest = pass (test f) (test e) is rest
      by false is rest = stop (test f) (test e) is

  -- what is left of a line is the line of what is left
  pub line_filter : (test : Rank × X → Bool) (xs : List (Rank × X)) → filter test (in_line xs)
      ≡ in_line (filter test xs)
  line_filter test [] = refl
  line_filter test (e ∷ xs) = filter_placed test e (in_line xs) (rises_line xs) ∙ by (test e) (line_filter test xs)
    where
      by : (b : Bool) → filter test (in_line xs) ≡ in_line (filter test xs)
          → cond b (placed_in e (filter test (in_line xs))) (filter test (in_line xs))
          ≡ in_line (cond b (e ∷ filter test xs) (filter test xs))
      by true rest = ap (placed_in e) rest
      by false rest = rest

  -- things of a rank that is not earlier than s
  behind_same : (s t : Rank) (xs : List X) → earlier t s ≡ false → LineBehind s (map (λ x. (t, x)) xs)
  behind_same s t [] h = tt
  behind_same s t (x ∷ xs) h = (h, behind_same s t xs h)

  -- things of one later rank among the others stand behind the line, ahead of more of that rank
  pub line_more : (t : Rank) (xs ys zs : List (Rank × X)) (new more : List X) → Before t xs → Before t ys
      → in_line zs ≡ in_line ys ++ map (λ x. (t, x)) more
      → in_line (xs ++ (map (λ x. (t, x)) new ++ zs)) ≡ in_line (xs ++ ys) ++ map (λ x. (t, x)) (new ++ more)
  line_more t [] ys zs [] more p q rest = rest
  line_more t [] ys zs (x ∷ new) more p q rest =
      ap (placed_in (t, x)) (line_more t [] ys zs new more p q rest)
      ∙ placed_behind (t, x) (in_line ys) (map (λ x. (t, x)) (new ++ more)) (all_line (λ e. earlier e.0 t ≡ true) ys q)
      ∙ ap (λ l. in_line ys ++ l)
      (placed_first (t, x) [] (map (λ x. (t, x)) (new ++ more))
      (behind_same t t (new ++ more) (earlier_irreflexive t)))
  line_more t (e ∷ xs) ys zs new more p q rest =
      ap (placed_in e) (line_more t xs ys zs new more p.1 q rest)
      ∙ placed_first e (in_line (xs ++ ys)) (map (λ x. (t, x)) (new ++ more))
      (behind_same e.0 t (new ++ more) (earlier_asymmetric e.0 t p.0))

  -- things of one later rank among the others stand behind the line, as they come in
  pub line_appends : (t : Rank) (xs ys : List (Rank × X)) (new : List X) → Before t (xs ++ ys)
      → in_line (xs ++ map (λ x. (t, x)) new ++ ys) ≡ in_line (xs ++ ys) ++ map (λ x. (t, x)) new
  line_appends t xs ys new h =
      ap in_line (append_assoc xs (map (λ x. (t, x)) new) ys)
      ∙ line_more t xs ys ys new [] (all_first (λ e. earlier e.0 t ≡ true) xs ys h)
      (all_second (λ e. earlier e.0 t ≡ true) xs ys h) (sym (append-nil (in_line ys)))
      ∙ ap (λ l. in_line (xs ++ ys) ++ map (λ x. (t, x)) l) (append-nil new)

-- ---- the first one

-- one of two things is chosen: what it becomes, and which it is
pub chosen_seen : {X Y : Type 0} (f : X → Y) (t : Bool) (a b : X) → option_map f (if t then Some b else Some a)
    ≡ (if t then Some (f b) else Some (f a))
chosen_seen f true a b = refl
chosen_seen f false a b = refl

pub chosen_one : {X : Type 0} (t : Bool) (a b c : X) → (if t then Some b else Some a) ≡ Some c → (Some a ≡ Some c)
    ⊎ (Some b ≡ Some c)
chosen_one true a b c h = inr h
chosen_one false a b c h = inl h

-- the one with the earlier rank, and the first where they have the same
abbrev pub sooner : {X : Type 0} → Option (Rank × X) → Option (Rank × X) → Option (Rank × X)
sooner None b = b
sooner (Some a) None = Some a
sooner (Some a) (Some b) = if earlier b.0 a.0 then Some b else Some a

-- the first in line of those that pass a test
abbrev pub first_of : {X : Type 0} → (X → Bool) → List (Rank × X) → Option (Rank × X)
first_of p [] = None
first_of p (e ∷ rest) = sooner (if p e.1 then Some e else None) (first_of p rest)

module _ {X : Type 0} where
  -- nothing is no sooner, and which of three is the first doesn't depend on where one begins
  pub sooner_none : (a : Option (Rank × X)) → sooner a None ≡ a
  sooner_none None = refl
  sooner_none (Some a) = refl

  pub sooner_assoc : (a b c : Option (Rank × X)) → sooner (sooner a b) c ≡ sooner a (sooner b c)
  sooner_assoc None b c = refl
  sooner_assoc (Some a) None c = refl
  sooner_assoc (Some a) (Some b) None = sooner_none (sooner (Some a) (Some b))
  sooner_assoc (Some a) (Some b) (Some c) = by (earlier b.0 a.0) (earlier c.0 b.0) refl refl
    where
      by : (p q : Bool) → earlier b.0 a.0 ≡ p → earlier c.0 b.0 ≡ q → sooner (cond p (Some b) (Some a)) (Some c)
          ≡ sooner (Some a) (cond q (Some c) (Some b))
      by true true h k = rw (k, earlier_transitive c.0 b.0 a.0 k h) refl
      by true false h k = rw (k, h) refl
      by false true h k = refl
      by false false h k = rw (h, later_transitive c.0 b.0 a.0 k h) refl

  -- the first of two lists in a row
  pub first_of_append : (p : X → Bool) (xs ys : List (Rank × X)) → first_of p (xs ++ ys)
      ≡ sooner (first_of p xs) (first_of p ys)
  first_of_append p [] ys = refl
  first_of_append p (e ∷ xs) ys = ap (sooner (cond (p e.1) (Some e) None)) (first_of_append p xs ys)
      ∙ sym (sooner_assoc (cond (p e.1) (Some e) None) (first_of p xs) (first_of p ys))

  -- what is found behind a thing is not sooner
  found_behind : (q : Rank × X → Bool) (e : Rank × X) (xs : List (Rank × X)) → LineBehind e.0 xs
      → sooner (Some e) (find q xs) ≡ Some e
  found_behind q e [] h = refl
  found_behind q e (f ∷ xs) h = by (q f) (found_behind q e xs h.1)
    where
      by : (b : Bool) → sooner (Some e) (find q xs) ≡ Some e → sooner (Some e) (cond b (Some f) (find q xs)) ≡ Some e
      by true rest = rw h.0 refl
      by false rest = rest

  -- what is found in a line in which a thing was placed
  find_placed : (q : Rank × X → Bool) (e : Rank × X) (xs : List (Rank × X)) → Rises xs → find q (placed_in e xs)
      ≡ sooner (cond (q e) (Some e) None) (find q xs)
  find_placed q e [] h = sym (sooner_none (cond (q e) (Some e) None))
  find_placed q e (f ∷ xs) h = by (earlier f.0 e.0) refl (find_placed q e xs h.1)
    where
      pass : (b c : Bool) → earlier f.0 e.0 ≡ true → find q (placed_in e xs) ≡ sooner (cond c (Some e) None) (find q xs)
          → cond b (Some f) (find q (placed_in e xs)) ≡ sooner (cond c (Some e) None) (cond b (Some f) (find q xs))
      pass true true is rest = rw is refl
      pass true false is rest = refl
      pass false c is rest = rest

      stop : (c : Bool) → LineBehind e.0 (f ∷ xs) → cond c (Some e) (find q (f ∷ xs))
          ≡ sooner (cond c (Some e) None) (find q (f ∷ xs))
      stop true low = sym (found_behind q e (f ∷ xs) low)
      stop false low = refl

      by : (b : Bool) → earlier f.0 e.0 ≡ b → find q (placed_in e xs) ≡ sooner (cond (q e) (Some e) None) (find q xs)
          → find q (cond b (f ∷ placed_in e xs) (e ∷ f ∷ xs)) ≡ sooner (cond (q e) (Some e) None) (find q (f ∷ xs))
      by true is rest = pass (q f) (q e) is rest
      by false is rest = stop (q e) (is, behind_more f.0 e.0 xs is h.0)

  -- the first that passes in the line, with its rank
  find_line : (p : X → Bool) (xs : List (Rank × X)) → find (λ e. p e.1) (in_line xs) ≡ first_of p xs
  find_line p [] = refl
  find_line p (e ∷ xs) = find_placed (λ e. p e.1) e (in_line xs) (rises_line xs)
      ∙ ap (sooner (cond (p e.1) (Some e) None)) (find_line p xs)

  -- and without it
  pub find_first : (p : X → Bool) (xs : List (Rank × X)) → find p (map (λ e. e.1) (in_line xs))
      ≡ option_map (λ e. e.1) (first_of p xs)
  find_first p xs = find_seen (in_line xs) ∙ ap (option_map (λ e. e.1)) (find_line p xs)
    where
      find_seen : (ys : List (Rank × X)) → find p (map (λ e. e.1) ys) ≡ option_map (λ e. e.1) (find (λ e. p e.1) ys)
      find_seen [] = refl
      find_seen (e ∷ ys) = by (p e.1) (find_seen ys)
        where
          by : (b : Bool) → find p (map (λ e. e.1) ys) ≡ option_map (λ e. e.1) (find (λ e. p e.1) ys)
              → cond b (Some e.1) (find p (map (λ e. e.1) ys))
              ≡ option_map (λ e. e.1) (cond b (Some e) (find (λ e. p e.1) ys))
          by true rest = refl
          by false rest = rest
