-- No key stands twice in a list, so lists with the same keys are equally long.
use Rattle.std.proofs.Common.{◌≡◌, ℕ, ◌≤◌, ◌||◌, ◌&&◌, Bool, true, false, not, cond, filter, List, [], ◌∷◌, ◌++◌}
use Rattle.std.proofs.Common.{length}
use Rattle.std.proofs.Common.{get_or, eqb, suc, Option, None, IsSome, refl, sym, ap, subst, ◌∙◌, inl, inr, arith}
use Rattle.std.proofs.Common.{append-nil}
use Rattle.std.specs.List.{AllByRecursion, IsDistinct}
use Rattle.std.proofs.lemmas.Bool.Decides.{eqb_tells}
use Rattle.std.proofs.lemmas.Cmp.{nat_eq_equiv}
use Rattle.std.proofs.lemmas.Map.Made.{length-le_from_is_member}
use Rattle.link_lists.specs.Lanes.{Lanes, AreLanes, lane_keys}
use Rattle.rb_deliveries.specs.declared.rank.Held.{Held}
use Rattle.rb_deliveries.specs.Spans.{is_out}
use Rattle.rb_deliveries.specs.Taken.{AreListed, AreWoven, lists_key, nth_list, slot_passes}
use Rattle.rb_deliveries.proofs.lists.KeyLaws.{has_first, has_later, keys_but, not_this_key}
use Rattle.rb_deliveries.proofs.lists.RiseLaws.{IsLess, SlotsRise, numbers_in_order}
use Rattle.rb_deliveries.proofs.lists.StandLaws.{standing, stands_second}
use Rattle.rb_deliveries.proofs.lists.ListedLaws.{out_key}

-- ---- of all, by what holds of all lanes

module _ (lanes : Lanes Held) (valid : AreLanes lanes) (are : AreWoven lanes) where
  pub all_once : IsDistinct eqb (nth_list 0 lanes.second)
  all_once =
      subst (IsDistinct eqb) (append-nil (nth_list 0 lanes.second))
      (subst (λ (lane : List (List ℕ)). IsDistinct eqb (lane_keys lane)) are.one valid.second.distinct)

  pub all_there : (key : ℕ) → lists_key key (nth_list 0 lanes.second) ≡ true → IsSome (get_or lanes.slots key None)
  all_there key there = valid.second.valued key (stands_second (standing lanes are) key there)

-- ---- of those in flight, by their numbers

apart_all : (key : ℕ) (keys : List ℕ) → ((other : ℕ) → lists_key other keys ≡ true → eqb key other ≡ false) →
    AllByRecursion (λ other. eqb key other ≡ false) keys
apart_all key [] apart = tt
apart_all key (k ∷ keys) apart =
    (apart k (has_first k keys), apart_all key keys (λ other there. apart other (has_later other k keys there)))

pub rise_once : (slots : List (Option Held)) (keys : List ℕ) → SlotsRise IsLess slots keys → IsDistinct eqb keys
unfolding IsDistinct
rise_once slots [] rises = tt
rise_once slots (k ∷ keys) rises = (apart_all k keys apart, rise_once slots keys rises.1)
  where
    apart : (other : ℕ) → lists_key other keys ≡ true → eqb k other ≡ false
    apart other there = elim (eqb_tells k other) [
      | inl same ↦
          let less = subst (λ o. IsLess (get_or slots k None) (get_or slots o None)) (sym same.1)
          (rises.0 other there) in
          absurd (omega (arith, less))
      | inr differs ↦ differs.0
    ]

-- ---- of parts

pub distinct_front : (xs ys : List ℕ) → IsDistinct eqb (xs ++ ys) → IsDistinct eqb xs
unfolding IsDistinct
distinct_front [] ys distinct = tt
distinct_front (x ∷ xs) ys distinct = (front xs distinct.0, distinct_front xs ys distinct.1)
  where
    front : (zs : List ℕ) → AllByRecursion (λ y. eqb x y ≡ false) (zs ++ ys) →
        AllByRecursion (λ y. eqb x y ≡ false) zs
    front [] all = tt
    front (z ∷ zs) all = (all.0, front zs all.1)

pub distinct_filter : (test : ℕ → Bool) (xs : List ℕ) → IsDistinct eqb xs → IsDistinct eqb (filter test xs)
unfolding IsDistinct
distinct_filter test [] distinct = tt
distinct_filter test (x ∷ xs) distinct = by_test (test x) (left xs distinct.0) (distinct_filter test xs distinct.1)
  where
    left : (zs : List ℕ) → AllByRecursion (λ y. eqb x y ≡ false) zs →
        AllByRecursion (λ y. eqb x y ≡ false) (filter test zs)
    left [] all = tt
    left (z ∷ zs) all = by_one (test z) (left zs all.1)
      where
        by_one : (b : Bool) → AllByRecursion (λ y. eqb x y ≡ false) (filter test zs) →
            AllByRecursion (λ y. eqb x y ≡ false) (cond b (z ∷ filter test zs) (filter test zs))
        by_one true rest = (all.0, rest)
        by_one false rest = rest

    by_test : (b : Bool) → AllByRecursion (λ y. eqb x y ≡ false) (filter test xs) → IsDistinct eqb (filter test xs) →
        IsDistinct eqb (cond b (x ∷ filter test xs) (filter test xs))
    by_test true apart rest = (apart, rest)
    by_test false apart rest = rest

-- ---- how long

pub never_longer : (xs ys : List ℕ) → IsDistinct eqb xs → ((key : ℕ) → lists_key key xs ≡ true →
    lists_key key ys ≡ true) →
    length xs ≤ length ys
never_longer xs ys once among = length-le_from_is_member nat_eq_equiv xs ys once among

pub as_long : (xs ys : List ℕ) → IsDistinct eqb xs → IsDistinct eqb ys →
    ((key : ℕ) → lists_key key xs ≡ lists_key key ys) →
    length xs ≡ length ys
as_long xs ys once twice same =
    let short = never_longer xs ys once (λ key there. sym (same key) ∙ there) in
    let long = never_longer ys xs twice (λ key there. same key ∙ there) in
    omega (arith, short, long)

-- without a key
pub keys_but_none : (key : ℕ) (keys : List ℕ) → ((other : ℕ) → lists_key other keys ≡ true → eqb key other ≡ false) →
    keys_but key keys ≡ keys
keys_but_none key [] apart = refl
keys_but_none key (k ∷ keys) apart =
    ap (λ b. cond (not b) (k ∷ keys_but key keys) (keys_but key keys)) (apart k (has_first k keys))
    ∙ ap (λ ks. k ∷ ks) (keys_but_none key keys (λ other there. apart other (has_later other k keys there)))

pub length_but : (key : ℕ) (keys : List ℕ) → IsDistinct eqb keys → lists_key key keys ≡ true →
    length keys ≡ suc (length (keys_but key keys))
unfolding IsDistinct
length_but key [] distinct there = absurd cc
length_but key (k ∷ keys) distinct there =
    elim (eqb_tells key k) [
      | inl same ↦
          ap suc (sym (ap length (
          ap (λ b. cond (not b) (k ∷ keys_but key keys) (keys_but key keys)) same.0
          ∙ keys_but_none key keys (λ other among. among_all other keys
          (subst (λ o. AllByRecursion (λ y. eqb o y ≡ false) keys) (sym same.1) distinct.0) among))))
      | inr differs ↦
          ap suc (length_but key keys distinct.1 (ap (λ b. b || lists_key key keys) (sym differs.0) ∙ there))
          ∙ ap (λ b. suc (length (cond (not b) (k ∷ keys_but key keys) (keys_but key keys)))) (sym differs.0)
    ]
  where
    among_all : (other : ℕ) (ks : List ℕ) → AllByRecursion (λ y. eqb key y ≡ false) ks → lists_key other ks ≡ true →
        eqb key other ≡ false
    among_all other [] all among = absurd cc
    among_all other (q ∷ ks) all among = elim (eqb_tells other q) [
      | inl here ↦ subst (λ o. eqb key o ≡ false) (sym here.1) all.0
      | inr later ↦ among_all other ks all.1 (ap (λ b. b || lists_key other ks) (sym later.0) ∙ among)
    ]

-- no more are in flight than there are
pub few_out : (slots : List (Option Held)) (ready out all : List ℕ) → AreListed slots ready out all →
    length out ≤ length all
few_out slots ready out all listed =
    never_longer out all (rise_once slots out (numbers_in_order slots out listed.by_number))
    (λ key there. (out_key slots ready out all listed key there).0)

-- one fewer is in flight where one of them is taken out, and as many otherwise
module _ (lanes : Lanes Held) (are : AreWoven lanes) (key : ℕ)
    (there : lists_key key (nth_list 0 lanes.second) ≡ true) where
  out_as_passed : lists_key key (nth_list 1 lanes.first) ≡ slot_passes is_out lanes.slots key
  out_as_passed = are.listed.out_keys key ∙ ap (λ b. b && slot_passes is_out lanes.slots key) there

  pub fewer_out : slot_passes is_out lanes.slots key ≡ true →
      length (nth_list 1 lanes.first) ≡ suc (length (keys_but key (nth_list 1 lanes.first)))
  fewer_out holds =
      length_but key (nth_list 1 lanes.first)
      (rise_once lanes.slots (nth_list 1 lanes.first)
      (numbers_in_order lanes.slots (nth_list 1 lanes.first) are.listed.by_number))
      (out_as_passed ∙ holds)

  pub same_many : slot_passes is_out lanes.slots key ≡ false →
      length (nth_list 1 lanes.first) ≡ length (keys_but key (nth_list 1 lanes.first))
  same_many fails =
      ap length (sym (keys_but_none key (nth_list 1 lanes.first)
      (not_this_key key (nth_list 1 lanes.first) (out_as_passed ∙ fails))))
