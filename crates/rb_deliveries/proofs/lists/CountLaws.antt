-- How many spans there are, and how many of them are ready.
use Rattle.std.proofs.Common.{◌≡◌, ℕ, zero, suc, ◌+◌, ◌||◌, Bool, true, false, cond, filter, List, [], ◌∷◌, map}
use Rattle.std.proofs.Common.{length, get_or, eqb, Option, None, is_some, refl, sym, ap, ◌∙◌}
use Rattle.std.specs.List.{AllByRecursion, IsDistinct}
use Rattle.std.proofs.Math.Dec.{eqb-suc-suc, eqb-suc-zero, eqb-zero-suc}
use Rattle.std.proofs.lemmas.List.{length-map}
use Rattle.std.proofs.lemmas.List.Sums.{length-filter}
use Rattle.link_lists.specs.Lanes.{Lanes, AreLanes, value_count}
use Rattle.rb_deliveries.specs.declared.rank.Held.{Held}
use Rattle.rb_deliveries.specs.Queues.{spans_of}
use Rattle.rb_deliveries.specs.Spans.{how_many_ready}
use Rattle.rb_deliveries.specs.Taken.{AreWoven, lists_key, held_in, held_under, nth_list}
use Rattle.rb_deliveries.proofs.spans.ManyLaws.{ready_or_out}
use Rattle.rb_deliveries.proofs.lists.KeyLaws.{has_first}
use Rattle.rb_deliveries.proofs.lists.OnceLaws.{all_once, as_long}
use Rattle.rb_deliveries.proofs.lists.OutLaws.{many_out}

-- ---- the keys that have a value

abbrev valued : List (Option Held) → List ℕ
valued [] = []
valued (slot ∷ slots) = cond (is_some slot) (0 ∷ map suc (valued slots)) (map suc (valued slots))

first_gone : (keys : List ℕ) → lists_key 0 (map suc keys) ≡ false
first_gone [] = refl
first_gone (q ∷ keys) = ap (λ b. b || lists_key 0 (map suc keys)) (eqb-zero-suc q) ∙ first_gone keys

later_has : (k : ℕ) (keys : List ℕ) → lists_key (suc k) (map suc keys) ≡ lists_key k keys
later_has k [] = refl
later_has k (q ∷ keys) = λ i. eqb-suc-suc k q i || later_has k keys i

valued_has : (slots : List (Option Held)) (k : ℕ) → lists_key k (valued slots) ≡ is_some (get_or slots k None)
valued_has [] k = refl
valued_has (slot ∷ slots) zero = by_slot (is_some slot)
  where
    by_slot : (b : Bool) → lists_key 0 (cond b (0 ∷ map suc (valued slots)) (map suc (valued slots))) ≡ b
    by_slot true = has_first 0 (map suc (valued slots))
    by_slot false = first_gone (valued slots)
valued_has (slot ∷ slots) (suc k) = by_slot (is_some slot) ∙ later_has k (valued slots) ∙ valued_has slots k
  where
    by_slot : (b : Bool) → lists_key (suc k) (cond b (0 ∷ map suc (valued slots)) (map suc (valued slots)))
        ≡ lists_key (suc k) (map suc (valued slots))
    by_slot true = ap (λ b. b || lists_key (suc k) (map suc (valued slots))) (eqb-suc-zero k)
    by_slot false = refl

zero_apart : (keys : List ℕ) → AllByRecursion (λ q. eqb 0 q ≡ false) (map suc keys)
zero_apart [] = tt
zero_apart (q ∷ keys) = (eqb-zero-suc q, zero_apart keys)

later_apart : (k : ℕ) (keys : List ℕ) → AllByRecursion (λ q. eqb k q ≡ false) keys →
    AllByRecursion (λ q. eqb (suc k) q ≡ false) (map suc keys)
later_apart k [] apart = tt
later_apart k (q ∷ keys) apart = (eqb-suc-suc k q ∙ apart.0, later_apart k keys apart.1)

later_once : (keys : List ℕ) → IsDistinct eqb keys → IsDistinct eqb (map suc keys)
unfolding IsDistinct
later_once [] once = tt
later_once (k ∷ keys) once = (later_apart k keys once.0, later_once keys once.1)

valued_once : (slots : List (Option Held)) → IsDistinct eqb (valued slots)
unfolding IsDistinct
valued_once [] = tt
valued_once (slot ∷ slots) = by_slot (is_some slot) (later_once (valued slots) (valued_once slots))
  where
    by_slot : (b : Bool) → IsDistinct eqb (map suc (valued slots)) →
        IsDistinct eqb (cond b (0 ∷ map suc (valued slots)) (map suc (valued slots)))
    by_slot true once = (zero_apart (valued slots), once)
    by_slot false once = once

valued_long : (slots : List (Option Held)) → length (valued slots) ≡ length (filter is_some slots)
valued_long [] = refl
valued_long (slot ∷ slots) = by_slot (is_some slot) (length-map (valued slots) suc ∙ valued_long slots)
  where
    by_slot : (b : Bool) → length (map suc (valued slots)) ≡ length (filter is_some slots) →
        length (cond b (0 ∷ map suc (valued slots)) (map suc (valued slots)))
        ≡ length (cond b (slot ∷ filter is_some slots) (filter is_some slots))
    by_slot true same = ap suc same
    by_slot false same = same

-- ---- how many

module _ (lanes : Lanes Held) (valid : AreLanes lanes) (are : AreWoven lanes) where
  -- there are as many values as spans
  values_many : value_count lanes ≡ length (held_in lanes)
  values_many =
      sym (length-filter is_some lanes.slots) ∙ sym (valued_long lanes.slots)
      ∙ as_long (valued lanes.slots) (nth_list 0 lanes.second) (valued_once lanes.slots) (all_once lanes valid are)
      (λ key. valued_has lanes.slots key ∙ sym (are.listed.all_keys key))
      ∙ sym (length-map (nth_list 0 lanes.second) (held_under lanes.slots))

  -- those that are not in flight are ready
  pub many_ready : how_many_ready (spans_of (held_in lanes)) + length (nth_list 1 lanes.first) ≡ value_count lanes
  many_ready =
      ap (λ n. how_many_ready (spans_of (held_in lanes)) + n) (many_out lanes valid are)
      ∙ ready_or_out (held_in lanes) ∙ sym values_many
