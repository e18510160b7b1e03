-- What is in flight: the span of a delivery, and how many pass a test, by the list of those in flight.
use Rattle.std.proofs.Common.{◌≡◌, ℕ, ◌+◌, ◌≤◌, ◌||◌, ◌&&◌, Bool, true, false, cond, List, [], ◌∷◌, ◌++◌, map, length}
use Rattle.std.proofs.Common.{append-nil, length-append}
use Rattle.std.proofs.Common.{get_or, eqb, filter, find, Option, Some, None, option_map, refl, sym, ap, ◌∙◌}
use Rattle.std.proofs.Common.{inl, inr, arith, suc}
use Rattle.std.proofs.lemmas.Bool.Decides.{eqb_tells}
use Rattle.std.proofs.lemmas.List.Elements.{filter-append}
use Rattle.std.proofs.lemmas.Map.Views.{any-filter_same}
use Rattle.link_lists.specs.Lanes.{Lanes, AreLanes}
use Rattle.rb_deliveries.specs.declared.span.Span.{Span}
use Rattle.rb_deliveries.specs.declared.span.Status.{Status}
use Rattle.rb_deliveries.specs.declared.span.Status.TheVariants.{Ready, InFlight}
use Rattle.rb_deliveries.specs.declared.rank.Held.{Held}
use Rattle.rb_deliveries.specs.Queues.{spans_of}
use Rattle.rb_deliveries.specs.Spans.{how_many_out, is_due, is_out, is_out_as, out_as}
use Rattle.rb_deliveries.specs.Taken.{AreWoven, lists_key, held_under, held_in, nth_list, number_of, status_passes}
use Rattle.rb_deliveries.specs.Taken.{slot_passes}
use Rattle.rb_deliveries.proofs.lists.KeyLaws.{has_first, has_later}
use Rattle.rb_deliveries.proofs.lists.RiseLaws.{IsLess, SlotsRise, numbers_in_order}
use Rattle.rb_deliveries.proofs.lists.ListedLaws.{held_passes, passed_held, passed_some}
use Rattle.rb_deliveries.proofs.lists.WalkLaws.{IsWalk}
use Rattle.rb_deliveries.proofs.lists.FindLaws.{NonePass, find_either, find_none, find_spans, span_there, walk_finds}
use Rattle.rb_deliveries.proofs.lists.OnceLaws.{all_once, all_there, as_long, distinct_filter, rise_once}

-- a test that only spans in flight pass
abbrev pub OnlyOut : (Status → Bool) → Type 0
OnlyOut test = (status : Status) → test status ≡ true → is_out status ≡ true

pub delivery_is_out : (d : ℕ) → OnlyOut (is_out_as d)
delivery_is_out d (Ready taken) is = absurd cc
delivery_is_out d (InFlight number moment) is = refl

pub due_is_out : (timeout clock : ℕ) → OnlyOut (is_due timeout clock)
due_is_out timeout clock (Ready taken) is = absurd cc
due_is_out timeout clock (InFlight number moment) is = refl

pub out_is_out_alone : OnlyOut is_out
out_is_out_alone status is = is

pub passes_out : (test : Status → Bool) → OnlyOut test → (slot : Option Held) → status_passes test slot ≡ true →
    status_passes is_out slot ≡ true
passes_out test only None is = absurd cc
passes_out test only (Some h) is = only h.span.status is

-- one more key is counted if it passes
pub count_more : (test : ℕ → Bool) (before : List ℕ) (key n m : ℕ) → n ≡ length (filter test before) →
    m ≡ cond (test key) (n + 1) n → m ≡ length (filter test (before ++ key ∷ []))
count_more test before key n m is more =
    more ∙ by_test (test key)
    ∙ sym (ap length (filter-append test before (key ∷ [])))
  where
    by_test : (b : Bool) → cond b (n + 1) n ≡ length (filter test before ++ cond b (key ∷ []) [])
    by_test true = omega (arith, is, length-append (filter test before) (key ∷ []))
    by_test false = is ∙ sym (ap length (append-nil (filter test before)))

pub count_front : (test : ℕ → Bool) (keys : List ℕ) → length (filter test keys) ≤ length keys
count_front test [] = omega arith
count_front test (k ∷ keys) = by_test (test k) (count_front test keys)
  where
    by_test : (b : Bool) → length (filter test keys) ≤ length keys →
        length (cond b (k ∷ filter test keys) (filter test keys)) ≤ suc (length keys)
    by_test true rest = omega (arith, rest)
    by_test false rest = omega (arith, rest)

module _ (lanes : Lanes Held) (are : AreWoven lanes) (test : Status → Bool) (only : OnlyOut test) where
  -- those that pass it are in flight
  pub same_out : (key : ℕ) → slot_passes test lanes.slots key ≡ true →
      lists_key key (nth_list 1 lanes.first) ≡ lists_key key (nth_list 0 lanes.second)
  same_out key holds =
      are.listed.out_keys key
      ∙ ap (λ b. lists_key key (nth_list 0 lanes.second) && b)
      (passes_out test only (get_or lanes.slots key None) holds)
      ∙ and_true (lists_key key (nth_list 0 lanes.second))
    where
      and_true : (b : Bool) → (b && true) ≡ b
      and_true true = refl
      and_true false = refl

  pub test_alike : AreLanes lanes → (key : ℕ) → lists_key key (nth_list 0 lanes.second) ≡ true →
      slot_passes test lanes.slots key ≡ test (held_under lanes.slots key).span.status
  test_alike valid key there = held_passes test (get_or lanes.slots key None) (all_there lanes valid are key there)

  -- ---- how many

  has_filter : (key : ℕ) (keys : List ℕ) → lists_key key (filter (slot_passes test lanes.slots) keys)
      ≡ (slot_passes test lanes.slots key && lists_key key keys)
  has_filter key keys =
      any-filter_same (eqb key) (slot_passes test lanes.slots) (slot_passes test lanes.slots key)
      (λ k found. elim (eqb_tells key k) [
        | inl same ↦ ap (slot_passes test lanes.slots) (sym same.1)
        | inr differs ↦ absurd cc
      ]) keys

  pub as_many : AreLanes lanes → length (filter (slot_passes test lanes.slots) (nth_list 1 lanes.first))
      ≡ length (filter (slot_passes test lanes.slots) (nth_list 0 lanes.second))
  as_many valid =
      let p = slot_passes test lanes.slots in
      let out = nth_list 1 lanes.first in
      let all = nth_list 0 lanes.second in
      as_long (filter p out) (filter p all)
      (distinct_filter p out (rise_once lanes.slots out (numbers_in_order lanes.slots out are.listed.by_number)))
      (distinct_filter p all (all_once lanes valid are))
      (λ key. has_filter key out ∙ by_test key (p key) refl ∙ sym (has_filter key all))
    where
      by_test : (key : ℕ) (b : Bool) → slot_passes test lanes.slots key ≡ b →
          (b && lists_key key (nth_list 1 lanes.first)) ≡ (b && lists_key key (nth_list 0 lanes.second))
      by_test key true holds = same_out key holds
      by_test key false fails = refl

  held_count : (keys : List ℕ) → ((key : ℕ) → lists_key key keys ≡ true →
      slot_passes test lanes.slots key ≡ test (held_under lanes.slots key).span.status) →
      length (filter (λ h. test h.span.status) (map (held_under lanes.slots) keys))
      ≡ length (filter (slot_passes test lanes.slots) keys)
  held_count [] alike = refl
  held_count (k ∷ keys) alike =
      ap (λ b. length (cond b
      (held_under lanes.slots k ∷ filter (λ h. test h.span.status) (map (held_under lanes.slots) keys))
      (filter (λ h. test h.span.status) (map (held_under lanes.slots) keys)))) (sym (alike k (has_first k keys)))
      ∙ by_test (slot_passes test lanes.slots k) (held_count keys (λ key there. alike key (has_later key k keys there)))
    where
      by_test : (b : Bool) → length (filter (λ h. test h.span.status) (map (held_under lanes.slots) keys))
          ≡ length (filter (slot_passes test lanes.slots) keys)
          → length (cond b (held_under lanes.slots k ∷ filter (λ h. test h.span.status)
          (map (held_under lanes.slots) keys))
          (filter (λ h. test h.span.status) (map (held_under lanes.slots) keys)))
          ≡ length (cond b (k ∷ filter (slot_passes test lanes.slots) keys)
          (filter (slot_passes test lanes.slots) keys))
      by_test true rest = ap suc rest
      by_test false rest = rest

  -- as many keys in flight pass it as spans do
  pub many_pass : AreLanes lanes → length (filter (slot_passes test lanes.slots) (nth_list 1 lanes.first))
      ≡ length (filter (λ h. test h.span.status) (held_in lanes))
  many_pass valid = as_many valid ∙ sym (held_count (nth_list 0 lanes.second) (test_alike valid))

-- how many are in flight
module _ (lanes : Lanes Held) (valid : AreLanes lanes) (are : AreWoven lanes) where
  all_pass : (keys : List ℕ) → ((key : ℕ) → lists_key key keys ≡ true → slot_passes is_out lanes.slots key ≡ true) →
      filter (slot_passes is_out lanes.slots) keys ≡ keys
  all_pass [] holds = refl
  all_pass (k ∷ keys) holds =
      ap (λ b. cond b (k ∷ filter (slot_passes is_out lanes.slots) keys) (filter (slot_passes is_out lanes.slots) keys))
      (holds k (has_first k keys))
      ∙ ap (λ ks. k ∷ ks) (all_pass keys (λ key there. holds key (has_later key k keys there)))

  span_count : (xs : List Held) → how_many_out (spans_of xs) ≡ length (filter (λ h. is_out h.span.status) xs)
  span_count [] = refl
  span_count (x ∷ xs) = by_test (is_out x.span.status) (span_count xs)
    where
      by_test : (b : Bool) → how_many_out (spans_of xs) ≡ length (filter (λ h. is_out h.span.status) xs)
          → length (cond b (x.span ∷ filter (λ p. is_out p.status) (spans_of xs))
          (filter (λ p. is_out p.status) (spans_of xs)))
          ≡ length (cond b (x ∷ filter (λ h. is_out h.span.status) xs) (filter (λ h. is_out h.span.status) xs))
      by_test true rest = ap suc rest
      by_test false rest = rest

  pub many_out : length (nth_list 1 lanes.first) ≡ how_many_out (spans_of (held_in lanes))
  many_out =
      ap length (sym (all_pass (nth_list 1 lanes.first) (λ key there.
      both_parts (lists_key key (nth_list 0 lanes.second)) (slot_passes is_out lanes.slots key)
      (sym (are.listed.out_keys key) ∙ there))))
      ∙ many_pass lanes are is_out out_is_out_alone valid ∙ sym (span_count (held_in lanes))
    where
      both_parts : (a b : Bool) → (a && b) ≡ true → b ≡ true
      both_parts true b is = is
      both_parts false b is = absurd cc

  -- ---- the span of a delivery

  module _ (d : ℕ) where
    has_number : (status : Status) → is_out_as d status ≡ true → number_of status ≡ d
    has_number (Ready taken) is = absurd cc
    has_number (InFlight number moment) is =
        elim (eqb_tells number d) [ inl same ↦ same.1 | inr differs ↦ absurd cc ]

    one_number : (keys : List ℕ) → SlotsRise IsLess lanes.slots keys → (j k : ℕ) → lists_key j keys ≡ true →
        lists_key k keys ≡ true → number_of (held_under lanes.slots j).span.status ≡ d →
        number_of (held_under lanes.slots k).span.status ≡ d → j ≡ k
    one_number [] rises j k here there is same = absurd cc
    one_number (q ∷ keys) rises j k here there is same =
        elim (eqb_tells j q) [
          | inl first ↦ elim (eqb_tells k q) [
            | inl second ↦ first.1 ∙ sym second.1
            | inr other ↦
                let less = rises.0 k (ap (λ b. b || lists_key k keys) (sym other.0) ∙ there) in
                let number = ap (λ o. number_of (held_under lanes.slots o).span.status) first.1 in
                absurd (omega (arith, less, number, is, same))
          ]
          | inr apart ↦ elim (eqb_tells k q) [
            | inl second ↦
                let less = rises.0 j (ap (λ b. b || lists_key j keys) (sym apart.0) ∙ here) in
                let number = ap (λ o. number_of (held_under lanes.slots o).span.status) second.1 in
                absurd (omega (arith, less, number, is, same))
            | inr other ↦
                one_number keys rises.1 j k (ap (λ b. b || lists_key j keys) (sym apart.0) ∙ here)
                (ap (λ b. b || lists_key k keys) (sym other.0) ∙ there) is same
          ]
        ]

    pub out_as_is : out_as d (spans_of (held_in lanes)) ≡ option_map (λ key. (held_under lanes.slots key).span)
        (find (slot_passes (is_out_as d) lanes.slots) (nth_list 1 lanes.first))
    out_as_is =
        find_spans (is_out_as d) lanes.slots (nth_list 0 lanes.second)
        (test_alike lanes are (is_out_as d) (delivery_is_out d) valid)
        ∙ ap (option_map (λ key. (held_under lanes.slots key).span))
        (sym (find_either (slot_passes (is_out_as d) lanes.slots) (nth_list 1 lanes.first) (nth_list 0 lanes.second)
        (same_out lanes are (is_out_as d) (delivery_is_out d))
        (λ j k here there is same.
        one_number (nth_list 1 lanes.first)
        (numbers_in_order lanes.slots (nth_list 1 lanes.first) are.listed.by_number) j k here there
        (has_number (held_under lanes.slots j).span.status
        (passed_held (is_out_as d) (get_or lanes.slots j None) is))
        (has_number (held_under lanes.slots k).span.status
        (passed_held (is_out_as d) (get_or lanes.slots k None) same)))))

    -- a walk along those in flight found it, or none
    pub out_here : (i key : ℕ) (at : Option ℕ) →
        IsWalk (NonePass (slot_passes (is_out_as d) lanes.slots)) (nth_list 1 lanes.first) i at → at ≡ Some key →
        slot_passes (is_out_as d) lanes.slots key ≡ true → (r : Option Span) →
        r ≡ option_map (λ h. h.span) (get_or lanes.slots key None) → r ≡ out_as d (spans_of (held_in lanes))
    out_here i key at walk is holds r span =
        span_there (is_out_as d) lanes.slots key r span
        (passed_some (is_out_as d) (get_or lanes.slots key None) holds)
        ∙ sym (out_as_is ∙ ap (option_map (λ key. (held_under lanes.slots key).span))
        (walk_finds (slot_passes (is_out_as d) lanes.slots) (nth_list 1 lanes.first) i at key walk is holds))

    pub none_out : NonePass (slot_passes (is_out_as d) lanes.slots) (nth_list 1 lanes.first) →
        out_as d (spans_of (held_in lanes)) ≡ None
    none_out none =
        out_as_is ∙ ap (option_map (λ key. (held_under lanes.slots key).span))
        (find_none (slot_passes (is_out_as d) lanes.slots) (nth_list 1 lanes.first) none)
