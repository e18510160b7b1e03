-- The first of a list: of all spans, and of those in line, whose rank is the least.
use Rattle.std.proofs.Common.{◌≡◌, ℕ, ◌||◌, ◌&&◌, Bool, true, false, List, [], ◌∷◌, ◌++◌, map, get_or}
use Rattle.std.proofs.Common.{Option, Some, None, option_map, slice_get, refl, sym, ap, subst, ◌∙◌, ◌⊎◌, inl, inr}
use Rattle.std.proofs.Common.{if◌then◌else◌}
use Rattle.std.specs.List.{AllByRecursion}
use Rattle.std.proofs.lemmas.Bool.Decides.{eqb_tells}
use Rattle.std.proofs.lemmas.List.{map-append}
use Rattle.link_lists.specs.Lanes.{Lanes, AreLanes, first_key}
use Rattle.rb_deliveries.specs.declared.span.Span.{Span}
use Rattle.rb_deliveries.specs.declared.rank.Held.{Held}
use Rattle.rb_deliveries.specs.Queues.{better, earlier, least}
use Rattle.rb_deliveries.specs.Spans.{is_ready}
use Rattle.rb_deliveries.specs.Taken.{AreWoven, lists_key, held_under, held_in, nth_list, slot_passes}
use Rattle.rb_deliveries.proofs.orders.Line.{earlier_asymmetric}
use Rattle.rb_deliveries.proofs.lists.KeyLaws.{all_keys, has_first}
use Rattle.rb_deliveries.proofs.lists.RiseLaws.{SlotAhead, SlotsRise, ranks_rise}
use Rattle.rb_deliveries.proofs.lists.ListedLaws.{both_hold, passed_held, passed_some, some_held}
use Rattle.rb_deliveries.proofs.lists.ReadyLaws.{no_first, ready_alike}
use Rattle.rb_deliveries.proofs.lists.FindLaws.{span_there}
use Rattle.rb_deliveries.proofs.lists.OnceLaws.{all_there}

-- ---- the first of all

pub first_held : (lanes : Lanes Held) (at : Option ℕ) → at ≡ first_key (nth_list 0 lanes.second) →
    slice_get (held_in lanes) 0 ≡ option_map (held_under lanes.slots) at
first_held lanes at is = by_list (nth_list 0 lanes.second) ∙ ap (option_map (held_under lanes.slots)) (sym is)
  where
    by_list : (keys : List ℕ) → slice_get (map (held_under lanes.slots) keys) 0
        ≡ option_map (held_under lanes.slots) (first_key keys)
    by_list [] = refl
    by_list (k ∷ keys) = refl

pub front_has : (keys : List ℕ) (key : ℕ) → Some key ≡ first_key keys → lists_key key keys ≡ true
front_has [] key is = absurd cc
front_has (k ∷ keys) key is = let same : k ≡ key = cc in subst (λ q. lists_key q (k ∷ keys) ≡ true) same
    (has_first k keys)

pub first_span : (lanes : Lanes Held) → AreLanes lanes → AreWoven lanes → (at : Option ℕ) (key : ℕ) →
    at ≡ first_key (nth_list 0 lanes.second) → at ≡ Some key → (r : Option Span) →
    r ≡ option_map (λ h. h.span) (get_or lanes.slots key None) →
    r ≡ option_map (λ h. h.span) (slice_get (held_in lanes) 0)
first_span lanes valid are at key front is r span =
    span_there is_ready lanes.slots key r span
    (all_there lanes valid are key (front_has (nth_list 0 lanes.second) key (sym is ∙ front)))
    ∙ sym (ap (option_map (λ h. h.span)) (first_held lanes at front ∙ ap (option_map (held_under lanes.slots)) is))

-- ---- the least rank

-- a span that is ready is this one, or in line behind it
abbrev AtOrBehind : Held → Held → Type 0
AtOrBehind h x = is_ready x.span.status ≡ true → (x ≡ h) ⊎ (earlier h.rank x.rank ≡ true)

abbrev NoneAhead : Held → Option Held → Type 0
NoneAhead h None = Unit {0}
NoneAhead h (Some x) = (x ≡ h) ⊎ (earlier h.rank x.rank ≡ true)

module _ (h : Held) where
  least_behind : (xs : List Held) → AllByRecursion (AtOrBehind h) xs → NoneAhead h (least xs)
  least_behind [] all = tt
  least_behind (x ∷ xs) all = by_ready (is_ready x.span.status) refl (least xs) (least_behind xs all.1)
    where
      by_ready : (b : Bool) → is_ready x.span.status ≡ b → (o : Option Held) → NoneAhead h o →
          NoneAhead h (better (if b then Some x else None) o)
      by_ready false waits o behind = behind
      by_ready true ready None behind = all.0 ready
      by_ready true ready (Some y) behind = by_rank (earlier y.rank x.rank)
        where
          by_rank : (b : Bool) → NoneAhead h (if b then Some y else Some x)
          by_rank true = behind
          by_rank false = all.0 ready

  -- of two of which one is this, and the other this or behind it, this one
  before_behind : (o : Option Held) → NoneAhead h o → better (Some h) o ≡ Some h
  before_behind None behind = refl
  before_behind (Some y) behind = elim behind [
    | inl same ↦ by_rank (earlier y.rank h.rank) same
    | inr later ↦ ap (λ b. if b then Some y else Some h) (earlier_asymmetric h.rank y.rank later)
  ]
    where
      by_rank : (b : Bool) → y ≡ h → (if b then Some y else Some h) ≡ Some h
      by_rank true same = ap (λ (z : Held). Some z) same
      by_rank false same = refl

  behind_this : (x : Held) → (x ≡ h) ⊎ (earlier h.rank x.rank ≡ true) → better (Some x) (Some h) ≡ Some h
  behind_this x behind = elim behind [
    | inl same ↦ by_rank (earlier h.rank x.rank) same
    | inr later ↦ ap (λ b. if b then Some h else Some x) later
  ]
    where
      by_rank : (b : Bool) → x ≡ h → (if b then Some h else Some x) ≡ Some h
      by_rank true same = refl
      by_rank false same = ap (λ (z : Held). Some z) same

  least_found : (front back : List Held) → is_ready h.span.status ≡ true →
      AllByRecursion (AtOrBehind h) (front ++ h ∷ back) → least (front ++ h ∷ back) ≡ Some h
  least_found [] back ready all =
      ap (λ b. better (if b then Some h else None) (least back)) ready ∙ before_behind (least back)
      (least_behind back all.1)
  least_found (x ∷ front) back ready all =
      ap (better (if is_ready x.span.status then Some x else None)) (least_found front back ready all.1)
      ∙ by_ready (is_ready x.span.status) refl
    where
      by_ready : (b : Bool) → is_ready x.span.status ≡ b → better (if b then Some x else None) (Some h) ≡ Some h
      by_ready false waits = refl
      by_ready true there = behind_this x (all.0 there)

-- a key that is there stands somewhere
record StandsBetween (key : ℕ) (keys : List ℕ) : Type 0 where
  front : List ℕ
  back : List ℕ
  parts : keys ≡ front ++ key ∷ back

stands_between : (key : ℕ) (keys : List ℕ) → lists_key key keys ≡ true → StandsBetween key keys
stands_between key [] there = absurd cc
stands_between key (k ∷ keys) there =
    elim (eqb_tells key k) [
      | inl same ↦ record { front = []; back = keys; parts = ap (λ (q : ℕ). q ∷ keys) (sym same.1) }
      | inr differs ↦
          let s = stands_between key keys (ap (λ b. b || lists_key key keys) (sym differs.0) ∙ there) in
          record { front = k ∷ s.front; back = s.back; parts = ap (λ ks. k ∷ ks) s.parts }
    ]

-- the front of the line has the least rank
module _ (lanes : Lanes Held) (are : AreWoven lanes) where
  pub least_front : (at : Option ℕ) (key : ℕ) → at ≡ first_key (nth_list 0 lanes.first) → at ≡ Some key →
      least (held_in lanes) ≡ Some (held_under lanes.slots key)
  least_front at key front is =
      by_line (nth_list 0 lanes.first) (sym is ∙ front) are.listed.ready_keys
      (ranks_rise lanes.slots (nth_list 0 lanes.first) are.listed.in_line)
    where
      by_line : (line : List ℕ) → Some key ≡ first_key line →
          ((k : ℕ) → lists_key k line ≡ (lists_key k (nth_list 0 lanes.second) && slot_passes is_ready lanes.slots k)) →
          SlotsRise SlotAhead lanes.slots line → least (held_in lanes) ≡ Some (held_under lanes.slots key)
      by_line [] first keys rises = absurd cc
      by_line (k ∷ line) first keys rises =
          let same : k ≡ key = cc in
          let f = held_under lanes.slots in
          let all = nth_list 0 lanes.second in
          let both = both_hold (lists_key k all) (slot_passes is_ready lanes.slots k)
          (sym (keys k) ∙ has_first k line) in
          let s = stands_between k all both.0 in
          let parts : held_in lanes ≡ map f s.front ++ f k ∷ map f s.back =
          ap (map f) s.parts ∙ map-append f s.front (k ∷ s.back) in
          let behind : AllByRecursion (AtOrBehind (f k)) (held_in lanes) =
          all_keys (AtOrBehind (f k)) f all (λ q there ready.
          let waits : lists_key q (k ∷ line) ≡ true =
          keys q ∙ ap (λ b. b && slot_passes is_ready lanes.slots q) there
          ∙ ready_alike (get_or lanes.slots q None) ∙ ready in
          elim (eqb_tells q k) [
            | inl here ↦ inl (ap f here.1)
            | inr differs ↦ inr (rises.0 q (ap (λ b. b || lists_key q line) (sym differs.0) ∙ waits))
          ]) in
          ap least parts
          ∙ least_found (f k) (map f s.front) (map f s.back) (passed_held is_ready (get_or lanes.slots k None) both.1)
          (subst (AllByRecursion (AtOrBehind (f k))) parts behind)
          ∙ ap (λ (q : ℕ). Some (f q)) same

  -- its record is that
  pub line_front : (at : Option ℕ) (key : ℕ) → at ≡ first_key (nth_list 0 lanes.first) → at ≡ Some key →
      (r : Option Held) → r ≡ get_or lanes.slots key None → r ≡ least (held_in lanes)
  line_front at key front is r record_is =
      let there = front_has (nth_list 0 lanes.first) key (sym is ∙ front) in
      let both = both_hold (lists_key key (nth_list 0 lanes.second)) (slot_passes is_ready lanes.slots key)
      (sym (are.listed.ready_keys key) ∙ there) in
      record_is ∙ some_held (get_or lanes.slots key None) (passed_some is_ready (get_or lanes.slots key None) both.1)
      ∙ sym (least_front at key front is)

  pub least_none : (at : Option ℕ) → at ≡ first_key (nth_list 0 lanes.first) → at ≡ None →
      least (held_in lanes) ≡ None
  least_none at front is =
      let empty = no_first (nth_list 0 lanes.first) at is front in
      none_least (held_in lanes) (all_keys (λ h. is_ready h.span.status ≡ false) (held_under lanes.slots)
      (nth_list 0 lanes.second) (λ key there.
      sym (ready_alike (get_or lanes.slots key None))
      ∙ sym (ap (λ b. b && slot_passes is_ready lanes.slots key) there) ∙ sym (are.listed.ready_keys key)
      ∙ ap (lists_key key) empty))
    where
      none_least : (xs : List Held) → AllByRecursion (λ h. is_ready h.span.status ≡ false) xs → least xs ≡ None
      none_least [] all = refl
      none_least (x ∷ xs) all =
          ap (λ b. better (if b then Some x else None) (least xs)) all.0 ∙ none_least xs all.1
