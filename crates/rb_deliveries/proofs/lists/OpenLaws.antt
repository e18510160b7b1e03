-- A span that is opened: its record becomes that of its first number, and each further number joins after the last.
use Rattle.std.proofs.Common.{◌≡◌, ℕ, suc, ◌+◌, ◌-◌, ◌<◌, ◌≤◌, ◌||◌, ◌==◌, Bool, true, false, cond, List, []}
use Rattle.std.proofs.Common.{◌∷◌, ◌++◌}
use Rattle.std.proofs.Common.{map, length, set, eqb, Option, Some, refl, sym, ap, subst, ◌∙◌, inl, inr}
use Rattle.std.proofs.Common.{arith, append-nil, append_assoc}
use Rattle.std.specs.List.{AllByRecursion}
use Rattle.std.proofs.lemmas.Bool.Decides.{eqb_tells}
use Rattle.std.proofs.lemmas.List.{map-append}
use Rattle.link_lists.specs.declared.lane.Lane.TheVariants.{First}
use Rattle.link_lists.specs.Lanes.{Lanes, pushed_back, with_lane}
use Rattle.rb_deliveries.specs.declared.rank.Held.{Held}
use Rattle.rb_deliveries.specs.declared.rank.Rank.{Rank}
use Rattle.rb_deliveries.specs.Queues.{HeldRise, earlier}
use Rattle.rb_deliveries.specs.Opening.{RiseFromOne, opened_held, single_held, singles_held, rank_after}
use Rattle.rb_deliveries.specs.Subs.{IsDrawn}
use Rattle.rb_deliveries.specs.Taken.{AddsAfter, AreWoven, IsKeyOf, NoSpanBegins, lists_key, held_in, held_under}
use Rattle.rb_deliveries.specs.Taken.{nth_list, rank_under}
use Rattle.rb_deliveries.proofs.lists.KeyLaws.{all_keys, has_behind, has_in_front, has_later, key_of_all}
use Rattle.rb_deliveries.proofs.lists.KeyLaws.{key_same, keys_but, map_keys, not_this_key}
use Rattle.rb_deliveries.proofs.lists.ListedLaws.{ready_key}
use Rattle.rb_deliveries.proofs.lists.StandLaws.{StandAs, out_stand, standing, step_in_line, step_unlinked}
use Rattle.rb_deliveries.proofs.lists.MoveLaws.{KeyMoves, between, held_moved, line_records, sets_it}
use Rattle.rb_deliveries.proofs.lists.RestateLaws.{begin_later, begins_one}
use Rattle.rb_deliveries.proofs.lists.PutLaws.{SplitsAt, key_splits, not_in_parts}
use Rattle.rb_deliveries.proofs.lists.AddLaws.{added_free, added_has, added_keys, added_out, added_own, added_records}
use Rattle.rb_deliveries.proofs.lists.AddLaws.{added_same}
use Rattle.rb_deliveries.proofs.spans.OpenedLaws.{opened_between, singles_more}

-- ---- ranks

-- a rank that was drawn comes before that of each number from 1 on
opened_drawn_before : (latest t : Rank) (n : ℕ) → IsDrawn latest.front latest.turn t → 1 ≤ n →
    earlier t (rank_after latest n) ≡ true
opened_drawn_before latest t n drawn some = before t.front t.turn latest.front latest.turn drawn.0 drawn.1
  where
    before : (f u g v : ℕ) → f ≤ g → u ≤ v →
        earlier (record { front = f; turn = u }) (record { front = g; turn = v + n }) ≡ true
    before f u g v front turn = grind arith

-- a lesser number's rank comes before it
less_before : (latest : Rank) (m n : ℕ) → m < n → earlier (rank_after latest m) (rank_after latest n) ≡ true
less_before latest m n less = before latest.front latest.turn
  where
    before : (g v : ℕ) → earlier (record { front = g; turn = v + m }) (record { front = g; turn = v + n }) ≡ true
    before g v = grind arith

-- what comes before a number's rank comes before that of the next number
before_next : (latest t : Rank) (n : ℕ) → earlier t (rank_after latest n) ≡ true →
    earlier t (rank_after latest (n + 1)) ≡ true
before_next latest t n is = next t.front t.turn latest.front latest.turn is
  where
    next : (f u g v : ℕ) → earlier (record { front = f; turn = u }) (record { front = g; turn = v + n }) ≡ true →
        earlier (record { front = f; turn = u }) (record { front = g; turn = v + (n + 1) }) ≡ true
    next f u g v is = grind arith

-- ---- spans that rise, under their keys

module _ (f : ℕ → Held) where
  -- the span under one of the keys begins at `low` or later, and does not end before
  pub key_numbers : (low : ℕ) (keys : List ℕ) (next : ℕ) → HeldRise low (map f keys) next → (key : ℕ) →
      lists_key key keys ≡ true → (low ≤ (f key).span.first) × ((f key).span.first ≤ (f key).span.last)
  key_numbers low [] next rise key there = absurd cc
  key_numbers low (k ∷ keys) next rise key there = elim (eqb_tells key k) [
    | inl same ↦
        subst (λ o. (low ≤ (f o).span.first) × ((f o).span.first ≤ (f o).span.last)) (sym same.1) (rise.0, rise.1)
    | inr differs ↦
        let later = key_numbers (suc (f k).span.last) keys next rise.2 key
        (ap (λ b. b || lists_key key keys) (sym differs.0) ∙ there) in
        (omega (arith, later.0, rise.0, rise.1), later.1)
  ]

  -- a key does not stand there again
  not_again : (low : ℕ) (before : List ℕ) (key : ℕ) (after : List ℕ) (next : ℕ) →
      HeldRise low (map f (before ++ key ∷ after)) next → lists_key key after ≡ false
  not_again low [] key after next rise = by_case (lists_key key after) refl
    where
      by_case : (b : Bool) → lists_key key after ≡ b → b ≡ false
      by_case false is = refl
      by_case true is =
          let later = begin_later f (suc (f key).span.last) after next rise.2 key is in
          absurd (omega (arith, later, rise.1))
  not_again low (k ∷ before) key after next rise = not_again (suc (f k).span.last) before key after next rise.2

-- ---- the numbers so far

-- The numbers from `first` to n are spans of their own, the last of them under key `at`. Opening what was there at the
-- start gives what stands before them, all numbers of the span, and what stands after it.
pub record IsOpening (first last : ℕ) (latest : Rank) (start : List Held) (now : Lanes Held) (flying n at : ℕ)
    : Type 0 where
  pub before : List ℕ
  pub after : List ℕ
  pub front : List Held
  pub back : List Held
  pub count : ℕ
  pub woven : AreWoven now
  pub flies : flying ≡ length (nth_list 1 now.first)
  pub keys : nth_list 0 now.second ≡ before ++ at ∷ after
  pub not_before : lists_key at before ≡ false
  pub not_after : lists_key at after ≡ false
  pub numbers : first + count ≡ n
  pub opened : map (held_under now.slots) before ≡ front ++ singles_held latest first count
  pub here : held_under now.slots at ≡ single_held latest n
  pub rest : map (held_under now.slots) after ≡ back
  pub whole : opened_held first latest start ≡ front ++ (singles_held latest first (suc last - first) ++ back)
  pub room : last ≤ n + now.spare
  pub line : (k : ℕ) → lists_key k (nth_list 0 now.second) ≡ true →
      earlier (rank_under now.slots k) (rank_after latest (n + 1)) ≡ true

-- ---- it begins

module _ (old one two new : Lanes Held) (first last key flying : ℕ) (latest : Rank) (are : AreWoven old)
    (rising : RiseFromOne (held_in old))
    (drawn : AllByRecursion (λ h. IsDrawn latest.front latest.turn h.rank) (held_in old))
    (is : IsKeyOf old first key) (moves : KeyMoves old one two key (λ h. single_held latest first))
    (joins : new ≡ with_lane First (pushed_back 0 key two.first) two) where
  abbrev all : List ℕ
  all = nth_list 0 old.second

  abbrev slots_then : List (Option Held)
  slots_then = set old.slots key (Some (single_held latest first))

  numbers_there : (1 ≤ first) × (first ≤ (held_under old.slots key).span.last)
  numbers_there =
      let n = key_numbers (held_under old.slots) 1 all rising.0 rising.1 key is.there in
      (omega (arith, n.0, is.begins), omega (arith, n.1, is.begins))

  drawn_there : (k : ℕ) → lists_key k all ≡ true → IsDrawn latest.front latest.turn (rank_under old.slots k)
  drawn_there k there =
      key_of_all (λ h. IsDrawn latest.front latest.turn h.rank) (held_under old.slots) all k drawn there

  moved : (k : ℕ) → held_under slots_then k ≡ cond (eqb key k) (single_held latest first) (held_under old.slots k)
  moved = held_moved old.slots slots_then key (single_held latest first)
      (sets_it old one two new key (λ h. single_held latest first) are moves is.there is.kept)

  begun_woven : AreWoven new
  begun_woven =
      line_records old one two new key (λ h. single_held latest first) are moves is.there is.kept joins (
        refl,
        refl,
        λ k there. opened_drawn_before latest (rank_under old.slots k) first
            (drawn_there k (ready_key old.slots (nth_list 0 old.first) (nth_list 1 old.first) all are.listed k
            there).0)
            numbers_there.0,
      )

  begun_lists : StandAs new slots_then (keys_but key (nth_list 0 old.first) ++ key ∷ [])
      (keys_but key (nth_list 1 old.first)) all
  begun_lists =
      step_in_line (between old one two new key (λ h. single_held latest first) are moves is.there is.kept) key joins

  then_under : (k : ℕ) → held_under new.slots k ≡ cond (eqb key k) (single_held latest first) (held_under old.slots k)
  then_under k = ap (λ s. held_under s k) begun_lists.slots_are ∙ moved k

  same_under : (keys : List ℕ) → lists_key key keys ≡ false →
      map (held_under new.slots) keys ≡ map (held_under old.slots) keys
  same_under keys free =
      map_keys (held_under new.slots) (held_under old.slots) keys (λ k there.
      then_under k
      ∙ ap (λ b. cond b (single_held latest first) (held_under old.slots k)) (not_this_key key keys free k there))

  none_begins : (keys : List ℕ) → lists_key key keys ≡ false →
      ((k : ℕ) → lists_key k keys ≡ true → lists_key k all ≡ true) →
      NoSpanBegins first (map (held_under old.slots) keys)
  none_begins keys free among =
      all_keys (λ h. (h.span.first == first) ≡ false) (held_under old.slots) keys (λ k there.
      begins_one old first key is (1, rising.0, rising.1) k (among k there) ∙ not_this_key key keys free k there)

  begun_line : (k : ℕ) → lists_key k all ≡ true →
      earlier (rank_under new.slots k) (rank_after latest (first + 1)) ≡ true
  begun_line k there =
      subst (λ (h : Held). earlier h.rank (rank_after latest (first + 1)) ≡ true) (sym (then_under k))
      (by_key (eqb key k))
    where
      by_key : (b : Bool) →
          earlier (cond b (single_held latest first) (held_under old.slots k)).rank (rank_after latest (first + 1))
          ≡ true
      by_key true = less_before latest first (first + 1) (omega arith)
      by_key false = opened_drawn_before latest (rank_under old.slots k) (first + 1) (drawn_there k there) (omega arith)

  module _ (ends : last ≡ (held_under old.slots key).span.last) (splits : SplitsAt key all) where
    not_behind : lists_key key splits.after ≡ false
    not_behind =
        not_again (held_under old.slots) 1 splits.before key splits.after rising.0
        (subst (λ ks. HeldRise 1 (map (held_under old.slots) ks) rising.0) splits.parts rising.1)

    in_front : (k : ℕ) → lists_key k splits.before ≡ true → lists_key k all ≡ true
    in_front k there = ap (lists_key k) splits.parts ∙ has_in_front k splits.before (key ∷ splits.after) there

    behind : (k : ℕ) → lists_key k splits.after ≡ true → lists_key k all ≡ true
    behind k there =
        ap (lists_key k) splits.parts
        ∙ has_behind k splits.before (key ∷ splits.after) (has_later k key splits.after there)

    opened_there : opened_held first latest (held_in old) ≡ map (held_under old.slots) splits.before
        ++ (singles_held latest first (suc last - first) ++ map (held_under old.slots) splits.after)
    opened_there =
        ap (opened_held first latest) (ap (map (held_under old.slots)) splits.parts
        ∙ map-append (held_under old.slots) splits.before (key ∷ splits.after))
        ∙ opened_between first latest (map (held_under old.slots) splits.before) (held_under old.slots key)
        (map (held_under old.slots) splits.after) (none_begins splits.before splits.not_before in_front)
        (none_begins splits.after not_behind behind) is.begins
        ∙ ap (λ e. map (held_under old.slots) splits.before
        ++ (singles_held latest first (suc e - first) ++ map (held_under old.slots) splits.after)) (sym ends)

    begun : flying ≡ length (nth_list 1 one.first) → last ≤ first + old.spare →
        IsOpening first last latest (held_in old) new flying first key
    begun many room = record {
      before = splits.before;
      after = splits.after;
      front = map (held_under old.slots) splits.before;
      back = map (held_under old.slots) splits.after;
      count = 0;
      woven = begun_woven;
      flies = many ∙ ap length (out_stand (step_unlinked (standing old are) key moves.unlinked))
          ∙ sym (ap length (out_stand begun_lists));
      keys = ap (nth_list 0) begun_lists.one_list ∙ splits.parts;
      not_before = splits.not_before;
      not_after = not_behind;
      numbers = omega arith;
      opened = same_under splits.before splits.not_before
          ∙ sym (append-nil (map (held_under old.slots) splits.before));
      here = then_under key
          ∙ ap (λ b. cond b (single_held latest first) (held_under old.slots key)) (key_same key);
      rest = same_under splits.after not_behind;
      whole = opened_there;
      room = omega (
        arith,
        room,
        ap (λ (l : Lanes Held). l.spare) joins
            ∙ ap (λ (l : Lanes Held). l.spare) moves.changed ∙ ap (λ (l : Lanes Held). l.spare) moves.unlinked,
      );
      line = λ k there. begun_line k (sym (ap (λ s. lists_key k (nth_list 0 s)) begun_lists.one_list) ∙ there);
    }

  pub opening_begins : flying ≡ length (nth_list 1 one.first) → last ≡ (held_under old.slots key).span.last →
      last ≤ first + old.spare → IsOpening first last latest (held_in old) new flying first key
  opening_begins many ends room = begun ends (key_splits key all is.there) many room

-- memory was taken for the new records first, which changes nothing else
module _ (start old one two new : Lanes Held) (first last key flying : ℕ) (latest : Rank)
    (same : old ≡ record start { spare = old.spare }) (are : AreWoven start) (is : IsKeyOf start first key)
    (moves : KeyMoves old one two key (λ h. single_held latest first)) where
  woven_reserved : AreWoven old
  woven_reserved = subst AreWoven (sym same) (record { two = are.two; one = are.one; listed = are.listed })

  key_reserved : IsKeyOf old first key
  key_reserved =
      subst (λ (l : Lanes Held). IsKeyOf l first key) (sym same)
      (record { there = is.there; kept = is.kept; begins = is.begins })

  held_reserved : held_in start ≡ held_in old
  held_reserved = sym (ap held_in same)

  pub opening_starts : RiseFromOne (held_in start) →
      AllByRecursion (λ h. IsDrawn latest.front latest.turn h.rank) (held_in start) →
      new ≡ with_lane First (pushed_back 0 key two.first) two → flying ≡ length (nth_list 1 one.first) →
      last ≡ (held_under start.slots key).span.last → last ≤ first + old.spare →
      IsOpening first last latest (held_in start) new flying first key
  opening_starts rising drawn joins many ends room =
      subst (λ held. IsOpening first last latest held new flying first key) (sym held_reserved)
      (opening_begins old one two new first last key flying latest woven_reserved
      (subst RiseFromOne held_reserved rising)
      (subst (AllByRecursion (λ h. IsDrawn latest.front latest.turn h.rank)) held_reserved drawn) key_reserved moves
      joins many (ends ∙ sym (ap (λ (l : Lanes Held). (held_under l.slots key).span.last) same)) room)

-- ---- it goes on

module _ (first last : ℕ) (latest : Rank) (start : List Held) (now new : Lanes Held) (flying n at key : ℕ)
    (o : IsOpening first last latest start now flying n at)
    (adds : AddsAfter now new at key (single_held latest (n + 1))) where
  abbrev added : Held
  added = single_held latest (n + 1)

  free_then : lists_key key ((o.before ++ at ∷ []) ++ o.after) ≡ false
  free_then =
      ap (lists_key key) (append_assoc o.before (at ∷ []) o.after ∙ sym o.keys)
      ∙ added_free now new at key added o.before o.after o.woven adds o.keys

  free_parts : (lists_key key (o.before ++ at ∷ []) ≡ false) × (lists_key key o.after ≡ false)
  free_parts = not_in_parts key (o.before ++ at ∷ []) o.after free_then

  stays_under : (keys : List ℕ) → lists_key key keys ≡ false →
      map (held_under new.slots) keys ≡ map (held_under now.slots) keys
  stays_under keys free =
      map_keys (held_under new.slots) (held_under now.slots) keys (λ k there.
      added_same now new at key added o.before o.after o.woven adds o.keys k (not_this_key key keys free k there))

  opened_then : map (held_under new.slots) (o.before ++ at ∷ []) ≡ o.front ++ singles_held latest first (suc o.count)
  opened_then =
      stays_under (o.before ++ at ∷ []) free_parts.0
      ∙ map-append (held_under now.slots) o.before (at ∷ [])
      ∙ (λ i. o.opened i ++ o.here i ∷ [])
      ∙ append_assoc o.front (singles_held latest first o.count) (single_held latest n ∷ [])
      ∙ ap (λ hs. o.front ++ hs)
      (ap (λ m. singles_held latest first o.count ++ single_held latest m ∷ []) (sym o.numbers)
      ∙ sym (singles_more latest first o.count))

  line_then : (k : ℕ) → lists_key k (nth_list 0 new.second) ≡ true →
      earlier (rank_under new.slots k) (rank_after latest (n + 1 + 1)) ≡ true
  line_then k there = elim (eqb_tells key k) [
    | inl same ↦
        subst (λ (h : Held). earlier h.rank (rank_after latest (n + 1 + 1)) ≡ true)
        (sym (ap (held_under new.slots) (sym same.1)
        ∙ added_own now new at key added o.before o.after o.woven adds o.keys))
        (less_before latest (n + 1) (n + 1 + 1) (omega arith))
    | inr differs ↦
        subst (λ (h : Held). earlier h.rank (rank_after latest (n + 1 + 1)) ≡ true)
        (sym (added_same now new at key added o.before o.after o.woven adds o.keys k differs.0))
        (before_next latest (rank_under now.slots k) (n + 1) (o.line k (
        ap (λ b. cond b true (lists_key k (nth_list 0 now.second))) (sym differs.0)
        ∙ sym (ap (lists_key k)
        (added_keys now new at key added o.before o.after o.woven adds o.keys o.not_before o.not_after)
        ∙ added_has now new at key added o.before o.after o.woven adds o.keys k)
        ∙ there)))
  ]

  pub opening_goes : IsOpening first last latest start new flying (n + 1) key
  opening_goes = record {
    before = o.before ++ at ∷ [];
    after = o.after;
    front = o.front;
    back = o.back;
    count = suc o.count;
    woven = added_records now new at key added o.before o.after o.woven adds o.keys o.not_before o.not_after refl refl
        (λ k waits. o.line k (ready_key now.slots (nth_list 0 now.first) (nth_list 1 now.first)
        (nth_list 0 now.second) o.woven.listed k waits).0);
    flies = o.flies ∙ sym (ap length
        (added_out now new at key added o.before o.after o.woven adds o.keys o.not_before o.not_after));
    keys = added_keys now new at key added o.before o.after o.woven adds o.keys o.not_before o.not_after;
    not_before = free_parts.0;
    not_after = free_parts.1;
    numbers = omega (arith, o.numbers);
    opened = opened_then;
    here = added_own now new at key added o.before o.after o.woven adds o.keys;
    rest = stays_under o.after free_parts.1 ∙ o.rest;
    whole = o.whole;
    room = omega (arith, o.room, adds.spare);
    line = line_then;
  }

-- ---- it ends

module _ (first last : ℕ) (latest : Rank) (start : List Held) (now : Lanes Held) (flying n at : ℕ)
    (o : IsOpening first last latest start now flying n at) (over : n ≡ last) where
  all_numbers : suc o.count ≡ suc last - first
  all_numbers = omega (arith, o.numbers, over)

  all_singles : singles_held latest first o.count ++ single_held latest n ∷ o.back
      ≡ singles_held latest first (suc last - first) ++ o.back
  all_singles =
      sym (append_assoc (singles_held latest first o.count) (single_held latest n ∷ []) o.back)
      ∙ ap (λ hs. hs ++ o.back)
      (ap (λ m. singles_held latest first o.count ++ single_held latest m ∷ []) (sym o.numbers)
      ∙ sym (singles_more latest first o.count) ∙ ap (singles_held latest first) all_numbers)

  pub opening_ends : held_in now ≡ opened_held first latest start
  opening_ends =
      ap (map (held_under now.slots)) o.keys
      ∙ map-append (held_under now.slots) o.before (at ∷ o.after)
      ∙ (λ i. o.opened i ++ o.here i ∷ o.rest i)
      ∙ append_assoc o.front (singles_held latest first o.count) (single_held latest n ∷ o.back)
      ∙ ap (λ hs. o.front ++ hs) all_singles
      ∙ sym o.whole
