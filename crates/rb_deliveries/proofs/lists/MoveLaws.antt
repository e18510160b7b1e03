-- What is listed after a key's record changed and it moved to the end of its list, and after it left.
use Rattle.std.proofs.Common.{◌≡◌, ℕ, suc, ◌+◌, Bool, true, false, cond, List, [], ◌∷◌, ◌++◌, map, length}
use Rattle.std.proofs.Common.{get_or, set, eqb, Option, Some, None, IsSome, refl, sym, ap, subst, ◌∙◌, arith}
use Rattle.std.proofs.Common.{length-append}
use Rattle.link_lists.specs.declared.lane.Lane.TheVariants.{First, Second}
use Rattle.link_lists.specs.Lanes.{Lanes, ChangesSlot, StandsIn, with_lane, pushed_back, without_key}
use Rattle.rb_deliveries.specs.declared.rank.Held.{Held}
use Rattle.rb_deliveries.specs.Spans.{is_ready, is_out}
use Rattle.rb_deliveries.specs.Taken.{AreListed, AreWoven, lists_key, held_under, held_in, held_or, nth_list}
use Rattle.rb_deliveries.proofs.lists.KeyLaws.{SetsSlot, has_as, has_but, has_moved, keys_but, slot_set, slot_within}
use Rattle.rb_deliveries.proofs.lists.RiseLaws.{SlotAhead, IsLess, rise_gone, rise_moved, ranks_rise, rise_ranks}
use Rattle.rb_deliveries.proofs.lists.RiseLaws.{numbers_in_order, in_order_numbers}
use Rattle.rb_deliveries.proofs.lists.ListedLaws.{still_all, still_listed}
use Rattle.rb_deliveries.proofs.lists.StandLaws.{StandAs, standing, records_stand, held_stand, out_stand, step_unlinked}
use Rattle.rb_deliveries.proofs.lists.StandLaws.{slot_changed, stands_nowhere, step_dropped, step_in_flight, step_in_line, step_slots}

-- ---- the lists

-- it is ready, and its rank comes after those of all that are
abbrev pub WaitsLast : List (Option Held) → List ℕ → Held → Type 0
WaitsLast slots ready x = (is_ready x.span.status ≡ true) × (is_out x.span.status ≡ false)
    × ((k : ℕ) → lists_key k ready ≡ true → SlotAhead (get_or slots k None) (Some x))

-- it is in flight, and its number is greater than those of all that are
abbrev pub FliesLast : List (Option Held) → List ℕ → Held → Type 0
FliesLast slots out x = (is_ready x.span.status ≡ false) × (is_out x.span.status ≡ true)
    × ((k : ℕ) → lists_key k out ≡ true → IsLess (get_or slots k None) (Some x))

module _ (old new : List (Option Held)) (key : ℕ) (x : Held) (ready out all : List ℕ)
    (sets : SetsSlot key (Some x) old new) (there : lists_key key all ≡ true)
    (listed : AreListed old ready out all) where
  pub moved_ready : WaitsLast old ready x → AreListed new (keys_but key ready ++ key ∷ []) (keys_but key out) all
  moved_ready last = record {
    ready_keys = still_listed is_ready old new key (Some x) true ready (keys_but key ready ++ key ∷ []) all all sets
        (has_as key true all there)
        (λ other. has_moved key other ready ∙ ap (λ b. cond (eqb key other) b (lists_key other ready)) (sym last.0))
        listed.ready_keys;
    out_keys = still_listed is_out old new key (Some x) true out (keys_but key out) all all sets
        (has_as key true all there)
        (λ other. has_but key other out ∙ ap (λ b. cond (eqb key other) b (lists_key other out)) (sym last.1))
        listed.out_keys;
    all_keys = still_all old new key (Some x) all all sets (has_as key true all there) listed.all_keys;
    in_line = rise_ranks new (keys_but key ready ++ key ∷ [])
        (rise_moved SlotAhead old new key (Some x) sets ready (ranks_rise old ready listed.in_line) last.2);
    by_number = in_order_numbers new (keys_but key out)
        (rise_gone IsLess old new key (Some x) sets out (numbers_in_order old out listed.by_number));
  }

  pub moved_out : FliesLast old out x → AreListed new (keys_but key ready) (keys_but key out ++ key ∷ []) all
  moved_out last = record {
    ready_keys = still_listed is_ready old new key (Some x) true ready (keys_but key ready) all all sets
        (has_as key true all there)
        (λ other. has_but key other ready ∙ ap (λ b. cond (eqb key other) b (lists_key other ready)) (sym last.0))
        listed.ready_keys;
    out_keys = still_listed is_out old new key (Some x) true out (keys_but key out ++ key ∷ []) all all sets
        (has_as key true all there)
        (λ other. has_moved key other out ∙ ap (λ b. cond (eqb key other) b (lists_key other out)) (sym last.1))
        listed.out_keys;
    all_keys = still_all old new key (Some x) all all sets (has_as key true all there) listed.all_keys;
    in_line = rise_ranks new (keys_but key ready)
        (rise_gone SlotAhead old new key (Some x) sets ready (ranks_rise old ready listed.in_line));
    by_number = in_order_numbers new (keys_but key out ++ key ∷ [])
        (rise_moved IsLess old new key (Some x) sets out (numbers_in_order old out listed.by_number) last.2);
  }

-- the others' records stay
pub held_moved : (old new : List (Option Held)) (key : ℕ) (x : Held) → SetsSlot key (Some x) old new → (k : ℕ) →
    held_under new k ≡ cond (eqb key k) x (held_under old k)
held_moved old new key x sets k = ap held_or (sets k) ∙ by_key (eqb key k)
  where
    by_key : (b : Bool) → held_or (cond b (Some x) (get_or old k None)) ≡ cond b x (held_under old k)
    by_key true = refl
    by_key false = refl

module _ (old new : List (Option Held)) (key : ℕ) (ready out all : List ℕ) (sets : SetsSlot key None old new)
    (listed : AreListed old ready out all) where
  pub left_listed : AreListed new (keys_but key ready) (keys_but key out) (keys_but key all)
  left_listed = record {
    ready_keys = still_listed is_ready old new key None false ready (keys_but key ready) all (keys_but key all) sets
        (λ other. has_but key other all) (λ other. has_but key other ready) listed.ready_keys;
    out_keys = still_listed is_out old new key None false out (keys_but key out) all (keys_but key all) sets
        (λ other. has_but key other all) (λ other. has_but key other out) listed.out_keys;
    all_keys = still_all old new key None all (keys_but key all) sets (λ other. has_but key other all) listed.all_keys;
    in_line = rise_ranks new (keys_but key ready)
        (rise_gone SlotAhead old new key None sets ready (ranks_rise old ready listed.in_line));
    by_number = in_order_numbers new (keys_but key out)
        (rise_gone IsLess old new key None sets out (numbers_in_order old out listed.by_number));
  }

-- ---- the lanes

-- a key was taken out of its list of the first lane, then its record changed, then it was put at a list's end
pub record KeyMoves (old one two : Lanes Held) (key : ℕ) (change : Held → Held) : Type 0 where
  pub unlinked : one ≡ with_lane First (without_key key old.first) old
  pub changed : two ≡ record one { slots = set one.slots key (Some (change (held_under one.slots key))) }

module _ (old one two new : Lanes Held) (key : ℕ) (change : Held → Held) (are : AreWoven old)
    (moves : KeyMoves old one two key change) (there : lists_key key (nth_list 0 old.second) ≡ true)
    (some : IsSome (get_or old.slots key None)) where
  -- the record then, and the slots
  abbrev changed : Held
  changed = change (held_under old.slots key)

  abbrev slots_then : List (Option Held)
  slots_then = set old.slots key (Some changed)

  pub between : StandAs two slots_then (keys_but key (nth_list 0 old.first)) (keys_but key (nth_list 1 old.first))
      (nth_list 0 old.second)
  between =
      let unlinked = step_unlinked (standing old are) key moves.unlinked in
      subst (λ s. StandAs two (set s key (Some (change (held_under s key)))) (keys_but key (nth_list 0 old.first))
      (keys_but key (nth_list 1 old.first)) (nth_list 0 old.second)) unlinked.slots_are
      (step_slots unlinked (set one.slots key (Some (change (held_under one.slots key)))) one.spare moves.changed)

  pub sets_it : SetsSlot key (Some changed) old.slots slots_then
  sets_it = slot_set old.slots key (Some changed) (slot_within old.slots key some)

  -- to the end of the line
  module _ (joins : new ≡ with_lane First (pushed_back 0 key two.first) two) where
    pub line_lists : StandAs new slots_then (keys_but key (nth_list 0 old.first) ++ key ∷ [])
        (keys_but key (nth_list 1 old.first)) (nth_list 0 old.second)
    line_lists = step_in_line between key joins

    pub line_records : WaitsLast old.slots (nth_list 0 old.first) changed → AreWoven new
    line_records last =
        records_stand line_lists (moved_ready old.slots slots_then key changed (nth_list 0 old.first)
        (nth_list 1 old.first) (nth_list 0 old.second) sets_it there are.listed last)

    pub line_out : nth_list 1 new.first ≡ keys_but key (nth_list 1 old.first)
    line_out = out_stand line_lists

  -- to the end of those in flight
  module _ (joins : new ≡ with_lane First (pushed_back 1 key two.first) two) where
    pub flight_lists : StandAs new slots_then (keys_but key (nth_list 0 old.first))
        (keys_but key (nth_list 1 old.first) ++ key ∷ []) (nth_list 0 old.second)
    flight_lists = step_in_flight between key joins

    pub flight_records : FliesLast old.slots (nth_list 1 old.first) changed → AreWoven new
    flight_records last =
        records_stand flight_lists (moved_out old.slots slots_then key changed (nth_list 0 old.first)
        (nth_list 1 old.first) (nth_list 0 old.second) sets_it there are.listed last)

    pub flight_out : length (nth_list 1 new.first) ≡ suc (length (keys_but key (nth_list 1 old.first)))
    flight_out =
        let more = length-append (keys_but key (nth_list 1 old.first)) (key ∷ []) in
        ap length (out_stand flight_lists) ∙ omega (arith, more)

-- a key that was taken out of its list can be put at the end of one
pub free_between : (old one two : Lanes Held) (key : ℕ) (change : Held → Held) → KeyMoves old one two key change →
    StandsIn key two.first → ⊥
free_between old one two key change moves stands =
    stands_nowhere key old.first
    (subst (StandsIn key)
    (ap (λ (l : Lanes Held). l.first) moves.changed ∙ ap (λ (l : Lanes Held). l.first) moves.unlinked) stands)

-- a key was taken out of both lanes, and its record with it
module _ (old one two new : Lanes Held) (key : ℕ) (are : AreWoven old)
    (unlinked : one ≡ with_lane First (without_key key old.first) old)
    (dropped : two ≡ with_lane Second (without_key key one.second) one)
    (removed : new ≡ record two { slots = set two.slots key None; spare = two.spare + 1 })
    (changes : ChangesSlot two new key None) where
  both_left : StandAs two old.slots (keys_but key (nth_list 0 old.first)) (keys_but key (nth_list 1 old.first))
      (keys_but key (nth_list 0 old.second))
  both_left = step_dropped (step_unlinked (standing old are) key unlinked) key dropped

  left_lists : StandAs new new.slots (keys_but key (nth_list 0 old.first)) (keys_but key (nth_list 1 old.first))
      (keys_but key (nth_list 0 old.second))
  left_lists = record {
    slots_are = refl;
    two_lists = ap (λ (l : Lanes Held). l.first) removed ∙ both_left.two_lists;
    one_list = ap (λ (l : Lanes Held). l.second) removed ∙ both_left.one_list;
  }

  left_sets : SetsSlot key None old.slots new.slots
  left_sets = subst (λ s. SetsSlot key None s new.slots) both_left.slots_are (slot_changed two new key None changes)

  pub left_records : AreWoven new
  left_records =
      records_stand left_lists (left_listed old.slots new.slots key (nth_list 0 old.first) (nth_list 1 old.first)
      (nth_list 0 old.second) left_sets are.listed)

  pub left_held : held_in new ≡ map (held_under new.slots) (keys_but key (nth_list 0 old.second))
  left_held = held_stand left_lists

  pub left_same : (k : ℕ) → eqb key k ≡ false → held_under new.slots k ≡ held_under old.slots k
  left_same k apart = ap held_or (left_sets k ∙ ap (λ b. cond b None (get_or old.slots k None)) apart)

-- before the record is removed, its key stands nowhere
module _ (old one two : Lanes Held) (key : ℕ) (unlinked : one ≡ with_lane First (without_key key old.first) old)
    (dropped : two ≡ with_lane Second (without_key key one.second) one) where
  pub free_first : StandsIn key two.first → ⊥
  free_first stands =
      stands_nowhere key old.first
      (subst (StandsIn key)
      (ap (λ (l : Lanes Held). l.first) dropped ∙ ap (λ (l : Lanes Held). l.first) unlinked) stands)

  pub free_second : StandsIn key two.second → ⊥
  free_second stands =
      stands_nowhere key one.second (subst (StandsIn key) (ap (λ (l : Lanes Held). l.second) dropped) stands)
