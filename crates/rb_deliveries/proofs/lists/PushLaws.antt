-- What is listed after a span joins in flight, after all others.
use Rattle.std.proofs.Common.{◌≡◌, ℕ, ◌&&◌, true, false, cond, List, [], ◌∷◌, ◌++◌, map, get_or, eqb}
use Rattle.std.proofs.Common.{Option, Some, None, refl, sym, ap, ◌∙◌, arith, length, suc, length-append}
use Rattle.std.proofs.lemmas.List.{map-append}
use Rattle.link_lists.specs.declared.lane.Lane.TheVariants.{First, Second}
use Rattle.link_lists.specs.Lanes.{Lanes, ChangesSlot, StandsIn, with_lane, pushed_back}
use Rattle.rb_deliveries.specs.declared.span.Status.{Status}
use Rattle.rb_deliveries.specs.declared.span.Status.TheVariants.{Ready, InFlight}
use Rattle.rb_deliveries.specs.declared.rank.Held.{Held}
use Rattle.rb_deliveries.specs.Spans.{is_ready, is_out}
use Rattle.rb_deliveries.specs.Subs.{IsNewest}
use Rattle.rb_deliveries.specs.Taken.{AreListed, AreWoven, GoesLast, lists_key, held_under, held_in, held_or, nth_list}
use Rattle.rb_deliveries.specs.Taken.{number_of, slot_passes}
use Rattle.rb_deliveries.proofs.lists.KeyLaws.{SetsSlot, has_as, has_pushed, key_same, map_keys, not_this_key}
use Rattle.rb_deliveries.proofs.lists.RiseLaws.{SlotAhead, IsLess, rise_kept, rise_joined, ranks_rise, rise_ranks}
use Rattle.rb_deliveries.proofs.lists.RiseLaws.{numbers_in_order, in_order_numbers}
use Rattle.rb_deliveries.proofs.lists.ListedLaws.{out_less, still_all, still_listed}
use Rattle.rb_deliveries.proofs.lists.StandLaws.{StandAs, standing, records_stand, held_stand, not_among, out_stand}
use Rattle.rb_deliveries.proofs.lists.StandLaws.{slot_changed, step_in_flight, step_last, step_slots}

-- what goes last is in flight, and the newest
record GoesOut (status : Status) (spans : List Held) : Type 0 where
  flies : is_out status ≡ true
  waits : is_ready status ≡ false
  newest : IsNewest (number_of status) spans

goes_out : (status : Status) (spans : List Held) → GoesLast status spans → GoesOut status spans
goes_out (Ready taken) spans last = absurd last
goes_out (InFlight number moment) spans last = record { flies = refl; waits = refl; newest = last }

module _ (old new : List (Option Held)) (key : ℕ) (held : Held) (ready out all : List ℕ)
    (sets : SetsSlot key (Some held) old new) (free : lists_key key all ≡ false) (listed : AreListed old ready out all)
    (last : GoesLast held.span.status (map (held_under old) all)) where
  goes : GoesOut held.span.status (map (held_under old) all)
  goes = goes_out held.span.status (map (held_under old) all) last

  not_ready : lists_key key ready ≡ false
  not_ready = listed.ready_keys key ∙ ap (λ b. b && slot_passes is_ready old key) free

  not_out : lists_key key out ≡ false
  not_out = listed.out_keys key ∙ ap (λ b. b && slot_passes is_out old key) free

  pub pushed_listed : AreListed new ready (out ++ key ∷ []) (all ++ key ∷ [])
  pushed_listed = record {
    ready_keys = still_listed is_ready old new key (Some held) true ready ready all (all ++ key ∷ []) sets
        (λ other. has_pushed key other all)
        (has_as key (is_ready held.span.status) ready (not_ready ∙ sym goes.waits)) listed.ready_keys;
    out_keys = still_listed is_out old new key (Some held) true out (out ++ key ∷ []) all (all ++ key ∷ []) sets
        (λ other. has_pushed key other all)
        (λ other. has_pushed key other out ∙ ap (λ b. cond (eqb key other) b (lists_key other out)) (sym goes.flies))
        listed.out_keys;
    all_keys = still_all old new key (Some held) all (all ++ key ∷ []) sets (λ other. has_pushed key other all)
        listed.all_keys;
    in_line = rise_ranks new ready (rise_kept SlotAhead old new key (Some held) sets ready
        (not_this_key key ready not_ready) (ranks_rise old ready listed.in_line));
    by_number = in_order_numbers new (out ++ key ∷ []) (rise_joined IsLess old new key (Some held) sets out
        (not_this_key key out not_out) (numbers_in_order old out listed.by_number)
        (λ k there. out_less old ready out all listed k (number_of held.span.status) goes.newest there));
  }

  pub pushed_held : map (held_under new) (all ++ key ∷ []) ≡ map (held_under old) all ++ held ∷ []
  pushed_held =
      map-append (held_under new) all (key ∷ [])
      ∙ (λ i. map_keys (held_under new) (held_under old) all same i ++ own i ∷ [])
    where
      same : (k : ℕ) → lists_key k all ≡ true → held_under new k ≡ held_under old k
      same k there =
          ap held_or (sets k ∙ ap (λ b. cond b (Some held) (get_or old k None)) (not_this_key key all free k there))

      own : held_under new key ≡ held
      own = ap held_or (sets key ∙ ap (λ b. cond b (Some held) (get_or old key None)) (key_same key))

-- a record under a new key, in flight, and one of all
module _ (old one two three : Lanes Held) (key : ℕ) (held : Held) (are : AreWoven old)
    (first : one ≡ record old { slots = one.slots; spare = one.spare })
    (second : two ≡ with_lane First (pushed_back 1 key one.first) one)
    (third : three ≡ with_lane Second (pushed_back 0 key two.second) two)
    (free : StandsIn key old.second → ⊥) (changes : ChangesSlot old one key (Some held))
    (last : GoesLast held.span.status (held_in old)) where
  new_lists : StandAs three one.slots (nth_list 0 old.first) (nth_list 1 old.first ++ key ∷ [])
      (nth_list 0 old.second ++ key ∷ [])
  new_lists = step_last (step_in_flight (step_slots (standing old are) one.slots one.spare first) key second) key third

  pub pushed_records : AreWoven three
  pushed_records = records_stand new_lists
      (pushed_listed old.slots one.slots key held (nth_list 0 old.first) (nth_list 1 old.first) (nth_list 0 old.second)
      (slot_changed old one key (Some held) changes) (not_among (standing old are) key free) are.listed last)

  pub pushed_spans : held_in three ≡ held_in old ++ held ∷ []
  pushed_spans = held_stand new_lists
      ∙ pushed_held old.slots one.slots key held (nth_list 0 old.first) (nth_list 1 old.first) (nth_list 0 old.second)
      (slot_changed old one key (Some held) changes) (not_among (standing old are) key free) are.listed last

  pub pushed_out : length (nth_list 1 three.first) ≡ suc (length (nth_list 1 old.first))
  pushed_out =
      let more = length-append (nth_list 1 old.first) (key ∷ []) in
      ap length (out_stand new_lists) ∙ omega (arith, more)
