-- What is listed after a record joins the end of the line, directly after another among all.
use Rattle.std.proofs.Common.{◌≡◌, ℕ, ◌&&◌, true, false, cond, List, [], ◌∷◌, ◌++◌, get_or, eqb, Some}
use Rattle.std.proofs.Common.{None, refl, sym, ap, ◌∙◌, append_assoc}
use Rattle.link_lists.specs.Lanes.{Lanes, pushed_back, put_after}
use Rattle.rb_deliveries.specs.declared.rank.Held.{Held}
use Rattle.rb_deliveries.specs.Spans.{is_ready, is_out}
use Rattle.rb_deliveries.specs.Taken.{AddsAfter, AreListed, AreWoven, lists_key, held_or, held_under, nth_list}
use Rattle.rb_deliveries.specs.Taken.{slot_passes}
use Rattle.rb_deliveries.proofs.lists.KeyLaws.{SetsSlot, has_as, has_pushed, key_same, not_this_key}
use Rattle.rb_deliveries.proofs.lists.RiseLaws.{SlotAhead, IsLess, rise_kept, rise_joined, ranks_rise, rise_ranks}
use Rattle.rb_deliveries.proofs.lists.RiseLaws.{numbers_in_order, in_order_numbers}
use Rattle.rb_deliveries.proofs.lists.ListedLaws.{still_all, still_listed}
use Rattle.rb_deliveries.proofs.lists.PutLaws.{put_has_between, put_key_there}
use Rattle.rb_deliveries.proofs.lists.StandLaws.{StandAs, standing, records_stand, not_among, out_stand, slot_changed}

module _ (old new : Lanes Held) (at key : ℕ) (h : Held) (before after : List ℕ) (are : AreWoven old)
    (adds : AddsAfter old new at key h) (keys : nth_list 0 old.second ≡ before ++ at ∷ after) where
  abbrev ready : List ℕ
  ready = nth_list 0 old.first

  abbrev out : List ℕ
  out = nth_list 1 old.first

  abbrev all : List ℕ
  all = nth_list 0 old.second

  abbrev all_then : List ℕ
  all_then = (before ++ at ∷ []) ++ key ∷ after

  sets : SetsSlot key (Some h) old.slots new.slots
  sets = slot_changed old new key (Some h) adds.slots

  pub added_free : lists_key key all ≡ false
  added_free = not_among (standing old are) key adds.free

  pub added_has : (other : ℕ) → lists_key other all_then ≡ cond (eqb key other) true (lists_key other all)
  added_has other =
      put_has_between key other (before ++ at ∷ []) after
      ∙ ap (λ ks. cond (eqb key other) true (lists_key other ks)) (append_assoc before (at ∷ []) after ∙ sym keys)

  -- the new record, and the others
  pub added_own : held_under new.slots key ≡ h
  added_own = ap held_or (sets key ∙ ap (λ b. cond b (Some h) (get_or old.slots key None)) (key_same key))

  pub added_same : (k : ℕ) → eqb key k ≡ false → held_under new.slots k ≡ held_under old.slots k
  added_same k apart = ap held_or (sets k ∙ ap (λ b. cond b (Some h) (get_or old.slots k None)) apart)

  -- the lists
  module _ (not_before : lists_key at before ≡ false) (not_after : lists_key at after ≡ false) where
    pub added_lists : StandAs new new.slots (ready ++ key ∷ []) out all_then
    added_lists = record {
      slots_are = refl;
      two_lists = adds.first ∙ ap (pushed_back 0 key) are.two;
      one_list = adds.second ∙ ap (put_after at key) (are.one ∙ ap (λ ks. ks ∷ []) keys)
          ∙ ap (λ ks. ks ∷ []) (put_key_there at key before after not_before not_after
          ∙ sym (append_assoc before (at ∷ []) (key ∷ after)));
    }

    pub added_out : nth_list 1 new.first ≡ out
    added_out = out_stand added_lists

    pub added_keys : nth_list 0 new.second ≡ all_then
    added_keys = ap (nth_list 0) added_lists.one_list

    -- it is ready, and comes after all that are
    module _ (waits : is_ready h.span.status ≡ true) (rests : is_out h.span.status ≡ false)
        (last : (k : ℕ) → lists_key k ready ≡ true → SlotAhead (get_or old.slots k None) (Some h)) where
      not_ready : lists_key key ready ≡ false
      not_ready = are.listed.ready_keys key ∙ ap (λ b. b && slot_passes is_ready old.slots key) added_free

      not_out : lists_key key out ≡ false
      not_out = are.listed.out_keys key ∙ ap (λ b. b && slot_passes is_out old.slots key) added_free

      added_listed : AreListed new.slots (ready ++ key ∷ []) out all_then
      added_listed = record {
        ready_keys = still_listed is_ready old.slots new.slots key (Some h) true ready (ready ++ key ∷ []) all all_then
            sets added_has
            (λ other. has_pushed key other ready
            ∙ ap (λ b. cond (eqb key other) b (lists_key other ready)) (sym waits))
            are.listed.ready_keys;
        out_keys = still_listed is_out old.slots new.slots key (Some h) true out out all all_then sets added_has
            (has_as key (is_out h.span.status) out (not_out ∙ sym rests)) are.listed.out_keys;
        all_keys = still_all old.slots new.slots key (Some h) all all_then sets added_has are.listed.all_keys;
        in_line = rise_ranks new.slots (ready ++ key ∷ []) (rise_joined SlotAhead old.slots new.slots key (Some h)
            sets ready (not_this_key key ready not_ready) (ranks_rise old.slots ready are.listed.in_line) last);
        by_number = in_order_numbers new.slots out (rise_kept IsLess old.slots new.slots key (Some h) sets out
            (not_this_key key out not_out) (numbers_in_order old.slots out are.listed.by_number));
      }

      pub added_records : AreWoven new
      added_records = records_stand added_lists added_listed
