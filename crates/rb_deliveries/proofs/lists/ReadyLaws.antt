-- The first ready span: a walk along all finds it, and passes no more spans than are in flight.
use Rattle.std.proofs.Common.{◌≡◌, ℕ, ◌≤◌, ◌&&◌, Bool, true, false, List, [], ◌∷◌, ◌++◌, length, get_or}
use Rattle.std.proofs.Common.{eqb, find, Option, Some, None, IsSome, option_map, refl, sym, ap, subst, ◌∙◌, arith}
use Rattle.std.proofs.Common.{append_assoc, length-append}
use Rattle.std.specs.List.{IsDistinct}
use Rattle.link_lists.specs.Lanes.{Lanes, AreLanes, first_key}
use Rattle.rb_deliveries.specs.declared.span.Span.{Span}
use Rattle.rb_deliveries.specs.declared.span.Status.{Status}
use Rattle.rb_deliveries.specs.declared.span.Status.TheVariants.{Ready, InFlight}
use Rattle.rb_deliveries.specs.declared.rank.Held.{Held}
use Rattle.rb_deliveries.specs.Queues.{spans_of}
use Rattle.rb_deliveries.specs.Spans.{first_ready, is_ready, is_out}
use Rattle.rb_deliveries.specs.Taken.{AreWoven, lists_key, held_under, held_in, held_or, nth_list, status_passes}
use Rattle.rb_deliveries.specs.Taken.{slot_passes}
use Rattle.rb_deliveries.proofs.lists.KeyLaws.{has_in_front}
use Rattle.rb_deliveries.proofs.lists.ListedLaws.{passed_some}
use Rattle.rb_deliveries.proofs.lists.WalkLaws.{WalkAt, IsWalk, walk_at}
use Rattle.rb_deliveries.proofs.lists.FindLaws.{NonePass, find_none, find_spans, none_pass_more, span_there}
use Rattle.rb_deliveries.proofs.lists.FindLaws.{walk_finds}
use Rattle.rb_deliveries.proofs.lists.OnceLaws.{all_once, all_there, distinct_front, never_longer}

pub no_first : (keys : List ℕ) (r : Option ℕ) → r ≡ None → r ≡ first_key keys → keys ≡ []
no_first [] r none is = refl
no_first (k ∷ keys) r none is = absurd cc

pub ready_alike : (slot : Option Held) → status_passes is_ready slot ≡ is_ready (held_or slot).span.status
ready_alike None = refl
ready_alike (Some h) = refl

-- a record that isn't ready is in flight
flies_unless_ready : (slot : Option Held) → IsSome slot → status_passes is_ready slot ≡ false →
    status_passes is_out slot ≡ true
flies_unless_ready None some fails = absurd cc
flies_unless_ready (Some h) some fails = by_status h.span.status fails
  where
    by_status : (status : Status) → is_ready status ≡ false → is_out status ≡ true
    by_status (Ready taken) fails = absurd cc
    by_status (InFlight number moment) fails = refl

module _ (lanes : Lanes Held) (are : AreWoven lanes) where
  -- the first ready span, by keys
  pub ready_is : first_ready (spans_of (held_in lanes))
      ≡ option_map (λ key. (held_under lanes.slots key).span)
      (find (slot_passes is_ready lanes.slots) (nth_list 0 lanes.second))
  ready_is = find_spans is_ready lanes.slots (nth_list 0 lanes.second)
      (λ key there. ready_alike (get_or lanes.slots key None))

  -- with none in line, none is ready
  pub none_waits : (r : Option ℕ) → r ≡ None → r ≡ first_key (nth_list 0 lanes.first) →
      first_ready (spans_of (held_in lanes)) ≡ None
  none_waits r none front =
      let empty = no_first (nth_list 0 lanes.first) r none front in
      ready_is
      ∙ ap (option_map (λ key. (held_under lanes.slots key).span))
      (find_none (slot_passes is_ready lanes.slots) (nth_list 0 lanes.second) (λ key there.
      sym (ap (λ b. b && slot_passes is_ready lanes.slots key) there) ∙ sym (are.listed.ready_keys key)
      ∙ ap (lists_key key) empty))

  module _ (i : ℕ) (at : Option ℕ) (key : ℕ)
      (walk : IsWalk (NonePass (slot_passes is_ready lanes.slots)) (nth_list 0 lanes.second) i at)
      (is : at ≡ Some key) where
    -- the walk stands at a ready span
    pub ready_here : (r : Option Span) → r ≡ option_map (λ h. h.span) (get_or lanes.slots key None) →
        slot_passes is_ready lanes.slots key ≡ true → r ≡ first_ready (spans_of (held_in lanes))
    ready_here r span holds =
        span_there is_ready lanes.slots key r span (passed_some is_ready (get_or lanes.slots key None) holds)
        ∙ sym (ready_is
        ∙ ap (option_map (λ key. (held_under lanes.slots key).span))
        (walk_finds (slot_passes is_ready lanes.slots) (nth_list 0 lanes.second) i at key walk is holds))

    -- it does after as many as are in flight
    pub ready_next : AreLanes lanes → length (nth_list 1 lanes.first) ≤ i →
        slot_passes is_ready lanes.slots key ≡ true
    ready_next valid many = by_case (slot_passes is_ready lanes.slots key) refl
      where
        a : WalkAt (NonePass (slot_passes is_ready lanes.slots)) (nth_list 0 lanes.second) i key
        a = walk_at (NonePass (slot_passes is_ready lanes.slots)) (nth_list 0 lanes.second) i at key walk is

        parts : nth_list 0 lanes.second ≡ (a.before ++ key ∷ []) ++ a.after
        parts = a.parts ∙ sym (append_assoc a.before (key ∷ []) a.after)

        by_case : (b : Bool) → slot_passes is_ready lanes.slots key ≡ b → b ≡ true
        by_case true holds = refl
        by_case false fails =
            let short : length (a.before ++ key ∷ []) ≤ length (nth_list 1 lanes.first) =
            never_longer (a.before ++ key ∷ []) (nth_list 1 lanes.first)
            (distinct_front (a.before ++ key ∷ []) a.after (subst (IsDistinct eqb) parts (all_once lanes valid are)))
            (λ q there.
            let among : lists_key q (nth_list 0 lanes.second) ≡ true =
            ap (lists_key q) parts ∙ has_in_front q (a.before ++ key ∷ []) a.after there in
            are.listed.out_keys q ∙ ap (λ b. b && slot_passes is_out lanes.slots q) among
            ∙ flies_unless_ready (get_or lanes.slots q None) (all_there lanes valid are q among)
            (none_pass_more (slot_passes is_ready lanes.slots) key fails a.before a.so_far q there)) in
            absurd (omega (arith, short, many, a.count, length-append a.before (key ∷ [])))
