-- The span that begins with a number gets another status and rank, or leaves.
use Rattle.std.proofs.Common.{◌≡◌, ℕ, ◌+◌, ◌≤◌, true, false, not, List, map, length}
use Rattle.std.proofs.Common.{set, eqb, Option, Some, ◌∙◌, ap, refl, sym, arith}
use Rattle.std.proofs.lemmas.List.{length-map}
use Rattle.link_lists.specs.declared.lane.Lane.TheVariants.{First}
use Rattle.link_lists.specs.Lanes.{Lanes, with_lane, pushed_back}
use Rattle.rb_deliveries.specs.declared.span.Status.{Status}
use Rattle.rb_deliveries.specs.declared.span.Status.TheVariants.{Ready, InFlight}
use Rattle.rb_deliveries.specs.declared.rank.Held.{Held}
use Rattle.rb_deliveries.specs.declared.rank.Rank.{Rank}
use Rattle.rb_deliveries.specs.Queues.{RiseSome, earlier, restated}
use Rattle.rb_deliveries.specs.Spans.{is_out}
use Rattle.rb_deliveries.specs.Taken.{AreKept, AreListed, AreWoven, IsKeyOf, StandsLast, held_in, held_under}
use Rattle.rb_deliveries.specs.Taken.{nth_list, with_state}
use Rattle.rb_deliveries.proofs.lists.KeyLaws.{key_of_all, keys_but}
use Rattle.rb_deliveries.proofs.lists.ListedLaws.{out_less, ready_key}
use Rattle.rb_deliveries.proofs.lists.OutLaws.{count_front}
use Rattle.rb_deliveries.proofs.lists.OnceLaws.{few_out}
use Rattle.rb_deliveries.proofs.lists.MoveLaws.{FliesLast, KeyMoves, WaitsLast, flight_lists, flight_out}
use Rattle.rb_deliveries.proofs.lists.MoveLaws.{flight_records, held_moved, line_lists, line_out, line_records, sets_it}
use Rattle.rb_deliveries.proofs.lists.StandLaws.{held_stand, out_left}
use Rattle.rb_deliveries.proofs.lists.RestateLaws.{begins_one, restated_keys}

-- without a key there are no more in flight than spans
pub few_left : (lanes : Lanes Held) (key : ℕ) → AreWoven lanes →
    length (keys_but key (nth_list 1 lanes.first)) ≤ length (held_in lanes)
few_left lanes key are =
    let out = nth_list 1 lanes.first in
    let all = nth_list 0 lanes.second in
    let left = count_front (λ other. not (eqb key other)) out in
    let few = few_out lanes.slots (nth_list 0 lanes.first) out all are.listed in
    omega (arith, left, few, length-map all (held_under lanes.slots))

-- a span that gets this status and this rank comes after all that are ready, or after all in flight
module _ (slots : List (Option Held)) (ready out all : List ℕ) (listed : AreListed slots ready out all) (h : Held) where
  waits_last : (status : Status) (rank : Rank) → StandsLast status rank (map (held_under slots) all)
      → is_out status ≡ false → WaitsLast slots ready (with_state status rank h)
  waits_last (Ready taken) rank last rests = (
    refl,
    refl,
    λ k there. key_of_all (λ h. earlier h.rank rank ≡ true) (held_under slots) all k last
        (ready_key slots ready out all listed k there).0,
  )
  waits_last (InFlight number moment) rank last rests = absurd cc

  flies_last : (status : Status) (rank : Rank) → StandsLast status rank (map (held_under slots) all)
      → is_out status ≡ true → FliesLast slots out (with_state status rank h)
  flies_last (Ready taken) rank last flies = absurd cc
  flies_last (InFlight number moment) rank last flies =
      (refl, refl, λ k there. out_less slots ready out all listed k number last there)

module _ (old one two new : Lanes Held) (first key : ℕ) (status : Status) (rank : Rank) (are : AreWoven old)
    (rising : RiseSome (held_in old)) (last : StandsLast status rank (held_in old)) (is : IsKeyOf old first key)
    (moves : KeyMoves old one two key (with_state status rank)) where
  spans_then : map (held_under (set old.slots key (Some (with_state status rank (held_under old.slots key)))))
      (nth_list 0 old.second) ≡ restated first status rank (held_in old)
  spans_then =
      let new_slots = set old.slots key (Some (with_state status rank (held_under old.slots key))) in
      restated_keys old.slots new_slots first key status rank (nth_list 0 old.second)
      (begins_one old first key is rising)
      (held_moved old.slots new_slots key (with_state status rank (held_under old.slots key))
      (sets_it old one two new key (with_state status rank) are moves is.there is.kept))

  -- it is in flight then
  module _ (joins : new ≡ with_lane First (pushed_back 1 key two.first) two) (flies : is_out status ≡ true) where
    pub flown_kept : (rest : ℕ) → rest ≡ length (nth_list 1 one.first) → AreKept (Some new) (rest + 1)
    flown_kept rest left =
        let more = flight_out old one two new key (with_state status rank) are moves is.there is.kept joins in (
          flight_records old one two new key (with_state status rank) are moves is.there is.kept joins
              (flies_last old.slots (nth_list 0 old.first) (nth_list 1 old.first) (nth_list 0 old.second) are.listed
              (held_under old.slots key) status rank last flies),
          omega (arith, left, more, out_left old one key are moves.unlinked),
        )

    pub flown_spans : held_in new ≡ restated first status rank (held_in old)
    flown_spans =
        held_stand (flight_lists old one two new key (with_state status rank) are moves is.there is.kept joins)
        ∙ spans_then

  -- it is ready then
  module _ (joins : new ≡ with_lane First (pushed_back 0 key two.first) two) (rests : is_out status ≡ false) where
    pub back_kept : (rest : ℕ) → rest ≡ length (nth_list 1 one.first) → AreKept (Some new) rest
    back_kept rest left =
        let same = line_out old one two new key (with_state status rank) are moves is.there is.kept joins in (
          line_records old one two new key (with_state status rank) are moves is.there is.kept joins
              (waits_last old.slots (nth_list 0 old.first) (nth_list 1 old.first) (nth_list 0 old.second) are.listed
              (held_under old.slots key) status rank last rests),
          left ∙ out_left old one key are moves.unlinked ∙ sym (ap length same),
        )

    pub back_spans : held_in new ≡ restated first status rank (held_in old)
    back_spans =
        held_stand (line_lists old one two new key (with_state status rank) are moves is.there is.kept joins)
        ∙ spans_then
