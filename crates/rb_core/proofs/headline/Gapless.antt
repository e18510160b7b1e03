-- A subscription has accepted one contiguous run of the sequence after its start.
use Rattle.std.proofs.Common.{◌≡◌, ℕ, suc, ◌+◌, ◌-◌, ◌≤◌, true, false, List, [], ◌∷◌, ◌++◌, length}
use Rattle.std.proofs.Common.{drop, Some, refl, sym, ap, subst, ◌∙◌, arith}
use Rattle.std.specs.Prelude.{slice_get}
use Rattle.std.specs.List.{AllByRecursion}
use Rattle.std.proofs.lemmas.List.{length-take, length-drop, length-append}
use Rattle.cs_model.proofs.CallerLemmas.{all_push}
use Rattle.rb_desk.specs.declared.delivery.Delivery.{Delivery}
use Rattle.rb_sequence.specs.Entry.{Entry}
use Rattle.rb_subscriber.proofs.runs.RunLaws.{brought_after}
use Rattle.rb_subscriber.specs.Accept.{part}
use Rattle.rb_subscriber.proofs.runs.RunLaws.{parts, part_stays}
use Rattle.rb_core.specs.World.{Subscriber, World, world_begun, cursor, subscriber_begun}
use Rattle.rb_core.specs.Moves.{Acceptance, after_acceptance, with_subscriber, Leads}
use Rattle.rb_core.proofs.headline.Moving.{all_get, all_moved_in, all_map, apart_from_sending, MovingKeeps}
use Rattle.rb_core.proofs.headline.Moving.{all_become, crash_leaves, kept_through}

-- a delivery's numbers are placed
abbrev GaplessIsPlaced : List Entry → Delivery → Type 0
GaplessIsPlaced sequence delivery = delivery.last ≤ length sequence

record RunOf (sequence : List Entry) (after : ℕ) (accepted : List Entry) (made : List Delivery) : Type 0 where
  run : accepted ≡ part sequence after (length accepted)
  placed : after + length accepted ≤ length sequence
  deliveries : AllByRecursion (GaplessIsPlaced sequence) made

-- a subscription that differs from this one in other parts has a run too, by computing
abbrev IsRun : List Entry → Subscriber → Type 0
IsRun sequence q = RunOf sequence q.start q.accepted q.deliveries

abbrev AreRuns : World → Type 0
AreRuns world = AllByRecursion (IsRun world.sequence) world.subscribers

-- ---- the sequence grows

gapless_longer : (sequence : List Entry) (entry : Entry) → length (sequence ++ entry ∷ []) ≡ length sequence + 1
gapless_longer sequence entry = length-append sequence (entry ∷ [])

still_run : (sequence : List Entry) (entry : Entry) (q : Subscriber) → IsRun sequence q
    → IsRun (sequence ++ entry ∷ []) q
still_run sequence entry q h = record {
  run = h.run ∙ sym (part_stays sequence (entry ∷ []) q.start (length q.accepted) h.placed);
  placed = omega (arith, gapless_longer sequence entry, h.placed);
  deliveries = all_map (GaplessIsPlaced sequence) (GaplessIsPlaced (sequence ++ entry ∷ [])) q.deliveries
      (λ d placed. omega (arith, gapless_longer sequence entry, placed)) h.deliveries;
}

-- ---- what is accepted goes on

pub part_length : (sequence : List Entry) (after last : ℕ) → last ≤ length sequence → after ≤ last
    → length (part sequence after (last - after)) ≡ last - after
part_length sequence after last placed order =
    omega (arith, placed, order, length-take (last - after) (drop after sequence), length-drop after sequence)

gapless_goes_on : (sequence : List Entry) (start last : ℕ) (accepted : List Entry) → accepted
    ≡ part sequence start (length accepted) → start + length accepted ≤ last → last ≤ length sequence
    → accepted ++ part sequence (start + length accepted) (last - (start + length accepted))
    ≡ part sequence start
    (length (accepted ++ part sequence (start + length accepted) (last - (start + length accepted))))
gapless_goes_on sequence start last accepted run order placed =
    let mid = start + length accepted in
    let more = part sequence mid (last - mid) in
    let so_far : length accepted ≡ mid - start = omega arith in
    let all : length (accepted ++ more) ≡ last - start =
    omega (arith, order, length-append accepted more, part_length sequence mid last placed order) in
    ap (λ xs. xs ++ more) (run ∙ ap (part sequence start) so_far)
    ∙ sym (parts sequence start mid last (omega arith) order)
    ∙ ap (part sequence start) (sym all)

accepts_run : (sequence : List Entry) (q : Subscriber) (delivery : Delivery) (new : Subscriber) → IsRun sequence q
    → suc (cursor q) ≤ delivery.last → delivery.last ≤ length sequence → new.start ≡ q.start
    → new.deliveries ≡ q.deliveries
    → new.accepted ≡ q.accepted ++ part sequence (cursor q) (delivery.last - cursor q) → IsRun sequence new
accepts_run sequence q delivery new h some placed start deliveries accepted =
    let more = part sequence (cursor q) (delivery.last - cursor q) in
    let run = gapless_goes_on sequence q.start delivery.last q.accepted h.run (omega (arith, some)) placed in
    let long : length (q.accepted ++ more) ≡ length q.accepted + (delivery.last - cursor q) =
    omega (
      arith,
      length-append q.accepted more,
      part_length sequence (cursor q) delivery.last placed
          (omega (arith, some)),
    ) in
    record {
      run = accepted ∙ run ∙ ap (λ n. part sequence n (length (q.accepted ++ more))) (sym start)
          ∙ ap (λ xs. part sequence new.start (length xs)) (sym accepted);
      placed = omega (arith, some, placed, start, long, ap length accepted);
      deliveries = subst (AllByRecursion (GaplessIsPlaced sequence)) (sym deliveries) h.deliveries;
    }

acceptance_run : (old : World) (made : Acceptance old) → IsRun old.sequence made.subscriber
    → IsRun old.sequence (after_acceptance old made)
acceptance_run old made h =
    let q = made.subscriber in
    accepts_run old.sequence q made.delivery (after_acceptance old made) h made.accepts.some
    (all_moved_in (GaplessIsPlaced old.sequence) q.deliveries made.delivery h.deliveries made.offered) refl refl
    (ap (λ es. q.accepted ++ es) (brought_after old.sequence made.delivery (cursor q) made.accepts.next))

-- ---- moves

-- one subscription becomes another
gapless_becomes : (old : World) (s : ℕ) (q r : Subscriber) → AreRuns old → slice_get old.subscribers s ≡ Some q
    → (IsRun old.sequence q → IsRun old.sequence r) → AreRuns (with_subscriber old s r)
gapless_becomes old s q r runs found same = all_become (IsRun old.sequence) old s q r runs found same

runs_kept : MovingKeeps AreRuns
runs_kept = record {
  sending = apart_from_sending AreRuns (λ old senders intake hand runs. runs);
  places = λ old new move runs.
      let entry : Entry = record { number = suc (length old.sequence); item = move.item } in
      subst AreRuns (sym move.kept)
      (all_map (IsRun old.sequence) (IsRun (old.sequence ++ entry ∷ [])) old.subscribers
      (still_run old.sequence entry) runs);
  closes = λ old new move runs. subst AreRuns (sym move.kept) runs;
  subscribes = λ old new move runs.
      subst AreRuns (sym move.kept)
      (all_push (IsRun old.sequence) old.subscribers (subscriber_begun move.start move.link move.base) runs
      (record { run = refl; placed = omega (arith, move.placed); deliveries = tt }));
  delivers = λ old new move runs.
      let q = move.subscriber in
      subst AreRuns (sym move.kept)
      (gapless_becomes old move.s q (record q { deliveries = q.deliveries ++ move.delivery ∷ [] }) runs move.found
      (λ h. record {
        run = h.run;
        placed = h.placed;
        deliveries = all_push (GaplessIsPlaced old.sequence) q.deliveries move.delivery h.deliveries move.placed;
      }));
  accepts = λ old new move runs.
      subst AreRuns (sym move.kept)
      (gapless_becomes old move.made.s move.made.subscriber (after_acceptance old move.made) runs move.made.found
      (acceptance_run old move.made));
  reconnects = λ old new move runs. subst AreRuns (sym move.kept)
      (gapless_becomes old move.s move.subscriber (record move.subscriber { link = move.link }) runs move.found
      (λ h. h));
  unsubscribes = λ old new move runs. subst AreRuns (sym move.kept)
      (gapless_becomes old move.s move.subscriber (record move.subscriber { closed = true }) runs move.found (λ h. h));
  withdraws = λ old new move runs. subst AreRuns (sym move.kept) runs;
  crashes = λ old new move runs.
      let q = move.made.subscriber in
      let both : Subscriber = record (after_acceptance old move.made) { fallen = true } in
      crash_leaves AreRuns old new move
      (gapless_becomes old move.made.s q (record q { fallen = true }) runs move.made.found (λ h. h))
      (gapless_becomes old move.made.s q both runs move.made.found (acceptance_run old move.made));
  resumes = λ old new move runs.
      let q = move.subscriber in
      subst AreRuns (sym move.kept)
      (gapless_becomes old move.s q (record q { link = move.link; fallen = false }) runs move.found (λ h. h));
}

pub gapless : (mids : List World) (new : World) (s : ℕ) (q : Subscriber) → Leads world_begun mids new
    → slice_get new.subscribers s ≡ Some q → q.accepted ≡ part new.sequence q.start (length q.accepted)
gapless mids new s q leads found =
    (all_get (IsRun new.sequence) new.subscribers s q (kept_through AreRuns runs_kept world_begun mids new leads tt)
    found).run
