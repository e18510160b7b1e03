-- The tables of a subscription are those of the batches that it accepted.
use Rattle.std.proofs.Common.{◌≡◌, ℕ, List, Some, sym, subst}
use Rattle.std.specs.Prelude.{slice_get}
use Rattle.std.specs.List.{AllByRecursion}
use Rattle.cs_model.proofs.CallerLemmas.{all_push}
use Rattle.rb_subscriber.specs.Accept.{brought}
use Rattle.rb_subscriber.specs.Batches.{HasBatchTables}
use Rattle.rb_subscriber.proofs.runs.BatchLaws.{no_batch_yet, one_batch_more}
use Rattle.rb_core.specs.World.{Subscriber, World, world_begun}
use Rattle.rb_core.specs.Moves.{Acceptance, after_acceptance, Leads}
use Rattle.rb_core.proofs.headline.Moving.{all_become, all_get, apart_from_sending, MovingKeeps, crash_leaves}
use Rattle.rb_core.proofs.headline.Moving.{kept_through}

-- a subscription that differs from this one in other parts has them too, by computing
abbrev IsBatched : Subscriber → Type 0
IsBatched q = HasBatchTables q.base q.batches q.accepted q.tables

abbrev AreBatched : World → Type 0
AreBatched world = AllByRecursion IsBatched world.subscribers

acceptance_batched : (old : World) (made : Acceptance old) → IsBatched made.subscriber
    → IsBatched (after_acceptance old made)
acceptance_batched old made h =
    let q = made.subscriber in
    one_batch_more q.base q.batches q.accepted (brought old.sequence made.delivery) q.tables made.end.tables h
    made.accepts.tables

batched_kept : MovingKeeps AreBatched
batched_kept = record {
  sending = apart_from_sending AreBatched (λ old senders intake hand h. h);
  places = λ old new move h. subst AreBatched (sym move.kept) h;
  closes = λ old new move h. subst AreBatched (sym move.kept) h;
  subscribes = λ old new move h. subst AreBatched (sym move.kept)
      (all_push IsBatched old.subscribers _ h (no_batch_yet move.base));
  delivers = λ old new move h. subst AreBatched (sym move.kept)
      (all_become IsBatched old move.s move.subscriber _ h move.found (λ is. is));
  accepts = λ old new move h. subst AreBatched (sym move.kept)
      (all_become IsBatched old move.made.s move.made.subscriber (after_acceptance old move.made) h move.made.found
      (acceptance_batched old move.made));
  reconnects = λ old new move h. subst AreBatched (sym move.kept)
      (all_become IsBatched old move.s move.subscriber _ h move.found (λ is. is));
  unsubscribes = λ old new move h. subst AreBatched (sym move.kept)
      (all_become IsBatched old move.s move.subscriber _ h move.found (λ is. is));
  withdraws = λ old new move h. subst AreBatched (sym move.kept) h;
  crashes = λ old new move h. crash_leaves AreBatched old new move
      (all_become IsBatched old move.made.s move.made.subscriber _ h move.made.found (λ is. is))
      (all_become IsBatched old move.made.s move.made.subscriber _ h move.made.found
      (acceptance_batched old move.made));
  resumes = λ old new move h. subst AreBatched (sym move.kept)
      (all_become IsBatched old move.s move.subscriber _ h move.found (λ is. is));
}

pub tables_of_batches : (mids : List World) (new : World) (s : ℕ) (q : Subscriber) → Leads world_begun mids new
    → slice_get new.subscribers s ≡ Some q → HasBatchTables q.base q.batches q.accepted q.tables
tables_of_batches mids new s q leads found =
    all_get IsBatched new.subscribers s q (kept_through AreBatched batched_kept world_begun mids new leads tt) found
