-- What a subscription has accepted before its first batch, and with one batch more.
use Rattle.std.proofs.Common.{◌≡◌, List, [], ◌∷◌, ◌++◌, Ok, refl, sym, ap, subst, ◌∙◌}
use Rattle.std.proofs.lemmas.List.{flat_map_more}
use Rattle.cs_apply.specs.Single.{single}
use Rattle.cs_apply.specs.State.{TableState}
use Rattle.cs_group.specs.Group.{group_of}
use Rattle.rb_sequence.specs.Entry.{Entry}
use Rattle.rb_subscriber.specs.Accept.{joined_bodies}
use Rattle.rb_subscriber.specs.Batches.{AppliesBatches, HasBatchTables}

pub no_batch_yet : (first : TableState) → HasBatchTables first [] [] first
no_batch_yet first = record { entries = refl; applied = refl }

-- batches that apply, and then one more
applies_one_more : (old : TableState) (batches : List (List Entry)) (batch : List Entry) (mid new : TableState)
    → AppliesBatches old batches mid → single mid (group_of (joined_bodies batch)) ≡ Ok new
    → AppliesBatches old (batches ++ batch ∷ []) new
applies_one_more old [] batch mid new before one =
    (new, subst (λ t. single t (group_of (joined_bodies batch)) ≡ Ok new) before one, refl)
applies_one_more old (first ∷ batches) batch mid new before one =
    (before.0, before.1, applies_one_more before.0 batches batch mid new before.2 one)

pub one_batch_more : (first : TableState) (batches : List (List Entry)) (accepted batch : List Entry)
    (mid new : TableState) → HasBatchTables first batches accepted mid
    → single mid (group_of (joined_bodies batch)) ≡ Ok new
    → HasBatchTables first (batches ++ batch ∷ []) (accepted ++ batch) new
one_batch_more first batches accepted batch mid new before one = record {
  entries = sym (flat_map_more (λ (entries : List Entry). entries) [] batches batch)
      ∙ ap (λ entries. entries ++ batch) before.entries;
  applied = applies_one_more first batches batch mid new before.applied one;
}
