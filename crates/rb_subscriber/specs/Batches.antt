-- Accepted batches: the entries of each accepted delivery, together.
use Rattle.std.specs.Prelude.{◌≡◌, List, [], ◌∷◌, Ok}
use Rattle.std.specs.List.{flat_map}
use Rattle.cs_apply.specs.Single.{single}
use Rattle.cs_apply.specs.State.{TableState}
use Rattle.cs_group.specs.Group.{group_of}
use Rattle.rb_sequence.specs.Entry.{Entry}
use Rattle.rb_subscriber.specs.Accept.{joined_bodies}

-- the entries of all batches, one batch's after another's
abbrev pub batch_entries : List (List Entry) → List Entry
batch_entries batches = flat_map (λ batch. batch) batches

-- The group of each batch's bodies is applied to the tables, one batch after another, and none
-- conflicts. Bodies of one batch may conflict where they are applied singly.
abbrev pub AppliesBatches : TableState → List (List Entry) → TableState → Type 0
AppliesBatches old [] new = new ≡ old
AppliesBatches old (batch ∷ batches) new = (mid : TableState)
    × (single old (group_of (joined_bodies batch)) ≡ Ok mid) × AppliesBatches mid batches new

-- The batches are what was accepted: their entries, one batch's after another's, are the accepted
-- ones. The tables now are what the groups of the batches leave, applied to the first tables one
-- after another. None of them conflicts.
pub record HasBatchTables (first : TableState) (batches : List (List Entry)) (accepted : List Entry)
    (now : TableState) : Type 0 where
  pub entries : batch_entries batches ≡ accepted
  pub applied : AppliesBatches first batches now
