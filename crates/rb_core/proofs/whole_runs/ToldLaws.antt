-- Laws of runs, from the laws of the courses that they report.
use Rattle.std.proofs.Common.{◌≡◌, ℕ, zero, suc, inl, inr, Bool, true, false, List, [], ◌∷◌, Some, sym, ap, subst, ◌∙◌}
use Rattle.std.specs.Prelude.{slice_get, map as list_map}
use Rattle.std.specs.FinMap as map
use Rattle.cs_model.specs.declared.shape.Shape.{Shape}
use Rattle.cs_model.specs.Key.{row_key_cmp}
use Rattle.cs_apply.specs.Columns.{HaveColumns}
use Rattle.cs_apply.specs.State.{TableState}
use Rattle.rb_subscriber.specs.Accept.{AreChangesets, HasSingleTables}
use Rattle.rb_subscriber.specs.Batches.{HasBatchTables}
use Rattle.rb_subscriber.specs.Endpoint.{Endpoint}
use Rattle.rb_core.specs.Moves.{Leads, HasRun, StaysClosed}
use Rattle.rb_core.specs.State.{State, AreTablesBegun, tables_begun}
use Rattle.rb_core.specs.Told.{IsToldBy}
use Rattle.rb_core.specs.World.{Subscriber, World, world_begun, endpoint_of}
use Rattle.rb_core.proofs.headline.Closing.{nothing_placed, nothing_accepted}
use Rattle.rb_core.proofs.headline.Moving.{all_get}
use Rattle.rb_core.proofs.reports.Telling.{BeginsWithoutRows, IsTold}

-- the thing at a place of a list, and what is made of it
mapped_at : {A B : Type 0} (f : A → B) (xs : List A) (i : ℕ) (x : A) → slice_get xs i ≡ Some x
    → slice_get (list_map f xs) i ≡ Some (f x)
mapped_at f [] i x e = absurd (cc e)
mapped_at f (y ∷ xs) zero x e = let same : y ≡ x = cc e in ap (λ z. Some (f z)) same
mapped_at f (y ∷ xs) (suc i) x e = mapped_at f xs i x e

-- the same, in a list that is what is made of the other
pub mapped_in : {A B : Type 0} (f : A → B) (xs : List A) (ys : List B) → list_map f xs ≡ ys → (i : ℕ) (x : A)
    → slice_get xs i ≡ Some x → slice_get ys i ≡ Some (f x)
mapped_in f xs ys is i x e = ap (λ zs. slice_get zs i) (sym is) ∙ mapped_at f xs i x e

-- a subscription of which the course says that it has its run, in a broker that was told so
pub gapless_run : ((mids : List World) (new : World) (s : ℕ) (subscriber : Subscriber) → Leads world_begun mids new
    → slice_get new.subscribers s ≡ Some subscriber → HasRun new.sequence subscriber)
    → (schema : List Shape) (new : State) (world : World) (s : ℕ) (subscriber : Subscriber)
    → IsTold schema world_begun new world → slice_get world.subscribers s ≡ Some subscriber
    → HasRun new.sequence subscriber × (slice_get new.endpoints s ≡ Some (endpoint_of subscriber))
gapless_run law schema new world s subscriber told found = (
  subst (λ sequence. HasRun sequence subscriber) told.1.sequence (law told.0.0 world s subscriber told.0.1 found),
  mapped_in endpoint_of world.subscribers new.endpoints told.1.subscriptions.ends s subscriber found,
)

-- nothing is placed behind a close, nor accepted behind one
pub closed_run : (schema : List Shape) (mid new : State) (old world : World) (last : ℕ) → IsToldBy schema mid old
    → IsTold schema old new world → mid.desk.closing ≡ Some last
    → (new.desk.closing ≡ Some last) × (new.sequence ≡ mid.sequence)
closed_run schema mid new old world last before told closing =
    let stays = nothing_placed old told.0.0 world last (before.subscriptions.closing ∙ closing) told.0.1 in
    (sym told.1.subscriptions.closing ∙ stays.0, sym told.1.sequence ∙ stays.1 ∙ before.sequence)

pub left_run : (schema : List Shape) (new : State) (old world : World) (s : ℕ) (subscriber : Subscriber)
    → IsTold schema old new world → slice_get old.subscribers s ≡ Some subscriber → subscriber.closed ≡ true
    → (after : Subscriber) × (slice_get world.subscribers s ≡ Some after) × StaysClosed subscriber after
left_run schema new old world s subscriber told found closed =
    nothing_accepted old told.0.0 world s subscriber found closed told.0.1

-- tables without rows have their columns
no_rows_have_columns : (keeps : Bool) (schema : List Shape) → HaveColumns (tables_begun keeps schema)
no_rows_have_columns keeps schema key row found =
    absurd (let no = sym (map.get-empty row_key_cmp key) ∙ found in cc)

pub begun_have_columns : (schema : List Shape) (begun : TableState) → AreTablesBegun schema begun → HaveColumns begun
begun_have_columns schema begun (inl is) = subst HaveColumns (sym is) (no_rows_have_columns true schema)
begun_have_columns schema begun (inr is) = subst HaveColumns (sym is) (no_rows_have_columns false schema)

-- a subscription of which the course says that its tables are those of single application

pub singly_run : ((mids : List World) (new : World) (s : ℕ) (subscriber : Subscriber) → Leads world_begun mids new
    → slice_get new.subscribers s ≡ Some subscriber → AreChangesets new.sequence → HaveColumns subscriber.base
    → HasSingleTables subscriber.base subscriber.accepted subscriber.tables)
    → (schema : List Shape) (new : State) (world : World) (s : ℕ) (subscriber : Subscriber)
    → IsTold schema world_begun new world → slice_get world.subscribers s ≡ Some subscriber
    → AreChangesets world.sequence → slice_get new.endpoints s ≡ Some (endpoint_of subscriber)
    → (end : Endpoint) × (slice_get new.endpoints s ≡ Some end)
    × HasSingleTables subscriber.base subscriber.accepted end.tables
singly_run law schema new world s subscriber told found valid at =
    let begun = all_get (BeginsWithoutRows schema) world.subscribers s subscriber told.1.subscriptions.bases found in (
      endpoint_of subscriber,
      at,
      law told.0.0 world s subscriber told.0.1 found valid (begun_have_columns schema subscriber.base begun),
    )

-- a subscription of which the course says that its tables are those of its batches
pub batched_run : ((mids : List World) (new : World) (s : ℕ) (subscriber : Subscriber) → Leads world_begun mids new
    → slice_get new.subscribers s ≡ Some subscriber
    → HasBatchTables subscriber.base subscriber.batches subscriber.accepted subscriber.tables)
    → (schema : List Shape) (new : State) (world : World) (s : ℕ) (subscriber : Subscriber)
    → IsTold schema world_begun new world → slice_get world.subscribers s ≡ Some subscriber
    → slice_get new.endpoints s ≡ Some (endpoint_of subscriber)
    → (end : Endpoint) × (slice_get new.endpoints s ≡ Some end)
    × HasBatchTables subscriber.base subscriber.batches subscriber.accepted end.tables
batched_run law schema new world s subscriber told found at =
    (endpoint_of subscriber, at, law told.0.0 world s subscriber told.0.1 found)
