-- What becomes of a subscription that fell and goes on.
use Rattle.std.proofs.Common.{◌≡◌, ◌==◌, ◌⊎◌, inl, inr, ℕ, suc, ◌+◌, ◌-◌, ◌≤◌, List, [], ◌∷◌, ◌++◌, length, take, Bool, true, false, not, cond}
use Rattle.std.proofs.Common.{refl, sym, ap, subst, ◌∙◌, arith, take_all, Ok, Option, Some, None}
use Rattle.std.proofs.Math.Seq.{take-append_seam}
use Rattle.std.proofs.lemmas.List.{length-append}
use Rattle.std.proofs.lemmas.Bool.Decides.{eqb_tells}
use Rattle.std.specs.Prelude.{IfSome, IsSome}
use Rattle.cs_apply.specs.State.{TableState}
use Rattle.par_apply.specs.Durable.{changed_tables}
use Rattle.rb_sequence.specs.Cells.{AreInCells, Cells, CellToken}
use Rattle.rb_subscriber.specs.Accept.{HasSingleTables}
use Rattle.rb_subscriber.specs.Batches.{HasBatchTables}
use Rattle.rb_subscriber.specs.Durable.{IsPendingOver}
use Rattle.rb_subscriber.specs.Endpoint.{Endpoint}
use Rattle.rb_subscriber.specs.Lost.{FitsLost, pending_tokens, gone_on}
use Rattle.rb_subscriber.specs.Owner.{Owner}
use Rattle.rb_subscriber.specs.Shown.{entries_told}
use Rattle.rb_subscriber.specs.Subscription.{PendingAccept, SubscriptionState, batches_told}
use Rattle.rb_subscriber.proofs.accepting.AcceptLaws.{numbers_tested}
use Rattle.rb_subscriber.proofs.accepting.ShownLaws.{batch_on, batches_stay, state_of}
use Rattle.rb_subscriber.proofs.accepting.TokenLaws.{in_cells_append}

-- tokens, batches and tables after a cursor, where one goes on
pub record GoesOnWith (cells : Cells) (start : ℕ) (base : TableState) (told pending : List CellToken) (t : TableState)
    (cursor : ℕ) (grown : List CellToken) (parts : List (List CellToken)) : Type 0 where
  pub far : cursor ≡ start + length grown
  pub tokens : AreInCells cells (suc start) grown
  pub singly : HasSingleTables base (entries_told grown) t
  pub cut : grown ≡ take (cursor - start) (told ++ pending)
  pub batched : HasBatchTables base (batches_told parts) (entries_told grown) t

differ_tested : (a b : ℕ) → (a ≡ b → ⊥) → not (a == b) ≡ true
differ_tested a b other = elim (eqb_tells a b) as (λ w. not (a == b) ≡ true) [
  | inl is ↦ absurd (other is.1)
  | inr is ↦ ap not is.0
]

-- with the state before
before_goes : (cells : Cells) (start cursor : ℕ) (base now t : TableState) (batches : List (List CellToken))
    (told pending : List CellToken) → AreInCells cells (suc start) told → HasSingleTables base (entries_told told) now
    → HasBatchTables base (batches_told batches) (entries_told told) now
    → cursor ≡ start + length told → t ≡ now → GoesOnWith cells start base told pending t cursor told batches
before_goes cells start cursor base now t batches told pending tokens singly batched at same =
    let long : cursor - start ≡ length told = omega (arith, at) in
    record {
      far = at;
      tokens = tokens;
      singly = subst (HasSingleTables base (entries_told told)) (sym same) singly;
      cut = sym (ap (λ n. take n (told ++ pending)) long ∙ take-append_seam told pending);
      batched = batches_stay base now t batches told told same refl batched;
    }

-- with the state after
after_goes : (cells : Cells) (start cursor : ℕ) (base now t : TableState) (batches : List (List CellToken))
    (told : List CellToken) (p : PendingAccept) → AreInCells cells (suc start) told
    → HasBatchTables base (batches_told batches) (entries_told told) now
    → IsPendingOver cells (start + length told) base told now p
    → cursor ≡ (start + length told) + length p.tokens → t ≡ changed_tables now p.changes
    → GoesOnWith cells start base told p.tokens t cursor (told ++ p.tokens) (batches ++ p.tokens ∷ [])
after_goes cells start cursor base now t batches told p tokens batched over at same =
    let long = length-append told p.tokens in
    let few : length (told ++ p.tokens) ≤ cursor - start = omega (arith, at, long) in
    record {
      far = omega (arith, at, long);
      tokens = in_cells_append cells (suc start) (suc (start + length told)) told p.tokens tokens over.shown (omega arith);
      singly = subst (HasSingleTables base (entries_told (told ++ p.tokens))) (sym same) over.singly;
      cut = sym (take_all (cursor - start) (told ++ p.tokens) few);
      batched = batch_on base batches told p.tokens now t batched
          (over.grouped ∙ ap (λ (x : TableState). Ok x) (sym same));
    }

goes_on_either : (cells : Cells) (start cursor : ℕ) (base now t : TableState) (batches : List (List CellToken))
    (told : List CellToken) (p : PendingAccept) (kept : Bool) → AreInCells cells (suc start) told
    → HasSingleTables base (entries_told told) now
    → HasBatchTables base (batches_told batches) (entries_told told) now
    → IsPendingOver cells (start + length told) base told now p → kept ≡ not (cursor == start + length told)
    → ((cursor ≡ start + length told) × (t ≡ now))
    ⊎ ((cursor ≡ (start + length told) + length p.tokens) × (t ≡ changed_tables now p.changes))
    → GoesOnWith cells start base told p.tokens t cursor (cond kept (told ++ p.tokens) told)
    (cond kept (batches ++ p.tokens ∷ []) batches)
goes_on_either cells start cursor base now t batches told p kept tokens singly batched over is (inl h) =
    let forgotten : kept ≡ false = is ∙ numbers_tested cursor (start + length told) h.0 in
    subst (λ (k : Bool). GoesOnWith cells start base told p.tokens t cursor (cond k (told ++ p.tokens) told)
    (cond k (batches ++ p.tokens ∷ []) batches))
    (sym forgotten) (before_goes cells start cursor base now t batches told p.tokens tokens singly batched h.0 h.1)
goes_on_either cells start cursor base now t batches told p kept tokens singly batched over is (inr h) =
    let some = over.some in
    let accepted : kept ≡ true =
    is ∙ differ_tested cursor (start + length told) (λ same. absurd (omega (arith, h.0, same, some))) in
    subst (λ (k : Bool). GoesOnWith cells start base told p.tokens t cursor (cond k (told ++ p.tokens) told)
    (cond k (batches ++ p.tokens ∷ []) batches))
    (sym accepted) (after_goes cells start cursor base now t batches told p tokens batched over h.0 h.1)

goes_on_some : (cells : Cells) (owner : Owner) (sub steps cursor : ℕ) (base t : TableState) (batches : List (List CellToken))
    (e : Endpoint) (told : List CellToken) (pending : Option PendingAccept) (kept : Bool)
    → AreInCells cells (suc e.start) told → HasSingleTables base (entries_told told) e.tables
    → HasBatchTables base (batches_told batches) (entries_told told) e.tables → IsSome pending
    → IfSome pending (IsPendingOver cells e.cursor base told e.tables) → e.cursor ≡ e.start + length told
    → kept ≡ not (cursor == e.cursor) → FitsLost (state_of owner sub steps base batches pending e told) t cursor
    → GoesOnWith cells e.start base told (pending_tokens pending) t cursor
    (cond kept (told ++ pending_tokens pending) told) (cond kept (batches ++ pending_tokens pending ∷ []) batches)
goes_on_some cells owner sub steps cursor base t batches e told None kept tokens singly batched some over at is fits = absurd cc
goes_on_some cells owner sub steps cursor base t batches e told (Some p) kept tokens singly batched some over at is fits =
    goes_on_either cells e.start cursor base e.tables t batches told p kept tokens singly batched
    (subst (λ n. IsPendingOver cells n base told e.tables p) at over) (is ∙ ap (λ n. not (cursor == n)) at) fits

pub goes_on_with : (cells : Cells) (owner : Owner) (sub steps cursor from : ℕ) (base t : TableState) (batches : List (List CellToken))
    (e : Endpoint) (told grown : List CellToken) (parts : List (List CellToken)) (pending : Option PendingAccept)
    (s : SubscriptionState) → state_of owner sub steps base batches pending e told ≡ s → IsSome s.pending → FitsLost s t cursor
    → AreInCells cells (suc e.start) told → HasSingleTables base (entries_told told) e.tables
    → HasBatchTables base (batches_told batches) (entries_told told) e.tables
    → IfSome pending (IsPendingOver cells e.cursor base told e.tables) → e.cursor ≡ e.start + length told
    → from ≡ e.cursor → grown ≡ cond (not (cursor == from)) (told ++ pending_tokens pending) told
    → parts ≡ cond (not (cursor == from)) (batches ++ pending_tokens pending ∷ []) batches
    → GoesOnWith cells e.start base told (pending_tokens pending) t cursor grown parts
goes_on_with cells owner sub steps cursor from base t batches e told grown parts pending s seen some fits tokens singly batched
    over at here is parted =
    subst (λ (xs : List CellToken). GoesOnWith cells e.start base told (pending_tokens pending) t cursor xs parts) (sym is)
    (subst (GoesOnWith cells e.start base told (pending_tokens pending) t cursor
    (cond (not (cursor == from)) (told ++ pending_tokens pending) told)) (sym parted)
    (goes_on_some cells owner sub steps cursor base t batches e told pending (not (cursor == from)) tokens singly batched
    (subst (λ (x : SubscriptionState). IsSome x.pending) (sym seen) some) over at
    (ap (λ n. not (cursor == n)) here) (subst (λ (x : SubscriptionState). FitsLost x t cursor) (sym seen) fits)))

pub goes_on_holds : (cells : Cells) (base t : TableState) (told pending grown : List CellToken)
    (parts : List (List CellToken)) (cursor link : ℕ) (e new : Endpoint)
    → new ≡ record e { cursor = cursor; link = link; fallen = false; tables = t }
    → GoesOnWith cells e.start base told pending t cursor grown parts
    → (new.cursor ≡ new.start + length grown) × AreInCells cells (suc new.start) grown
    × HasSingleTables base (entries_told grown) new.tables × (new.fallen ≡ false)
    × HasBatchTables base (batches_told parts) (entries_told grown) new.tables
goes_on_holds cells base t told pending grown parts cursor link e new is goes =
    subst (λ (x : Endpoint). (x.cursor ≡ x.start + length grown) × AreInCells cells (suc x.start) grown
    × HasSingleTables base (entries_told grown) x.tables × (x.fallen ≡ false)
    × HasBatchTables base (batches_told parts) (entries_told grown) x.tables) (sym is)
    (goes.far, goes.tokens, goes.singly, refl, goes.batched)

-- the subscription that goes on
pub resumed_is : (owner : Owner) (sub steps cursor from link : ℕ) (base t : TableState) (batches parts : List (List CellToken))
    (pending : Option PendingAccept) (e new : Endpoint) (told grown : List CellToken)
    → new ≡ record e { cursor = cursor; link = link; fallen = false; tables = t }
    → grown ≡ take (cursor - e.start) (told ++ pending_tokens pending)
    → parts ≡ cond (not (cursor == from)) (batches ++ pending_tokens pending ∷ []) batches
    → from ≡ e.start + length told
    → state_of owner sub steps base parts None new grown
    ≡ gone_on (state_of owner sub steps base batches pending e told) t cursor link
resumed_is owner sub steps cursor from link base t batches parts pending e new told grown is cut parted here =
    ap (λ (x : Endpoint). state_of owner sub steps base parts None x grown) is
    ∙ ap (λ (xs : List CellToken). state_of owner sub steps base parts None goes xs) cut
    ∙ ap (λ (bs : List (List CellToken)). state_of owner sub steps base bs None goes
    (take (cursor - e.start) (told ++ pending_tokens pending)))
    (parted ∙ ap (λ n. cond (not (cursor == n)) (batches ++ pending_tokens pending ∷ []) batches) here)
  where
    goes : Endpoint
    goes = record e { cursor = cursor; link = link; fallen = false; tables = t }
