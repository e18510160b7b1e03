-- What the file of a durable subscription has after a restart.
use Rattle.std.proofs.Common.{◌≡◌, ◌⊎◌, inl, inr, ℕ, suc, ◌+◌, List, [], ◌∷◌, ◌++◌, length, refl, sym, ap, subst, ◌∙◌}
use Rattle.std.proofs.Common.{arith, IfSome, Option, Some, None, Result, Ok, Err, OnOk, OnErr}
use Rattle.std.proofs.lemmas.List.{append-nil, length-append}
use Rattle.cs_apply.specs.Single.{with_rows}
use Rattle.cs_apply.specs.State.{Rows, TableState}
use Rattle.cs_apply.specs.declared.conflict.Conflict.{Conflict}
use Rattle.par_apply.specs.Durable.{changed_tables}
use Rattle.par_apply.specs.RowChanges.{overlaid}
use Rattle.sqlite.specs.State.{HasCleanDisk, State}
use Rattle.sqlite.specs.Tree.{Trees}
use Rattle.replica_store.specs.Durable.{HasRows, KeepsRows, LeavesEither}
use Rattle.rb_desk.specs.declared.delivery.Delivery.{Delivery}
use Rattle.rb_sequence.specs.Cells.{AreInCells, Cells, CellToken}
use Rattle.rb_subscriber.specs.Accept.{HasSingleTables, refusal_before}
use Rattle.rb_subscriber.specs.AcceptShown.{told_since}
use Rattle.rb_subscriber.specs.Batches.{HasBatchTables}
use Rattle.rb_subscriber.specs.Durable.{DurableAnswers, IfFell, IsPendingOver, KeptAnswers, durable_by}
use Rattle.rb_subscriber.specs.Shown.{ShowDelivery, entries_told}
use Rattle.rb_subscriber.specs.Subscription.{PendingAccept, SubscriptionState, batches_told, cursor_of, own_endpoint}
use Rattle.rb_subscriber.specs.declared.refusal.AcceptRefusal.{AcceptRefusal}
use Rattle.rb_subscriber.specs.declared.refusal.DurableError.{DurableError}
use Rattle.rb_subscriber.specs.declared.refusal.DurableError.TheVariants as durable
use Rattle.rb_subscriber.specs.declared.refusal.SubscriptionError.TheVariants.{Memory, Refused, RefusedEntries, Unseen}
use Rattle.rb_subscriber.proofs.accepting.AcceptLaws.{accepted_steps}
use Rattle.rb_subscriber.proofs.accepting.ShownLaws.{batch_on}
use Rattle.rb_subscriber.proofs.accepting.TokenLaws.{in_cells_append}
use Rattle.rb_drive.specs.Restart.{HoldsRun}

-- ---- how an accept ends

-- it accepted the entries of these tokens, the delivery's, and of its tables only the rows changed
record AcceptsTokens (cells : Cells) (d : Delivery) (old new : SubscriptionState) : Type 0 where
  tokens : List CellToken
  shown : ShowDelivery cells d tokens
  kept : new ≡ record old {
    told = old.told ++ tokens;
    batches = old.batches ++ tokens ∷ [];
    tables = new.tables;
  }
  rows_changed : new.tables ≡ record old.tables { rows = new.tables.rows }

-- it fell, with the delivery's tokens pending
record FallsWithPending (cells : Cells) (d : Delivery) (old new : SubscriptionState) : Type 0 where
  pending : PendingAccept
  shown : ShowDelivery cells d pending.tokens
  kept : new ≡ record old { pending = Some pending }

-- three ways: accepted, fallen, or unchanged; each with what is known of its result
data EndsAs (cells : Cells) (d : Delivery) (Kept Unasked : Type 0) (old new : SubscriptionState) : Type 0 where
  Accepts : AcceptsTokens cells d old new → Kept → EndsAs cells d Kept Unasked old new
  Falls : FallsWithPending cells d old new → EndsAs cells d Kept Unasked old new
  Stays : new ≡ old → Unasked → EndsAs cells d Kept Unasked old new

-- a changeset changes the rows alone
only_rows_change : (t : TableState) (r : Result Rows Conflict) (new : TableState) → with_rows t r ≡ Ok new
    → new ≡ record t { rows = new.rows }
only_rows_change t (Ok rows) new e =
    let same : record t { rows = rows } ≡ new = cc in
    sym same ∙ ap (λ (rs : Rows). record t { rows = rs }) (ap (λ (x : TableState). x.rows) same)
only_rows_change t (Err conflict) new e = absurd cc

kept_ends : {E Kept Unasked : Type 0} (cells : Cells) (d : Delivery) (r : Result ℕ (DurableError E))
    (old new : SubscriptionState) → KeptAnswers cells d r old new → OnOk r Kept → OnErr r Unasked
    → EndsAs cells d Kept Unasked old new
kept_ends cells d (Ok cursor) old new answers kept unasked =
    let tokens = told_since old new in
    let accepts = accepted_steps (own_endpoint old) (entries_told tokens) d (own_endpoint new) answers.1 in
    Accepts (record {
      tokens = tokens;
      shown = answers.0;
      kept = answers.3;
      rows_changed = only_rows_change old.tables _ new.tables accepts.tables;
    }) kept
kept_ends cells d (Err (durable.Store why)) old new answers kept unasked =
    Falls (record { pending = answers.pending; shown = answers.shown; kept = answers.kept })
kept_ends cells d (Err (durable.Accept (Refused why))) old new answers kept unasked = absurd answers
kept_ends cells d (Err (durable.Accept (RefusedEntries why shown))) old new answers kept unasked = Stays answers.0 unasked
kept_ends cells d (Err (durable.Accept (Unseen number shown))) old new answers kept unasked = Stays answers.0 unasked
kept_ends cells d (Err (durable.Accept (Memory shown))) old new answers kept unasked = Stays answers.0 unasked

durable_ends : {E Kept Unasked : Type 0} (before : Option AcceptRefusal) (cells : Cells) (d : Delivery)
    (r : Result ℕ (DurableError E)) (old new : SubscriptionState) → durable_by before cells d r old new
    → OnOk r Kept → OnErr r Unasked → EndsAs cells d Kept Unasked old new
durable_ends None cells d r old new answers kept unasked = kept_ends cells d r old new answers kept unasked
durable_ends {E} {Kept} {Unasked} (Some why) cells d r old new answers kept unasked =
    Stays answers.1 (subst (λ (x : Result ℕ (DurableError E)). OnErr x Unasked) answers.0 unasked)

-- ---- what the trees hold then

-- what it accepted is a run of the cells, and its tables are the result of that
pub record IsShownRun (cells : Cells) (s : SubscriptionState) : Type 0 where
  pub shown : AreInCells cells (suc s.start) s.told
  pub grouped : HasBatchTables s.base (batches_told s.batches) (entries_told s.told) s.tables
  pub singly : HasSingleTables s.base (entries_told s.told) s.tables

holds_as_before : (cells : Cells) (d : Delivery) (s : SubscriptionState) (db : Trees) → IsShownRun cells s
    → HasRows db s.tables.rows (cursor_of s) → HoldsRun cells s d db
holds_as_before cells d s db has stored = record {
  run = s.told;
  more = [];
  goes_on = sym (append-nil s.told);
  brought = inl refl;
  shown = has.shown;
  batches = s.batches;
  parted = inl refl;
  rows = s.tables.rows;
  stored = stored;
  grouped = has.grouped;
  singly = has.singly;
}

holds_accepted : (cells : Cells) (d : Delivery) (old new : SubscriptionState) (db : Trees)
    → AcceptsTokens cells d old new → IsShownRun cells new
    → HasRows db new.tables.rows (cursor_of new) → HoldsRun cells old d db
holds_accepted cells d old new db accepts has stored =
    let start : new.start ≡ old.start = ap (λ (x : SubscriptionState). x.start) accepts.kept in
    let base : new.base ≡ old.base = ap (λ (x : SubscriptionState). x.base) accepts.kept in
    record {
      run = new.told;
      more = accepts.tokens;
      goes_on = ap (λ (x : SubscriptionState). x.told) accepts.kept;
      brought = inr accepts.shown;
      shown = subst (λ n. AreInCells cells (suc n) new.told) start has.shown;
      batches = new.batches;
      parted = inr (ap (λ (x : SubscriptionState). x.batches) accepts.kept);
      rows = new.tables.rows;
      stored = subst (λ n. HasRows db new.tables.rows (n + length new.told)) start stored;
      grouped = subst (λ (b : TableState). HasBatchTables b (batches_told new.batches) (entries_told new.told)
          (record old.tables { rows = new.tables.rows })) base
          (subst (HasBatchTables new.base (batches_told new.batches) (entries_told new.told)) accepts.rows_changed
          has.grouped);
      singly = subst (λ (b : TableState). HasSingleTables b (entries_told new.told)
          (record old.tables { rows = new.tables.rows })) base
          (subst (HasSingleTables new.base (entries_told new.told)) accepts.rows_changed has.singly);
    }

holds_either : (cells : Cells) (d : Delivery) (s : SubscriptionState) (p : PendingAccept) (db : Trees)
    → IsShownRun cells s
    → IsPendingOver cells (cursor_of s) s.base s.told s.tables p → ShowDelivery cells d p.tokens
    → HasRows db s.tables.rows (cursor_of s)
    ⊎ HasRows db (overlaid s.tables.rows p.changes) (cursor_of s + length p.tokens) → HoldsRun cells s d db
holds_either cells d s p db has over are (inl stored) = holds_as_before cells d s db has stored
holds_either cells d s p db has over are (inr stored) =
    let long = length-append s.told p.tokens in
    record {
      run = s.told ++ p.tokens;
      more = p.tokens;
      goes_on = refl;
      brought = inr are;
      shown = in_cells_append cells (suc s.start) (suc (cursor_of s)) s.told p.tokens has.shown over.shown (omega arith);
      batches = s.batches ++ p.tokens ∷ [];
      parted = inr refl;
      rows = overlaid s.tables.rows p.changes;
      stored = subst (HasRows db (overlaid s.tables.rows p.changes)) (omega (arith, long)) stored;
      grouped = batch_on s.base s.batches s.told p.tokens s.tables (changed_tables s.tables p.changes) has.grouped
          over.grouped;
      singly = over.singly;
    }

-- ---- the law

-- a store that wasn't asked keeps what it kept
pub unasked_keeps : {R T E : Type 0} (Same : Type 0) (Keeps : R → Type 0) (r : Result T E) (old new : R)
    → OnErr r (Same → new ≡ old) → Keeps old → OnErr r (Same → Keeps new)
unasked_keeps Same Keeps (Ok x) old new unasked kept = tt
unasked_keeps Same Keeps (Err e) old new unasked kept = λ same. subst Keeps (sym (unasked same)) kept

abbrev MayHold : State → SubscriptionState → PendingAccept → Type 0
MayHold s old p = LeavesEither s old.tables.rows (cursor_of old) (overlaid old.tables.rows p.changes)
    (cursor_of old + length p.tokens)

holds_fallen : (cells : Cells) (d : Delivery) (old new : SubscriptionState) (s : State) (db : Trees)
    → HasCleanDisk s → s.may_leave db → IsShownRun cells old → old.pending ≡ None
    → IfFell old.pending new.pending (MayHold s old)
    → IfSome new.pending (IsPendingOver cells (cursor_of new) new.base new.told new.tables)
    → FallsWithPending cells d old new → HoldsRun cells old d db
holds_fallen cells d old new s db clean left has none leaves over fell =
    let p = fell.pending in
    let either : IfFell None (Some p) (MayHold s old) =
    subst (λ (o : Option PendingAccept). IfFell o (Some p) (MayHold s old)) none
    (subst (λ (x : SubscriptionState). IfFell old.pending x.pending (MayHold s old)) fell.kept leaves) in
    let here : IsPendingOver cells (cursor_of old) old.base old.told old.tables p =
    subst (λ (x : SubscriptionState). IfSome x.pending (IsPendingOver cells (cursor_of x) x.base x.told x.tables))
    fell.kept over in
    holds_either cells d old p db has here fell.shown (either clean db left)

holds_ended : (cells : Cells) (d : Delivery) (old new : SubscriptionState) (s : State) (db : Trees)
    → HasCleanDisk s → s.may_leave db → IsShownRun cells old → IsShownRun cells new → old.pending ≡ None
    → IfFell old.pending new.pending (MayHold s old)
    → IfSome new.pending (IsPendingOver cells (cursor_of new) new.base new.told new.tables)
    → EndsAs cells d (KeepsRows s new.tables.rows (cursor_of new))
    (new.pending ≡ old.pending → KeepsRows s old.tables.rows (cursor_of old)) old new → HoldsRun cells old d db
holds_ended cells d old new s db clean left first last none leaves over (Accepts accepts kept) =
    holds_accepted cells d old new db accepts last ((kept clean).stands db left)
holds_ended cells d old new s db clean left first last none leaves over (Falls fell) =
    holds_fallen cells d old new s db clean left first none leaves over fell
holds_ended cells d old new s db clean left first last none leaves over (Stays same unasked) =
    holds_as_before cells d old db first
    ((unasked (ap (λ (x : SubscriptionState). x.pending) same) clean).stands db left)

pub restart_holds : {E : Type 0} (cells : Cells) (d : Delivery) (r : Result ℕ (DurableError E)) (old new : SubscriptionState)
    (s : State) (db : Trees) → HasCleanDisk s → s.may_leave db
    → IsShownRun cells old → IsShownRun cells new → old.pending ≡ None
    → DurableAnswers cells d r old new
    → OnOk r (KeepsRows s new.tables.rows (cursor_of new))
    → IfFell old.pending new.pending (λ p. LeavesEither s old.tables.rows (cursor_of old)
    (overlaid old.tables.rows p.changes) (cursor_of old + length p.tokens))
    → OnErr r (new.pending ≡ old.pending → KeepsRows s old.tables.rows (cursor_of old))
    → IfSome new.pending (IsPendingOver cells (cursor_of new) new.base new.told new.tables)
    → HoldsRun cells old d db
restart_holds cells d r old new s db clean left first last none answers kept leaves unasked over =
    holds_ended cells d old new s db clean left first last none leaves over
    (durable_ends (refusal_before (own_endpoint old) d) cells d r old new answers kept unasked)

-- what follows of any value follows of the one that came back
pub if_opened : {T : Type 0} (P Q : T → Type 0) (o : Option T) → ((x : T) → P x → Q x) → IfSome o P → IfSome o Q
if_opened P Q None goes h = tt
if_opened P Q (Some x) goes h = goes x h

-- what follows of the value that came back, once the call before it is Ok
pub if_accepted : {A E T : Type 0} (K : Type 0) (P Q : T → Type 0) (r : Result A E) (o : Option T)
    → (K → (x : T) → P x → Q x) → OnOk r K → IfSome o P → OnOk r (IfSome o Q)
if_accepted K P Q (Ok a) o goes kept h = if_opened P Q o (goes kept) h
if_accepted K P Q (Err e) o goes kept h = tt
