-- What a subscription is after it accepted.
use Rattle.std.proofs.Common.{◌≡◌, ℕ, suc, ◌+◌, List, [], ◌∷◌, ◌++◌, length, sym, ap, ◌∙◌, refl}
use Rattle.std.proofs.Common.{subst, arith, drop, Bool, Option, Some, None, Result, Ok, Err}
use Rattle.std.proofs.Math.Seq.{drop-append_seam}
use Rattle.std.specs.Option.{is_some}
use Rattle.std.proofs.lemmas.List.{map-append, length-append}
use Rattle.cs_apply.specs.Single.{single}
use Rattle.cs_apply.specs.State as tables
use Rattle.rb_desk.specs.declared.delivery.Delivery.{Delivery}
use Rattle.rb_sequence.specs.Cells.{Cells, CellToken}
use Rattle.rb_sequence.specs.Entry.{Entry}
use Rattle.cs_apply.specs.declared.conflict.Conflict.{Conflict}
use Rattle.cs_group.specs.Group.{group_of}
use Rattle.cs_model.specs.declared.shape.Shape.{Shape}
use Rattle.rb_subscriber.specs.Accept.{accept_brought, AcceptsBrought, AppliesSingly, AsksTables, HasSingleTables, applied}
use Rattle.rb_subscriber.specs.Accept.{first_outside_entry, joined_bodies, refusal_before}
use Rattle.rb_subscriber.specs.declared.refusal.AcceptRefusal.TheVariants as refusal
use Rattle.rb_subscriber.specs.Batches.{HasBatchTables}
use Rattle.rb_subscriber.specs.Endpoint.{Endpoint}
use Rattle.rb_subscriber.specs.declared.refusal.SubscriptionError.{SubscriptionError}
use Rattle.rb_subscriber.specs.declared.refusal.SubscriptionError.TheVariants.{Refused, RefusedEntries, Unseen, Memory}
use Rattle.rb_subscriber.specs.AcceptShown.{DueAnswers, LookAnswers}
use Rattle.rb_sequence.specs.Cells.{AreInCells}
use Rattle.rb_subscriber.specs.Owner.{Owner}
use Rattle.rb_subscriber.specs.Shown.{ShowDelivery, entries_told, tokens_shown}
use Rattle.rb_subscriber.specs.Subscription.{PendingAccept, SubscriptionState, batches_told, own_endpoint}
use Rattle.rb_subscriber.proofs.accepting.AcceptLaws.{accepted_steps, asked_of}
use Rattle.rb_subscriber.proofs.accepting.TokenLaws.{in_cells_append}
use Rattle.rb_subscriber.proofs.runs.BatchLaws.{one_batch_more}

-- what applies singly applies in two parts
record AppliesInParts (base : tables.TableState) (some more : List Entry) (new : tables.TableState) : Type 0 where
  mid : tables.TableState
  first : AppliesSingly base some mid
  rest : AppliesSingly mid more new

in_parts : (base : tables.TableState) (some more : List Entry) (new : tables.TableState)
    → AppliesSingly base (some ++ more) new → AppliesInParts base some more new
in_parts base [] more new all = record { mid = base; first = refl; rest = all }
in_parts base (entry ∷ some) more new all =
    let later = in_parts all.0 some more new all.2 in
    record { mid = later.mid; first = (all.0, all.1, later.first); rest = later.rest }

-- what leaves what one thread gets, and then does so again, does so at once
pub singly_on : (base : tables.TableState) (told shown : List CellToken) (mid new : tables.TableState)
    → HasSingleTables base (entries_told told) mid → HasSingleTables mid (entries_told shown) new
    → HasSingleTables base (entries_told (told ++ shown)) new
singly_on base told shown mid new singly goes = λ t applied.
    let parts = in_parts base (entries_told told) (entries_told shown) t
    (subst (λ es. AppliesSingly base es t) (map-append (λ (c : CellToken). c.entry) told shown) applied) in
    goes t (subst (λ u. AppliesSingly u (entries_told shown) t) (sym (singly parts.mid parts.first)) parts.rest)

-- the tables of batches, and of one more, by their tokens
pub batch_on : (base : tables.TableState) (batches : List (List CellToken)) (told shown : List CellToken)
    (mid new : tables.TableState) → HasBatchTables base (batches_told batches) (entries_told told) mid
    → single mid (group_of (joined_bodies (entries_told shown))) ≡ Ok new
    → HasBatchTables base (batches_told (batches ++ shown ∷ [])) (entries_told (told ++ shown)) new
batch_on base batches told shown mid new before one =
    subst (λ bs. HasBatchTables base bs (entries_told (told ++ shown)) new)
    (sym (map-append entries_told batches (shown ∷ [])))
    (subst (λ es. HasBatchTables base (batches_told batches ++ entries_told shown ∷ []) es new)
    (sym (map-append (λ (c : CellToken). c.entry) told shown))
    (one_batch_more base (batches_told batches) (entries_told told) (entries_told shown) mid new before one))

-- they stay where the tables and the tokens do
pub batches_stay : (base now new : tables.TableState) (batches : List (List CellToken)) (told kept : List CellToken)
    → new ≡ now → kept ≡ told → HasBatchTables base (batches_told batches) (entries_told told) now
    → HasBatchTables base (batches_told batches) (entries_told kept) new
batches_stay base now new batches told kept same is before =
    subst (λ t. HasBatchTables base (batches_told batches) (entries_told kept) t) (sym same)
    (subst (λ (xs : List CellToken). HasBatchTables base (batches_told batches) (entries_told xs) now) (sym is) before)

-- the tokens and the tables after an accepted delivery
pub record ShownKept (cells : Cells) (base : tables.TableState) (told shown : List CellToken) (new : Endpoint)
    : Type 0 where
  pub cursor : new.cursor ≡ new.start + length (told ++ shown)
  pub tokens : AreInCells cells (suc new.start) (told ++ shown)
  pub singly : HasSingleTables base (entries_told (told ++ shown)) new.tables

pub shown_kept : (cells : Cells) (base : tables.TableState) (told shown : List CellToken) (delivery : Delivery)
    (old new : Endpoint) → old.cursor ≡ old.start + length told
    → AreInCells cells (suc old.start) told
    → HasSingleTables base (entries_told told) old.tables
    → ShowDelivery cells delivery shown
    → AcceptsBrought old (entries_told shown) delivery new
    → ((t : tables.TableState) → AppliesSingly old.tables (entries_told shown) t → new.tables ≡ t)
    → ShownKept cells base told shown new
shown_kept cells base told shown delivery old new cursor tokens singly are accepts goes =
    let start : new.start ≡ old.start = ap (λ (e : Endpoint). e.start) accepts.kept in
    let last : new.cursor ≡ delivery.last = ap (λ (e : Endpoint). e.cursor) accepts.kept in
    let long = length-append told shown in
    record {
      cursor = omega (arith, start, last, long, are.1, cursor, accepts.next, accepts.some);
      tokens = subst (λ n. AreInCells cells (suc n) (told ++ shown)) (sym start)
          (in_cells_append cells (suc old.start) delivery.first told shown tokens are.0
          (omega (arith, accepts.next, cursor)));
      singly = singly_on base told shown old.tables new.tables singly goes;
    }

-- all of it, where the cells and the entries stand elsewhere
pub record WasAccepted (cells : Cells) (d : Delivery) (base : tables.TableState) (batches : List (List CellToken))
    (told shown grown : List CellToken) (e new : Endpoint) : Type 0 where
  pub more : grown ≡ told ++ shown
  pub are : ShowDelivery cells d shown
  pub ok : accept_brought e (entries_told shown) d ≡ Ok new
  pub accepts : AcceptsBrought e (entries_told shown) d new
  pub far : new.cursor ≡ new.start + length grown
  pub tokens : AreInCells cells (suc new.start) grown
  pub singly : HasSingleTables base (entries_told grown) new.tables
  pub batched : HasBatchTables base (batches_told (batches ++ shown ∷ [])) (entries_told grown) new.tables

pub was_accepted : (cells sequence : Cells) (d : Delivery) (base : tables.TableState)
    (batches : List (List CellToken)) (told held shown grown : List CellToken) (entries : List Entry) (e new : Endpoint) → sequence ≡ cells
    → ShowDelivery sequence d shown → held ≡ told → grown ≡ held ++ shown → entries ≡ entries_told shown
    → accept_brought e entries d ≡ Ok new → HasSingleTables e.tables entries new.tables
    → e.cursor ≡ e.start + length told → AreInCells cells (suc e.start) told
    → HasSingleTables base (entries_told told) e.tables
    → HasBatchTables base (batches_told batches) (entries_told told) e.tables
    → WasAccepted cells d base batches told shown grown e new
was_accepted cells sequence d base batches told held shown grown entries e new same shows kept added back ok goes at tokens
    singly batched =
    let more : grown ≡ told ++ shown = added ∙ ap (λ (xs : List CellToken). xs ++ shown) kept in
    let are = subst (λ cs. ShowDelivery cs d shown) same shows in
    let here : accept_brought e (entries_told shown) d ≡ Ok new =
    subst (λ es. accept_brought e es d ≡ Ok new) back ok in
    let accepts = accepted_steps e (entries_told shown) d new here in
    let all = shown_kept cells base told shown d e new at tokens singly are accepts
    (subst (λ es. HasSingleTables e.tables es new.tables) back goes) in
    record {
      more = more;
      are = are;
      ok = here;
      accepts = accepts;
      far = all.cursor ∙ ap (λ (xs : List CellToken). new.start + length xs) (sym more);
      tokens = subst (λ xs. AreInCells cells (suc new.start) xs) (sym more) all.tokens;
      singly = subst (λ (xs : List CellToken). HasSingleTables base (entries_told xs) new.tables) (sym more) all.singly;
      batched = subst (λ (xs : List CellToken).
          HasBatchTables base (batches_told (batches ++ shown ∷ [])) (entries_told xs) new.tables) (sym more)
          (batch_on base batches told shown e.tables new.tables batched accepts.tables);
    }

-- ---- the answers

-- an endpoint with its own cursor and mark
end_as : (e : Endpoint) (n : ℕ) (b : Bool) → e.cursor ≡ n → e.fallen ≡ b → record e { cursor = n; fallen = b } ≡ e
end_as e n b is fell = ap (λ (k : ℕ). the_end k b) (sym is) ∙ ap (λ (f : Bool). the_end e.cursor f) (sym fell)
  where
    the_end : ℕ → Bool → Endpoint
    the_end k f = record e { cursor = k; fallen = f }

-- the state of a subscription with this endpoint and these tokens
abbrev pub state_of : Owner → ℕ → ℕ → tables.TableState → List (List CellToken) → Option PendingAccept → Endpoint → List CellToken
    → SubscriptionState
state_of owner sub steps base batches pending e told = record {
  sub = sub;
  start = e.start;
  link = e.link;
  closed = e.closed;
  base = base;
  tables = e.tables;
  told = told;
  batches = batches;
  pending = pending;
  steps = steps;
  owner = owner;
}

pub own_as : (owner : Owner) (sub steps : ℕ) (base : tables.TableState) (batches : List (List CellToken))
    (pending : Option PendingAccept) (e : Endpoint) (told : List CellToken)
    → e.cursor ≡ e.start + length told → e.fallen ≡ is_some pending
    → own_endpoint (state_of owner sub steps base batches pending e told) ≡ e
own_as owner sub steps base batches pending e told at fell = end_as e (e.start + length told) (is_some pending) at fell

-- what it has accepted since is what came to the end
since_is : (told shown grown : List CellToken) → grown ≡ told ++ shown → drop (length told) grown ≡ shown
since_is told shown grown more = ap (drop (length told)) more ∙ drop-append_seam told shown

due_one_more : (cells : Cells) (d : Delivery) (owner : Owner) (sub steps cursor : ℕ) (base : tables.TableState)
    (batches : List (List CellToken)) (pending : Option PendingAccept) (told grown shown : List CellToken)
    (e new : Endpoint) → WasAccepted cells d base batches told shown grown e new → e.cursor ≡ e.start + length told
    → e.fallen ≡ is_some pending → cursor ≡ new.cursor
    → DueAnswers cells d (Ok cursor) (state_of owner sub steps base batches pending e told)
    (state_of owner sub steps base (batches ++ shown ∷ []) pending new grown)
due_one_more cells d owner sub steps cursor base batches pending told grown shown e new was at fell says =
    let same : new.fallen ≡ is_some pending = ap (λ (x : Endpoint). x.fallen) was.accepts.kept ∙ fell in
    let from = own_as owner sub steps base batches pending e told at fell in
    let to = own_as owner sub steps base (batches ++ shown ∷ []) pending new grown was.far same in
    let since = sym (since_is told shown grown was.more) in (
      subst (λ (xs : List CellToken). ShowDelivery cells d xs) since was.are,
      subst (λ (xs : List CellToken). accept_brought (own_endpoint (state_of owner sub steps base batches pending e told))
          (entries_told xs) d ≡ Ok (own_endpoint (state_of owner sub steps base (batches ++ shown ∷ []) pending new grown))) since
          (ap (λ (x : Endpoint). accept_brought x (entries_told shown) d) from ∙ was.ok ∙ ap (λ x. Ok x) (sym to)),
      says ∙ was.far,
      ap (λ (x : Endpoint). as_state x grown shown) was.accepts.kept
          ∙ ap (λ xs. as_state e xs shown) (was.more ∙ ap (λ (xs : List CellToken). told ++ xs) since)
          ∙ ap (λ xs. as_state e (told ++ drop (length told) grown) xs) since,
    )
  where
    as_state : Endpoint → List CellToken → List CellToken → SubscriptionState
    as_state x xs batch = record (state_of owner sub steps base (batches ++ batch ∷ []) pending x xs) { tables = new.tables }

pub due_ok : (cells : Cells) (d : Delivery) (owner : Owner) (sub steps cursor : ℕ) (base : tables.TableState)
    (batches parts : List (List CellToken)) (pending : Option PendingAccept) (told grown shown : List CellToken)
    (e new : Endpoint) → WasAccepted cells d base batches told shown grown e new → e.cursor ≡ e.start + length told
    → e.fallen ≡ is_some pending → cursor ≡ new.cursor → parts ≡ batches ++ shown ∷ []
    → DueAnswers cells d (Ok cursor) (state_of owner sub steps base batches pending e told)
    (state_of owner sub steps base parts pending new grown)
due_ok cells d owner sub steps cursor base batches parts pending told grown shown e new was at fell says parted =
    subst (λ bs. DueAnswers cells d (Ok cursor) (state_of owner sub steps base batches pending e told)
    (state_of owner sub steps base bs pending new grown)) (sym parted)
    (due_one_more cells d owner sub steps cursor base batches pending told grown shown e new was at fell says)

applied_asks : (old : Endpoint) (last : ℕ) (r : Result tables.TableState Conflict) → AsksTables (applied old last r)
applied_asks old last (Ok rows) = tt
applied_asks old last (Err conflict) = tt

reaches_tables : (old : Endpoint) (entries : List Entry) (d : Delivery) → refusal_before old d ≡ None
    → first_outside_entry old.tables.schema entries ≡ None → AsksTables (accept_brought old entries d)
reaches_tables old entries d free none =
    subst AsksTables (sym (asked_of old entries d None free none))
    (applied_asks old d.last (single old.tables (group_of (joined_bodies entries))))

looked_answers : (cells : Cells) (d : Delivery) (old new : SubscriptionState) (e : SubscriptionError)
    → refusal_before (own_endpoint old) d ≡ None → new ≡ old → LookAnswers cells d old.tables.schema e
    → DueAnswers cells d (Err e) old new
looked_answers cells d old new (Refused why) free same look = look
looked_answers cells d old new (Unseen number shown) free same look = (same, look)
looked_answers cells d old new (Memory shown) free same look =
    (same, look.0, reaches_tables (own_endpoint old) (entries_told (tokens_shown shown)) d free look.1)
looked_answers cells d old new (RefusedEntries (refusal.Shape number) shown) free same look = (
  same,
  look.0,
  asked_of (own_endpoint old) (entries_told (tokens_shown shown)) d (Some look.1.0) free look.1.1
      ∙ ap (λ n. Err (refusal.Shape n)) look.1.2,
)
looked_answers cells d old new (RefusedEntries refusal.Store shown) free same look = absurd look
looked_answers cells d old new (RefusedEntries refusal.Closed shown) free same look = absurd look
looked_answers cells d old new (RefusedEntries refusal.StaleLink shown) free same look = absurd look
looked_answers cells d old new (RefusedEntries refusal.Seen shown) free same look = absurd look
looked_answers cells d old new (RefusedEntries (refusal.Gap expected) shown) free same look = absurd look
looked_answers cells d old new (RefusedEntries (refusal.Conflict conflict) shown) free same look = absurd look

-- the same of a result, and of a sequence and a schema that are these
pub looked_result : (cells sequence : Cells) (d : Delivery) (schema : List Shape) (old new : SubscriptionState)
    (r : Result ℕ SubscriptionError) (e : SubscriptionError) → r ≡ Err e → sequence ≡ cells
    → schema ≡ old.tables.schema → refusal_before (own_endpoint old) d ≡ None → new ≡ old
    → LookAnswers sequence d schema e → DueAnswers cells d r old new
looked_result cells sequence d schema old new r e is same known free unmoved look =
    subst (λ (x : Result ℕ SubscriptionError). DueAnswers cells d x old new) (sym is)
    (looked_answers cells d old new e free unmoved (subst (λ (cs : Cells). LookAnswers cs d old.tables.schema e) same
    (subst (λ (sch : List Shape). LookAnswers sequence d sch e) known look)))
