-- Worked rows as theorems: what is accepted by the deliveries that events and replies report,
-- whether it is a run, and which tables the batches leave.
use Rattle.std.specs.Prelude.{◌≡◌, ℕ, zero, suc, pos, true, false, List, [], ◌∷◌, length, map, refl}
use Rattle.std.specs.Prelude.{Option, Result, Err, OnOk}
use Rattle.std.specs.FinMap as by_key
use Rattle.std.proofs.Common.{inl, ap, subst, sym, ◌∙◌}
use Rattle.cs_apply.proofs.rows_by_key.Keys.{keys_total}
use Rattle.cs_apply.specs.declared.conflict.Conflict.{Conflict}
use Rattle.cs_apply.specs.declared.conflict.ConflictKind.TheVariants as kind
use Rattle.cs_apply.specs.Effect.{inserted}
use Rattle.cs_apply.specs.Single.{next_or_conflict, single_from, with_rows}
use Rattle.cs_apply.specs.State.{TableState}
use Rattle.cs_model.specs.declared.change.Change.{Change}
use Rattle.cs_model.specs.declared.change.Op.TheVariants.{Insert, Delete}
use Rattle.cs_model.specs.declared.origin.Origin.TheVariants.{Sent}
use Rattle.cs_model.specs.declared.row_key.RowKey.{RowKey}
use Rattle.cs_model.specs.declared.shape.Shape.{Shape}
use Rattle.cs_model.specs.declared.value.Value.{Value}
use Rattle.cs_model.specs.declared.value.Value.TheVariants.{Integer, Text}
use Rattle.cs_model.specs.Key.{key_of}
use Rattle.cs_model.specs.PackedChanges.{change_of}
use Rattle.cs_model.specs.Row.{row_fields}
use Rattle.cs_model.specs.Section.{Section}
use Rattle.cs_write.specs.Canon.{by_shape}
use Rattle.rb_desk.specs.declared.delivery.Delivery.{Delivery}
use Rattle.rb_sequence.specs.Entry.{Entry}
use Rattle.rb_subscriber.specs.Accept.{ConflictsSingly, part}
use Rattle.rb_subscriber.specs.Batches.{AppliesBatches, HasBatchTables}
use Rattle.rb_core.specs.Moves.{HasRun}
use Rattle.rb_core.specs.State.{empty_tables}
use Rattle.rb_core.specs.Told.{accepted, crashed}
use Rattle.rb_core.specs.World.{Subscriber}

-- ---- runs

-- an entry with this body
abbrev entry_with : ℕ → List Section → Entry
entry_with n body = record {
  number = n;
  item = record {
    publisher = 0;
    own = n;
    origin = Sent;
    body = body;
  };
}

-- Three entries without changes, so all tables are the same, and a subscription that was delivered
-- these.
abbrev numbered_entry : ℕ → Entry
numbered_entry n = entry_with n []

abbrev sequence : List Entry
sequence = numbered_entry 1 ∷ numbered_entry 2 ∷ numbered_entry 3 ∷ []

abbrev delivery : ℕ → ℕ → ℕ → Delivery
delivery number first last = record {
  number = number;
  sub = 0;
  link = 1;
  first = first;
  last = last;
}

abbrev subscribed_to : List Delivery → Subscriber
subscribed_to deliveries = record {
  start = 0;
  base = empty_tables [];
  accepted = [];
  batches = [];
  tables = empty_tables [];
  link = 1;
  closed = false;
  fallen = false;
  deliveries = deliveries;
}

-- accepting 1, then 2 to 3, is a run
pub next_is_a_run : HasRun sequence (accepted sequence 2
    (accepted sequence 1 (subscribed_to (delivery 1 1 1 ∷ delivery 2 2 3 ∷ []))))
next_is_a_run = refl

-- the second of some numbers
abbrev second : List ℕ → ℕ
second (m ∷ n ∷ rest) = n
second numbers = 0

-- only 2 has it
abbrev IsTwo : ℕ → Type 0
IsTwo (suc (suc zero)) = Unit {0}
IsTwo n = ⊥

-- the second number that was accepted, if it is a run of two entries from the first on
abbrev second_of_run : (q : Subscriber) → HasRun sequence q
    → second (map (λ e. e.number) q.accepted)
    ≡ second (map (λ e. e.number) (part sequence q.start (length q.accepted)))
second_of_run q run = ap (λ entries. second (map (λ e. e.number) entries)) run

-- Accepting 1, then 3, isn't one. A run of two entries would be 1, then 2: *HasRun* refuses a
-- broker that skips numbers, whatever its tables are.
abbrev skipping : Subscriber
skipping = accepted sequence 2
    (accepted sequence 1 (subscribed_to (delivery 1 1 1 ∷ delivery 2 3 3 ∷ [])))

pub skipping_accepts : map (λ e. e.number) skipping.accepted ≡ 1 ∷ 3 ∷ []
skipping_accepts = refl

pub run_of_two : map (λ e. e.number) (part sequence 0 (length skipping.accepted)) ≡ 1 ∷ 2 ∷ []
run_of_two = refl

pub skipping_is_no_run : (tables : TableState)
    → HasRun sequence (record skipping { tables = tables }) → ⊥
skipping_is_no_run tables run =
    subst IsTwo (sym (second_of_run (record skipping { tables = tables }) run)) tt

-- nor is accepting 1 twice
abbrev repeating : Subscriber
repeating = accepted sequence 1 (accepted sequence 1 (subscribed_to (delivery 1 1 1 ∷ [])))

pub repeating_accepts : map (λ e. e.number) repeating.accepted ≡ 1 ∷ 1 ∷ []
repeating_accepts = refl

pub repeating_is_no_run : (tables : TableState)
    → HasRun sequence (record repeating { tables = tables }) → ⊥
repeating_is_no_run tables run =
    subst IsTwo (sym (second_of_run (record repeating { tables = tables }) run)) tt

-- ---- batches

-- a table `t`, whose first column is the key, and tables in which it has the row (1, 'q')
abbrev shape_t : Shape
shape_t = record { name = 116 ∷ []; flags = 1 ∷ 0 ∷ [] }

abbrev row_one : ℕ → List Value
row_one letter = Integer (pos 1) ∷ Text (letter ∷ []) ∷ []

-- the entries 1 and 2: INSERT of the row (1, 'x'), and DELETE of it
abbrev insert_x : Change
insert_x = change_of Insert false [] (row_fields (row_one 120))

abbrev delete_x : Change
delete_x = change_of Delete false (row_fields (row_one 120)) []

abbrev changing_entry : ℕ → Change → Entry
changing_entry n change = entry_with n (record { shape = shape_t; changes = change ∷ [] } ∷ [])

abbrev inserts_x : Entry
inserts_x = changing_entry 1 insert_x

abbrev deletes_x : Entry
deletes_x = changing_entry 2 delete_x

abbrev both_of_x : List Entry
both_of_x = inserts_x ∷ deletes_x ∷ []

abbrev key_one : RowKey
key_one = key_of 0 (1 ∷ 0 ∷ []) insert_x

abbrev holding_q : TableState
holding_q = record {
  schema = shape_t ∷ [];
  kept = true ∷ [];
  rows = by_key.insert by_key.empty key_one (row_one 113);
}

-- Singly, the INSERT conflicts with the row that is there.
abbrev insert_finds : Option (List Value) → Result TableState Conflict
insert_finds found = with_rows holding_q
    (next_or_conflict (λ next after. single_from (shape_t ∷ []) (true ∷ []) [] next after) 0
    (inserted holding_q.rows key_one (row_one 120) found))

pub insert_conflicts : insert_finds (by_key.get holding_q.rows key_one)
    ≡ Err (record { position = 0; kind = kind.Conflict })
insert_conflicts = ap insert_finds
    (by_key.get-insert keys_total by_key.empty key_one (row_one 113) key_one)

pub both_conflict_singly : ConflictsSingly holding_q both_of_x
unfolding single_from
both_conflict_singly = inl (record { position = 0; kind = kind.Conflict }, insert_conflicts)

-- Accepted as one delivery both apply, since their group has no change. The tables stay, and they
-- are those of the one batch.
abbrev before_x : Subscriber
before_x = record (subscribed_to (delivery 1 1 2 ∷ [])) { base = holding_q; tables = holding_q }

abbrev hiding : Subscriber
hiding = accepted both_of_x 1 before_x

pub hiding_keeps_q : hiding.tables ≡ holding_q
unfolding by_shape single_from
hiding_keeps_q = refl

pub hiding_has_batch_tables :
    HasBatchTables holding_q hiding.batches hiding.accepted hiding.tables
unfolding by_shape single_from
hiding_has_batch_tables = record { entries = refl; applied = (holding_q, refl, refl) }

-- As two batches they don't apply: no tables are those of these batches.
pub apart_they_conflict : (now : TableState)
    → AppliesBatches holding_q ((inserts_x ∷ []) ∷ (deletes_x ∷ []) ∷ []) now → ⊥
unfolding by_shape single_from
apart_they_conflict now applied = subst (λ (r : Result TableState Conflict). OnOk r ⊥)
    (sym insert_conflicts ∙ applied.1) tt

-- A fall adds the batch if the accept was kept, and else none.
pub kept_fall_has_batch : (crashed both_of_x 1 true before_x).batches ≡ both_of_x ∷ []
kept_fall_has_batch = refl

pub lost_fall_has_none : (crashed both_of_x 1 false before_x).batches ≡ []
lost_fall_has_none = refl

-- A batch of the first entry alone isn't the batches of both, whatever the tables are.
pub left_out_is_no_batch : (now : TableState)
    → HasBatchTables holding_q ((inserts_x ∷ []) ∷ []) both_of_x now → ⊥
left_out_is_no_batch now has = subst IsTwo (sym (ap length has.entries)) tt
