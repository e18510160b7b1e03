-- What a replica keeps as a durable store of rows and a cursor.
use Rattle.std.proofs.Common.{◌≡◌, ◌≢◌, ◌⊎◌, inl, inr, ℕ, option_map, sym, ap, subst, ◌∙◌}
use Rattle.std.proofs.Common.{Result, Ok, Err, IfErr, OnOk}
use Rattle.std.specs.List.{IsDistinct}
use Rattle.std.specs.Map.{keys_of}
use Rattle.std.specs.FinMap as map
use Rattle.sqlite.specs.Effect.{Database}
use Rattle.sqlite.specs.State.{State, IsUnchanged}
use Rattle.sqlite.specs.Tree.{Trees}
use Rattle.cs_model.specs.Key.{row_key_cmp}
use Rattle.cs_apply.specs.SameKey.{same_key}
use Rattle.cs_apply.specs.State.{Rows}
use Rattle.par_apply.specs.RowChanges.{RowChanges, overlaid}
use Rattle.replica_store.specs.Causes.{CannotCommit, StoreHasCause}
use Rattle.replica_store.specs.Changes.{row_body, Commits}
use Rattle.replica_store.specs.Durable.{FailsToKeep, HasRows, HoldsRows}
use Rattle.replica_store.specs.Loading.{TableBodies}
use Rattle.replica_store.specs.Picture.{AreSameRows, HasCursor, HoldsReplica, IsNewReplica, Stores}
use Rattle.replica_store.specs.declared.error.ReplicaError.{ReplicaError}
use Rattle.replica_store.specs.declared.error.ReplicaError.TheVariants.{Unusable}
use Rattle.replica_store.proofs.replicas.FollowLaws.{tables_follow_commits}

-- a replica with these rows, of which a crash leaves what is committed
pub committed_rows_stand : (s : State) (rows : Rows) (place : ℕ) → HoldsReplica s → HasRows s.committed.trees rows place
    → ((db : Trees) → s.may_leave db → db ≡ s.committed.trees) → HoldsRows s rows place
committed_rows_stand s rows place held now stands = record {
  held = held;
  now = now;
  stands = λ db left. subst (λ t. HasRows t rows place) (sym (stands db left)) now;
}

-- a new replica has no rows and cursor 0
pub new_has_no_rows : (db : Trees) → IsNewReplica db → HasRows db map.empty 0
new_has_no_rows db new = record {
  rows_are = λ key body. (
    λ s. absurd (new.empty key body s),
    λ h. absurd (let e = sym (ap (option_map row_body) (map.get-empty row_key_cmp key)) ∙ h in cc),
  );
  cursor = new.cursor;
}

-- the rows that a commit leaves
pub commit_has_rows : (changes : RowChanges) (place : ℕ) (rows : Rows) (at : ℕ) (old new : Trees)
    → IsDistinct same_key (keys_of changes) → HasRows old rows at → Commits changes place old new
    → HasRows new (overlaid rows changes) place
commit_has_rows changes place rows at old new distinct was made = record {
  rows_are = tables_follow_commits changes place rows old new distinct made was.rows_are;
  cursor = made.cursor;
}

-- the rows that a crash leaves
pub crash_has_rows : (changes : RowChanges) (place : ℕ) (rows : Rows) (at : ℕ) (old db : Trees)
    → IsDistinct same_key (keys_of changes) → HasRows old rows at → (db ≡ old) ⊎ Commits changes place old db
    → HasRows db rows at ⊎ HasRows db (overlaid rows changes) place
crash_has_rows changes place rows at old db distinct was (inl same) = inl (subst (λ t. HasRows t rows at) (sym same) was)
crash_has_rows changes place rows at old db distinct was (inr made) =
    inr (commit_has_rows changes place rows at old db distinct was made)

-- two facts of the same `Ok` give a third, where the disk is clean
pub if_clean : {T E Clean P Q R : Type 0} (r : Result T E) → (Clean → P → Q → R) → (Clean → OnOk r P)
    → (Clean → OnOk r Q) → OnOk r (Clean → R)
if_clean (Ok x) f p q = λ clean. f clean (p clean) (q clean)
if_clean (Err e) f p q = tt

-- the cursor was read, and then the rows, and neither changed a thing
pub read_has_rows : (old mid new : State) (rows : Rows) (place : ℕ) → IsUnchanged old mid → IsUnchanged mid new
    → HasCursor old.committed.trees place → AreSameRows (Stores mid.committed.trees) (TableBodies rows)
    → HasRows new.committed.trees rows place
read_has_rows old mid new rows place first second cursor same =
    let first_trees = ap (λ (d : Database). d.trees) first.0.committed_is in
    let second_trees = ap (λ (d : Database). d.trees) second.0.committed_is in
    let read : HasRows mid.committed.trees rows place = record {
      rows_are = same;
      cursor = subst (λ t. HasCursor t place) (sym first_trees) cursor;
    } in
    subst (λ t. HasRows t rows place) (sym second_trees) read

-- the cause of an error, as a durable store has it
pub error_of_commit : {T : Type 0} (r : Result T ReplicaError) (old new : State) (changes : RowChanges) (cursor : ℕ)
    → IfErr r (λ e. e ≢ Unusable) → StoreHasCause r (CannotCommit changes old.committed.trees) old new
    → IfErr r (FailsToKeep old changes cursor new)
error_of_commit (Ok x) old new changes cursor named h = tt
error_of_commit (Err why) old new changes cursor named h =
    (named, λ clean says. inr (h clean (ap (λ e. Err e) says)))
