-- What the three statements that make a replica do.
use Rattle.std.proofs.Common.{◌≡◌, ℕ, pos, List, [], ◌∷◌, false, None, Ok, Err, Result, OnOk, refl, sym, ap, subst, ◌∙◌}
use Rattle.sqlite.specs.Tree.{Trees}
use Rattle.sqlite_schema.specs.declared.schema.Schema.{Schema}
use Rattle.sqlite_schema.specs.declared.schema.Table.{Table}
use Rattle.sqlite.specs.Change.{created, next_tree, KeepsRows}
use Rattle.sqlite.specs.Command.TheVariants.{CreateTable, Insert}
use Rattle.sqlite.specs.Source.TheVariants.{Values}
use Rattle.sqlite.specs.Does.{Tally, lacks_sequence}
use Rattle.sqlite.specs.Edit.{edit_of, edited}
use Rattle.sqlite.specs.Effect.{Database, IsDatabase}
use Rattle.sqlite.specs.Rowids.TheVariants.{Chosen}
use Rattle.sqlite.specs.State.{State, Writes, Executes, ExecutesInside}
use Rattle.sqlite.specs.declared.error.Error.{Error}
use Rattle.sqlite.proofs.Callers.{runs_as, one_step}
use Rattle.replica_store.specs.Layout.{empty_schema, rows_schema, replica_schema, rb_row, rb_mark}
use Rattle.replica_store.specs.Picture.{mark_record, IsNewReplica}
use Rattle.replica_store.specs.Inside.{IsBlankInside, HasRowTable, HasBothTables, IsNewInside}
use Rattle.replica_store.proofs.statements.Texts.{MakesThisTable, unplaced_mark, with_row_table, with_mark_table}
use Rattle.replica_store.proofs.statements.Texts.{create_row_text}
use Rattle.replica_store.proofs.statements.Texts.{makes_row_table, create_mark_text, makes_mark_table}
use Rattle.replica_store.proofs.statements.Texts.{first_mark_text, first_mark_terms, means_first_mark}
use Rattle.replica_store.proofs.statements.Did.{did}
use Rattle.replica_store.proofs.statements.Inserts.{has_inserted}
use Rattle.replica_store.proofs.statements.Parts.{not_stopped, value_given, two_not_zero, cast_null, cast_int}

-- the schema and the trees once the table is made
pub record HasMade (schema : Schema) (table : Table) (old new : State) : Type 0 where
  pub sound : IsDatabase new.now
  pub is : new.now.schema ≡ created schema table
  pub empty : new.now.trees (next_tree schema) ≡ []
  pub others : KeepsRows schema.tables old.now.trees new.now.trees

makes_table : (schema : Schema) (text : List ℕ) (table : Table) (old new : State) (count : ℕ)
    → MakesThisTable schema text table → lacks_sequence (created schema table) ≡ false → old.now.schema ≡ schema
    → Executes text [] old new (Ok count) → HasMade schema table old new
makes_table schema text table old new count it whole has h =
    let w = subst (λ t. Writes old new None CreateTable t [] count) it.statement
    (runs_as text [] old new schema has CreateTable it.command it.plain count h) in
    let all = not_stopped w.changed in
    let first = not_stopped all.1 in
    let made = first.1 in
    let both : Ok made.table ≡ Ok table = sym made.defined ∙ it.defines in
    let same : made.table ≡ table = cc in
    let is : first.0.schema ≡ created schema table = made.is ∙ ap (λ s. created s made.table) has
    ∙ ap (created schema) same in
    let plain : lacks_sequence first.0.schema ≡ false = ap lacks_sequence is ∙ whole in
    let now : new.now ≡ first.0 = ap (λ (p : Tally × Database). p.1) (value_given all.2)
    ∙ value_given (rw plain at first.2) in
    let trees : new.now.trees ≡ first.0.trees = ap (λ (d : Database). d.trees) now in
    record {
      sound = w.sound;
      is = ap (λ (d : Database). d.schema) now ∙ is;
      empty = ap (λ (t : Trees). t (next_tree schema)) trees
          ∙ subst (λ s. first.0.trees (next_tree s) ≡ []) has made.empty;
      others = subst (λ (t : Trees). KeepsRows schema.tables old.now.trees t) (sym trees)
          (subst (λ (s : Schema). KeepsRows s.tables old.now.trees first.0.trees) has made.others);
    }

pub row_table_made : (old new : State) (r : Result ℕ Error) → IsBlankInside old
    → ExecutesInside 0 create_row_text [] old new r → OnOk r (HasRowTable new)
row_table_made old new (Err e) was h = tt
row_table_made old new (Ok count) was h =
    let made = makes_table empty_schema create_row_text rb_row old new count makes_row_table refl was.schema h.0 in
    record {
      is_open = h.1.is_open;
      inside = h.1.mode;
      schema = made.is ∙ with_row_table;
      empty = made.empty;
    }

pub mark_table_made : (old new : State) (r : Result ℕ Error) → HasRowTable old
    → ExecutesInside 0 create_mark_text [] old new r → OnOk r (HasBothTables new)
mark_table_made old new (Err e) was h = tt
mark_table_made old new (Ok count) was h =
    let made =
    makes_table rows_schema create_mark_text unplaced_mark old new count makes_mark_table refl was.schema h.0 in
    record {
      is_open = h.1.is_open;
      inside = h.1.mode;
      schema = made.is ∙ with_mark_table;
      sound = made.sound;
      empty = made.others.0 ∙ was.empty;
      unmarked =
          made.empty;
    }

-- a new replica's trees
new_replica : (db : Trees) → db 0 ≡ [] → db 2 ≡ mark_record 0 ∷ [] → IsNewReplica db
new_replica db empty mark = record {
  replica = record {
    rising = rw empty tt;
    rows = λ r there. absurd (rw empty at there);
    mark = (0, mark);
  };
  empty = λ key body s. absurd (rw empty at s.1);
  cursor = mark;
}

pub first_mark_put : (old new : State) (r : Result ℕ Error) → HasBothTables old
    → ExecutesInside 0 first_mark_text [] old new r → OnOk r (IsNewInside new)
first_mark_put old new (Err e) was h = tt
first_mark_put old new (Ok count) was h =
    let db = old.now.trees in
    let from = Values first_mark_terms 3 in
    let ran = did first_mark_text [] old new (Insert 1 from) count means_first_mark (λ t w. w) was.schema h.0 in
    let it = has_inserted old rb_mark [] 1 from ran.tally new.now refl ran.does in
    let applied = one_step replica_schema _ db new.now.trees (edit_of db rb_mark [] Chosen 0 it.rows) refl it.written in
    let edit : edited db (edit_of db rb_mark [] Chosen 0 it.rows) ≡ mark_record 0 ∷ [] =
    ap (λ rows. edited db (edit_of db rb_mark [] Chosen 0 rows)) it.given.1
    ∙ rw (was.unmarked, cast_null, cast_int (pos 1), cast_int (pos 0)) in
    let rows = applied.tables.0 (λ e. two_not_zero (sym e)) ∙ was.empty in
    let mark = applied.rows ∙ edit in
    record {
      inside = h.1.mode;
      schema = it.schema;
      replica =
          new_replica new.now.trees rows mark;
    }
