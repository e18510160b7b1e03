-- What setting the cursor does to a replica's trees.
use Rattle.std.proofs.Common.{◌≡◌, ℕ, pos, [], ◌∷◌, map, Ok, Err, Result, OnOk, refl, sym, ap, subst, ◌∙◌}
use Rattle.std.specs.List.Sorted.{IsPermutation}
use Rattle.sqlite_value.specs.declared.value.Value.TheVariants.{Null, Int}
use Rattle.sqlite.specs.Order.{Row}
use Rattle.sqlite.specs.Tree.{Trees, IsTable}
use Rattle.sqlite_sql.specs.Query.{IsAnswer, Output, output, page}
use Rattle.sqlite_sql.specs.Program.{overlay}
use Rattle.sqlite.specs.Command.TheVariants.{Update}
use Rattle.sqlite.specs.Edit.{edit_of, edited}
use Rattle.sqlite.specs.Rowids.TheVariants.{Given}
use Rattle.sqlite_rules.specs.Lists.{Has}
use Rattle.sqlite_rules.specs.Calls.{ids_of}
use Rattle.sqlite.specs.Does.{Tally}
use Rattle.sqlite.specs.Rows.{Written}
use Rattle.sqlite.specs.Effect.{Database}
use Rattle.sqlite.specs.declared.error.Error.{Error}
use Rattle.sqlite.specs.State.{State, ExecutesInside}
use Rattle.sqlite.proofs.Callers.{one_step, one_permutation}
use Rattle.replica_store.specs.Layout.{rb_mark, replica_schema}
use Rattle.replica_store.specs.Picture.{mark_record}
use Rattle.replica_store.specs.Inside.{IsInside, SetsCursor}
use Rattle.replica_store.proofs.statements.Did.{did}
use Rattle.replica_store.proofs.statements.Parts.{not_stopped, value_given, two_not_zero, cast_null, cast_int}
use Rattle.replica_store.proofs.statements.Parts.{mark_at_one}
use Rattle.replica_store.proofs.statements.Texts.{set_cursor_text, cursor_query, means_set_cursor}

pub sets_the_cursor : (old new : State) (place : ℕ) (r : Result ℕ Error) → IsInside old
    → ExecutesInside 0 set_cursor_text (Int (pos place) ∷ []) old new r → OnOk r (SetsCursor place old new)
sets_the_cursor old new place (Err e) i h = tt
sets_the_cursor old new place (Ok count) i h =
    let params : Row = Int (pos place) ∷ [] in
    let db = old.now.trees in
    let was = i.replica.mark.1 in
    let first = mark_record i.replica.mark.0 in
    let command = Update 1 (record { lets = []; body = cursor_query }) in
    let did_so = did set_cursor_text params old new command count means_set_cursor (λ t w. w) i.schema h.0 in
    let done = not_stopped did_so.does in
    let now = ap (λ (p : Tally × Database). p.1) (value_given (not_stopped (not_stopped done.2).2).2) in
    let found = not_stopped done.1 in
    let written = not_stopped found.2 in
    let trees : done.0.trees ≡ written.0 = ap (λ (it : Written). it.trees) (value_given written.2) in
    let a : IsAnswer cursor_query (overlay db []) params found.0 = found.1.answer Null in
    let staged : a.staged ≡ (params ∷ first ∷ []) ∷ [] = a.grouped ∙ rw was in
    let o : Output = ([], Int (pos 1) ∷ Int (pos 1) ∷ Null ∷ Int (pos place) ∷ []) in
    let kept : a.kept ≡ o ∷ [] = a.distinct ∙ ap (map (output cursor_query)) staged in
    let ordered = one_permutation o a.ordered (subst (λ k. IsPermutation k a.ordered) kept a.same) in
    let rows : found.0 ≡ o.1 ∷ [] = a.shown
    ∙ ap (λ xs. page cursor_query params (map (λ (p : Output). p.1) xs)) ordered in
    let edit = edit_of db rb_mark (ids_of found.0) Given 1 found.0 in
    let applied = one_step replica_schema _ db written.0 edit refl written.1 in
    let all : new.now.trees ≡ written.0 = ap (λ (d : Database). d.trees) now ∙ trees in
    let after : edited db edit ≡ mark_record place ∷ [] =
    ap (λ sources. edited db (edit_of db rb_mark (ids_of sources) Given 1 sources)) rows
    ∙ rw (was, mark_at_one i.replica.mark.0, cast_int (pos 1), cast_null, cast_int (pos place)) in
    let mark = ap (λ (t : Trees). t 2) all ∙ applied.rows ∙ after in
    let same = ap (λ (t : Trees). t 0) all ∙ applied.tables.0 (λ e. two_not_zero (sym e)) in
    record {
      inside = record {
        is_open = h.1.is_open;
        inside = h.1.mode;
        schema = ap (λ (d : Database). d.schema) now;
        sound = did_so.sound;
        replica = record {
          rising = subst IsTable (sym same) i.replica.rising;
          rows = λ r there. i.replica.rows r (subst (λ l. Has l r) same there);
          mark = (place, mark);
        };
      };
      rows = same;
      mark = mark;
    }
