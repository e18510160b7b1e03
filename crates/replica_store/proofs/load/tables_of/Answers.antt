use Rattle.std.proofs.Common.{◌≡◌, ◌+◌, ◌<◌, Err, true, drop, length, replicate, take, sym, ap}
use Rattle.std.proofs.Common.{subst, rules}
use Rattle.std.specs.Arc.{arc_value}
use Rattle.std.specs.FinMap as map
use Rattle.std.proofs.lemmas.List.{take-append-drop}
use Rattle.sqlite_rules.proofs.ListLemmas.{has_front, has_last}
use Rattle.replica_store.specs.Loading.{AreSchemaRows, LoadsRows, ShownBodies, AddsShown}
use Rattle.replica_store.specs.declared.error.ReplicaError.TheVariants.{Unusable}
use Rattle.replica_store.proofs.replicas.LoadLaws.{loads_none, loads_one_more, never_rows, next_taken, none_are_rows, rows_one_more}
use Rattle.replica_store.proofs.load.tables_of.Goals as goal

pub loop-shown-init : goal.loop-shown-init
loop-shown-init c =
    let schema = arc_value c.args.schema.now in
    let is : c.in_ok-tables.tables ≡ record {
      schema = schema;
      kept = replicate (length schema) true;
      rows =
          map.empty;
    } = search rules in (
      loads_none schema c.in_ok-tables.tables (ap (λ t. t.schema) is) (ap (λ t. t.kept) is) (ap (λ t. t.rows) is),
      none_are_rows schema,
    )

pub returns-in_err-add_shown-clause-unusable : goal.returns-in_err-add_shown-clause-unusable
returns-in_err-add_shown-clause-unusable c err show are =
    let all = c.args.answer.now in
    let at = c.loop-shown.shown-index in
    let item = c.shown-item.result in
    let inside : at < length all = search rules in
    let more = next_taken all at item inside c.shown-item.is in
    let failed : c.add_shown.result ≡ Err Unusable = search rules in
    never_rows (arc_value c.args.schema.now) (take at all) all item c.loop-shown.tables c.loop-shown.invariant.0
    (c.add_shown.ensures.unusable failed)
    (λ y there. has_front all (take at all) (drop at all) y (sym (take-append-drop at all)) there)
    (has_front all (take (at + 1) all) (drop (at + 1) all) item (sym (take-append-drop (at + 1) all))
    (has_last (take (at + 1) all) (take at all) item more)) show are

pub loop-shown-preserved : goal.loop-shown-preserved
loop-shown-preserved c =
    let all = c.args.answer.now in
    let at = c.loop-shown.shown-index in
    let item = c.shown-item.result in
    let inside : at < length all = search rules in
    let more = next_taken all at item inside c.shown-item.is in
    let adds : AddsShown item c.loop-shown.tables c.add_shown.new.tables = search rules in
    let schema = arc_value c.args.schema.now in
    let was = c.loop-shown.invariant in
    let tables = c.add_shown.new.tables in
    subst (λ xs. LoadsRows schema (ShownBodies xs) tables × AreSchemaRows schema (ShownBodies xs)) (sym more) (
      loads_one_more schema (take at all) item c.loop-shown.tables tables was.0 adds,
      rows_one_more schema (take at all) item c.loop-shown.tables tables was.0 was.1 adds,
    )
