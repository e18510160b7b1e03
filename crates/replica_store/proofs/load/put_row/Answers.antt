use Rattle.std.proofs.Common.{◌≡◌, ◌∙◌, sym, ap, Some, None, option_map, rules}
use Rattle.std.specs.FinMap as map
use Rattle.std.proofs.lemmas.Bool.{true≢false}
use Rattle.replica_store.specs.Changes.{row_body}
use Rattle.replica_store.proofs.replicas.LoadLaws.{puts_new_row}
use Rattle.replica_store.proofs.load.put_row.Goals as goal

pub returns-then-not-are_same-clause-unusable : goal.returns-then-not-are_same-clause-unusable
returns-then-not-are_same-clause-unusable c err =
    let there : map.get c.args.tables.now.rows c.args.key ≡ Some c.in-Some.there.now = search rules in
    record {
      there = row_body c.in-Some.there.now;
      has = ap (option_map row_body) there;
      differs = λ same. true≢false (sym
          (c.are_same.ensures.1 (c.bytes.ensures.bytes ∙ same ∙ sym c.bytes-in-Some.ensures.bytes))
          ∙ c.if-not-are_same.true);
    }

pub returns-clause-puts : goal.returns-clause-puts
returns-clause-puts c =
    let old = c.args.tables.now in
    let none : map.get old.rows c.args.key ≡ None = search rules in
    let is : c.place_row.new.tables.state ≡ record old { rows = map.insert old.rows c.args.key c.args.row } =
    search rules in
    puts_new_row old c.place_row.new.tables.state c.args.key c.args.row none is
