use Rattle.std.proofs.Common.{◌∙◌, ◌<◌, List, sym, ap, subst}
use Rattle.std.specs.Borrow.{Bor}
use Rattle.std.specs.FinMap as map
use Rattle.std.specs.List.{IsDistinct}
use Rattle.std.specs.Map.{keys_of}
use Rattle.cs_model.specs.declared.row_key.RowKey.{RowKey}
use Rattle.cs_model.specs.declared.value.Value.{Value}
use Rattle.cs_apply.specs.Seen.{listed}
use Rattle.cs_apply.specs.Steps.{FilledPlaces, rows_of}
use Rattle.cs_apply.proofs.rows_by_key.Keys.{same_key}
use Rattle.cs_apply.proofs.stored.Filled.{filled_distinct}
use Rattle.cs_apply.proofs.stored.Copied.{copied_more, all_copied, listed_at, listed_long}
use Rattle.cs_apply.proofs.places.Places.copied.Goals as goal

pub loop-pair-init : goal.loop-pair-init
loop-pair-init c = ap rows_of c.in_ok-rows.ensures.empty

pub loop-pair-preserved : goal.loop-pair-preserved
loop-pair-preserved c =
    let borrowed = c.deref-pair-items.result.now in
    let i = c.loop-pair.pair-index in
    let p = c.pair-item.result in
    let pair : RowKey × List Value = (p.0.now, p.1.now) in
    let es = c.args.self.now.rows.entries in
    let all = ap listed c.deref-pair-items.ensures.value ∙ c.in_ok-pairs.ensures in
    let distinct : IsDistinct same_key (keys_of (listed borrowed)) =
    subst (λ (pairs : FilledPlaces). IsDistinct same_key (keys_of pairs)) (sym all)
    (filled_distinct es c.len-places.ensures.unique) in
    copied_more (listed borrowed) i pair (rows_of c.loop-pair.rows.entries) (rows_of c.add_copy.new.rows.entries)
    distinct (subst (λ n. i < n) (sym (listed_long borrowed)) c.loop-pair-test.true)
    (ap (λ (q : Bor RowKey × Bor (List Value)). (q.0.now, q.1.now)) c.pair-item.is
    ∙ listed_at borrowed i p pair c.loop-pair-test.true)
    c.loop-pair.invariant c.in_ok-add_copy.ensures

pub returns-clause-rows : goal.returns-clause-rows
returns-clause-rows c =
    let borrowed = c.deref-pair-items.result.now in
    all_copied borrowed c.loop-pair.pair-index (rows_of c.loop-pair.rows.entries) c.loop-pair-test.false
    c.loop-pair.invariant
    ∙ ap map.from_entries (ap listed c.deref-pair-items.ensures.value ∙ c.in_ok-pairs.ensures)
