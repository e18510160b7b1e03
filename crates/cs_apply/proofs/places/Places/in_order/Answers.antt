use Rattle.std.specs.Ordering.{is_lt}
use Rattle.std.proofs.Common.{rules}
use Rattle.std.proofs.lemmas.List.Sorted.{ranks_by, answers_always}
use Rattle.cs_model.specs.Key.{row_key_cmp}
use Rattle.cs_apply.specs.Steps.{filled}
use Rattle.cs_apply.proofs.rows_by_key.Keys.{keys_total}
use Rattle.cs_apply.proofs.stored.Filled.{filled_distinct}
use Rattle.cs_apply.proofs.rows_by_key.Orders.{sorted_pairs}
use Rattle.cs_apply.proofs.places.Places.in_order.Goals as goal

pub returns : goal.returns
returns c =
    let es = c.args.self.now.rows.entries in
    sorted_pairs (λ p. (p.0.now, p.1.now)) (filled es) _ c.sort_unstable_by.new.self.items
    (filled_distinct es c.len-places.ensures.unique)
    c.in_ok-pairs.ensures
    c.sort_unstable_by.ensures.permutation
    (c.sort_unstable_by.ensures.sorted (λ x y. is_lt (row_key_cmp x.0.now y.0.now)) (ranks_by keys_total (λ x. x.0.now))
    (answers_always _ _ _ (λ f a r f2 k. search rules)))
