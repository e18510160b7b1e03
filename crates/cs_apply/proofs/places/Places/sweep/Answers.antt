use Rattle.std.proofs.Common.{rules, ap, ◌∙◌, is_some}
use Rattle.std.specs.FinMap as map
use Rattle.std.proofs.lemmas.Map.Made.{filter_same_pairs}
use Rattle.cs_apply.specs.Steps.{filled}
use Rattle.cs_apply.proofs.stored.Filled.{filled-swept}
use Rattle.cs_apply.proofs.places.Places.sweep.Goals as goal

pub returns-then-self-len-clause-rows : goal.returns-then-self-len-clause-rows
returns-then-self-len-clause-rows c =
    let es = c.args.self.now.rows.entries in
    ap (λ l. map.from_entries (filled l))
    (filter_same_pairs _ (λ e. is_some e.1) _ (λ k v b w g call. search rules) es _ c.retain.ensures.filtered)
    ∙ ap map.from_entries (filled-swept es)
