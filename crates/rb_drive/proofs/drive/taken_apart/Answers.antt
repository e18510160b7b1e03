use Rattle.std.proofs.Common.{◌≡◌, ◌++◌, [], ap, rules, subst, sym, ◌∙◌, IsPermutation}
use Rattle.std.proofs.lemmas.List.{append-nil, nil_from_length}
use Rattle.std.proofs.lemmas.List.Sorted.{IsNonDecreasingBy-from_sort_by_key}
use Rattle.std.specs.List.{flat_map}
use Rattle.std.specs.Vec.Iter.{into_iter_items}
use Rattle.rb_drive.proofs.drive.taken_apart.Goals as goal

-- none is left, and all faulty lines are sorted
pub returns-clause-faulty : goal.returns-clause-faulty
returns-clause-faulty g c =
    let none : into_iter_items c.loop-one.one-iterator ≡ [] =
    nil_from_length _ (sym c.loop-one.one-iterator.rest.ok.0 ∙ (c.in-None.ensures).steps.0) in
    let all : c.loop-one.faulty.items ≡ flat_map (λ one. one.faulty.items) c.args.publishing.items =
    sym (append-nil c.loop-one.faulty.items)
    ∙ ap (λ rest. c.loop-one.faulty.items ++ flat_map (λ one. one.faulty.items) rest) (sym none)
    ∙ c.loop-one.invariant.faulty in (
      subst (λ xs. IsPermutation xs c.sort_unstable_by_key.new.self.items) all c.sort_unstable_by_key.ensures.permutation,
      IsNonDecreasingBy-from_sort_by_key (λ one. one.line) _ c.sort_unstable_by_key.ensures.sorted
          (λ a r q k. search rules),
    )
