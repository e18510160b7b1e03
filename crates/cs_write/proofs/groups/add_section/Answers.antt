use Rattle.std.proofs.Common.{◌≡◌, ◌<◌, ◌++◌, ◌∷◌, [], length, None, Some, slice_get, sym, ap, subst, ◌∙◌, arith, rules}
use Rattle.std.specs.List.{position}
use Rattle.std.specs.Map.{values_of, lookup}
use Rattle.std.proofs.lemmas.List.Quantifiers.{position-Some}
use Rattle.std.proofs.lemmas.Map.Entries.{length-keys_of}
use Rattle.indexmap.proofs.CallerLemmas.{insert_entry-new}
use Rattle.indexmap.specs.IndexMap.{keys, get}
use Rattle.cs_model.specs.Schema.{same_shape}
use Rattle.cs_write.specs.Seen.{seen}
use Rattle.cs_write.proofs.forms.GroupLaws.{added_at, added_new, group_kept, unfound}
use Rattle.cs_write.proofs.groups.add_section.Goals as goal

pub returns-in_ok-push : goal.returns-in_ok-push
returns-in_ok-push c =
    let m = c.args.groups.now in
    let s = c.args.section in
    let at_shape : position (same_shape s.shape) (keys m) ≡ Some c.in-Some.place =
    ap (λ w. position (same_shape w) (keys m)) (sym c.shape-shape.ensures) ∙ sym c.in-Some.ensures.index in
    let found = position-Some (same_shape s.shape) (keys m) c.in-Some.place s.shape at_shape in
    let within : c.in-Some.place < length m.entries = omega (arith, found.0, length-keys_of m.entries) in
    let at : slice_get (values_of m.entries) c.in-Some.place ≡ Some c.in-Some-get_index_mut.group.now =
    sym c.in-Some-get_index_mut.ensures.value in
    record {
      ok = added_at m.entries c.in-Some.place s s.shape c.in-Some-get_index_mut.group.now c.push.new.self
          within found.1 found.2 at c.in_ok-push.ensures.items;
      err = tt;
    }

pub returns : goal.returns
returns c =
    let m = c.args.groups.now in
    let s = c.args.section in
    let none : lookup (same_shape s.shape) m.entries ≡ None =
    ap (λ w. lookup (same_shape w) m.entries) (sym c.shape-shape.ensures)
    ∙ unfound (lookup (same_shape c.shape-shape.result) m.entries) (sym c.in_default.ensures.found) in
    let same : c.shape-shape.result ≡ s.shape = c.shape-shape.ensures in
    let group = c.push-2.new.self in
    let items : group.items ≡ s ∷ [] = c.in_ok-push-2.ensures.items
    ∙ ap (λ xs. xs ++ s ∷ []) c.new-group.ensures.items in
    let absent : get same_shape m c.shape-shape.result ≡ None =
    subst (λ k. get same_shape m k ≡ None) (sym same) none in
    let pushed = c.in_ok-insert.ensures.entries ∙ insert_entry-new same_shape m c.shape-shape.result group absent
    ∙ ap (λ k. m.entries ++ (k, group) ∷ []) same in
    record { ok = ap seen pushed ∙ added_new m.entries s group none items; err = tt }

pub returns-in_err-push-clause-err : goal.returns-in_err-push-clause-err
returns-in_err-push-clause-err c =
    let m = c.args.groups.now in
    let kept = group_kept m.entries c.in-Some.place c.in-Some-get_index_mut.group.now c.push.new.self
    (sym c.in-Some-get_index_mut.ensures.value) c.in_err-push.ensures.items in
    search rules
