use Rattle.std.proofs.Common.{◌≡◌, [], ap, map, not, rules, sym, ◌∙◌}
use Rattle.std.proofs.lemmas.List.{nil_from_length}
use Rattle.std.specs.Vec.Iter.{into_iter_items}
use Rattle.rb_drive.specs.Owners.{beginning_of, publisher_lines}
use Rattle.rb_drive.proofs.inputs.ListLaws.{all_moved, moved_on, pushed_one}
use Rattle.rb_drive.proofs.owners.fn.run_all.scope.Goals as goal

pub loop-sender-preserved : goal.loop-sender-preserved
loop-sender-preserved g c =
    let done = c.loop-sender.publishers.items in
    let handle = c.in-Ok-spawn_with.handle in
    let sender = c.in-Some.sender in
    let same : publisher_lines handle.promise.0.value.publisher handle.promise.0.value.lines.items
    ≡ publisher_lines sender.publisher sender.lines.items =
    ap (λ p. publisher_lines p.0.value.publisher p.0.value.lines.items) c.in-Ok-spawn_with.ensures.ok
    ∙ ap (λ v. publisher_lines v.publisher v.lines.items) c.of.ensures in
    rw (pushed_one _ done _ _ c.push.ensures.items (c.is_err.ensures.negation ∙ ap not c.if-is_err.false)) (moved_on
    (λ h. publisher_lines h.promise.0.value.publisher h.promise.0.value.lines.items)
    (λ one. publisher_lines one.publisher one.lines.items) done handle sender (into_iter_items c.next.new.self) _ same
    (rw c.in-Some.ensures.steps.0 at c.loop-sender.invariant))

pub spawn_with-requires-in-loop-reader-clause-runs :
    goal.spawn_with-requires-in-loop-reader-clause-runs
spawn_with-requires-in-loop-reader-clause-runs g c κs within = (
  search (rules, c.requires.0),
  search (rules, c.requires.1),
  search (rules, c.requires.2),
  search (rules, c.requires.3),
)

pub loop-reader-preserved : goal.loop-reader-preserved
loop-reader-preserved g c =
    let done = c.loop-reader.subscribers.items in
    let handle = c.in-Ok-spawn_with-2.handle in
    let reader = c.in-Some-reader.reader in
    let same : beginning_of handle.promise.0.value.subscription ≡ beginning_of reader.subscription =
    ap (λ p. beginning_of p.0.value.subscription) c.in-Ok-spawn_with-2.ensures.ok
    ∙ ap (λ v. beginning_of v.subscription) c.of-in-loop-reader.ensures in
    rw (pushed_one _ done _ _ c.push-in-loop-reader.ensures.items
    (c.is_err-in-loop-reader.ensures.negation ∙ ap not c.if-is_err-2.false)) (moved_on
    (λ h. beginning_of h.promise.0.value.subscription) (λ one. beginning_of one.subscription) done handle reader
    (into_iter_items c.next-in-loop-reader.new.self) _ same
    (rw c.in-Some-reader.ensures.steps.0 at c.loop-reader.invariant))

-- a subscriber whose thread can't be made is dropped as it came
pub invariant_of-t-154 : goal.invariant_of-t-154
invariant_of-t-154 g c = record { shown = c.drop-arg-in_default-spawn_with-2-2-1.given.0.0.value.4.shown }

pub returns : goal.returns
returns g c =
    let senders : into_iter_items c.loop-sender.sender-iterator ≡ [] =
    nil_from_length _ (sym c.loop-sender.sender-iterator.rest.ok.0 ∙ (c.in-None.ensures).steps.0) in
    let readers : into_iter_items c.loop-reader.reader-iterator ≡ [] =
    nil_from_length _ (sym c.loop-reader.reader-iterator.rest.ok.0 ∙ (c.in-None-reader.ensures).steps.0) in
    record {
      lines = c.in_ok-publishing.ensures
          ∙ all_moved (λ h. publisher_lines h.promise.0.value.publisher h.promise.0.value.lines.items)
          (λ one. publisher_lines one.publisher one.lines.items) c.loop-sender.publishers.items
          (into_iter_items c.loop-sender.sender-iterator) _ senders c.loop-sender.invariant
          ∙ ap (λ xs. map (λ one. publisher_lines one.publisher one.lines.items) xs)
          c.into_iter-sender-iterator.ensures.into_iter_gives.0;
      begun = c.in_ok-accepting.ensures
          ∙ all_moved (λ h. beginning_of h.promise.0.value.subscription) (λ one. beginning_of one.subscription)
          c.loop-reader.subscribers.items (into_iter_items c.loop-reader.reader-iterator) _ readers c.loop-reader.invariant
          ∙ ap (λ xs. map (λ one. beginning_of one.subscription) xs)
          c.into_iter-reader-iterator.ensures.into_iter_gives.0;
    }
