use Rattle.std.proofs.Common.{◌≡◌, ◌∙◌, ◌≤◌, refl, ap, sym, subst, arith, map, slice_get}
use Rattle.std.proofs.Common.{slice_set}
use Rattle.std.proofs.lemmas.Option.{get_or_from_slice_get, slice_get_within}
use Rattle.rb_deliveries.specs.declared.sub.Sub.{Sub}
use Rattle.rb_deliveries.specs.declared.rank.Held.{Held}
use Rattle.rb_deliveries.specs.declared.rank.Rank.{Rank}
use Rattle.rb_deliveries.specs.Expiry.{due_in, expired_sub, by_number, turns_from}
use Rattle.std.specs.List.{AllByRecursion}
use Rattle.rb_deliveries.specs.Subs.{AreGiven, IsDrawn, IsGiven}
use Rattle.rb_deliveries.proofs.subs.KnownLaws.{all_get, all_set}
use Rattle.rb_deliveries.proofs.orders.Line.{all_then}
use Rattle.rb_deliveries.proofs.orders.DueLaws.{past_has_due, map_expired, none_left, due_after, none_past}
use Rattle.rb_deliveries.proofs.orders.DueLaws.{waiting_after, given_expired_sub, due_part}
use Rattle.rb_deliveries.proofs.orders.DueLaws.{set_there}
use Rattle.rb_deliveries.proofs.kept.expire_due.Goals as goal

pub overflow_add-many : goal.overflow_add-many
overflow_add-many c =
    let i = c.loop-past.invariant in
    let f = past_has_due c.args.timeout c.args.clock c.loop-past.subs.items c.loop-past.waiting.moments c.loop-past.past
    c.in-Some.s i.waiting.in_flight i.past c.in-Some.is in
    let same = c.index.ensures ∙ get_or_from_slice_get c.loop-past.subs.items c.in-Some.s f.0 c.index.result.now f.1 in
    omega (
      arith,
      c.how_many_due-many.ensures,
      ap (due_in c.args.timeout c.args.clock) same,
      due_part c.args.timeout c.args.clock c.loop-past.subs.items c.in-Some.s f.0 f.1,
      i.many,
      c.requires.few,
    )

pub index_mut-requires : goal.index_mut-requires
index_mut-requires c =
    let i = c.loop-past.invariant in
    let f = past_has_due c.args.timeout c.args.clock c.loop-past.subs.items c.loop-past.waiting.moments c.loop-past.past
    c.in-Some.s i.waiting.in_flight i.past c.in-Some.is in
    omega (arith, slice_get_within c.loop-past.subs.items c.in-Some.s f.0 f.1, c.loop-past.subs.ok)

pub loop-past-init : goal.loop-past-init
loop-past-init c = record {
  subs = refl;
  many = omega arith;
  waiting = c.requires.waiting;
  given = c.requires.given;
  drawn = all_then (λ (sub : Sub). AllByRecursion (λ h. IsDrawn c.args.latest.front c.args.latest.turn h.rank)
      sub.queue.held)
      (λ sub. 1 ≤ due_in c.args.timeout c.args.clock sub
      → AllByRecursion (λ h. IsDrawn c.args.latest.front c.args.latest.turn h.rank) sub.queue.held)
      c.args.subs.now.items (λ sub drawn _. drawn) c.requires.drawn;
  past = c.first_past-past.ensures;
}

pub expire-requires-clause-drawn : goal.expire-requires-clause-drawn
expire-requires-clause-drawn c =
    let i = c.loop-past.invariant in
    let f = past_has_due c.args.timeout c.args.clock c.loop-past.subs.items c.loop-past.waiting.moments c.loop-past.past
    c.in-Some.s i.waiting.in_flight i.past c.in-Some.is in
    let same = c.index_mut.ensures.value
    ∙ get_or_from_slice_get c.loop-past.subs.items c.in-Some.s f.0 c.index_mut.result.now f.1 in
    subst (λ (sub : Sub). AllByRecursion (λ h. IsDrawn c.args.latest.front c.args.latest.turn h.rank) sub.queue.held)
    (sym same)
    (all_get (λ (sub : Sub). 1 ≤ due_in c.args.timeout c.args.clock sub
    → AllByRecursion (λ h. IsDrawn c.args.latest.front c.args.latest.turn h.rank) sub.queue.held)
    c.loop-past.subs.items c.in-Some.s f.0 i.drawn f.1 f.2)

pub loop-past-smaller : goal.loop-past-smaller
loop-past-smaller c =
    let i = c.loop-past.invariant in
    let f = past_has_due c.args.timeout c.args.clock c.loop-past.subs.items c.loop-past.waiting.moments c.loop-past.past
    c.in-Some.s i.waiting.in_flight i.past c.in-Some.is in
    let same = c.index_mut.ensures.value
    ∙ get_or_from_slice_get c.loop-past.subs.items c.in-Some.s f.0 c.index_mut.result.now f.1 in
    let ranks : Held → Rank = by_number (turns_from c.args.latest.front c.args.latest.turn) in
    let made : c.expire.new.self ≡ expired_sub c.args.timeout c.args.clock ranks f.0 =
    c.expire.ensures ∙ ap (expired_sub c.args.timeout c.args.clock ranks) same in
    omega (
      arith,
      due_after c.args.timeout c.args.clock c.loop-past.subs.items c.in-Some.s f.0 c.expire.new.self f.1,
      f.2,
      ap (due_in c.args.timeout c.args.clock) made,
      none_left c.args.timeout c.args.clock ranks f.0,
    )

pub loop-past-preserved : goal.loop-past-preserved
loop-past-preserved c =
    let i = c.loop-past.invariant in
    let f = past_has_due c.args.timeout c.args.clock c.loop-past.subs.items c.loop-past.waiting.moments c.loop-past.past
    c.in-Some.s i.waiting.in_flight i.past c.in-Some.is in
    let within = slice_get_within c.loop-past.subs.items c.in-Some.s f.0 f.1 in
    let read = c.index.ensures ∙ get_or_from_slice_get c.loop-past.subs.items c.in-Some.s f.0 c.index.result.now f.1 in
    let same = c.index_mut.ensures.value
    ∙ get_or_from_slice_get c.loop-past.subs.items c.in-Some.s f.0 c.index_mut.result.now f.1 in
    let ranks : Held → Rank = by_number (turns_from c.args.latest.front c.args.latest.turn) in
    let made : c.expire.new.self ≡ expired_sub c.args.timeout c.args.clock ranks f.0 =
    c.expire.ensures ∙ ap (expired_sub c.args.timeout c.args.clock ranks) same in
    let given = all_get (λ (sub : Sub). AreGiven c.args.next c.args.latest.turn sub.queue.held) c.loop-past.subs.items
    c.in-Some.s f.0 i.given f.1 in
    record {
      subs = ap (λ sub. map (expired_sub c.args.timeout c.args.clock ranks)
          (slice_set c.loop-past.subs.items c.in-Some.s sub)) made
          ∙ map_expired c.args.timeout c.args.clock ranks c.loop-past.subs.items c.in-Some.s f.0 f.1 ∙ i.subs;
      many = omega (
        arith,
        i.many,
        c.how_many_due-many.ensures,
        ap (due_in c.args.timeout c.args.clock) read,
        due_after c.args.timeout c.args.clock c.loop-past.subs.items c.in-Some.s f.0 c.expire.new.self f.1,
        ap (due_in c.args.timeout c.args.clock) made,
        none_left c.args.timeout c.args.clock ranks f.0,
      );
      waiting = waiting_after c.args.window c.in-Some.s c.loop-past.subs.items c.expire.new.self c.loop-past.waiting.line
          c.loop-past.waiting.moments c.stand.new.self.line c.stand.new.self.moments i.waiting
          (c.stand.ensures c.expire.new.self (ap (λ l. slice_get l c.in-Some.s) c.deref.ensures.value
          ∙ set_there c.loop-past.subs.items c.in-Some.s c.expire.new.self within));
      given = all_set (λ (sub : Sub). AreGiven c.args.next c.args.latest.turn sub.queue.held) c.loop-past.subs.items
          c.in-Some.s c.expire.new.self i.given (
            subst (λ (sub : Sub). AllByRecursion (λ h. IsGiven c.args.next h.span.status) sub.queue.held) (sym made)
                (given_expired_sub c.args.timeout c.args.clock ranks c.args.next f.0 given.0),
            given.1,
          );
      drawn = all_set (λ (sub : Sub). 1 ≤ due_in c.args.timeout c.args.clock sub
          → AllByRecursion (λ h. IsDrawn c.args.latest.front c.args.latest.turn h.rank) sub.queue.held)
          c.loop-past.subs.items c.in-Some.s c.expire.new.self i.drawn (λ due. absurd (omega (
            arith,
            due,
            ap (due_in c.args.timeout c.args.clock) made,
            none_left c.args.timeout c.args.clock ranks f.0,
          )));
      past = c.first_past-past-in-Some.ensures;
    }

pub returns-clause-many : goal.returns-clause-many
returns-clause-many c =
    let i = c.loop-past.invariant in
    let none = none_past c.args.timeout c.args.clock (λ h. h.rank) c.loop-past.subs.items c.loop-past.waiting.moments
    c.loop-past.past i.waiting.in_flight i.past c.in_default.is in
    omega (arith, i.many, none.1)

pub returns-clause-subs : goal.returns-clause-subs
returns-clause-subs c =
    let i = c.loop-past.invariant in
    let ranks : Held → Rank = by_number (turns_from c.args.latest.front c.args.latest.turn) in
    sym (none_past c.args.timeout c.args.clock ranks c.loop-past.subs.items c.loop-past.waiting.moments c.loop-past.past
    i.waiting.in_flight i.past c.in_default.is).0 ∙ i.subs
