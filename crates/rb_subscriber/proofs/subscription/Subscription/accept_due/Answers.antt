use Rattle.std.proofs.Common.{Err, sym, ap, ◌∙◌, subst}
use Rattle.std.proofs.lemmas.Result.{err_from_is_err_and}
use Rattle.cs_apply.specs.State.{TableState}
use Rattle.rb_subscriber.specs.Endpoint.{Endpoint}
use Rattle.rb_subscriber.specs.Shown.{AreTokens, entries_told}
use Rattle.rb_subscriber.specs.Batches.{HasBatchTables}
use Rattle.rb_subscriber.specs.Subscription.{SubscriptionState, batches_told}
use Rattle.rb_subscriber.specs.declared.refusal.SubscriptionError.{SubscriptionError}
use Rattle.rb_subscriber.proofs.accepting.FallLaws.{if_none}
use Rattle.rb_subscriber.proofs.accepting.ShownLaws.{WasAccepted, due_ok, looked_result, state_of, was_accepted}
use Rattle.rb_subscriber.proofs.accepting.TokenLaws.{tokens_by_place}
use Rattle.rb_subscriber.proofs.subscription.Subscription.accept_due.Goals as goal

pub returns-in_err-shown-clause-answers : goal.returns-in_err-shown-clause-answers
returns-in_err-shown-clause-answers g c =
    let s = c.self.inside in
    let old = c.args.self.now in
    let p = err_from_is_err_and c.from_residual.result c.from_residual.ensures.1 in
    let schema = c.schema-schema.ensures.same ∙ ap (λ (t : TableState). t.schema) c.tables.ensures
    ∙ ap (λ (x : SubscriptionState). x.tables.schema) c.self.view_is in
    looked_result g.L.StepLedger.cells c.args.sequence.now c.args.delivery.now c.schema-schema.result.now old
    (state_of s.stake s.sub s.steps s.base.value s.batches.list s.pending s.end c.tokens_of.new.told.items) c.from_residual.result
    c.in_err-shown.field-0.0 (p.1 ∙ ap (λ (e : SubscriptionError). Err e) p.2) c.requires.cells schema c.requires.free
    (ap (state_of s.stake s.sub s.steps s.base.value s.batches.list s.pending s.end) c.tokens_of.ensures.same ∙ c.self.view_is) c.in_err-shown.ensures.err

pub invariant_of-entries : goal.invariant_of-entries
invariant_of-entries g c = record {
  tokens = subst (λ ts. AreTokens c.args.sequence.now ts) (sym c.deref.ensures.value)
      (tokens_by_place c.args.sequence.now c.args.delivery.now.first c.in_ok-shown.shown.items c.in_ok-shown.ensures.ok.0);
}

-- the delivery was accepted
accepted : (g : _) (c : goal.After-add g) → WasAccepted g.L.StepLedger.cells c.args.delivery.now c.self.inside.base.value
    c.self.inside.batches.list c.self.inside.told.items c.in_ok-shown.shown.items c.add.new.told.items c.self.inside.end c.accept_brought.new.self
accepted g c =
    let s = c.self.inside in
    was_accepted g.L.StepLedger.cells c.args.sequence.now c.args.delivery.now s.base.value s.batches.list s.told.items
    c.tokens_of.new.told.items c.in_ok-shown.shown.items c.add.new.told.items _ s.end c.accept_brought.new.self
    c.requires.cells c.in_ok-shown.ensures.ok c.tokens_of.ensures.same c.add.ensures
    (ap entries_told c.deref.ensures.value) c.in-Ok.ensures.answers.0 c.in-Ok.ensures.singly c.self.invariant.0
    c.self.invariant.1 c.self.invariant.2 c.self.invariant.8

pub invariant_of-self-in-Ok : goal.invariant_of-self-in-Ok
invariant_of-self-in-Ok g c =
    let was = accepted g c in
    let s = c.self.inside in
    let inv = c.self.invariant in
    let none = ap (λ (x : SubscriptionState). x.pending) c.self.view_is ∙ c.requires.none in (
      was.far,
      was.tokens,
      was.singly,
      ap (λ (x : Endpoint). x.fallen) was.accepts.kept ∙ inv.3,
      if_none c.self.inside.pending _ none,
      if_none c.self.inside.pending _ none,
      inv.6,
      inv.7,
      subst (λ bs. HasBatchTables s.base.value (batches_told bs) (entries_told c.add.new.told.items)
          c.accept_brought.new.self.tables) (sym c.with.ensures) was.batched,
    )

pub returns-in-Ok-clause-answers : goal.returns-in-Ok-clause-answers
returns-in-Ok-clause-answers g c =
    let s = c.self.inside in
    rw (← c.self.view_is)
    (due_ok g.L.StepLedger.cells c.args.delivery.now s.stake s.sub s.steps c.in-Ok.cursor s.base.value s.batches.list _ s.pending
    s.told.items
    c.add.new.told.items c.in_ok-shown.shown.items s.end c.accept_brought.new.self (accepted g c) c.self.invariant.0
    c.self.invariant.3 c.in-Ok.ensures.answers.1 c.with.ensures)
