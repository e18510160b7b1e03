use Rattle.std.proofs.Common.{◌≡◌, ◌<◌, ◌≤◌, suc, Some, Ok, Err, refl, sym, ap, ◌∙◌, subst, arith}
use Rattle.std.proofs.lemmas.Result.{err_from_is_err_and}
use Rattle.std.specs.List.{IsDistinct}
use Rattle.std.specs.Map.{keys_of}
use Rattle.cs_apply.specs.SameKey.{same_key}
use Rattle.cs_apply.specs.Single.{single}
use Rattle.cs_apply.specs.State.{TableState}
use Rattle.cs_group.specs.Group.{group_of}
use Rattle.par_apply.specs.Durable.{changed_tables}
use Rattle.par_apply.specs.Planned.{RowsFit, planned_changes}
use Rattle.rb_subscriber.specs.Accept.{accept_brought, HasSingleTables, joined_bodies}
use Rattle.rb_subscriber.specs.Batches.{HasBatchTables}
use Rattle.rb_subscriber.specs.Durable.{IfStoreFailed, KeepAnswers, KeptAnswers}
use Rattle.rb_subscriber.specs.Endpoint.{Endpoint}
use Rattle.rb_subscriber.specs.Shown.{AreTokens, ShowDelivery, entries_told}
use Rattle.rb_subscriber.specs.Subscription.{SubscriptionState, batches_told, cursor_of}
use Rattle.rb_subscriber.specs.declared.keeping.KeepError.{KeepError}
use Rattle.rb_subscriber.specs.declared.refusal.DurableError.{DurableError}
use Rattle.rb_subscriber.specs.declared.refusal.DurableError.TheVariants as durable
use Rattle.rb_subscriber.specs.declared.refusal.SubscriptionError.TheVariants.{RefusedEntries}
use Rattle.rb_subscriber.specs.declared.shown.Shown.TheVariants as shown
use Rattle.rb_subscriber.proofs.accepting.AcceptLaws.{accepted_steps}
use Rattle.rb_subscriber.proofs.accepting.FallLaws.{durable_free, fell_holds, if_none, it_falls, last_shown, pending_over, refused_kept}
use Rattle.rb_subscriber.proofs.accepting.ShownLaws.{WasAccepted, batches_stay, due_ok, looked_result, state_of, was_accepted}
use Rattle.rb_subscriber.proofs.accepting.TokenLaws.{tokens_by_place}
use Rattle.rb_subscriber.proofs.subscription.Subscription.accept_durable.Goals as goal

pub returns-in_err-shown-clause-answers : goal.returns-in_err-shown-clause-answers
returns-in_err-shown-clause-answers g c =
    let s = c.self.inside in
    let old = c.args.self.now in
    let cells = g.L.StepLedger.cells in
    let d = c.args.delivery.now in
    let p = err_from_is_err_and c.from_residual.result c.from_residual.ensures.1 in
    let schema = c.schema-schema.ensures.same ∙ ap (λ (t : TableState). t.schema) c.tables.ensures
    ∙ ap (λ (x : SubscriptionState). x.tables.schema) c.self.view_is in
    let why = c.in_err-shown.field-0.0 in
    let new = state_of s.stake s.sub s.steps s.base.value s.batches.list s.pending s.end c.tokens_of.new.told.items in
    durable_free cells d c.from_residual.result old new c.in_default.ensures.why
    (subst (λ r. KeptAnswers cells d r old new) (sym (p.1 ∙ ap (λ (e : DurableError _). Err e) p.2))
    (looked_result cells c.args.sequence.now d c.schema-schema.result.now old new (Err why) why refl c.requires.cells schema
    (sym c.in_default.ensures.why)
    (ap (state_of s.stake s.sub s.steps s.base.value s.batches.list s.pending s.end) c.tokens_of.ensures.same ∙ c.self.view_is)
    c.in_err-shown.ensures.err))

pub invariant_of-entries : goal.invariant_of-entries
invariant_of-entries g c = record {
  tokens = subst (λ ts. AreTokens c.args.sequence.now ts) (sym c.deref.ensures.value)
      (tokens_by_place c.args.sequence.now c.args.delivery.now.first c.in_ok-shown.shown.items c.in_ok-shown.ensures.ok.0);
}

-- the delivery was accepted
accepted : (g : _) (c : goal.After-add g) → WasAccepted g.L.StepLedger.cells c.args.delivery.now c.self.inside.base.value
    c.self.inside.batches.list c.self.inside.told.items c.in_ok-shown.shown.items c.add.new.told.items c.self.inside.end c.accept_kept.new.self
accepted g c =
    let s = c.self.inside in
    was_accepted g.L.StepLedger.cells c.args.sequence.now c.args.delivery.now s.base.value s.batches.list s.told.items
    c.tokens_of.new.told.items c.in_ok-shown.shown.items c.add.new.told.items _ s.end c.accept_kept.new.self
    c.requires.cells c.in_ok-shown.ensures.ok c.tokens_of.ensures.same c.add.ensures
    (ap entries_told c.deref.ensures.value) c.in-Ok.ensures.answers.0 c.in-Ok.ensures.singly c.self.invariant.0
    c.self.invariant.1 c.self.invariant.2 c.self.invariant.8

pub invariant_of-self-in-Ok : goal.invariant_of-self-in-Ok
invariant_of-self-in-Ok g c =
    let was = accepted g c in
    let inv = c.self.invariant in
    let none = ap (λ (x : SubscriptionState). x.pending) c.self.view_is ∙ c.in_default.ensures.none in (
      was.far,
      was.tokens,
      was.singly,
      ap (λ (x : Endpoint). x.fallen) was.accepts.kept ∙ inv.3,
      if_none c.self.inside.pending _ none,
      if_none c.self.inside.pending _ none,
      inv.6,
      inv.7,
      subst (λ bs. HasBatchTables c.self.inside.base.value (batches_told bs) (entries_told c.add.new.told.items)
          c.accept_kept.new.self.tables) (sym c.with.ensures) was.batched,
    )

pub returns-in-Ok-clause-answers : goal.returns-in-Ok-clause-answers
returns-in-Ok-clause-answers g c =
    let s = c.self.inside in
    durable_free g.L.StepLedger.cells c.args.delivery.now (Ok c.in-Ok.cursor) c.args.self.now
    (state_of s.stake s.sub s.steps s.base.value c.with.result.list s.pending c.accept_kept.new.self c.add.new.told.items) c.in_default.ensures.why
    (rw (← c.self.view_is)
    (due_ok g.L.StepLedger.cells c.args.delivery.now s.stake s.sub s.steps c.in-Ok.cursor s.base.value s.batches.list _ s.pending
    s.told.items
    c.add.new.told.items c.in_ok-shown.shown.items s.end c.accept_kept.new.self (accepted g c) c.self.invariant.0
    c.self.invariant.3 c.in-Ok.ensures.answers.1 c.with.ensures))

pub returns-in-Ok-clause-kept : goal.returns-in-Ok-clause-kept
returns-in-Ok-clause-kept g c =
    let new = c.accept_kept.new.self in
    subst (λ n. g.S.DurableRows.keeps c.accept_kept.new.store new.tables.rows n) (accepted g c).far c.in-Ok.ensures.kept

pub returns-in-Err-Refused-clause-answers : goal.returns-in-Err-Refused-clause-answers
returns-in-Err-Refused-clause-answers g c =
    let s = c.self.inside in
    let back = shown.Held c.in_ok-shown.shown in
    durable_free g.L.StepLedger.cells c.args.delivery.now (Err (durable.Accept (RefusedEntries c.in-Err-Refused.why back)))
    c.args.self.now
    (state_of s.stake s.sub s.steps s.base.value s.batches.list s.pending c.accept_kept.new.self c.tokens_of.new.told.items) c.in_default.ensures.why
    (refused_kept g.L.StepLedger.cells c.args.sequence.now c.args.delivery.now s.stake s.sub s.steps s.base.value s.batches.list
    s.pending s.told.items
    c.tokens_of.new.told.items back _ s.end c.accept_kept.new.self _ c.in-Err-Refused.why
    c.args.self.now c.self.view_is c.tokens_of.ensures.same c.self.invariant.0 c.self.invariant.3
    c.requires.cells c.in_ok-shown.ensures.ok (ap entries_told c.deref.ensures.value) c.in-Err-Refused.field-0-is
    c.in-Err-Refused.ensures.answers)

pub invariant_of-self-in-Err-Store : goal.invariant_of-self-in-Err-Store
invariant_of-self-in-Err-Store g c =
    let cells = g.L.StepLedger.cells in
    let d = c.args.delivery.now in
    let s = c.self.inside in
    let new = c.accept_kept.new.self in
    let shown = c.in_ok-shown.shown.items in
    let changes = planned_changes c.in-Err-Store.plan in
    let inv = c.self.invariant in
    let due = subst (λ (x : SubscriptionState). (d.first ≡ suc (cursor_of x)) × (cursor_of x < d.last))
    (sym c.self.view_is) c.in_default.ensures.next in
    let are = subst (λ cs. ShowDelivery cs d shown) c.requires.cells c.in_ok-shown.ensures.ok in
    let next : d.first ≡ suc s.end.cursor = due.0 ∙ ap suc (sym inv.0) in
    let some : suc s.end.cursor ≤ d.last = omega (arith, due.1, inv.0) in
    let is = c.in-Err-Store.field-0-is in
    let falls = subst (λ (x : KeepError _). KeepAnswers (Err x) (accept_brought s.end (entries_told c.deref.result.now) d)
    s.end new) is c.in-Err-Store.ensures.answers in
    let fit = subst (λ (x : KeepError _). IfStoreFailed (Err x) (λ plan. RowsFit s.end.tables (planned_changes plan))) is
    c.in-Err-Store.ensures.fit in
    let distinct = subst (λ (x : KeepError _). IfStoreFailed (Err x)
    (λ plan. IsDistinct same_key (keys_of (planned_changes plan)))) is c.in-Err-Store.ensures.distinct in
    let pending = subst (λ (x : KeepError _). IfStoreFailed (Err x) (λ plan. HasSingleTables s.end.tables
    (entries_told c.deref.result.now) (changed_tables s.end.tables (planned_changes plan)))) is
    c.in-Err-Store.ensures.pending in
    let back = ap entries_told c.deref.ensures.value in
    let steps = accepted_steps s.end (entries_told c.deref.result.now) d falls.after falls.accepts in
    let grouped = subst (λ es. single s.end.tables (group_of (joined_bodies es)) ≡ Ok (changed_tables s.end.tables changes))
    back (steps.tables ∙ ap (λ (t : TableState). Ok t) falls.changed) in
    let over = pending_over cells s.end.cursor s.base.value s.told.items shown s.end.tables changes d next some are fit
    distinct inv.2 (subst (λ es. HasSingleTables s.end.tables es (changed_tables s.end.tables changes)) back pending)
    grouped in
    let holds = fell_holds cells s.base.value s.end new s.told.items c.tokens_of.new.told.items
    (record { tokens = shown; changes = changes }) falls.fallen c.tokens_of.ensures.same inv.0 inv.1 inv.2 over in
    let last = last_shown cells d s.end.cursor shown next some are in
    let same : new.cursor ≡ s.end.cursor = ap (λ (x : Endpoint). x.cursor) falls.fallen in (
      holds.0,
      holds.1,
      holds.2,
      holds.3,
      holds.4,
      (
        omega (arith, c.in_ok-shown.ensures.room, c.in_ok-shown.shown.ok.0),
        omega (arith, last, same, c.tokens_of.ensures.range),
      ),
      inv.6,
      inv.7,
      batches_stay s.base.value s.end.tables new.tables s.batches.list s.told.items c.tokens_of.new.told.items
          (ap (λ (x : Endpoint). x.tables) falls.fallen) c.tokens_of.ensures.same inv.8,
    )

pub returns-in-Err-Store-clause-answers : goal.returns-in-Err-Store-clause-answers
returns-in-Err-Store-clause-answers g c =
    let cells = g.L.StepLedger.cells in
    let d = c.args.delivery.now in
    let s = c.self.inside in
    let shown = c.in_ok-shown.shown.items in
    let inv = c.self.invariant in
    let are = subst (λ cs. ShowDelivery cs d shown) c.requires.cells c.in_ok-shown.ensures.ok in
    let falls = subst (λ (x : KeepError _). KeepAnswers (Err x) (accept_brought s.end (entries_told c.deref.result.now) d)
    s.end c.accept_kept.new.self) c.in-Err-Store.field-0-is c.in-Err-Store.ensures.answers in
    durable_free cells d (Err (durable.Store c.in-Err-Store.why)) c.args.self.now
    (state_of s.stake s.sub s.steps s.base.value s.batches.list (Some (record { tokens = shown; changes = planned_changes c.in-Err-Store.plan }))
    c.accept_kept.new.self c.tokens_of.new.told.items) c.in_default.ensures.why
    (it_falls cells d s.stake s.sub s.steps s.base.value s.batches.list s.pending s.told.items c.tokens_of.new.told.items shown
    (planned_changes c.in-Err-Store.plan) s.end c.accept_kept.new.self falls.after c.args.self.now c.self.view_is
    c.tokens_of.ensures.same inv.0 inv.3 are
    (subst (λ es. accept_brought s.end es d ≡ Ok falls.after) (ap entries_told c.deref.ensures.value) falls.accepts)
    falls.changed falls.fallen)
