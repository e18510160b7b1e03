use Rattle.std.proofs.Common.{◌≡◌, ◌+◌, IfErr, IfOk, OnErr, OnOk, length, subst, sym}
use mathlib.Core.List.{IsPrefix}
use Rattle.rb_desk.specs.Journaled.{JournaledPicture, counted_steps, is_own}
use Rattle.rb_subscriber.specs.Owner.{steps_made}
use Rattle.rb_subscriber.specs.Register.{HaveSeenTheirs}
use Rattle.rb_broker.specs.Holding.{heard_too, made_after}
use Rattle.rb_broker.proofs.broker.Broker.audit.Goals as goal

-- the desk is what the history leads to, which the auditor has seen
pub returns-clause-journal : goal.returns-clause-journal
returns-clause-journal g c =
    let h = c.audit.ensures in
    subst (λ l. IfOk c.audit.result (λ sum. sum ≡ counted_steps is_own (steps_made l))) (sym h.seen)
    (subst (λ (d : JournaledPicture). IfOk c.audit.result (λ sum. sum ≡ counted_steps is_own d.steps)) h.held.0 h.journal)

pub returns-clause-heard : goal.returns-clause-heard
returns-clause-heard g c =
    let h = c.audit.ensures in
    subst (λ l. OnOk c.audit.result (c.audit.new.auditor ≡ heard_too c.args.auditor.now c.args.subscriptions.items l)) (sym h.seen)
    h.heard

pub returns-clause-all : goal.returns-clause-all
returns-clause-all g c =
    let h = c.audit.ensures in
    subst (λ l. OnOk c.audit.result (c.audit.new.auditor.heard ≡ made_after g.L.BrokerBrand.limits l)) (sym h.seen)
    (subst (λ (d : JournaledPicture). OnOk c.audit.result (c.audit.new.auditor.heard ≡ length d.picture.subscriptions)) h.held.0
    h.made)

pub returns-clause-own : goal.returns-clause-own
returns-clause-own g c =
    let h = c.audit.ensures in
    subst (λ l. OnOk c.audit.result (HaveSeenTheirs c.args.subscriptions.items l)) (sym h.seen) h.own

pub returns-clause-missing : goal.returns-clause-missing
returns-clause-missing g c =
    let h = c.audit.ensures in
    subst (λ l. IfErr c.audit.result (λ missing. (missing.subscriptions.items ≡ c.args.subscriptions.items)
    × (c.args.auditor.now.heard + length c.args.subscriptions.items ≡ made_after g.L.BrokerBrand.limits l → ⊥))) (sym h.seen)
    (subst (λ (d : JournaledPicture). IfErr c.audit.result (λ missing. (missing.subscriptions.items ≡ c.args.subscriptions.items)
    × (c.args.auditor.now.heard + length c.args.subscriptions.items ≡ length d.picture.subscriptions → ⊥))) h.held.0 h.missing)

pub returns-clause-err : goal.returns-clause-err
returns-clause-err g c =
    let h = c.audit.ensures in
    subst (λ l. OnErr c.audit.result (c.audit.new.auditor ≡ record c.args.auditor.now { seen = l })) (sym h.seen) h.err

pub returns-clause-seen : goal.returns-clause-seen
returns-clause-seen g c =
    let h = c.audit.ensures in subst (λ l. IsPrefix c.args.auditor.now.seen l) (sym h.seen) h.grows
