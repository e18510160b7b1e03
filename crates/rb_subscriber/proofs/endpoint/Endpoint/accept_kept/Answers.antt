use Rattle.std.proofs.Common.{◌≡◌, Ok, sym, ap, subst, ◌∙◌}
use Rattle.cs_apply.specs.Single.{single}
use Rattle.cs_apply.specs.State.{TableState}
use Rattle.cs_group.specs.Group.{group_of}
use Rattle.par_apply.specs.Durable.{changed_tables}
use Rattle.par_apply.specs.Planned.{planned_changes}
use Rattle.rb_subscriber.specs.Accept.{joined_bodies}
use Rattle.rb_subscriber.specs.Endpoint.{Endpoint}
use Rattle.rb_subscriber.proofs.accepting.AcceptLaws.{none_is_due}
use Rattle.rb_subscriber.proofs.accepting.KeptLaws.{KeptSingly, asked, asked_tables, committed_answers}
use Rattle.rb_subscriber.proofs.accepting.KeptLaws.{conflicts_here, kept_as_singly}
use Rattle.rb_subscriber.proofs.endpoint.Endpoint.accept_kept.Goals as goal

pub commit_kept-requires-clause-kept : goal.commit_kept-requires-clause-kept
commit_kept-requires-clause-kept g c =
    c.requires.kept ((none_is_due c.args.self.now c.args.delivery.now c.in_default.ensures.free).not_fallen)

pub returns-in-Err-Conflict-clause-conflicts : goal.returns-in-Err-Conflict-clause-conflicts
returns-in-Err-Conflict-clause-conflicts g c =
    let old = c.args.self.now in
    let d = c.args.delivery.now in
    let entries = g.E.Brought.entries c.args.entries.now in
    let open_ = c.in_default.ensures in
    conflicts_here old entries d _ c.in-Err-Conflict.field-0 c.in-Err-Conflict.why
    (c.conflicts_are_single.ensures old entries d) open_.free open_.none open_.known
    (ap (λ (e : Endpoint). e.tables) c.self.view_is) c.in-Err-Conflict.field-0-is c.in-Err-Conflict.ensures.refused

pub returns-clause-answers : goal.returns-clause-answers
returns-clause-answers g c =
    let old = c.args.self.now in
    let d = c.args.delivery.now in
    let entries = g.E.Brought.entries c.args.entries.now in
    let changes = planned_changes c.in-Ok.plan in
    let opened = ap (λ (e : Endpoint). e.tables) c.self.view_is in
    let applied : single old.tables (group_of (joined_bodies entries)) ≡ Ok (changed_tables old.tables changes) =
    subst (λ (t : TableState). single t (group_of (joined_bodies entries)) ≡ Ok (changed_tables t changes)) opened
    c.in-Ok.ensures.ok.applied in
    let accepts = asked old entries d (Ok (changed_tables old.tables changes)) c.in_default.ensures.free
    c.in_default.ensures.none applied in
    let last = c.last.ensures in
    committed_answers old c.commit_kept.new.self c.last.result changes _ c.commit_kept.result
    (accepts ∙ ap (λ n. Ok (record old { cursor = n; tables = changed_tables old.tables changes })) (sym last))
    c.commit_kept.ensures.ok c.commit_kept.ensures.memory c.commit_kept.ensures.same c.commit_kept.ensures.fell

-- what the laws say of it, once the store is asked
kept : (g : _) (c : goal.After-commit_kept g) → KeptSingly c.args.self.now c.commit_kept.new.self
    (g.E.Brought.entries c.args.entries.now) c.commit_kept.result
kept g c =
    let old = c.args.self.now in
    let entries = g.E.Brought.entries c.args.entries.now in
    let d = c.args.delivery.now in
    kept_as_singly old c.commit_kept.new.self entries d c.commit_kept.result
    (c.accepted_apply_singly.ensures old entries d) (c.conflicts_are_single.ensures old entries d)
    (returns-clause-answers g c) (asked_tables c.commit_kept.result _ c.in_default.ensures.known)

pub returns-clause-singly : goal.returns-clause-singly
returns-clause-singly g c = (kept g c).singly

pub returns-clause-conflicts : goal.returns-clause-conflicts
returns-clause-conflicts g c = (kept g c).conflicts

pub returns-clause-pending : goal.returns-clause-pending
returns-clause-pending g c = (kept g c).pending
