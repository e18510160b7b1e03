use Rattle.std.proofs.Common.{ap}
use Rattle.rb_subscriber.specs.Endpoint.{Endpoint}
use Rattle.rb_subscriber.proofs.accepting.KeptLaws.{applies_here, conflicts_here}
use Rattle.rb_subscriber.proofs.endpoint.Endpoint.accept_brought.Goals as goal

pub returns-in-Err-Conflict-clause-conflicts : goal.returns-in-Err-Conflict-clause-conflicts
returns-in-Err-Conflict-clause-conflicts g c =
    let old = c.args.self.now in
    let entries = g.E.Brought.entries c.args.entries.now in
    let open_ = c.in_default.ensures in
    rw c.into-in-Err-Conflict.ensures
    (conflicts_here old entries c.args.delivery.now _ c.in-Err-Conflict.field-0 c.in-Err-Conflict.conflict
    (c.conflicts_are_single.ensures old entries c.args.delivery.now) open_.free open_.none open_.known
    (ap (λ (e : Endpoint). e.tables) c.self.view_is) c.in-Err-Conflict.field-0-is c.in-Err-Conflict.ensures.refused)

pub returns-clause-singly : goal.returns-clause-singly
returns-clause-singly g c =
    let old = c.args.self.now in
    let entries = g.E.Brought.entries c.args.entries.now in
    let open_ = c.in_default.ensures in
    applies_here old entries c.args.delivery.now _ c.apply.new.tables
    (c.accepted_apply_singly.ensures old entries c.args.delivery.now) open_.free open_.none open_.known
    (ap (λ (e : Endpoint). e.tables) c.self.view_is) c.in-Ok.ensures.ok
