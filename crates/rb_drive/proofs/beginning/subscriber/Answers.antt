use Rattle.std.proofs.Common.{ap}
use Rattle.sqlite.specs.Held.{state}
use Rattle.rb_drive.proofs.outcomes.KeptLaws.{new_is_kept}
use Rattle.rb_drive.proofs.beginning.subscriber.Goals as goal

-- both are new
pub new-requires : goal.new-requires
new-requires g c =
    new_is_kept c.args.replica (λ r. state g.S.Store r.conn) _ _ c.in-Ok.ensures.new
    (ap (λ t. t.rows) c.new-tables.ensures) c.requires
