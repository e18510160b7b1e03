use Rattle.std.proofs.Common.{refl, rules}
use Rattle.rb_desk.specs.Steps.{after_step}
use Rattle.rb_desk.proofs.journals.KeepLaws.{call_kept}
use Rattle.rb_desk.proofs.desk.Desk.nack.Goals as goal

pub invariant_of-self-2 : goal.invariant_of-self-2
unfolding after_step
invariant_of-self-2 c =
    call_kept _ _ c.reserve.new.self c.calls_keep_limits.ensures c.self.invariant c.in_ok-nack.ensures.ok
    c.push.ensures.steps c.push.ensures.room c.reserve.ensures.steps refl (search rules)
