use Rattle.std.proofs.Common.{length, subst}
use Rattle.std.specs.Option.{option_copied}
use Rattle.rb_close.specs.Finishing.{AreAllPresent, RefusesFinish, closing_shown}
use Rattle.rb_close.proofs.finishing.finish.Goals as goal

-- each publisher that was made is given
pub end-requires-clause-given : goal.end-requires-clause-given
end-requires-clause-given g c =
    subst (λ ps. AreAllPresent c.args.maker ps) c.deref.ensures.value c.in-Ok.ensures.given

pub returns-in-Ok-clause-all : goal.returns-in-Ok-clause-all
returns-in-Ok-clause-all g c =
    subst (λ ps. AreAllPresent c.args.maker ps) c.deref.ensures.value c.in-Ok.ensures.given

pub returns-in-Err-clause-why : goal.returns-in-Err-clause-why
returns-in-Err-clause-why g c =
    subst (λ ps. RefusesFinish c.args.maker (length c.args.sequencer.placed)
    (closing_shown (option_copied c.args.closing)) ps c.in-Err.why) c.deref.ensures.value c.in-Err.ensures.err
