use Rattle.std.proofs.Common.{drop}
use Rattle.rb_close.specs.Finishing.{IsPresent}
use Rattle.rb_close.proofs.finishing.is_given.Given as goal

-- it isn't one of those before, so it is one of those that are left, if it is given
abbrev pub invariant-loop-publisher : goal.invariant-loop-publisher
invariant-loop-publisher g l =
    IsPresent l.number l.publishers → IsPresent l.number (drop l.publisher-index l.publishers)
