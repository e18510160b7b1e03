use Rattle.std.proofs.Common.{◌≡◌, ◌+◌, drop}
use Rattle.rb_close.specs.Finishing.{all_sent}
use Rattle.rb_close.proofs.finishing.sent_by.Given as goal

-- what was counted, and what is left
abbrev pub invariant-loop-publisher : goal.invariant-loop-publisher
invariant-loop-publisher g l = l.sent + all_sent (drop l.publisher-index l.publishers) ≡ all_sent l.publishers
