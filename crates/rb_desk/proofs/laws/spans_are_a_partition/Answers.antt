use Rattle.rb_deliveries.proofs.subs.KnownLaws.{all_get}
use Rattle.rb_desk.specs.FullCalls.{full_replay}
use Rattle.rb_desk.specs.FullPicture.{IsFullSubscription}
use Rattle.rb_desk.proofs.full.FullReplays.{replay_shown, replay_shows}
use Rattle.rb_desk.proofs.full.FullSettled.{in_no_order}
use Rattle.rb_desk.proofs.acks.AckedNumbers.{calls_match}
use Rattle.rb_desk.proofs.laws.spans_are_a_partition.Goals as goal

pub returns-clause-shows : goal.returns-clause-shows
returns-clause-shows c = λ limits steps ranges. replay_shown limits ranges steps

pub returns-clause-partition : goal.returns-clause-partition
returns-clause-partition c = λ limits steps s q ranges here runs.
    let x = full_replay limits steps in
    (all_get (IsFullSubscription x.front) x.subscriptions s q (replay_shows limits ranges steps).full here).parts runs

pub returns-clause-orders : goal.returns-clause-orders
returns-clause-orders c = λ limits steps s q first last ranges here is.
    in_no_order limits ranges steps s q here first last is

pub returns-clause-acked : goal.returns-clause-acked
returns-clause-acked c = λ limits steps s q n ranges here is. (calls_match limits ranges steps s q here).acked n is

pub returns-clause-stays : goal.returns-clause-stays
returns-clause-stays c = λ limits steps s q n ranges here runs was.
    (calls_match limits ranges steps s q here).stays runs n was
