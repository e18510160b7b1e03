use Rattle.rb_core.specs.Told.{world_told}
use Rattle.rb_core.proofs.reports.Counting.{publisher_counts, subscriber_counts, bare_subscriber_counts}
use Rattle.rb_core.proofs.laws.new_numbers_count_the_old.Goals as goal

pub returns-clause-publisher : goal.returns-clause-publisher
returns-clause-publisher c = λ limits schema events answers mid new p run e.
    publisher_counts schema mid (world_told schema events answers) p new
    (c.runs_are_told.ensures.told limits schema events answers mid run).1 e

pub returns-clause-subscription : goal.returns-clause-subscription
returns-clause-subscription c = λ limits schema events answers mid new start s link run e.
    subscriber_counts c.calls_show_in_outline.ensures.subscribe schema mid (world_told schema events answers) start s
    link new (c.runs_are_told.ensures.world limits schema events answers mid run)
    (c.runs_are_told.ensures.told limits schema events answers mid run).1 e

pub returns-clause-bare : goal.returns-clause-bare
returns-clause-bare c = λ limits schema events answers mid new start s link run e.
    bare_subscriber_counts c.calls_show_in_outline.ensures.subscribe schema mid (world_told schema events answers) start
    s link new (c.runs_are_told.ensures.world limits schema events answers mid run)
    (c.runs_are_told.ensures.told limits schema events answers mid run).1 e
