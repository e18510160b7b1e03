use Rattle.rb_core.proofs.whole_runs.RunCuts.{closed_by_then, left_by_then}
use Rattle.rb_core.proofs.laws.runs_keep_the_headline.Goals as goal

pub returns : goal.returns
returns c = λ limits schema events answers new run. record {
  gapless = λ s subscriber found.
      (c.accepted_is_gapless.ensures.run limits schema events answers new s subscriber run found).0;
  endpoints = c.accepted_is_gapless.ensures.all limits schema events answers new run;
  tables = λ s subscriber found.
      let is = c.tables_apply_singly.ensures limits schema events answers new s subscriber run found in
      (is.0, is.1, is.2);
  begun = c.subscriptions_begin_as_asked.ensures schema events answers;
  batches = λ s subscriber found.
      let is = c.tables_are_of_batches.ensures limits schema events answers new s subscriber run found in
      (is.0, is.1, is.2);
  in_order = λ p sender found.
      c.sendings_come_once_in_order.ensures.order limits schema events answers new p sender run found;
  kept = λ p sender found.
      c.sendings_come_once_in_order.ensures.kept limits schema events answers new p sender run found;
  once = λ i j a b. c.sendings_come_once_in_order.ensures.once limits schema events answers new i j a b run;
  sent = λ i entry. c.sendings_come_once_in_order.ensures.sent limits schema events answers new i entry run;
  streams = c.streams_take_what_is_fed.ensures.all limits schema events answers new run;
  closed = closed_by_then c.runs_are_told.ensures.told c.nothing_after_close.ensures.sequence limits schema events
      answers new run;
  left = left_by_then c.nothing_after_close.ensures.subscription limits schema events answers new run;
}
