use Rattle.rb_core.proofs.whole_runs.ByText.{feed_by_text, end_by_text}
use Rattle.rb_core.proofs.laws.streams_answer_by_text.Goals as goal

pub returns-clause-feed : goal.returns-clause-feed
returns-clause-feed c = feed_by_text c.feeding_tells_faults.ensures c.progress_goes_on.ensures.goes
    c.progress_tells.ensures.fault

pub returns-clause-end : goal.returns-clause-end
returns-clause-end c = end_by_text c.reading_is_spelling.ensures c.refusing_is_fault.ensures
    c.progress_tells.ensures.answer
