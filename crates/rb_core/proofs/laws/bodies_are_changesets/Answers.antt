use Rattle.rb_core.proofs.headline.Bodies.{told_are_changesets}
use Rattle.rb_core.proofs.laws.bodies_are_changesets.Goals as goal

pub returns : goal.returns
returns c = λ limits schema events answers new run.
    told_are_changesets c.reading_is_spelling.ensures schema events answers run.feeds
