use Rattle.rb_subscriber.proofs.accepting.TokenLaws.{tokens_by_place}
use Rattle.rb_subscriber.proofs.shown.ShownEntries.new.Goals as goal

pub invariant_of-result : goal.invariant_of-result
invariant_of-result c = record {
  tokens = tokens_by_place c.args.sequence.now c.requires.0 c.args.told.now c.requires.1;
}
