use Rattle.replica_store.proofs.replicas.FollowLaws.{tables_follow_commits}
use Rattle.replica_store.proofs.laws.tables_follow.Goals as goal

pub returns : goal.returns
returns c = tables_follow_commits
