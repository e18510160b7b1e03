use denote.Param.Send.{IsSync, part_keyless}
use Rattle.rb_subscriber.specs.contracts.batches.Batches.{the_row}
use Rattle.rb_subscriber.proofs.batches.Batches.TheSendSync.Send.{send}

pub sync : IsSync the_row
sync = record { shared = λ d b o κ q. part_keyless the_row send q d b o }
