use denote.Param.Send.{IsSync, part_keyless}
use Rattle.rb_intake.specs.contracts.waiting.NothingWaits.{the_row}
use Rattle.rb_intake.proofs.waiting.NothingWaits.TheSendSync.Send.{send}

pub sync : IsSync the_row
sync = record { shared = λ d b o κ q. part_keyless the_row send q d b o }
