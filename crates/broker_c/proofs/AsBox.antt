-- A world's box, which a seal stands for.
use Rattle.std_alloc.proofs.BoxSteps.Form.{Bx}
use Rattle.rb_core.specs.contracts.world.World as World
use Rattle.rb_core.proofs.world.World.TheLaws as world
use Rattle.broker_c.proofs.Boxes.{box_of}

abbrev pub SealBx : Bx
SealBx = box_of World.the_row world.the_row_laws
