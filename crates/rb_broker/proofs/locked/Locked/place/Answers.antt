use Rattle.std.proofs.Common.{◌∙◌, refl, subst, sym}
use Rattle.rb_desk.specs.Calls.{place}
use Rattle.rb_desk.specs.declared.step.Step.TheVariants.{Place}
use Rattle.rb_sequence.specs.Cells.{Cells, IsReadyFor}
use Rattle.rb_broker.proofs.HoldLaws.{GrowsBy, holds_still, logged, named_still, step_keeps}
use Rattle.rb_broker.proofs.StepLaws.{one_step_on}
use Rattle.rb_broker.proofs.locked.Locked.place.Goals as goal

-- the entry is ready for a cell of the filler
pub fill-requires : goal.fill-requires
fill-requires g c = subst (λ (s : Cells). IsReadyFor s c.args.ready) (sym c.args.self.now.fills) c.requires
