use Rattle.std.proofs.Common.{List, Option, slice_get, ap, subst, ◌∙◌}
use Rattle.rb_sequence.specs.Item.{Item}
use Rattle.rb_sequence.specs.Entry.{Entry}
use Rattle.rb_core.specs.Moves.{AreAllOf}
use Rattle.rb_core.specs.Told.{world_told}
use Rattle.rb_core.proofs.laws.sendings_come_once_in_order.Goals as goal

-- the broker has the sequence, the hand and the intake that the events and answers report
pub returns-clause-kept : goal.returns-clause-kept
returns-clause-kept c = λ limits schema events answers new p sender run found.
    let told = c.runs_are_told.ensures.told limits schema events answers new run in
    let world = world_told schema events answers in
    subst (λ (sequence : List Entry). AreAllOf p sequence new.hand new.intake sender) told.1.sequence
    (subst (λ (hand : Option Item). AreAllOf p world.sequence hand new.intake sender) told.1.hand
    (subst (λ (intake : List Item). AreAllOf p world.sequence world.hand intake sender) told.1.intake
    (c.sendings_come_once_in_order.ensures.kept told.0.0 world p sender told.0.1 found)))

pub returns-clause-once : goal.returns-clause-once
returns-clause-once c = λ limits schema events answers new i j a b run first second publisher own.
    let told = c.runs_are_told.ensures.told limits schema events answers new run in
    c.sendings_come_once_in_order.ensures.once told.0.0 (world_told schema events answers) i j a b told.0.1
    (ap (λ (entries : List Entry). slice_get entries i) told.1.sequence ∙ first)
    (ap (λ (entries : List Entry). slice_get entries j) told.1.sequence ∙ second) publisher own
