use Rattle.std.proofs.Common.{◌∙◌, sym, subst, ap, List, ◌++◌, ◌∷◌, [], ◌+◌, ℕ}
use Rattle.rb_intake.specs.Passes.{SequencerKnows}
use Rattle.rb_sequence.specs.Cells.{CellToken}
use Rattle.rb_sequence.specs.Items.{CountsUp}
use Rattle.rb_sequencer.proofs.TokenLaws.{placed_one}
use Rattle.rb_sequencer.proofs.sequencer.Sequencer.place.Goals as goal

-- the item in hand is placed
pub invariant_of-self-in-Ok : goal.invariant_of-self-in-Ok
invariant_of-self-in-Ok g c =
    let more = c.push_reserved.ensures.items
    ∙ ap (λ (xs : List CellToken). xs ++ c.in-Ok.told ∷ []) c.reserve.ensures.items in
    let holds = sym c.take.ensures.value ∙ c.unwrap-item.ensures in
    let is = ap (λ (n : ℕ). n + 1) (c.len.ensures ∙ c.reserve.ensures.len ∙ c.self.inside.told.ok.0) in
    let placed = placed_one g.L.StepLedger.cells _ _ _ _ _ _ c.in-Ok.told _ c.self.invariant.1 c.self.invariant.2 holds
    c.take.ensures.after more c.in-Ok.ensures.ok is in
    let kept = c.place_next.ensures.pass in (
      ap (λ (p : SequencerKnows). p.queue) kept ∙ c.self.invariant.0,
      ap (λ (p : SequencerKnows). p.pulled) kept ∙ placed.0,
      placed.1,
      subst (λ (pass : SequencerKnows). (p : ℕ) → CountsUp p pass.pulled) (sym kept)
          c.self.invariant.3,
      ap (λ (p : SequencerKnows). p.ended) kept ∙ c.self.invariant.4,
    )
