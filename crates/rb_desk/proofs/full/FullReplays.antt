-- `spans_are_a_partition`: by induction on the calls, both pictures stay in step.
use Rattle.std.proofs.Common.{◌≡◌, List, [], ◌∷◌, refl, ap, ◌∙◌, subst}
use Rattle.rb_desk.specs.declared.step.Step.{Step}
use Rattle.rb_desk.specs.IsPicture.{AreInRange, IsPicture}
use Rattle.rb_desk.specs.Limits.{Limits}
use Rattle.rb_desk.specs.Steps.{replay, replayed}
use Rattle.rb_desk.proofs.pictures.KeepCut.{opening_keeps}
use Rattle.rb_desk.proofs.pictures.Replays.{after_keeps}
use Rattle.rb_desk.specs.FullPicture.{FullPicture, empty_full_picture, unsettled_picture}
use Rattle.rb_desk.specs.FullCalls.{full_after_step, full_replay, full_replayed}
use Rattle.rb_desk.specs.FullPicture.{IsFullPicture}
use Rattle.rb_desk.proofs.full.FullShows.{step_shown}
use Rattle.rb_desk.proofs.full.FullKeeps.{step_keeps}

pub record IsSoundFull (x : FullPicture) : Type 0 where
  pub full : IsFullPicture x
  pub picture : IsPicture (unsettled_picture x)

next : (x : FullPicture) (step : Step) → IsSoundFull x → IsSoundFull (full_after_step x step)
next x step h = record {
  full = step_keeps x h.full h.picture step;
  picture = subst IsPicture (step_shown x h.full step) (after_keeps (unsettled_picture x) step h.picture);
}

replays_show : (x : FullPicture) (steps : List Step) → IsSoundFull x
    → (replayed (unsettled_picture x) steps ≡ unsettled_picture (full_replayed x steps)) × IsSoundFull
    (full_replayed x steps)
replays_show x [] h = (refl, h)
replays_show x (step ∷ steps) h =
    let rest = replays_show (full_after_step x step) steps (next x step h) in
    (ap (λ p. replayed p steps) (step_shown x h.full step) ∙ rest.0, rest.1)

module _ (limits : Limits) (ranges : AreInRange limits) (steps : List Step) where
  whole : (replay limits steps ≡ unsettled_picture (full_replay limits steps)) × IsSoundFull (full_replay limits steps)
  whole = replays_show (empty_full_picture limits) steps (record { full = tt; picture = opening_keeps limits ranges })

  pub replay_shown : replay limits steps ≡ unsettled_picture (full_replay limits steps)
  replay_shown = whole.0

  pub replay_shows : IsSoundFull (full_replay limits steps)
  replay_shows = whole.1
