-- `partitions_answer_alike`: the answer of each call, read off what it shows.
use Rattle.std.proofs.Common.{◌≡◌, ℕ, List, ap, ◌∙◌}
use Rattle.rb_desk.specs.declared.step.Step.{Step}
use Rattle.rb_desk.specs.IsPicture.{AreInRange}
use Rattle.rb_desk.specs.Calls.{subscribe, take, take_any, ack, nack, nack_opened, expire, reconnect, unsubscribe}
use Rattle.rb_desk.specs.Calls.{prepare, close}
use Rattle.rb_desk.specs.Limits.{Limits}
use Rattle.rb_desk.specs.Picture.{Picture}
use Rattle.rb_desk.specs.Steps.{replay}
use Rattle.rb_desk.specs.FullPicture.{FullPicture, unsettled_picture}
use Rattle.rb_desk.specs.FullCalls as full
use Rattle.rb_desk.specs.FullPicture.{IsFullPicture}
use Rattle.rb_desk.proofs.full.FullReplays.{replay_shown, replay_shows}
use Rattle.rb_desk.proofs.full.FullShows as shows
use Rattle.rb_desk.proofs.full.FullTakes as takes

module _ (limits : Limits) (ranges : AreInRange limits) (steps : List Step) where
  abbrev x : FullPicture
  x = full.full_replay limits steps

  good : IsFullPicture x
  good = (replay_shows limits ranges steps).full

  is : replay limits steps ≡ unsettled_picture x
  is = replay_shown limits ranges steps

  pub subscribe_alike : (start : ℕ) → (subscribe (replay limits steps) start).0 ≡ (full.full_subscribe x start).0
  subscribe_alike start =
      ap (λ (p : Picture). (subscribe p start).0) is ∙ ap (λ r. r.0) (takes.subscribe_shown x good start)

  pub take_alike : (s link cursor now : ℕ) → (take (replay limits steps) s link cursor now).0
      ≡ (full.full_take x s link cursor now).0
  take_alike s link cursor now =
      ap (λ (p : Picture). (take p s link cursor now).0) is
      ∙ ap (λ r. r.0) (takes.take_shown x good s link cursor now)

  pub take_any_alike : (now : ℕ) → (take_any (replay limits steps) now).0 ≡ (full.full_take_any x now).0
  take_any_alike now = ap (λ (p : Picture). (take_any p now).0) is ∙ ap (λ r. r.0) (takes.take_any_shown x good now)

  pub ack_alike : (s link number cursor : ℕ) → (ack (replay limits steps) s link number cursor).0
      ≡ (full.full_ack x s link number cursor).0
  ack_alike s link number cursor =
      ap (λ (p : Picture). (ack p s link number cursor).0) is
      ∙ ap (λ r. r.0) (shows.ack_shown x good s link number cursor)

  pub nack_alike : (s link number : ℕ) → (nack (replay limits steps) s link number).0
      ≡ (full.full_nack x s link number).0
  nack_alike s link number =
      ap (λ (p : Picture). (nack p s link number).0) is ∙ ap (λ r. r.0) (shows.nack_shown x good s link number)

  pub nack_opened_alike : (s link number : ℕ) → (nack_opened (replay limits steps) s link number).0
      ≡ (full.full_nack_opened x s link number).0
  nack_opened_alike s link number =
      ap (λ (p : Picture). (nack_opened p s link number).0) is
      ∙ ap (λ r. r.0) (shows.nack_opened_shown x good s link number)

  pub expire_alike : (now : ℕ) → (expire (replay limits steps) now).0 ≡ (full.full_expire x now).0
  expire_alike now = ap (λ (p : Picture). (expire p now).0) is ∙ ap (λ r. r.0) (shows.expire_shown x good now)

  pub reconnect_alike : (s cursor : ℕ) → (reconnect (replay limits steps) s cursor).0
      ≡ (full.full_reconnect x s cursor).0
  reconnect_alike s cursor =
      ap (λ (p : Picture). (reconnect p s cursor).0) is ∙ ap (λ r. r.0) (shows.reconnect_shown x good s cursor)

  pub unsubscribe_alike : (s link : ℕ) → (unsubscribe (replay limits steps) s link).0
      ≡ (full.full_unsubscribe x s link).0
  unsubscribe_alike s link =
      ap (λ (p : Picture). (unsubscribe p s link).0) is ∙ ap (λ r. r.0) (shows.unsubscribe_shown x good s link)

  pub prepare_alike : prepare (replay limits steps) ≡ full.full_prepare x
  prepare_alike = ap prepare is ∙ shows.prepare_shown x good

  pub close_alike : (close (replay limits steps)).0 ≡ (full.full_close x).0
  close_alike = ap (λ (p : Picture). (close p).0) is ∙ ap (λ r. r.0) (shows.close_shown x good)
