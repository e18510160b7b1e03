-- Calls one after another: each preserves the invariant of a picture, links and deliveries' numbers rise strictly, and
-- the front and the floors do not fall.
use Rattle.std.proofs.Common.{◌≡◌, ℕ, zero, suc, ◌+◌, ◌<◌, ◌≤◌, ◌⊎◌, inl, inr, List, [], ◌∷◌, length, map, Option, Some}
use Rattle.std.proofs.Common.{None, option_map, Result, Ok, Err, slice_get, refl, sym, ap, ◌∙◌, arith}
use Rattle.std.specs.List.{cons_option}
use Rattle.std.proofs.lemmas.Bool.{cases_lt}
use Rattle.std.proofs.lemmas.Option.{slice_get-map, slice_get_cases, slice_get_within}
use Rattle.rb_desk.proofs.pictures.PictureLaws.{NoFloorFalls, floors_same, KeepsPicture, kept_same}
use Rattle.rb_desk.specs.declared.refusal.DeskRefusal.{DeskRefusal}
use Rattle.rb_desk.specs.declared.step.Step.{Step}
use Rattle.rb_desk.specs.declared.step.Step.TheVariants.{Subscribe, Take, TakeAny, Ack, Nack, Expire, Reconnect}
use Rattle.rb_desk.specs.declared.step.Step.TheVariants.{Unsubscribe, Place, Close, NackOpened}
use Rattle.rb_desk.specs.Limits.{Limits}
use Rattle.rb_deliveries.specs.Spans.{grown_spans}
use Rattle.rb_desk.specs.Picture.{Picture, empty_picture}
use Rattle.rb_deliveries.specs.Picture.{Subscription}
use Rattle.rb_desk.specs.Calls.{subscribe, take, take_any, ack, nack, nack_opened, expire, reconnect, unsubscribe}
use Rattle.rb_desk.specs.Calls.{prepare, place, close}
use Rattle.rb_deliveries.specs.Changes.{grown_subscription}
use Rattle.rb_desk.specs.IsPicture.{AreInRange, IsPicture}
use Rattle.rb_desk.specs.Steps.{links_given, numbers_given, RisesAbove, FloorsRise, placed_if, after_step, replayed}
use Rattle.rb_desk.specs.Steps.{replay, link_given, number_given, made_of, subscriptions_made, KeepsFrame}
use Rattle.rb_desk.proofs.pictures.KeepHand.{take_kept, take_any_kept}
use Rattle.rb_desk.proofs.pictures.KeepSettle.{ack_kept, nack_kept}
use Rattle.rb_desk.proofs.pictures.KeepOpen.{nack_opened_kept}
use Rattle.rb_desk.proofs.pictures.KeepCut.{opening_keeps, subscribe_kept, reconnect_kept, unsubscribe_kept}
use Rattle.rb_desk.proofs.pictures.KeepCut.{keep_cut_close_keeps}
use Rattle.rb_desk.proofs.pictures.KeepPlace.{keep_place_keeps}
use Rattle.rb_desk.proofs.pictures.KeepExpire.{keep_expire_keeps}
use Rattle.rb_desk.proofs.calls.CallCases.{either_way, subscribe_case}
use Rattle.rb_desk.proofs.pictures.CallRises.{ReplaysGoesOn, ReplaysRises, subscribe_rises, take_rises, take_any_rises}
use Rattle.rb_desk.proofs.pictures.CallRises.{ack_rises, nack_rises, nack_opened_rises, expire_rises, reconnect_rises}
use Rattle.rb_desk.proofs.pictures.CallRises.{unsubscribe_rises, place_rises, close_rises, after_rises}

-- ---- pictures

-- each becomes another with the same floor
floors_mapped : (old new : Picture) (f : Subscription → Subscription) → new.subscriptions ≡ map f old.subscriptions
    → ((q : Subscription) → (f q).floor ≡ q.floor) → NoFloorFalls old new
floors_mapped old new f is keeps i a b h k =
    let both : Some (f a) ≡ Some b = sym (ap (option_map f) h) ∙ sym (slice_get-map f old.subscriptions i)
    ∙ ap (λ subs. slice_get subs i) (sym is) ∙ k in
    let same : f a ≡ b = cc in
    omega (arith, keeps a, ap (λ (q : Subscription). q.floor) same)

place_floors : (p : Picture) → NoFloorFalls p (place p)
unfolding place
place_floors p =
    floors_mapped p (place p) (grown_subscription p.limits.batch (suc p.front)) refl
    (λ q. either_way (λ (x : Subscription). x.floor ≡ q.floor) q.closed q
    (record q { spans = grown_spans p.limits.batch (suc p.front) q.spans }) refl refl)

-- a placement, whether it is made or not
place_step_kept : (p : Picture) (r : Result ℕ DeskRefusal) → IsPicture p → prepare p ≡ r
    → KeepsPicture p (placed_if p r)
place_step_kept p (Ok n) k is = record { picture = keep_place_keeps p n k is; floors = place_floors p }
place_step_kept p (Err why) k is = kept_same p k

close_step_kept : (p : Picture) → IsPicture p → KeepsPicture p (close p).1
unfolding close
close_step_kept p k = record { picture = keep_cut_close_keeps p k; floors = floors_same p (close p).1 refl }

expire_step_kept : (p : Picture) (now : ℕ) → IsPicture p → KeepsPicture p (expire p now).1
unfolding expire
expire_step_kept p now k =
    record { picture = keep_expire_keeps p now k; floors = floors_mapped p (expire p now).1 _ refl (λ q. refl) }

-- each step leaves a picture, and no floor falls
each_step_kept : (p : Picture) (step : Step) → IsPicture p → KeepsPicture p (after_step p step)
unfolding after_step
each_step_kept p (Subscribe start) k = subscribe_kept p start k
each_step_kept p (Take s link cursor now) k = take_kept p s link cursor now k
each_step_kept p (TakeAny now) k = take_any_kept p now k
each_step_kept p (Ack s link delivery cursor) k = ack_kept p s link delivery cursor k
each_step_kept p (Nack s link delivery) k = nack_kept p s link delivery k
each_step_kept p (NackOpened s link delivery) k = nack_opened_kept p s link delivery k
each_step_kept p (Expire now) k = expire_step_kept p now k
each_step_kept p (Reconnect s cursor) k = reconnect_kept p s cursor k
each_step_kept p (Unsubscribe s link) k = unsubscribe_kept p s link k
each_step_kept p Place k = place_step_kept p (prepare p) k refl
each_step_kept p Close k = close_step_kept p k

pub after_keeps : (p : Picture) (step : Step) → IsPicture p → IsPicture (after_step p step)
after_keeps p step k = (each_step_kept p step k).picture

-- and so does a list of them
pub replayed_keeps : (p : Picture) (steps : List Step) → IsPicture p → IsPicture (replayed p steps)
replayed_keeps p [] k = k
replayed_keeps p (step ∷ steps) k = replayed_keeps (after_step p step) steps (after_keeps p step k)

-- from the limits on
pub replay_keeps : (limits : Limits) (steps : List Step) → AreInRange limits → IsPicture (replay limits steps)
replay_keeps limits steps h = replayed_keeps (empty_picture limits) steps (opening_keeps limits h)

-- ---- the front and the frame

-- the front doesn't fall, at a step and at a list of them
pub front_rises : (p : Picture) (step : Step) → p.front ≤ (after_step p step).front
front_rises p step = (after_rises p step).front

pub front_rises_all : (p : Picture) (steps : List Step) → p.front ≤ (replayed p steps).front
front_rises_all p [] = omega arith
front_rises_all p (step ∷ steps) = let rest = front_rises_all (after_step p step) steps in
    omega (arith, rest, front_rises p step)

-- the limits stay
pub limits_stay : (p : Picture) (step : Step) → (after_step p step).limits ≡ p.limits
limits_stay p step = (after_rises p step).limits

-- subscriptions stay, and only one that is made is added
pub subscriptions_counted : (p : Picture) (step : Step)
    → length (after_step p step).subscriptions ≡ length p.subscriptions + subscriptions_made p step
subscriptions_counted p step = (after_rises p step).count

pub subscriptions_stay : (p : Picture) (step : Step) → length p.subscriptions ≤ length (after_step p step).subscriptions
subscriptions_stay p step = omega (arith, (after_rises p step).count)

-- limits and the closing number stay, and so do the subscriptions where none is made
frame : (p new : Picture) (link number : Option ℕ) → ReplaysRises p new link number 0 p.closing → KeepsFrame p new
frame p new link number r = record {
  limits = r.limits;
  closing = r.closing;
  count = omega (arith, r.count);
}

pub subscribe_frame : (p : Picture) (start : ℕ) → ((subscribe p start).1.limits ≡ p.limits)
    × ((subscribe p start).1.closing ≡ p.closing)
subscribe_frame p start = ((subscribe_rises p start).limits, (subscribe_rises p start).closing)

pub take_frame : (p : Picture) (s link cursor now : ℕ) → KeepsFrame p (take p s link cursor now).1
take_frame p s link cursor now = frame p _ _ _ (take_rises p s link cursor now)

pub take_any_frame : (p : Picture) (now : ℕ) → KeepsFrame p (take_any p now).1
take_any_frame p now = frame p _ _ _ (take_any_rises p now)

pub ack_frame : (p : Picture) (s link delivery cursor : ℕ) → KeepsFrame p (ack p s link delivery cursor).1
ack_frame p s link delivery cursor = frame p _ _ _ (ack_rises p s link delivery cursor)

pub nack_frame : (p : Picture) (s link delivery : ℕ) → KeepsFrame p (nack p s link delivery).1
nack_frame p s link delivery = frame p _ _ _ (nack_rises p s link delivery)

pub nack_opened_frame : (p : Picture) (s link delivery : ℕ) → KeepsFrame p (nack_opened p s link delivery).1
nack_opened_frame p s link delivery = frame p _ _ _ (nack_opened_rises p s link delivery)

pub expire_frame : (p : Picture) (now : ℕ) → KeepsFrame p (expire p now).1
expire_frame p now = frame p _ _ _ (expire_rises p now)

pub reconnect_frame : (p : Picture) (s cursor : ℕ) → KeepsFrame p (reconnect p s cursor).1
reconnect_frame p s cursor = frame p _ _ _ (reconnect_rises p s cursor)

pub unsubscribe_frame : (p : Picture) (s link : ℕ) → KeepsFrame p (unsubscribe p s link).1
unsubscribe_frame p s link = frame p _ _ _ (unsubscribe_rises p s link)

pub place_frame : (p : Picture) → KeepsFrame p (place p)
place_frame p = frame p _ _ _ (place_rises p)

pub close_frame : (p : Picture) → ((close p).1.limits ≡ p.limits)
    × (length (close p).1.subscriptions ≡ length p.subscriptions)
close_frame p = ((close_rises p).limits, omega (arith, (close_rises p).count))

pub ruleset frames = (
  subscribe_frame,
  take_frame,
  take_any_frame,
  ack_frame,
  nack_frame,
  nack_opened_frame,
  expire_frame,
  reconnect_frame,
  unsubscribe_frame,
  place_frame,
  close_frame,
)

-- one that is made is the last, and there is room for it
pub subscribe_fits : (p : Picture) (start s link : ℕ) → (subscribe p start).0 ≡ Ok (s, link)
    → (s ≡ length p.subscriptions) × (length p.subscriptions < 1024) × (made_of (subscribe p start).0 ≡ 1)
subscribe_fits p start s link =
    subscribe_case Fits p start (λ why ok. absurd (let no : Err _ ≡ Ok (s, link) = ok in cc))
    (λ behind room ok. let same : Ok (length p.subscriptions, p.next_link) ≡ Ok (s, link) = ok in
    (ap (λ r. first_made r) (sym same), room, refl))
  where
    first_made : Result (ℕ × ℕ) DeskRefusal → ℕ
    first_made (Ok pair) = pair.0
    first_made (Err why) = 0

    Fits : Result (ℕ × ℕ) DeskRefusal × Picture → Type 0
    Fits x = x.0 ≡ Ok (s, link) → (s ≡ length p.subscriptions) × (length p.subscriptions < 1024) × (made_of x.0 ≡ 1)

-- ---- what a list of steps gives

rises_lower : (low low' : ℕ) (list : List ℕ) → low ≤ low' → RisesAbove low' list → RisesAbove low list
rises_lower low low' [] le h = tt
rises_lower low low' (n ∷ rest) le h = (omega (arith, le, h.0), h.1)

rises_on : (next next' : ℕ) (o : Option ℕ) (list : List ℕ) → ReplaysGoesOn next next' o → RisesAbove next' list
    → RisesAbove next (cons_option o list)
rises_on next next' None list h rest = rises_lower next next' list h rest
rises_on next next' (Some n) list h rest =
    (omega (arith, h.0), rises_lower (suc n) next' list (omega (arith, h.0, h.1)) rest)

-- they rise strictly, from the next one on
pub links_rise_all : (p : Picture) (steps : List Step) → RisesAbove p.next_link (links_given p steps)
links_rise_all p [] = tt
links_rise_all p (step ∷ steps) =
    rises_on p.next_link (after_step p step).next_link (link_given p step) (links_given (after_step p step) steps)
    (after_rises p step).links (links_rise_all (after_step p step) steps)

pub numbers_rise_all : (p : Picture) (steps : List Step) → RisesAbove p.next_delivery (numbers_given p steps)
numbers_rise_all p [] = tt
numbers_rise_all p (step ∷ steps) =
    rises_on p.next_delivery (after_step p step).next_delivery (number_given p step)
    (numbers_given (after_step p step) steps) (after_rises p step).numbers
    (numbers_rise_all (after_step p step) steps)

-- ---- floors of all steps

-- a place within a list has something
within : {A : Type 0} (xs : List A) (i : ℕ) → i < length xs → slice_get xs i ≡ None → ⊥
within [] i less none = omega (arith, less)
within (x ∷ xs) zero less none = let not_none : Some x ≡ None = none in cc
within (x ∷ xs) (suc i) less none = within xs i (omega (arith, less)) none

-- what rises and rises again rises, where the subscriptions stay
pub floors_then : (p m r : Picture) → length p.subscriptions ≤ length m.subscriptions → NoFloorFalls p m
    → NoFloorFalls m r
    → NoFloorFalls p r
floors_then p m r stay h k i a c first last = by (slice_get m.subscriptions i) refl
  where
    by : (o : Option Subscription) → slice_get m.subscriptions i ≡ o → a.floor ≤ c.floor
    by None none = past (cases_lt i (length m.subscriptions))
      where
        past : (i < length m.subscriptions) ⊎ (length m.subscriptions ≤ i) → a.floor ≤ c.floor
        past (inl less) = absurd (within m.subscriptions i less none)
        past (inr more) = absurd (let less = slice_get_within p.subscriptions i a first in
            omega (arith, less, more, stay))
    by (Some b) found = omega (arith, h i a b first found, k i b c found last)

-- no floor falls at a list of steps
pub replayed_floors : (p : Picture) (steps : List Step) → IsPicture p → NoFloorFalls p (replayed p steps)
replayed_floors p [] k = floors_same p p refl
replayed_floors p (step ∷ steps) k =
    floors_then p (after_step p step) (replayed (after_step p step) steps) (subscriptions_stay p step)
    (each_step_kept p step k).floors
    (replayed_floors (after_step p step) steps (after_keeps p step k))

-- no subscription goes, so each is still there
replayed_stay : (p : Picture) (steps : List Step) → length p.subscriptions
    ≤ length (replayed p steps).subscriptions
replayed_stay p [] = omega arith
replayed_stay p (step ∷ steps) = omega (arith, subscriptions_stay p step, replayed_stay (after_step p step) steps)

pub replayed_rise : (p : Picture) (steps : List Step) → IsPicture p → FloorsRise p (replayed p steps)
replayed_rise p steps k i a found =
    elim (slice_get_cases (replayed p steps).subscriptions i).1 as (λ w. (b : Subscription)
    × (slice_get (replayed p steps).subscriptions i ≡ Some b) × (a.floor ≤ b.floor)) [
      | inl here ↦ (here.0, here.2, replayed_floors p steps k i a here.0 found here.2)
      | inr past ↦ absurd (omega (arith, slice_get_within p.subscriptions i a found, replayed_stay p steps, past.0))
    ]
