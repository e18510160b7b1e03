-- What an owner has seen stays so for whoever has seen more.
use Rattle.std.proofs.Common.{◌≡◌, ℕ, List, [], ◌∷◌, ◌++◌, Option, Some, None, Result, Ok, Err, IfSome, refl, sym, ap, ◌∙◌, subst}
use Rattle.std.proofs.lemmas.List.{map-append}
use mathlib.Core.List.{IsPrefix}
use Rattle.rb_desk.specs.declared.refusal.DeskRefusal.{DeskRefusal}
use Rattle.rb_desk.specs.declared.step.Step.{Step}
use Rattle.rb_desk.specs.declared.step.Step.TheVariants as step
use Rattle.rb_desk.specs.Calls.{close, last_number, prepare}
use Rattle.rb_desk.specs.Limits.{Limits}
use Rattle.rb_desk.specs.Picture.{Picture}
use Rattle.rb_desk.specs.Steps.{after_step, placed_if, replay, replayed}
use Rattle.rb_desk.proofs.pictures.Replays.{ack_frame, expire_frame, nack_frame, nack_opened_frame, place_frame}
use Rattle.rb_desk.proofs.pictures.Replays.{reconnect_frame, subscribe_frame, take_any_frame, take_frame, unsubscribe_frame}
use Rattle.rb_subscriber.specs.Owner.{desk_after, steps_made}

replayed_both : (p : Picture) (xs ys : List Step) → replayed p (xs ++ ys) ≡ replayed (replayed p xs) ys
replayed_both p [] ys = refl
replayed_both p (x ∷ xs) ys = replayed_both (after_step p x) xs ys

-- the later picture is a replay of the earlier one
pub later_picture : (limits : Limits) (early late : List (ℕ × Step)) (p : IsPrefix early late)
    → replayed (desk_after limits early).picture (steps_made p.0) ≡ (desk_after limits late).picture
later_picture limits early late p =
    sym (replayed_both _ (steps_made early) (steps_made p.0))
    ∙ ap (replay limits) (sym (map-append (λ (t : ℕ × Step). t.1) early p.0))
    ∙ ap (λ l. replay limits (steps_made l)) p.1

placed_closing : (p : Picture) (r : Result ℕ DeskRefusal) → (placed_if p r).closing ≡ p.closing
placed_closing p (Ok number) = (place_frame p).closing
placed_closing p (Err why) = refl

closed_twice : (p : Picture) (last : ℕ) → p.closing ≡ Some last → (close p).1.closing ≡ Some last
unfolding close
closed_twice p last is = ap (λ (o : Option ℕ). Some (last_number p o)) is

-- a closing number stays, at a step and at a list of them
closing_stays : (p : Picture) (s : Step) (last : ℕ) → p.closing ≡ Some last → (after_step p s).closing ≡ Some last
unfolding after_step
closing_stays p (step.Subscribe start) last is = (subscribe_frame p start).1 ∙ is
closing_stays p (step.Take s link cursor now) last is = (take_frame p s link cursor now).closing ∙ is
closing_stays p (step.TakeAny now) last is = (take_any_frame p now).closing ∙ is
closing_stays p (step.Ack s link delivery cursor) last is = (ack_frame p s link delivery cursor).closing ∙ is
closing_stays p (step.Nack s link delivery) last is = (nack_frame p s link delivery).closing ∙ is
closing_stays p (step.NackOpened s link delivery) last is = (nack_opened_frame p s link delivery).closing ∙ is
closing_stays p (step.Expire now) last is = (expire_frame p now).closing ∙ is
closing_stays p (step.Reconnect s cursor) last is = (reconnect_frame p s cursor).closing ∙ is
closing_stays p (step.Unsubscribe s link) last is = (unsubscribe_frame p s link).closing ∙ is
closing_stays p step.Place last is = placed_closing p (prepare p) ∙ is
closing_stays p step.Close last is = closed_twice p last is

pub closing_stays_after : (p : Picture) (steps : List Step) (last : ℕ) → p.closing ≡ Some last
    → (replayed p steps).closing ≡ Some last
closing_stays_after p [] last is = is
closing_stays_after p (s ∷ steps) last is = closing_stays_after (after_step p s) steps last (closing_stays p s last is)

-- a closed picture's front is its closing number
pub at_closing : (p : Picture) (last : ℕ) → p.closing ≡ Some last → IfSome p.closing (λ l. l ≡ p.front) → p.front ≡ last
at_closing p last is closed = sym (subst (λ (o : Option ℕ). IfSome o (λ l. l ≡ p.front)) is closed)
