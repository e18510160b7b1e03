-- What one step makes of the desk that the history leads to, and what a call returns after it.
use Rattle.std.proofs.Common.{◌≡◌, ℕ, List, [], ◌∷◌, ◌++◌, refl, sym, ap, ◌∙◌, subst, Result, Ok, Err}
use Rattle.std.proofs.lemmas.List.{append-nil}
use Rattle.rb_desk.specs.declared.refusal.DeskError.{DeskError}
use Rattle.rb_desk.specs.declared.refusal.DeskError.TheVariants.{Refused, Memory}
use Rattle.rb_desk.specs.declared.refusal.DeskRefusal.{DeskRefusal}
use Rattle.rb_desk.specs.declared.step.Step.{Step}
use Rattle.rb_desk.specs.Journaled.{IsReplay, JournalAnswers, JournaledPicture, journaled}
use Rattle.rb_desk.specs.Limits.{Limits}
use Rattle.rb_desk.specs.Picture.{Picture}
use Rattle.rb_desk.specs.Steps.{after_step, replay, replayed}
use Rattle.rb_desk.proofs.pictures.Replays.{limits_stay}
use Rattle.rb_subscriber.specs.Owner.{OthersSince, Owner, desk_after, has_seen, steps_made}
use Rattle.rb_broker.specs.Holding.{DeskReturns, own_step}

pub steps_snoc : (log : List (ℕ × Step)) (t : ℕ × Step) → steps_made (log ++ t ∷ []) ≡ steps_made log ++ t.1 ∷ []
steps_snoc [] t = refl
steps_snoc (x ∷ log) t = ap (λ l. x.1 ∷ l) (steps_snoc log t)

-- no step changes the limits
limits_from : (p : Picture) (steps : List Step) → (replayed p steps).limits ≡ p.limits
limits_from p [] = refl
limits_from p (s ∷ steps) = limits_from (after_step p s) steps ∙ limits_stay p s

pub limits_after : (limits : Limits) (log : List (ℕ × Step)) → (desk_after limits log).picture.limits ≡ limits
limits_after limits log = limits_from _ (steps_made log)

-- a desk is what its own steps lead to
pub as_replayed : (limits : Limits) (desk : JournaledPicture) (log : List (ℕ × Step)) → desk.steps ≡ steps_made log
    → desk.picture.limits ≡ limits → IsReplay desk → desk ≡ desk_after limits log
as_replayed limits desk log steps under is =
    let picture : desk.picture ≡ replay limits (steps_made log) =
    sym is ∙ (ap (λ l. replay l desk.steps) under ∙ ap (replay limits) steps) in
    λ i. record { picture = picture i; steps = steps i }

-- the desk after one step more
pub one_step_on : (limits : Limits) (old new : JournaledPicture) (step : Step) (next : Picture) (log grown : List (ℕ × Step))
    (number : ℕ) → old ≡ desk_after limits log → new ≡ journaled old step next → next.limits ≡ old.picture.limits
    → IsReplay new → grown ≡ log ++ (number, step) ∷ [] → new ≡ desk_after limits grown
one_step_on limits old new step next log grown number was is same replays grows =
    as_replayed limits new grown
    (ap (λ (d : JournaledPicture). d.steps) is ∙ ap (λ (d : JournaledPicture). d.steps ++ step ∷ []) was
    ∙ sym (steps_snoc log (number, step)) ∙ ap steps_made (sym grows))
    (ap (λ (d : JournaledPicture). d.picture.limits) is ∙ same
    ∙ ap (λ (d : JournaledPicture). d.picture.limits) was ∙ limits_after limits log)
    replays

-- What a hold of the lock returns is what its desk returns, after the history that the owner had seen and the steps of
-- others.
pub returns : {A : Type 0} (limits : Limits) (result : Result A DeskError) (call : Picture → Result A DeskRefusal × Picture)
    (step : Step) (me mine : Owner) (log grown : List (ℕ × Step)) (old new : JournaledPicture) → OthersSince me log
    → (old ≡ desk_after limits log) × (new ≡ desk_after limits grown) → grown ≡ log ++ own_step result me.number step
    → mine ≡ has_seen me grown → JournalAnswers result (call old.picture) step old new
    → DeskReturns limits result call step me mine
returns {A} limits result call step me mine log grown old new since held grows seen answers = (
  since.0,
  record {
    apart = since.2;
    answers = subst (λ l. JournalAnswers result (call (desk_after limits l).picture) step (desk_after limits l)
        (desk_after limits mine.seen)) (sym since.1)
        (subst (λ (d : JournaledPicture). JournalAnswers result (call d.picture) step d (desk_after limits mine.seen)) held.0
        (subst (λ (d : JournaledPicture). JournalAnswers result (call old.picture) step old d)
        (held.1 ∙ ap (desk_after limits) (sym (ap (λ (o : Owner). o.seen) seen))) answers));
    seen = seen ∙ ap (has_seen me) (grows ∙ ap (λ l. l ++ own_step result me.number step) (sym since.1));
  },
)
