-- Lists of shapes that compare as equal are equal, and no others; what `subscribe` refuses.
use Rattle.std.proofs.Common.{◌≡◌, ◌∙◌, ℕ, Bool, true, false, ◌&&◌, List, [], ◌++◌, Result, Ok, Err}
use Rattle.std.proofs.Common.{IfErr, IfOk, ap, refl, sym}
use Rattle.std.specs.Bool.{Decides}
use Rattle.std.specs.Cmp.{unsigned_Decides}
use Rattle.std.proofs.lemmas.Slice.Eq.{slice_eq-Decides}
use Rattle.cs_model.specs.Schema.{same_bytes, same_shape}
use Rattle.cs_model.specs.declared.shape.Shape.{Shape}
use Rattle.cs_apply.specs.State.{TableState}
use Rattle.rb_desk.specs.Journaled.{JournaledPicture}
use Rattle.rb_desk.specs.Limits.{Limits}
use Rattle.rb_desk.specs.Calls.{subscribe}
use Rattle.rb_desk.specs.declared.step.Step.{Step}
use Rattle.rb_desk.specs.declared.step.Step.TheVariants.{Subscribe}
use Rattle.rb_history.specs.Kept.{count_under}
use Rattle.rb_subscriber.specs.Owner.{OthersSince, Owner, desk_after, has_seen}
use Rattle.rb_subscriber.specs.Subscription.{SubscriptionState}
use Rattle.rb_broker.specs.Holding.{IsSchemaWhy, MakesSubscription, RefusesAsDesk, RefusesTables, own_step}
use Rattle.rb_broker.specs.Holding.{RefusesAfterDesk, SubscribesAfterDesk}
use Rattle.rb_broker.specs.declared.refusal.RefusedSubscription.{RefusedSubscription}
use Rattle.rb_broker.specs.declared.refusal.SubscribeError.{SubscribeError}
use Rattle.rb_broker.specs.declared.refusal.SubscribeError.TheVariants.{Desk, OtherSchema}
use Rattle.rb_broker.proofs.StepLaws.{returns}

bytes_decide : (xs ys : List ℕ) → Decides (same_bytes xs ys) (xs ≡ ys)
bytes_decide xs ys = slice_eq-Decides unsigned_Decides xs ys (same_bytes xs ys) refl

flags_true : (p q : Bool) → p && q ≡ true → (p ≡ true) × (q ≡ true)
flags_true true q e = (refl, e)
flags_true false q e = absurd (let no : false ≡ true = e in cc)

true_both : (p q : Bool) → p ≡ true → q ≡ true → p && q ≡ true
true_both p q a b = ap (λ x. x && q) a ∙ b

both_decide : (a b : Shape) (p q : Bool) → Decides p (a.name ≡ b.name) → Decides q (a.flags ≡ b.flags)
    → Decides (p && q) (a ≡ b)
both_decide a b p q names flags = (
  λ e.
      let both = flags_true p q e in
      let name = names.0 both.0 in
      let flag = flags.0 both.1 in
      (λ i. record { name = name i; flags = flag i }),
  λ same. true_both p q (names.1 (ap (λ (s : Shape). s.name) same)) (flags.1 (ap (λ (s : Shape). s.flags) same)),
)

pub shape_decides : (a b : Shape) → Decides (same_shape a b) (a ≡ b)
shape_decides a b = both_decide a b (same_bytes a.name b.name) (same_bytes a.flags b.flags)
    (bytes_decide a.name b.name) (bytes_decide a.flags b.flags)

pub decides_on : (r : Bool) (xs ys these those : List Shape) → xs ≡ these → ys ≡ those → Decides r (xs ≡ ys)
    → Decides r (these ≡ those)
decides_on r xs ys these those a b h = (λ e. sym a ∙ h.0 e ∙ b, λ e. h.1 (a ∙ e ∙ sym b))

-- what the hold refuses isn't another schema
why_is : (base : TableState) (own : List Shape) (why : SubscribeError) (start : ℕ) (old new : JournaledPicture)
    → base.schema ≡ own → RefusesAsDesk why start old new → IsSchemaWhy base.schema own why
why_is base own OtherSchema start old new same h = absurd h
why_is base own (Desk error) start old new same h = same

pub tables_come_back : (result : Result SubscriptionState RefusedSubscription) (base : TableState) (own : List Shape)
    (start : ℕ)
    (old new : JournaledPicture) → base.schema ≡ own → MakesSubscription result base start old new
    → IfErr result (RefusesTables own base)
tables_come_back (Ok s) base own start old new same h = tt
tables_come_back (Err refused) base own start old new same h =
    (h.0, why_is base own refused.why start old new same h.1)

-- what the hold returns is what its desk returns
why_after : (limits : Limits) (why : SubscribeError) (start : ℕ) (me mine : Owner) (log grown : List (ℕ × Step))
    (old new : JournaledPicture) → OthersSince me log
    → (old ≡ desk_after limits log) × (new ≡ desk_after limits grown) → grown ≡ log ++ [] → mine ≡ has_seen me grown
    → RefusesAsDesk why start old new → RefusesAfterDesk limits why start me mine
why_after limits OtherSchema start me mine log grown old new since held grows seen h = absurd h
why_after limits (Desk error) start me mine log grown old new since held grows seen h =
    returns limits (Err error) (λ p. subscribe p start) (Subscribe start) me mine log grown old new since held grows
    seen h

pub subscribes_after : (limits : Limits) (result : Result SubscriptionState RefusedSubscription) (base : TableState)
    (start : ℕ) (me mine : Owner) (log grown : List (ℕ × Step)) (old new : JournaledPicture) → OthersSince me log
    → (old ≡ desk_after limits log) × (new ≡ desk_after limits grown)
    → grown ≡ log ++ own_step result me.number (Subscribe start) → mine ≡ has_seen me grown
    → IfOk result (λ s. (s.owner.seen ≡ mine.seen) × (count_under s.owner.number mine.seen ≡ 0))
    → MakesSubscription result base start old new
    → SubscribesAfterDesk limits result start me mine
subscribes_after limits (Ok s) base start me mine log grown old new since held grows seen own h = (
  own.0,
  own.1,
  returns limits (Ok (s.sub, s.link)) (λ p. subscribe p start) (Subscribe start) me mine log grown old new since held
      grows seen h.1,
)
subscribes_after limits (Err refused) base start me mine log grown old new since held grows seen own h =
    why_after limits refused.why start me mine log grown old new since held grows seen h.1
