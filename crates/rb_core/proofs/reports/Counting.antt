-- The number of a new publisher or subscription: how many are told to have come before it.
use Rattle.std.proofs.Common.{◌≡◌, ℕ, Bool, true, false, cond, List, [], ◌∷◌, length, Result, Ok}
use Rattle.std.proofs.Common.{Err}
use Rattle.std.proofs.Common.{refl, sym, ap, ◌∙◌, arith}
use Rattle.std.specs.Prelude.{nat_le}
use Rattle.std.proofs.lemmas.List.{length-map}
use Rattle.cs_apply.specs.State.{TableState}
use Rattle.cs_model.specs.declared.shape.Shape.{Shape}
use Rattle.rb_desk.specs.Calls as desk
use Rattle.rb_desk.specs.declared.refusal.DeskRefusal.{DeskRefusal}
use Rattle.rb_desk.specs.Outline.{Member, outline_of}
use Rattle.rb_desk.specs.Picture.{Picture}
use Rattle.rb_subscriber.specs.Endpoint.{Endpoint}
use Rattle.rb_core.specs.declared.event.Event.TheVariants as event
use Rattle.rb_core.specs.declared.reply.Reply.{Reply}
use Rattle.rb_core.specs.declared.reply.Reply.TheVariants as reply
use Rattle.rb_core.specs.declared.reply.BrokerRefusal.TheVariants as refusal
use Rattle.rb_core.specs.Outcome as out
use Rattle.rb_core.specs.Outcome.{outcome}
use Rattle.rb_core.specs.State.{State, IsWorld, bare_tables, empty_tables, member_of_end}
use Rattle.rb_core.specs.Told.{Paired, IsToldBy}
use Rattle.rb_core.specs.World.{World, endpoint_of}
use Rattle.rb_core.proofs.reports.TellSubscriptions.{SubscribeShows}
use Rattle.rb_desk.proofs.journals.KeepLaws.{call_after}
use Rattle.rb_desk.specs.Journaled.{answer_after}

paired_length : {A B : Type 0} (R : A → B → Type 0) (xs : List A) (ys : List B) → Paired R xs ys → length xs
    ≡ length ys
paired_length R [] [] all = refl
paired_length R [] (y ∷ ys) all = absurd all
paired_length R (x ∷ xs) [] all = absurd all
paired_length R (x ∷ xs) (y ∷ ys) all = omega (arith, paired_length R xs ys all.1)

-- the reply of an outcome
abbrev reply_of : Reply × State → Reply
reply_of x = x.0

publisher_number : (old : State) (p : ℕ) (new : State) → outcome old event.Publisher ≡ (reply.Publisher p, new)
    → p ≡ length old.publishers
unfolding outcome
publisher_number old p new e = by (nat_le 64 (length old.publishers)) _ e
  where
    by : (b : Bool) (after : State)
        → cond b (out.refused old refusal.TooMany) (reply.Publisher (length old.publishers), after)
        ≡ (reply.Publisher p, new) → p ≡ length old.publishers
    by true after e =
        absurd (let both : reply.Refused refusal.TooMany ≡ reply.Publisher p = ap reply_of e in cc)
    by false after e =
        let both : reply.Publisher (length old.publishers) ≡ reply.Publisher p = ap reply_of e in
        let same : length old.publishers ≡ p = cc in
        sym same

pub publisher_counts : (schema : List Shape) (old : State) (world : World) (p : ℕ) (new : State)
    → IsToldBy schema old world → outcome old event.Publisher ≡ (reply.Publisher p, new) → p ≡ length world.senders
publisher_counts schema old world p new h e =
    publisher_number old p new e ∙ paired_length _ old.publishers world.senders h.senders

-- whatever tables it begins with
begun_counts : SubscribeShows → (schema : List Shape) (old : State) (world : World) (start s link : ℕ)
    (begun : TableState) (new : State) → IsWorld old → IsToldBy schema old world
    → out.subscribed old start begun ≡ (reply.Subscriber s link, new) → s ≡ length world.subscribers
begun_counts shows schema old world start s link begun new good h e =
    by (answer_after old.steps (desk.subscribe old.desk start).0) (desk.subscribe old.desk start).1
    (call_after old.steps (desk.subscribe old.desk start)) e
  where
    by : (answer : Result (ℕ × ℕ) DeskRefusal) (picture : Picture)
        → ((made : ℕ × ℕ) → answer ≡ Ok made → desk.subscribe old.desk start ≡ (Ok made, picture))
        → out.subscribed_by old start begun answer picture ≡ (reply.Subscriber s link, new)
        → s ≡ length world.subscribers
    by (Err why) picture is e =
        absurd (let both : reply.Refused (refusal.Desk why) ≡ reply.Subscriber s link = ap reply_of e in cc)
    by (Ok made) picture is e =
        let both : reply.Subscriber made.0 made.1 ≡ reply.Subscriber s link = ap reply_of e in
        let same : made.0 ≡ s = cc in
        let last : made.0 ≡ length (outline_of old.desk).members =
        (shows old.desk start made.0 made.1 picture (is made refl)).last in
        sym same ∙ last ∙ ap (λ (ms : List Member). length ms) (sym good.members)
        ∙ length-map old.endpoints member_of_end
        ∙ ap (λ (es : List Endpoint). length es) (sym h.subscriptions.ends) ∙ length-map world.subscribers endpoint_of

pub subscriber_counts : SubscribeShows → (schema : List Shape) (old : State) (world : World) (start s link : ℕ)
    (new : State) → IsWorld old → IsToldBy schema old world
    → outcome old (event.Subscribe start) ≡ (reply.Subscriber s link, new) → s ≡ length world.subscribers
unfolding outcome
subscriber_counts shows schema old world start s link new good h e =
    begun_counts shows schema old world start s link (empty_tables old.schema) new good h e

pub bare_subscriber_counts : SubscribeShows → (schema : List Shape) (old : State) (world : World) (start s link : ℕ)
    (new : State) → IsWorld old → IsToldBy schema old world
    → outcome old (event.SubscribeBare start) ≡ (reply.Subscriber s link, new) → s ≡ length world.subscribers
unfolding outcome
bare_subscriber_counts shows schema old world start s link new good h e =
    begun_counts shows schema old world start s link (bare_tables old.schema) new good h e
