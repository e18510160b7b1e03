-- What a placing comes to, event by event.
use Rattle.std.proofs.Common.{◌≡◌, ℕ, zero, suc, ◌+◌, false, cond, List, [], ◌∷◌, ◌++◌}
use Rattle.std.proofs.Common.{Option, Some, None, Ok, Err, length, nat_le, refl, ap, sym, ◌∙◌}
use Rattle.std.specs.Prelude.{Result, slice_get, slice_set}
use Rattle.cs_model.specs.declared.origin.Origin.TheVariants.{Sent}
use Rattle.cs_model.specs.Section.{Section}
use Rattle.cs_parse.specs.declared.end.EndError.{EndError}
use Rattle.cs_parse.specs.declared.fault.ParseFault.{ParseFault}
use Rattle.cs_parse.specs.End.{admitted_answer}
use Rattle.cs_parse.specs.Progress.{advanced, answer_at_end, nothing}
use Rattle.rb_desk.proofs.pictures.PictureLaws.{get_set}
use Rattle.rb_desk.specs.Calls.{prepare}
use Rattle.rb_desk.specs.Journaled.{answer_after}
use Rattle.rb_sequence.specs.Item.{Item}
use Rattle.rb_core.specs.declared.event.Event.TheVariants as event
use Rattle.rb_core.specs.declared.placing.PlacingRefusal.{PlacingRefusal}
use Rattle.rb_core.specs.declared.placing.PlacingRefusal.TheVariants as why
use Rattle.rb_core.specs.declared.publisher.PublisherState.{PublisherState}
use Rattle.rb_core.specs.declared.publisher.Staged.{Staged}
use Rattle.rb_core.specs.declared.reply.BrokerRefusal.TheVariants as refusal
use Rattle.rb_core.specs.declared.reply.Reply.{Reply}
use Rattle.rb_core.specs.declared.reply.Reply.TheVariants as reply
use Rattle.rb_core.specs.Outcome.{end_reply, ended_by, ended_for, fed_by, fed_reply, hand_of, outcome, placed, reset_by}
use Rattle.rb_core.specs.Outcome.{rest_of, sent_for, sent_item, sent_while, staged_by, turned_with, with_publisher}
use Rattle.rb_core.specs.Placing.{unless_stopped, placing, stop_of, when_none_waits}
use Rattle.rb_core.specs.State.{State, how_many_wait}
use Rattle.rb_core.proofs.invariants.Written.{fed_one}
use Rattle.rb_core.proofs.whole_placings.PlaceSteps.{place_ends, place_feeds, place_fills, place_sends, place_turns}
use Rattle.rb_core.proofs.whole_placings.PlaceSteps.{place_goes_by, place_stops_by}

-- ---- one publisher

set_again : {A : Type 0} (xs : List A) (i : ℕ) (x y : A) → slice_set (slice_set xs i x) i y ≡ slice_set xs i y
set_again [] i x y = refl
set_again (z ∷ xs) zero x y = refl
set_again (z ∷ xs) (suc i) x y = ap (λ zs. z ∷ zs) (set_again xs i x y)

-- it becomes one and then another
with_again : (old : State) (p : ℕ) (x y : PublisherState) → with_publisher (with_publisher old p x) p y
    ≡ with_publisher old p y
with_again old p x y = ap (λ ps. record old { publishers = ps }) (set_again old.publishers p x y)

-- the publisher once its stream is reset, is fed, and is ended
abbrev pub emptied_stream : PublisherState → PublisherState
emptied_stream q = record q { stream = nothing }

abbrev pub filled_stream : PublisherState → List ℕ → PublisherState
filled_stream q text = record q { stream = advanced nothing text }

abbrev pub staging : PublisherState → List Section → PublisherState
staging q body = record q { stream = nothing; staged = Some (fed_one body) }

abbrev pub having_sent : PublisherState → PublisherState
having_sent q = record q { stream = nothing; staged = None; sent = q.sent + 1 }

-- its next item
abbrev pub whole_item : ℕ → PublisherState → List Section → Item
whole_item p q body = record { publisher = p; own = q.sent + 1; origin = Sent; body = body }

-- the world once the item is sent
abbrev pub queued : State → ℕ → PublisherState → List Section → State
queued old p q body = record old {
  publishers = slice_set old.publishers p (having_sent q);
  intake = old.intake ++ whole_item p q body ∷ [];
}

-- ---- each event

reset_is : (old : State) (p : ℕ) (q : PublisherState) → slice_get old.publishers p ≡ Some q
    → outcome old (event.Reset p) ≡ (reply.Reset, with_publisher old p (emptied_stream q))
unfolding outcome
reset_is old p q here = ap (λ o. reset_by old p o) here

feed_is : (old : State) (p : ℕ) (q : PublisherState) (text : List ℕ) → slice_get old.publishers p ≡ Some q
    → outcome (with_publisher old p (emptied_stream q)) (event.Feed p text)
    ≡ (fed_reply (advanced nothing text).fault, with_publisher old p (filled_stream q text))
unfolding outcome
feed_is old p q text here =
    ap (λ o. fed_by (with_publisher old p (emptied_stream q)) p text o)
    (get_set old.publishers p q (emptied_stream q) here)
    ∙ ap (λ w. (fed_reply (advanced nothing text).fault, w))
    (with_again old p (emptied_stream q) (filled_stream q text))

end_is : (old : State) (p : ℕ) (q : PublisherState) (text : List ℕ) → slice_get old.publishers p ≡ Some q
    → outcome (with_publisher old p (filled_stream q text)) (event.End p)
    ≡ ended_by (with_publisher old p (filled_stream q text)) p (filled_stream q text) q.staged
unfolding outcome
end_is old p q text here =
    ap (λ o. ended_for (with_publisher old p (filled_stream q text)) p o)
    (get_set old.publishers p q (filled_stream q text) here)

-- what the text is, if the schema admits it
abbrev pub whole_end : State → List ℕ → Result (List Section) EndError
whole_end old text = admitted_answer old.schema (answer_at_end (advanced nothing text))

end_answers : (old : State) (p : ℕ) (q : PublisherState) (text : List ℕ) {answer : Result (List Section) EndError}
    → slice_get old.publishers p ≡ Some q → q.staged ≡ None → whole_end old text ≡ answer
    → outcome (with_publisher old p (filled_stream q text)) (event.End p)
    ≡ staged_by (with_publisher old p (filled_stream q text)) p (filled_stream q text) answer
end_answers old p q text here free is =
    end_is old p q text here
    ∙ ap (λ s. ended_by (with_publisher old p (filled_stream q text)) p (filled_stream q text) s) free
    ∙ ap (λ a. staged_by (with_publisher old p (filled_stream q text)) p (filled_stream q text) a) is

end_stages : (old : State) (p : ℕ) (q : PublisherState) (text : List ℕ) {body : List Section}
    → slice_get old.publishers p ≡ Some q → q.staged ≡ None → whole_end old text ≡ Ok body
    → outcome (with_publisher old p (filled_stream q text)) (event.End p)
    ≡ (reply.Staged, with_publisher old p (staging q body))
end_stages old p q text {body} here free is =
    end_answers old p q text here free is
    ∙ ap (λ w. (reply.Staged, w)) (with_again old p (filled_stream q text) (staging q body))

send_is : (old : State) (p : ℕ) (q : PublisherState) (body : List Section) → slice_get old.publishers p ≡ Some q
    → outcome (with_publisher old p (staging q body)) (event.Send p)
    ≡ sent_while (with_publisher old p (staging q body)) p (staging q body) (fed_one body) old.desk.closing
unfolding outcome
send_is old p q body here =
    ap (λ o. sent_for (with_publisher old p (staging q body)) p o)
    (get_set old.publishers p q (staging q body) here)

pub send_sends : (old : State) (p : ℕ) (q : PublisherState) (body : List Section) → slice_get old.publishers p ≡ Some q
    → old.desk.closing ≡ None → nat_le old.desk.limits.intake (length old.intake) ≡ false
    → outcome (with_publisher old p (staging q body)) (event.Send p) ≡ (reply.Sent (q.sent + 1), queued old p q body)
send_sends old p q body here opened room =
    send_is old p q body here
    ∙ ap (λ o. sent_while (with_publisher old p (staging q body)) p (staging q body) (fed_one body) o) opened
    ∙ ap (λ b. cond b (reply.Refused refusal.Full, with_publisher old p (staging q body))
    (sent_item (with_publisher old p (staging q body)) p (staging q body) (fed_one body))) room
    ∙ ap (λ (ps : List PublisherState). (reply.Sent (q.sent + 1), record (queued old p q body) { publishers = ps }))
    (set_again old.publishers p (staging q body) (having_sent q))

-- the world in which the item is in hand
abbrev pub item_in_hand : State → ℕ → PublisherState → List Section → State
item_in_hand old p q body = record (queued old p q body) { hand = Some (whole_item p q body); intake = [] }

-- a turn after that, where nothing else waits, is about this item
pub turn_is : (old : State) (p : ℕ) (q : PublisherState) (body : List Section) → old.hand ≡ None → old.intake ≡ []
    → outcome (queued old p q body) event.Turn
    ≡ placed (item_in_hand old p q body) (whole_item p q body) (answer_after old.steps (prepare old.desk))
unfolding outcome
turn_is old p q body no_hand no_intake =
    ap (λ h. turned h old.intake) no_hand ∙ ap (λ xs. turned None xs) no_intake
  where
    turned : Option Item → List Item → Reply × State
    turned h xs =
        turned_with (record (queued old p q body) {
          hand = hand_of h (xs ++ whole_item p q body ∷ []);
          intake = rest_of h (xs ++ whole_item p q body ∷ []);
        }) (hand_of h (xs ++ whole_item p q body ∷ []))

-- ---- a placing

-- the publisher is there, nothing waits, and the text has no fault
pub record WholeBegins (old : State) (p : ℕ) (q : PublisherState) (text : List ℕ) : Type 0 where
  pub here : slice_get old.publishers p ≡ Some q
  pub none_waits : how_many_wait old ≡ 0
  pub fed : (advanced nothing text).fault ≡ None

pub no_publisher_there : (old : State) (p : ℕ) (text : List ℕ) → slice_get old.publishers p ≡ None
    → placing old p text ≡ (Err (why.Refused refusal.NoPublisher), old)
unfolding outcome
no_publisher_there old p text none =
    ap (λ o. unless_stopped old (stop_of (reset_by old p o).0) (reset_by old p o).1 (place_fills p text)) none

-- after the reset
pub reset_first : (old : State) (p : ℕ) (q : PublisherState) (text : List ℕ) → slice_get old.publishers p ≡ Some q
    → placing old p text ≡ place_fills p text (with_publisher old p (emptied_stream q))
reset_first old p q text here = place_goes_by old old (event.Reset p) (place_fills p text) (reset_is old p q here)

-- a placing that is refused leaves what the reset leaves
pub as_reset : (old : State) (p : ℕ) (q : PublisherState) (text : List ℕ) {refusal : PlacingRefusal}
    → slice_get old.publishers p ≡ Some q
    → place_fills p text (with_publisher old p (emptied_stream q))
    ≡ (Err refusal, with_publisher old p (emptied_stream q))
    → placing old p text ≡ (Err refusal, (outcome old (event.Reset p)).1)
as_reset old p q text {refusal} here is =
    reset_first old p q text here ∙ is
    ∙ ap (λ (x : Reply × State). (Err refusal, x.1)) (sym (reset_is old p q here))

pub others_wait : (old : State) (p : ℕ) (q : PublisherState) (text : List ℕ) (n : ℕ)
    → slice_get old.publishers p ≡ Some q → how_many_wait old ≡ suc n
    → placing old p text ≡ (Err (why.Waiting (suc n)), (outcome old (event.Reset p)).1)
others_wait old p q text n here wait =
    let back = with_publisher old p (emptied_stream q) in
    as_reset old p q text here (ap (λ m. when_none_waits back m (place_feeds p text back)) wait)

-- where nothing waits, the text is fed
fed_next : (old : State) (p : ℕ) (q : PublisherState) (text : List ℕ) → slice_get old.publishers p ≡ Some q
    → how_many_wait old ≡ 0
    → place_fills p text (with_publisher old p (emptied_stream q)) ≡ unless_stopped (with_publisher old p (emptied_stream q))
    (stop_of (fed_reply (advanced nothing text).fault)) (with_publisher old p (filled_stream q text))
    (place_ends p (with_publisher old p (emptied_stream q)))
fed_next old p q text here none =
    let back = with_publisher old p (emptied_stream q) in
    ap (λ m. when_none_waits back m (place_feeds p text back)) none
    ∙ place_goes_by back back (event.Feed p text) (place_ends p back) (feed_is old p q text here)

pub text_faulty : (old : State) (p : ℕ) (q : PublisherState) (text : List ℕ) (fault : ParseFault)
    → slice_get old.publishers p ≡ Some q → how_many_wait old ≡ 0 → (advanced nothing text).fault ≡ Some fault
    → placing old p text ≡ (Err (why.Fault fault), (outcome old (event.Reset p)).1)
text_faulty old p q text fault here none faulty =
    let back = with_publisher old p (emptied_stream q) in
    as_reset old p q text here (fed_next old p q text here none
    ∙ ap (λ f. unless_stopped back (stop_of (fed_reply f)) (with_publisher old p (filled_stream q text)) (place_ends p back))
    faulty)

-- and without a fault it is ended
ended_next : (old : State) (p : ℕ) (q : PublisherState) (text : List ℕ) → WholeBegins old p q text
    → place_fills p text (with_publisher old p (emptied_stream q))
    ≡ place_ends p (with_publisher old p (emptied_stream q)) (with_publisher old p (filled_stream q text))
ended_next old p q text at =
    let back = with_publisher old p (emptied_stream q) in
    fed_next old p q text at.here at.none_waits
    ∙ ap (λ f. unless_stopped back (stop_of (fed_reply f)) (with_publisher old p (filled_stream q text)) (place_ends p back))
    at.fed

pub holds_other : (old : State) (p : ℕ) (q : PublisherState) (text : List ℕ) (staged : Staged)
    → WholeBegins old p q text → q.staged ≡ Some staged
    → placing old p text ≡ (Err (why.Refused refusal.Holding), (outcome old (event.Reset p)).1)
holds_other old p q text staged at held =
    let back = with_publisher old p (emptied_stream q) in
    as_reset old p q text at.here (ended_next old p q text at
    ∙ place_goes_by back (with_publisher old p (filled_stream q text)) (event.End p) (place_sends p back)
    (end_is old p q text at.here
    ∙ ap (λ s. ended_by (with_publisher old p (filled_stream q text)) p (filled_stream q text) s) held))

pub text_refused : (old : State) (p : ℕ) (q : PublisherState) (text : List ℕ) (end : EndError)
    (refusal : PlacingRefusal) → WholeBegins old p q text → q.staged ≡ None → whole_end old text ≡ Err end
    → stop_of (end_reply end) ≡ Some refusal
    → placing old p text ≡ (Err refusal, (outcome old (event.Reset p)).1)
text_refused old p q text end refusal at free is stops =
    let back = with_publisher old p (emptied_stream q) in
    as_reset old p q text at.here (ended_next old p q text at
    ∙ place_stops_by back (with_publisher old p (filled_stream q text)) (event.End p) (place_sends p back)
    (ap (λ (x : Reply × State). stop_of x.0) (end_answers old p q text at.here free is) ∙ stops))

-- The text is a changeset that the schema admits, and nothing else is staged.
pub record WholeSpells (old : State) (p : ℕ) (q : PublisherState) (text : List ℕ) (body : List Section) : Type 0 where
  pub begins : WholeBegins old p q text
  pub free : q.staged ≡ None
  pub is : whole_end old text ≡ Ok body

-- it is sent
pub sent_next : (old : State) (p : ℕ) (q : PublisherState) (text : List ℕ) (body : List Section)
    → WholeSpells old p q text body → place_fills p text (with_publisher old p (emptied_stream q))
    ≡ place_sends p (with_publisher old p (emptied_stream q)) (with_publisher old p (staging q body))
sent_next old p q text body at =
    let back = with_publisher old p (emptied_stream q) in
    ended_next old p q text at.begins
    ∙ place_goes_by back (with_publisher old p (filled_stream q text)) (event.End p) (place_sends p back)
    (end_stages old p q text at.begins.here at.free at.is)

pub after_close : (old : State) (p : ℕ) (q : PublisherState) (text : List ℕ) (body : List Section) (last : ℕ)
    → WholeSpells old p q text body → old.desk.closing ≡ Some last
    → placing old p text ≡ (Err (why.Refused refusal.Closed), (outcome old (event.Reset p)).1)
after_close old p q text body last at closed =
    let back = with_publisher old p (emptied_stream q) in
    as_reset old p q text at.begins.here (sent_next old p q text body at
    ∙ place_goes_by back (with_publisher old p (staging q body)) (event.Send p) (place_turns back)
    (send_is old p q body at.begins.here
    ∙ ap (λ o. sent_while (with_publisher old p (staging q body)) p (staging q body) (fed_one body) o) closed))
