-- Worked examples of settled spans, and of what a journal says of a number.
use Rattle.std.specs.Prelude.{◌≡◌, ℕ, false, List, [], ◌∷◌, map, refl}
use Rattle.std.proofs.Common.{arith}
use Rattle.rb_deliveries.specs.Picture.{Subscription}
use Rattle.rb_deliveries.specs.declared.span.Status.TheVariants.{Ready, InFlight}
use Rattle.rb_deliveries.specs.Spans.{cut_spans}
use Rattle.rb_desk.specs.Calls.{subscribe, take, ack, reconnect, prepare, place}
use Rattle.rb_desk.specs.Steps.{after_step, replay}
use Rattle.rb_desk.specs.declared.step.Step.{Step}
use Rattle.rb_desk.specs.declared.step.Step.TheVariants.{Subscribe, Take, Ack, Place, Reconnect}
use Rattle.rb_desk.specs.Rows.{two_in_flight}
use Rattle.rb_desk.specs.History.{WasAckedUnder, how_many_have}
use Rattle.rb_desk.specs.FullSpans.{FullSpan, Settled, Unsettled}
use Rattle.rb_desk.specs.FullPicture.{FullSubscription}
use Rattle.rb_desk.specs.FullCalls.{full_replay}

-- the spans and the floors of the full picture, and how many spans of the picture have a number
abbrev full_spans_after : List Step → List (List FullSpan)
full_spans_after steps =
    map (λ (q : FullSubscription). q.spans) (full_replay two_in_flight steps).subscriptions

abbrev full_floors_after : List Step → List ℕ
full_floors_after steps =
    map (λ (q : FullSubscription). q.floor) (full_replay two_in_flight steps).subscriptions

abbrev have_after : ℕ → List Step → List ℕ
have_after n steps =
    map (λ (q : Subscription). how_many_have n q.spans) (replay two_in_flight steps).subscriptions

-- Numbers 1 to 3 are placed, 1 and 2 are delivered, and 2 is acknowledged. It is settled, and the
-- floor waits for 1.
abbrev two_delivered : List Step
two_delivered = Subscribe 0 ∷ Place ∷ Place ∷ Place ∷ Take 0 1 0 0 ∷ Take 0 1 0 0 ∷ []

abbrev second_acked : List Step
second_acked =
    Subscribe 0 ∷ Place ∷ Place ∷ Place ∷ Take 0 1 0 0 ∷ Take 0 1 0 0 ∷ Ack 0 1 2 2 ∷ []

pub second_is_settled : full_spans_after second_acked
    ≡ (Unsettled (record { first = 1; last = 1; status = InFlight 1 0 }) ∷ Settled 2 2
    ∷ Unsettled (record { first = 3; last = 3; status = Ready false }) ∷ []) ∷ []
unfolding cut_spans
second_is_settled = refl

pub floor_waits : full_floors_after second_acked ≡ 0 ∷ []
unfolding cut_spans
floor_waits = refl

-- so one span of the picture has 1, none has 2, and the journal says that 2 was acknowledged
pub first_in_one : have_after 1 second_acked ≡ 1 ∷ []
unfolding subscribe take ack prepare place after_step cut_spans
first_in_one = refl

pub second_in_none : have_after 2 second_acked ≡ 0 ∷ []
unfolding subscribe take ack prepare place after_step cut_spans
second_in_none = refl

pub second_was_acked : WasAckedUnder two_in_flight second_acked 0 1 2
unfolding subscribe take ack prepare place after_step cut_spans
second_was_acked = record {
  before = two_delivered;
  number = 2;
  cursor = 2;
  floor = 0;
  after = [];
  delivery = record { number = 2; sub = 0; link = 1; first = 2; last = 2 };
  calls = refl;
  is_ok = refl;
  made = record {
    before = Subscribe 0 ∷ Place ∷ Place ∷ Place ∷ Take 0 1 0 0 ∷ [];
    step = Take 0 1 0 0;
    after = [];
    calls = refl;
    answers = refl;
  };
  is_of = (refl, refl);
  has = (omega arith, omega arith);
}

-- Then 1 is acknowledged, and the floor rises over both.
abbrev both_acked : List Step
both_acked =
    Subscribe 0 ∷ Place ∷ Place ∷ Place ∷ Take 0 1 0 0 ∷ Take 0 1 0 0 ∷ Ack 0 1 2 2 ∷ Ack 0 1 1 2
    ∷ []

pub third_is_left : full_spans_after both_acked
    ≡ (Unsettled (record { first = 3; last = 3; status = Ready false }) ∷ []) ∷ []
unfolding cut_spans
third_is_left = refl

pub floor_passes_both : full_floors_after both_acked ≡ 2 ∷ []
unfolding cut_spans
floor_passes_both = refl

-- Instead a reconnect goes back to 0. So 2 is in a span again, though it was acknowledged under the
-- old link.
abbrev reconnected_to_0 : List Step
reconnected_to_0 =
    Subscribe 0 ∷ Place ∷ Place ∷ Place ∷ Take 0 1 0 0 ∷ Take 0 1 0 0 ∷ Ack 0 1 2 2
    ∷ Reconnect 0 0 ∷ []

pub second_in_one_again : have_after 2 reconnected_to_0 ≡ 1 ∷ []
unfolding subscribe take ack reconnect prepare place after_step cut_spans
second_in_one_again = refl
