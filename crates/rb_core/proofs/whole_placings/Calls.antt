-- What the functions of the call answer.
use Rattle.std.proofs.Common.{◌≡◌, ℕ, zero, suc, ◌+◌, ◌<◌, ◌≤◌, true, false, List, [], ◌∷◌, ◌++◌, Option, Some}
use Rattle.std.proofs.Common.{None, Ok, Err, length, get_or, refl, ap, sym, subst, ◌∙◌, arith}
use Rattle.std.specs.Prelude.{IsOk, IsSome, is_some, Result, slice_get, slice_set}
use Rattle.std.proofs.lemmas.Bool.{false≢true}
use Rattle.std.proofs.lemmas.Option.{slice_get_past, slice_get_read, slice_get_within}
use Rattle.cs_model.specs.declared.origin.Origin.TheVariants.{Sent}
use Rattle.cs_model.specs.declared.shape.Shape.{Shape}
use Rattle.cs_model.specs.Section.{Section}
use Rattle.cs_parse.specs.declared.end.EndError.{EndError}
use Rattle.cs_parse.specs.End.{admitted_answer}
use Rattle.cs_parse.specs.Progress.{Progress, advanced, answer_at_end, nothing}
use Rattle.rb_desk.proofs.calls.CallLaws.{prepared}
use Rattle.rb_desk.specs.Calls.{place, prepare}
use Rattle.rb_desk.specs.declared.refusal.DeskRefusal.{DeskRefusal}
use Rattle.rb_desk.specs.Journaled.{TalliedPicture, answer_after, tallied}
use Rattle.rb_sequence.specs.Entry.{Entry}
use Rattle.rb_sequence.specs.Item.{Item}
use Rattle.rb_core.specs.declared.placing.PlacingError.{PlacingError}
use Rattle.rb_core.specs.declared.placing.PlacingError.TheVariants as error
use Rattle.rb_core.specs.declared.placing.PlacingRefusal.{PlacingRefusal}
use Rattle.rb_core.specs.declared.placing.PlacingRefusal.TheVariants as why
use Rattle.rb_core.specs.declared.publisher.PublisherState.{PublisherState}
use Rattle.rb_core.specs.declared.reply.BrokerRefusal.TheVariants as refusal
use Rattle.rb_core.specs.declared.reply.Reply.{Reply}
use Rattle.rb_core.specs.Outcome as outcome
use Rattle.rb_core.specs.Placing.{EndsWhole, FeedsWhole, MayStarve, AnswersPlacing, PlacesItem, placed_with, placing}
use Rattle.rb_core.specs.State.{IsWorld, State, how_many_wait}
use Rattle.rb_core.proofs.whole_placings.Placed.{number_refused, whole_places}
use Rattle.rb_core.proofs.whole_placings.Whole.{WholeBegins, WholeSpells, after_close, holds_other, text_faulty}
use Rattle.rb_core.proofs.whole_placings.Whole.{no_publisher_there, others_wait, text_refused, whole_end}

-- ---- the publisher is there

some_is_there : {A : Type 0} (o : Option A) → IsSome o → (x : A) × (o ≡ Some x)
some_is_there (Some x) some = (x, refl)
some_is_there None some = absurd (false≢true some)

some_at : {A : Type 0} (xs : List A) (i : ℕ) → i < length xs → IsSome (slice_get xs i)
some_at [] i less = absurd (omega (arith, less))
some_at (x ∷ xs) zero less = refl
some_at (x ∷ xs) (suc i) less = some_at xs i (omega (arith, less))

pub seen_within : {seen old : State} (p : ℕ) → seen ≡ old → IsSome (slice_get old.publishers p)
    → p < length seen.publishers
seen_within {seen} {old} p same some =
    let here = some_is_there (slice_get old.publishers p) some in
    subst (λ (w : State). p < length w.publishers) (sym same)
    (slice_get_within old.publishers p here.0 here.1)

pub seen_there : {seen old : State} (p : ℕ) → seen ≡ old → p < length seen.publishers
    → IsSome (slice_get old.publishers p)
seen_there {seen} {old} p same less =
    subst (λ (w : State). IsSome (slice_get w.publishers p)) same (some_at seen.publishers p less)

pub seen_past : {seen old : State} (p : ℕ) (text : List ℕ) → seen ≡ old → length seen.publishers ≤ p
    → AnswersPlacing (Err (error.Refused (why.Refused refusal.NoPublisher))) old p text old
seen_past {seen} {old} p text same past =
    no_publisher_there old p text (slice_get_past old.publishers p
    (subst (λ (w : State). length w.publishers ≤ p) same past))

-- the publisher that is read, where nothing waits and the text has no fault
pub seen_begins : {seen old : State} {q : PublisherState} (p : ℕ) (text : List ℕ) (n : ℕ) → seen ≡ old
    → IsSome (slice_get old.publishers p) → q ≡ get_or seen.publishers p q → n ≡ how_many_wait old → n ≤ 0
    → (advanced nothing text).fault ≡ None → WholeBegins old p q text
seen_begins {seen} {old} {q} p text n same some read waiting few fed =
    let here : slice_get seen.publishers p ≡ Some q =
    slice_get_read seen.publishers (length seen.publishers) p q refl (seen_within p same some) read in
    record {
      here = subst (λ (w : State). slice_get w.publishers p ≡ Some q) same here;
      none_waits = omega (arith, waiting, few);
      fed = fed;
    }

-- ---- the item that is placed

starves : (old : State) (p : ℕ) (q : PublisherState) (text : List ℕ) → WholeBegins old p q text → MayStarve old p text
starves old p q text at = record {
  there = ap (λ (o : Option PublisherState). is_some o) at.here;
  none_waits = at.none_waits;
  fed = at.fed;
}

-- others wait
pub waiting_refused : (old : State) (p : ℕ) (text : List ℕ) (n : ℕ) → IsSome (slice_get old.publishers p)
    → n ≡ how_many_wait old → 0 < n → PlacesItem (Err (error.Refused (why.Waiting n))) old p text
waiting_refused old p text zero some is more = absurd (omega (arith, more))
waiting_refused old p text (suc n) some is more =
    let here = some_is_there (slice_get old.publishers p) some in
    others_wait old p here.0 text n here.1 (sym is)

-- the text isn't taken
fed_stops : (old : State) (p : ℕ) (q : PublisherState) (text : List ℕ) (e : PlacingError)
    → slice_get old.publishers p ≡ Some q → how_many_wait old ≡ 0 → FeedsWhole (Err e) text
    → PlacesItem (Err e) old p text
fed_stops old p q text (error.Refused (why.Waiting n)) here none is = absurd is
fed_stops old p q text (error.Refused (why.Fault fault)) here none is = text_faulty old p q text fault here none is
fed_stops old p q text (error.Refused (why.Refused refusal)) here none is = absurd is
fed_stops old p q text error.Memory here none is =
    starves old p q text (record { here = here; none_waits = none; fed = is })

pub feed_refused : (old : State) (p : ℕ) (text : List ℕ) (n : ℕ) (e : PlacingError)
    → IsSome (slice_get old.publishers p) → n ≡ how_many_wait old → n ≤ 0 → FeedsWhole (Err e) text
    → PlacesItem (Err e) old p text
feed_refused old p text n e some waiting few is =
    let here = some_is_there (slice_get old.publishers p) some in
    fed_stops old p here.0 text e here.1 (omega (arith, waiting, few)) is

-- something else is staged
pub place_holds : {old : State} {p : ℕ} {q : PublisherState} {text : List ℕ} → WholeBegins old p q text
    → true ≡ is_some q.staged → PlacesItem (Err (error.Refused (why.Refused refusal.Holding))) old p text
place_holds {old} {p} {q} {text} at held =
    let staged = some_is_there q.staged (sym held) in
    holds_other old p q text staged.0 at staged.1

none_is_there : {A : Type 0} (o : Option A) → false ≡ is_some o → o ≡ None
none_is_there None none = refl
none_is_there (Some x) none = absurd (false≢true none)

-- the answer at the end, as it is seen
seen_answer : {seen old : State} {schema : List Shape} {stream : Progress} (text : List ℕ) → seen ≡ old
    → schema ≡ seen.schema → stream ≡ advanced nothing text
    → admitted_answer schema (answer_at_end stream) ≡ whole_end old text
seen_answer {seen} {old} {schema} {stream} text same shapes taken =
    ap (λ (x : List Shape). admitted_answer x (answer_at_end stream)) (shapes ∙ ap (λ (w : State). w.schema) same)
    ∙ ap (λ (x : Progress). admitted_answer old.schema (answer_at_end x)) taken

-- the stream isn't ended
end_stops : (old : State) (p : ℕ) (q : PublisherState) (text : List ℕ) (e : PlacingError) → WholeBegins old p q text
    → q.staged ≡ None → EndsWhole (Err e) (whole_end old text) → PlacesItem (Err e) old p text
end_stops old p q text (error.Refused refusal) at free is = by (whole_end old text) refl is
  where
    by : (answer : Result (List Section) EndError) → whole_end old text ≡ answer
        → EndsWhole (Err (error.Refused refusal)) answer → PlacesItem (Err (error.Refused refusal)) old p text
    by (Ok body) same stops = absurd stops
    by (Err end) same stops = text_refused old p q text end refusal at free same stops
end_stops old p q text error.Memory at free is = absurd is

pub whole_end_refused : {seen old : State} {p : ℕ} {q : PublisherState} {text : List ℕ} {schema : List Shape}
    {stream : Progress} (e : PlacingError) → WholeBegins old p q text → false ≡ is_some q.staged → seen ≡ old
    → schema ≡ seen.schema → stream ≡ advanced nothing text
    → EndsWhole (Err e) (admitted_answer schema (answer_at_end stream)) → PlacesItem (Err e) old p text
whole_end_refused {seen} {old} {p} {q} {text} {schema} {stream} e at free same shapes taken is =
    end_stops old p q text e at (none_is_there q.staged free)
    (subst (EndsWhole (Err e)) (seen_answer text same shapes taken) is)

-- or the text is a changeset
pub seen_spells : {seen old : State} {p : ℕ} {q : PublisherState} {text : List ℕ} {schema : List Shape}
    {stream : Progress} (body : List Section) → WholeBegins old p q text → false ≡ is_some q.staged → seen ≡ old
    → schema ≡ seen.schema → stream ≡ advanced nothing text
    → EndsWhole (Ok body) (admitted_answer schema (answer_at_end stream)) → WholeSpells old p q text body
seen_spells {seen} {old} {p} {q} {text} {schema} {stream} body at free same shapes taken is = record {
  begins = at;
  free = none_is_there q.staged free;
  is = sym (seen_answer text same shapes taken) ∙ is;
}

-- the sequence is closed
pub closed_refused : {seen old : State} {p : ℕ} {q : PublisherState} {text : List ℕ} {body : List Section}
    (closing : Option ℕ) → WholeSpells old p q text body → seen ≡ old → closing ≡ seen.desk.closing
    → true ≡ is_some closing → PlacesItem (Err (error.Refused (why.Refused refusal.Closed))) old p text
closed_refused {seen} {old} {p} {q} {text} {body} closing at same is some =
    let last = some_is_there closing (sym some) in
    after_close old p q text body last.0 at
    (sym (is ∙ ap (λ (w : State). w.desk.closing) same) ∙ last.1)

-- The desk's answer, as it is seen in a world that isn't closed.
pub record SeenDesk (old : State) (answer : Result ℕ DeskRefusal) : Type 0 where
  pub opened : old.desk.closing ≡ None
  pub is : answer_after old.steps (prepare old.desk) ≡ answer

pub seen_desk : {seen old : State} {answer : Result ℕ DeskRefusal} (closing : Option ℕ) → seen ≡ old
    → closing ≡ seen.desk.closing → false ≡ is_some closing → answer ≡ answer_after seen.steps (prepare seen.desk)
    → SeenDesk old answer
seen_desk {seen} {old} {answer} closing same is none tells = record {
  opened = sym (is ∙ ap (λ (w : State). w.desk.closing) same) ∙ none_is_there closing none;
  is = sym (tells ∙ ap (λ (w : State). answer_after w.steps (prepare w.desk)) same);
}

pub desk_refused : {old : State} {p : ℕ} {q : PublisherState} {text : List ℕ} {body : List Section}
    {answer : Result ℕ DeskRefusal} (reason : DeskRefusal) → IsWorld old → WholeSpells old p q text body
    → SeenDesk old answer → answer ≡ Err reason
    → PlacesItem (Err (error.Refused (why.Refused (refusal.Desk reason)))) old p text
desk_refused {old} {p} {q} {text} {body} reason good at desk is =
    number_refused old p q text body reason good at desk.opened (desk.is ∙ is)

pub item_found : {old : State} {p : ℕ} {q : PublisherState} {text : List ℕ} {body : List Section}
    {answer : Result ℕ DeskRefusal} (number own : ℕ) (item : Item) → IsWorld old → WholeSpells old p q text body
    → SeenDesk old answer → answer ≡ Ok number → own ≡ q.sent + 1
    → item ≡ record { publisher = p; own = own; origin = Sent; body = body } → PlacesItem (Ok item) old p text
item_found {old} {p} {q} {text} {body} number own item good at desk is next made =
    let ready = desk.is ∙ is in
    let same : item ≡ record { publisher = p; own = q.sent + 1; origin = Sent; body = body } =
    made ∙ ap (λ (n : ℕ). record { publisher = p; own = n; origin = Sent; body = body }) next in (
      whole_places old p q text body number good at desk.opened ready
          ∙ ap (λ (x : Item). (Ok (suc (length old.sequence)), placed_with old p x)) (sym same),
      subst (λ (r : Result ℕ DeskRefusal). IsOk r) (sym ready) refl,
      starves old p q text at.begins,
    )

-- ---- the item is placed

pub item_put : {seen old : State} {tally : TalliedPicture} {stream : Progress} (p number own : ℕ) (item : Item)
    (entry : Entry) (sequence : List Entry) → seen ≡ old → old.desk.front ≡ length old.sequence
    → prepare seen.desk ≡ Ok number → stream ≡ nothing → own ≡ item.own
    → entry ≡ record { number = number; item = item } → sequence ≡ seen.sequence ++ entry ∷ []
    → tally ≡ tallied (record { picture = seen.desk; steps = seen.steps }) (place seen.desk)
    → (number ≡ suc (length old.sequence)) × (record seen {
      publishers = slice_set seen.publishers p (record { stream = stream; staged = None; sent = own });
      sequence = sequence;
      desk = tally.picture;
      steps = tally.steps;
    } ≡ placed_with old p item)
item_put {seen} {old} {tally} {stream} p number own item entry sequence same front next empty owns made pushed steps =
    let ok : IsOk (prepare seen.desk) = subst (λ (r : Result ℕ DeskRefusal). IsOk r) (sym next) refl in
    let rises : number ≡ suc seen.desk.front =
    (let e : Ok number ≡ Ok (suc seen.desk.front) = sym next ∙ prepared seen.desk ok in cc) in
    let begins : seen.desk.front ≡ length seen.sequence =
    subst (λ (w : State). w.desk.front ≡ length w.sequence) (sym same) front in
    let is : number ≡ suc (length seen.sequence) = rises ∙ ap suc begins in
    let longer : sequence ≡ seen.sequence ++ record { number = suc (length seen.sequence); item = item } ∷ [] =
    pushed ∙ ap (λ (e : Entry). seen.sequence ++ e ∷ [])
    (made ∙ ap (λ (n : ℕ). record { number = n; item = item }) is) in (
      is ∙ ap (λ (w : State). suc (length w.sequence)) same,
      ap (λ (x : Progress). world x own sequence tally) empty ∙ ap (λ (n : ℕ). world nothing n sequence tally) owns
          ∙ ap (λ (es : List Entry). world nothing item.own es tally) longer
          ∙ ap (λ (t : TalliedPicture). world nothing item.own
          (seen.sequence ++ record { number = suc (length seen.sequence); item = item } ∷ []) t) steps
          ∙ ap (λ (w : State). placed_with w p item) same,
    )
  where
    world : Progress → ℕ → List Entry → TalliedPicture → State
    world stream own sequence tally = record seen {
      publishers = slice_set seen.publishers p (record { stream = stream; staged = None; sent = own });
      sequence = sequence;
      desk = tally.picture;
      steps = tally.steps;
    }

-- a refusal leaves what the reset leaves
pub reset_after : (old : State) (p : ℕ) (text : List ℕ) {given : Reply} {new : State} (e : PlacingError)
    (refusal : PlacingRefusal) → PlacesItem (Err e) old p text → e ≡ error.Refused refusal
    → outcome.reset old p ≡ (given, new) → placing old p text ≡ (Err refusal, new)
unfolding outcome.outcome
reset_after old p text {given} {new} e refusal refuses is resets =
    subst (λ (x : PlacingError). PlacesItem (Err x) old p text) is refuses
    ∙ ap (λ (x : Reply × State). (Err refusal, x.1)) resets
