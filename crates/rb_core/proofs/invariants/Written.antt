-- Writing an item of a list back to its index, changed or unchanged.
use Rattle.std.proofs.Common.{◌≡◌, ℕ, Bool, true, false, cond, List, [], ◌∷◌, Option, Some, None, Result, Ok}
use Rattle.std.proofs.Common.{Err, length, ◌<◌, refl, sym, ap, subst, ◌∙◌}
use Rattle.std.specs.List.{AllByRecursion, find}
use Rattle.std.specs.Option.{is_some}
use Rattle.std.specs.Prelude.{get_or, slice_get, IfSome}
use Rattle.std.proofs.lemmas.Option.{slice_get_read}
use Rattle.cs_model.specs.declared.shape.Shape.{Shape}
use Rattle.cs_model.specs.Section.{Section}
use Rattle.cs_parse.specs.declared.end.EndError.{EndError}
use Rattle.cs_parse.specs.End.{admitted_answer, left_by}
use Rattle.cs_parse.specs.Progress as stream
use Rattle.rb_core.specs.declared.publisher.PublisherState.{PublisherState}
use Rattle.rb_core.specs.declared.publisher.Staged.{Staged}
use Rattle.cs_model.specs.declared.origin.Origin.TheVariants.{Sent}
use Rattle.rb_core.specs.declared.reply.Reply.{Reply}
use Rattle.rb_core.specs.declared.reply.Reply.TheVariants as reply
use Rattle.rb_core.specs.declared.reply.BrokerRefusal.TheVariants as refusal
use Rattle.rb_core.specs.Outcome.{with_publisher, with_endpoint, delivery_of, end_reply, staged_by, ended_by, ended_for}
use Rattle.rb_core.specs.Outcome.{accepted_by, accepted_at, accepted_as, crashed_by, crashed_at, crashed_for}
use Rattle.rb_core.specs.Outcome as outcome
use Rattle.rb_desk.specs.declared.delivery.Delivery.{Delivery}
use Rattle.rb_sequence.specs.Entry.{Entry}
use Rattle.rb_subscriber.specs.Accept.{accept, crash, AcceptAnswers}
use Rattle.rb_subscriber.specs.declared.refusal.AcceptError.{AcceptError}
use Rattle.rb_subscriber.specs.declared.refusal.AcceptError.TheVariants.{Refused}
use Rattle.rb_subscriber.specs.declared.refusal.AcceptRefusal.{AcceptRefusal}
use Rattle.rb_subscriber.specs.Endpoint.{Endpoint}
use Rattle.rb_core.specs.State.{State, IsOf}
use Rattle.rb_core.proofs.whole_runs.Pairs.{set_same}

written_either : {A : Type 0} (P : A → Type 0) (b : Bool) (x : A) (o : Option A) → P x → IfSome o P
    → IfSome (cond b (Some x) o) P
written_either P true x o here rest = here
written_either P false x o here rest = rest

-- what is found passes what all pass
pub find_all : {A : Type 0} (P : A → Type 0) (test : A → Bool) (xs : List A) → AllByRecursion P xs
    → IfSome (find test xs) P
find_all P test [] all = tt
find_all P test (x ∷ xs) all = written_either P (test x) x (find test xs) all.0 (find_all P test xs all.1)

-- ---- ends of streams

-- what was fed, as it is staged
abbrev pub fed_one : List Section → Staged
fed_one body = record { origin = Sent; body = body }

-- The publisher that is lent, and has nothing staged.
pub record LentFree (publishers : List PublisherState) (p : ℕ) (q : PublisherState) : Type 0 where
  pub here : slice_get publishers p ≡ Some q
  pub free : q.staged ≡ None

-- the one that is looked at and the one that is lent are the same
pub lent_free : (publishers : List PublisherState) (p : ℕ) {n : ℕ} {seen q : PublisherState} {flag : Bool}
    → n ≡ length publishers → p < n → seen ≡ get_or publishers p seen → q ≡ get_or publishers p q
    → flag ≡ is_some seen.staged → flag ≡ false → LentFree publishers p q
lent_free publishers p {n} {seen} {q} long less read lent tells none =
    let here = slice_get_read publishers n p q long less lent in
    let both : Some seen ≡ Some q = sym (slice_get_read publishers n p seen long less read) ∙ here in
    let same : seen ≡ q = cc both in
    record {
      here = here;
      free = subst (λ (x : PublisherState). x.staged ≡ None) same (empty seen.staged (sym tells ∙ none));
    }
  where
    empty : (o : Option Staged) → is_some o ≡ false → o ≡ None
    empty None e = refl
    empty (Some x) e = absurd (cc e)

-- an end of a publisher that has nothing staged is what its stream ends with
ended_free : (old : State) (p : ℕ) (q : PublisherState) (schema : List Shape)
    (answer result : Result (List Section) EndError) → LentFree old.publishers p q → schema ≡ old.schema
    → answer ≡ admitted_answer schema (stream.answer_at_end q.stream) → answer ≡ result
    → outcome.ended old p ≡ staged_by old p q result
ended_free old p q schema answer result lent same is ends =
    ap (λ o. ended_for old p o) lent.here ∙ ap (λ s. ended_by old p q s) lent.free
    ∙ ap (λ t. staged_by old p q (admitted_answer t (stream.answer_at_end q.stream))) (sym same)
    ∙ ap (λ a. staged_by old p q a) (sym is ∙ ends)

pub end_refused : (old : State) {p : ℕ} {q : PublisherState} {schema : List Shape} {after : stream.Progress}
    {answer : Result (List Section) EndError} {error : EndError} → LentFree old.publishers p q → schema ≡ old.schema
    → answer ≡ admitted_answer schema (stream.answer_at_end q.stream) → after ≡ left_by answer q.stream
    → answer ≡ Err error
    → outcome.ended old p ≡ (end_reply error, with_publisher old p (record q { stream = after }))
end_refused old {p} {q} {schema} {after} {answer} {error} lent same is left ends =
    let stays : after ≡ q.stream = left ∙ ap (λ a. left_by a q.stream) ends in
    let back : with_publisher old p (record q { stream = after }) ≡ old =
    ap (λ s. with_publisher old p (record q { stream = s })) stays
    ∙ ap (λ ps. record old { publishers = ps }) (set_same old.publishers p q lent.here) in
    ended_free old p q schema answer (Err error) lent same is ends ∙ ap (λ w. (end_reply error, w)) (sym back)

pub end_staged : (old : State) {p : ℕ} {q : PublisherState} {schema : List Shape} {after : stream.Progress}
    {answer : Result (List Section) EndError} {changeset : List Section} → LentFree old.publishers p q
    → schema ≡ old.schema → answer ≡ admitted_answer schema (stream.answer_at_end q.stream)
    → after ≡ left_by answer q.stream → answer ≡ Ok changeset
    → outcome.ended old p
    ≡ (reply.Staged, with_publisher old p (record q { stream = after; staged = Some (fed_one changeset) }))
end_staged old {p} {q} {schema} {after} {answer} {changeset} lent same is left ends =
    let begins : after ≡ stream.nothing = left ∙ ap (λ a. left_by a q.stream) ends in
    ended_free old p q schema answer (Ok changeset) lent same is ends
    ∙ ap (λ s. (reply.Staged, with_publisher old p (record q { stream = s; staged = Some (fed_one changeset) })))
    (sym begins)

-- ---- ends of deliveries

-- The end of a delivery that is known, as it is lent.
pub record LentEnd (old : State) (d s : ℕ) (delivery : Delivery) (e : Endpoint) : Type 0 where
  pub known : delivery_of old d ≡ Some delivery
  pub sub : s ≡ delivery.sub
  pub here : slice_get old.endpoints s ≡ Some e

pub lent_end : {old now : State} (d : ℕ) {s : ℕ} {delivery : Delivery} {e : Endpoint} {found : Option Delivery}
    → old ≡ now → found ≡ delivery_of now d → IfSome found (IsOf now.endpoints now.sequence) → found ≡ Some delivery
    → s ≡ delivery.sub → e ≡ get_or old.endpoints s e → LentEnd old d s delivery e
lent_end {old} {now} d {s} {delivery} {e} {found} same is of some sub read =
    let of_it : IsOf old.endpoints old.sequence delivery =
    subst (λ (x : State). IsOf x.endpoints x.sequence delivery) (sym same)
    (subst (λ o. IfSome o (IsOf now.endpoints now.sequence)) some of) in
    record {
      known = ap (λ (x : State). delivery_of x d) same ∙ sym is ∙ some;
      sub = sub;
      here = slice_get_read old.endpoints _ s e refl (subst (λ n. n < length old.endpoints) (sym sub) of_it.0) read;
    }

end_found : (old : State) (d s : ℕ) (delivery : Delivery) (e : Endpoint) → LentEnd old d s delivery e
    → slice_get old.endpoints delivery.sub ≡ Some e
end_found old d s delivery e lent = subst (λ n. slice_get old.endpoints n ≡ Some e) lent.sub lent.here

-- an accept, and a fall while it accepts, answer what the end answers
accept_found : (old : State) (d s : ℕ) (delivery : Delivery) (e : Endpoint) → LentEnd old d s delivery e
    → outcome.accepted old d ≡ accepted_by old s (accept e old.sequence delivery)
accept_found old d s delivery e lent =
    ap (λ o. accepted_as old o) lent.known
    ∙ ap (λ o. accepted_at old delivery o) (end_found old d s delivery e lent)
    ∙ ap (λ n. accepted_by old n (accept e old.sequence delivery)) (sym lent.sub)

crash_found : (old : State) (d s : ℕ) (kept : Bool) (delivery : Delivery) (e : Endpoint)
    → LentEnd old d s delivery e → outcome.crashed old d kept ≡ crashed_by old s (crash e old.sequence delivery kept)
crash_found old d s kept delivery e lent =
    ap (λ o. crashed_for old kept o) lent.known
    ∙ ap (λ o. crashed_at old delivery kept o) (end_found old d s delivery e lent)
    ∙ ap (λ n. crashed_by old n (crash e old.sequence delivery kept)) (sym lent.sub)

-- an end that refuses what it is lent is written back as it was
refused_back : (old : State) (s : ℕ) (e f : Endpoint) (next : Result Endpoint AcceptRefusal)
    (answer : Result Endpoint AcceptRefusal → Reply × State) (r : Result ℕ AcceptError) (error : AcceptError)
    (why : AcceptRefusal) → slice_get old.endpoints s ≡ Some e → AcceptAnswers r next e f → r ≡ Err error
    → error ≡ Refused why → answer (Err why) ≡ (reply.Refused (refusal.Accept why), old)
    → answer next ≡ (reply.Refused (refusal.Accept why), with_endpoint old s f)
refused_back old s e f next answer r error why here answers err is given =
    let told : AcceptAnswers (Err (Refused why)) next e f =
    subst (λ (x : Result ℕ AcceptError). AcceptAnswers x next e f) (err ∙ ap (λ (x : AcceptError). Err x) is) answers in
    let back : with_endpoint old s f ≡ old =
    ap (λ x. with_endpoint old s x) told.1
    ∙ ap (λ es. record old { endpoints = es }) (set_same old.endpoints s e here) in
    ap answer told.0 ∙ given ∙ ap (λ w. (reply.Refused (refusal.Accept why), w)) (sym back)

-- one that accepts it, or falls, is written back as what it became
done_back : (old : State) (s cursor : ℕ) (e f : Endpoint) (next : Result Endpoint AcceptRefusal)
    (answer : Result Endpoint AcceptRefusal → Reply × State) (r : Result ℕ AcceptError) (done : ℕ → Reply)
    → AcceptAnswers r next e f → r ≡ Ok cursor → answer (Ok f) ≡ (done f.cursor, with_endpoint old s f)
    → answer next ≡ (done cursor, with_endpoint old s f)
done_back old s cursor e f next answer r done answers ok given =
    let told : AcceptAnswers (Ok cursor) next e f =
    subst (λ (x : Result ℕ AcceptError). AcceptAnswers x next e f) ok answers in
    ap answer told.0 ∙ given ∙ ap (λ n. (done n, with_endpoint old s f)) (sym told.1)

-- so an accept is answered
pub accept_refused : {old : State} {d s : ℕ} {delivery : Delivery} {e : Endpoint} (f : Endpoint) {entries : List Entry}
    {r : Result ℕ AcceptError} {error : AcceptError} {why : AcceptRefusal} → LentEnd old d s delivery e
    → entries ≡ old.sequence → AcceptAnswers r (accept e entries delivery) e f → r ≡ Err error → error ≡ Refused why
    → outcome.accepted old d ≡ (reply.Refused (refusal.Accept why), with_endpoint old s f)
accept_refused {old} {d} {s} {delivery} {e} f {entries} {r} {error} {why} lent same answers err is =
    accept_found old d s delivery e lent
    ∙ refused_back old s e f (accept e old.sequence delivery) (accepted_by old s) r error why lent.here
    (subst (λ es. AcceptAnswers r (accept e es delivery) e f) same answers) err is refl

pub accept_done : {old : State} {d s cursor : ℕ} {delivery : Delivery} {e : Endpoint} (f : Endpoint)
    {entries : List Entry} {r : Result ℕ AcceptError} → LentEnd old d s delivery e → entries ≡ old.sequence
    → AcceptAnswers r (accept e entries delivery) e f → r ≡ Ok cursor
    → outcome.accepted old d ≡ (reply.Accepted s cursor, with_endpoint old s f)
accept_done {old} {d} {s} {cursor} {delivery} {e} f {entries} {r} lent same answers ok =
    accept_found old d s delivery e lent
    ∙ done_back old s cursor e f (accept e old.sequence delivery) (accepted_by old s) r (reply.Accepted s)
    (subst (λ es. AcceptAnswers r (accept e es delivery) e f) same answers) ok refl

-- and a fall while the end accepts
pub crash_refused : (kept : Bool) {old : State} {d s : ℕ} {delivery : Delivery} {e : Endpoint} (f : Endpoint)
    {entries : List Entry} {r : Result ℕ AcceptError} {error : AcceptError} {why : AcceptRefusal}
    → LentEnd old d s delivery e → entries ≡ old.sequence → AcceptAnswers r (crash e entries delivery kept) e f
    → r ≡ Err error → error ≡ Refused why
    → outcome.crashed old d kept ≡ (reply.Refused (refusal.Accept why), with_endpoint old s f)
crash_refused kept {old} {d} {s} {delivery} {e} f {entries} {r} {error} {why} lent same answers err is =
    crash_found old d s kept delivery e lent
    ∙ refused_back old s e f (crash e old.sequence delivery kept) (crashed_by old s) r error why lent.here
    (subst (λ es. AcceptAnswers r (crash e es delivery kept) e f) same answers) err is refl

pub crash_done : (kept : Bool) {old : State} {d s cursor : ℕ} {delivery : Delivery} {e : Endpoint} (f : Endpoint)
    {entries : List Entry} {r : Result ℕ AcceptError} → LentEnd old d s delivery e → entries ≡ old.sequence
    → AcceptAnswers r (crash e entries delivery kept) e f → r ≡ Ok cursor
    → outcome.crashed old d kept ≡ (reply.Crashed s cursor, with_endpoint old s f)
crash_done kept {old} {d} {s} {cursor} {delivery} {e} f {entries} {r} lent same answers ok =
    crash_found old d s kept delivery e lent
    ∙ done_back old s cursor e f (crash e old.sequence delivery kept) (crashed_by old s) r (reply.Crashed s)
    (subst (λ es. AcceptAnswers r (crash e es delivery kept) e f) same answers) ok refl
