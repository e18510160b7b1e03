-- What holds of a world, move by move.
use Rattle.std.proofs.Common.{◌≡◌, ℕ, zero, suc, inl, inr, ⊎_elim, true, List, [], ◌∷◌, ◌++◌, Option, Some, sym}
use Rattle.std.proofs.Common.{subst}
use Rattle.std.specs.Prelude.{slice_get, slice_set}
use Rattle.std.specs.List.{AllByRecursion}
use Rattle.rb_sequence.specs.Item.{Item}
use Rattle.rb_core.specs.World.{Sender, Subscriber, World}
use Rattle.rb_core.specs.Moves.{IsIn, AddsPublisher, Streams, Sends, Pulls, Places, Closes, Subscribes, Delivers}
use Rattle.rb_core.specs.Moves.{Accepts, Reconnects, Unsubscribes, Withdraws, Crashes, Resumes, Moves, Leads}
use Rattle.rb_core.specs.Moves.{after_acceptance, with_subscriber}

-- ---- lists

pub all_set : {A : Type 0} (P : A → Type 0) (xs : List A) (i : ℕ) (y : A) → AllByRecursion P xs → P y
    → AllByRecursion P (slice_set xs i y)
all_set P [] i y all h = tt
all_set P (x ∷ xs) zero y all h = (h, all.1)
all_set P (x ∷ xs) (suc i) y all h = (all.0, all_set P xs i y all.1 h)

pub all_get : {A : Type 0} (P : A → Type 0) (xs : List A) (i : ℕ) (x : A) → AllByRecursion P xs → slice_get xs i
    ≡ Some x → P x
all_get P [] i x all e = absurd (cc e)
all_get P (y ∷ xs) zero x all e =
    let same : y ≡ x = cc e in
    subst P same all.0
all_get P (y ∷ xs) (suc i) x all e = all_get P xs i x all.1 e

pub all_moved_in : {A : Type 0} (P : A → Type 0) (xs : List A) (x : A) → AllByRecursion P xs → IsIn x xs → P x
all_moved_in P [] x all here = absurd here
all_moved_in P (y ∷ xs) x all here = elim here as (λ w. P x) [
  | inl same ↦ subst P (sym same) all.0
  | inr rest ↦ all_moved_in P xs x all.1 rest
]

pub all_map : {A : Type 0} (P Q : A → Type 0) (xs : List A) → ((x : A) → P x → Q x) → AllByRecursion P xs
    → AllByRecursion Q xs
all_map P Q [] f all = tt
all_map P Q (x ∷ xs) f all = (f x all.0, all_map P Q xs f all.1)

-- what stands at a place stays there when another thing comes behind
pub get_push : {A : Type 0} (xs : List A) (y x : A) (i : ℕ) → slice_get xs i ≡ Some x → slice_get (xs ++ y ∷ []) i
    ≡ Some x
get_push [] y x i e = absurd (cc e)
get_push (z ∷ xs) y x zero e = e
get_push (z ∷ xs) y x (suc i) e = get_push xs y x i e

-- ---- moves

-- what each move of the items that are not placed yet keeps
pub record SendingKeeps (P : World → Type 0) : Type 0 where
  pub adds_publisher : (old new : World) → AddsPublisher old new → P old → P new
  pub streams : (old new : World) → Streams old new → P old → P new
  pub sends : (old new : World) → Sends old new → P old → P new
  pub pulls : (old new : World) → Pulls old new → P old → P new

-- they keep what doesn't depend on publishers, intake and hand
pub apart_from_sending : (P : World → Type 0)
    → ((old : World) (senders : List Sender) (intake : List Item) (hand : Option Item) → P old
    → P (record old { senders = senders; intake = intake; hand = hand })) → SendingKeeps P
apart_from_sending P stays = record {
  adds_publisher = λ old new move h. subst P (sym move) (stays old _ old.intake old.hand h);
  streams = λ old new move h. subst P (sym move.kept) (stays old _ old.intake old.hand h);
  sends = λ old new move h. subst P (sym move.kept) (stays old _ _ old.hand h);
  pulls = λ old new move h. subst P (sym move.kept) (stays old old.senders move.rest (Some move.item) h);
}

-- what each kind of move keeps
pub record MovingKeeps (P : World → Type 0) : Type 0 where
  pub sending : SendingKeeps P
  pub places : (old new : World) → Places old new → P old → P new
  pub closes : (old new : World) → Closes old new → P old → P new
  pub subscribes : (old new : World) → Subscribes old new → P old → P new
  pub delivers : (old new : World) → Delivers old new → P old → P new
  pub accepts : (old new : World) → Accepts old new → P old → P new
  pub reconnects : (old new : World) → Reconnects old new → P old → P new
  pub unsubscribes : (old new : World) → Unsubscribes old new → P old → P new
  pub withdraws : (old new : World) → Withdraws old new → P old → P new
  pub crashes : (old new : World) → Crashes old new → P old → P new
  pub resumes : (old new : World) → Resumes old new → P old → P new

kept_by : (P : World → Type 0) → MovingKeeps P → (old new : World) → Moves old new → P old → P new
kept_by P keeps old new move h =
    ⊎_elim (λ same. subst P (sym same) h)
    (⊎_elim (λ x. keeps.sending.adds_publisher old new x h)
    (⊎_elim (λ x. keeps.sending.streams old new x h)
    (⊎_elim (λ x. keeps.sending.sends old new x h)
    (⊎_elim (λ x. keeps.sending.pulls old new x h)
    (⊎_elim (λ x. keeps.places old new x h)
    (⊎_elim (λ x. keeps.closes old new x h)
    (⊎_elim (λ x. keeps.subscribes old new x h)
    (⊎_elim (λ x. keeps.delivers old new x h)
    (⊎_elim (λ x. keeps.accepts old new x h)
    (⊎_elim (λ x. keeps.reconnects old new x h)
    (⊎_elim (λ x. keeps.unsubscribes old new x h)
    (⊎_elim (λ x. keeps.withdraws old new x h)
    (⊎_elim (λ x. keeps.crashes old new x h)
    (λ x. keeps.resumes old new x h)))))))))))))) move

-- what a fall leaves, where it leaves the accept out and where it has it
pub crash_leaves : (P : World → Type 0) (old new : World) (move : Crashes old new)
    → P (with_subscriber old move.made.s (record move.made.subscriber { fallen = true }))
    → P (with_subscriber old move.made.s (record (after_acceptance old move.made) { fallen = true })) → P new
crash_leaves P old new move before after = elim move.kept as (λ w. P new) [
  | inl is ↦ subst P (sym is) before
  | inr is ↦ subst P (sym is) after
]

-- one subscription becomes another, of which holds what held of it; so it holds of all still
pub all_become : (P : Subscriber → Type 0) (old : World) (s : ℕ) (q r : Subscriber)
    → AllByRecursion P old.subscribers → slice_get old.subscribers s ≡ Some q → (P q → P r)
    → AllByRecursion P (with_subscriber old s r).subscribers
all_become P old s q r all found becomes =
    all_set P old.subscribers s r all (becomes (all_get P old.subscribers s q all found))

-- what every move keeps holds behind all of them
pub kept_through : (P : World → Type 0) → MovingKeeps P → (old : World) (mids : List World) (new : World)
    → Leads old mids new → P old → P new
kept_through P keeps old [] new leads h = subst P (sym leads) h
kept_through P keeps old (mid ∷ rest) new leads h =
    kept_through P keeps mid rest new leads.1 (kept_by P keeps old mid leads.0 h)
