-- Subscribers that have met the sequencer keep the headline of a running broker, and have ended as they should.
use Rattle.std.proofs.Common.{◌≡◌, ℕ, zero, suc, ◌+◌, ◌<◌, ◌≤◌, List, [], ◌∷◌, length, drop, map, replicate}
use Rattle.std.proofs.Common.{slice_index_or, sym, ap, subst, ◌∙◌, arith}
use Rattle.std.proofs.lemmas.List.{length-map, length-replicate}
use Rattle.std.specs.List.{AllByRecursion}
use Rattle.cs_apply.specs.State as tables
use Rattle.cs_model.specs.declared.shape.Shape.{Shape}
use Rattle.rb_core.specs.State.{empty_tables}
use Rattle.rb_sequence.specs.Cells.{AreInCells, CellToken, Cells, LastToken}
use Rattle.rb_sequence.specs.Item.{Item}
use Rattle.rb_broker.specs.Publishers.{PublisherView}
use Rattle.rb_sequencer.specs.Turns.{SequencerState}
use Rattle.rb_subscriber.specs.Accept.{HasSingleTables}
use Rattle.rb_subscriber.specs.Shown.{entries_told}
use Rattle.rb_subscriber.specs.Subscription.{SubscriptionState}
use Rattle.rb_close.specs.Finishing.{Finishes}
use Rattle.rb_close.specs.Headline.{KeepsRunningHeadline, ShowsPlaced}
use Rattle.rb_close.specs.Meeting.{HasMet}
use Rattle.rb_drive.specs.declared.accepting.EndedSubscriber.{EndedSubscriber}
use Rattle.rb_drive.specs.Outcome.{HasMetAndEnded, IsEndAt, IsEnded, StartsEmpty, subscriber_of}
use Rattle.rb_drive.specs.Owners.{beginning_of}
use Rattle.rb_drive.proofs.inputs.ListLaws.{same_head, nothing_is_first, same_tail}

-- all from a place on, if the one at that place and all after it
pub all_from_place : {A : Type 0} (P : A → Type 0) (xs : List A) (i : ℕ) (d : A) → i < length xs
    → P (slice_index_or xs i d) → AllByRecursion P (drop (suc i) xs) → AllByRecursion P (drop i xs)
all_from_place P [] i d less here later = absurd (omega (arith, less))
all_from_place P (x ∷ xs) zero d less here later = (here, later)
all_from_place P (x ∷ xs) (suc i) d less here later = all_from_place P xs i d (omega (arith, less)) here later

-- the law of rb_close
abbrev pub FinishedKeepHeadline : Type 0
FinishedKeepHeadline = (cells : Cells) (publishers : List PublisherView) (sequencer : SequencerState) (placed : ℕ)
    (left : List Item) (closing : LastToken) (subscription : SubscriptionState) → ShowsPlaced cells sequencer
    → Finishes cells publishers sequencer placed left closing → HasMet sequencer subscription
    → HasSingleTables subscription.base (entries_told subscription.told) subscription.tables
    → KeepsRunningHeadline cells publishers sequencer closing subscription

abbrev pub HaveEnded : {L : Type 0} → Cells → SequencerState → List (EndedSubscriber L) → Type 0
HaveEnded cells sequencer all =
    AllByRecursion (λ one. HasMetAndEnded cells sequencer one.subscription one.ending) all

pub all_keep_headline : {L : Type 0} → FinishedKeepHeadline → (cells : Cells) (ps : List PublisherView)
    (q : SequencerState) (placed : ℕ) (left : List Item) (closing : LastToken) (all : List (EndedSubscriber L))
    → ShowsPlaced cells q → Finishes cells ps q placed left closing → HaveEnded cells q all
    → AllByRecursion (KeepsRunningHeadline cells ps q closing) (map (λ one. one.subscription) (map subscriber_of all))
all_keep_headline law cells ps q placed left closing [] shows finishes met = tt
all_keep_headline law cells ps q placed left closing (a ∷ all) shows finishes met = (
  law cells ps q placed left closing a.subscription shows finishes met.0.0.0 met.0.0.1,
  all_keep_headline law cells ps q placed left closing all shows finishes met.1,
)

pub all_have_ended : {L : Type 0} (cells : Cells) (q : SequencerState) (placed : ℕ) (all : List (EndedSubscriber L))
    → placed ≡ length q.placed → HaveEnded cells q all
    → AllByRecursion (IsEnded cells placed) (map subscriber_of all)
all_have_ended cells q placed [] many met = tt
all_have_ended cells q placed (a ∷ all) many met = (
  subst (λ n. IsEndAt cells n a.subscription a.ending) (sym many) met.0.1,
  all_have_ended cells q placed all many met.1,
)

-- ---- where subscriptions begin

pub all_begin_empty : {L : Type 0} (schema : List Shape) (n : ℕ) (all : List (EndedSubscriber L))
    → map (λ one. beginning_of one.subscription) all ≡ replicate n (0, empty_tables schema)
    → AllByRecursion (λ one. StartsEmpty schema one.subscription) (map subscriber_of all)
all_begin_empty schema n [] is = tt
all_begin_empty schema zero (a ∷ all) is = absurd (nothing_is_first _ _ (sym is))
all_begin_empty schema (suc n) (a ∷ all) is =
    let here : beginning_of a.subscription ≡ (0, empty_tables schema) = same_head _ _ _ _ is in (
      (ap (λ b. b.0) here, ap (λ b. b.1) here),
      all_begin_empty schema n all (same_tail _ _ _ _ is),
    )

pub many_are_back : {L : Type 0} (n : ℕ) (begin : ℕ × tables.TableState) (all : List (EndedSubscriber L))
    → map (λ one. beginning_of one.subscription) all ≡ replicate n begin → length all ≡ n
many_are_back n begin all is =
    sym (length-map all (λ one. beginning_of one.subscription)) ∙ ap (λ xs. length xs) is ∙ length-replicate n begin

-- ---- there is a cell for each entry that is placed

cells_hold : (cells : Cells) (n : ℕ) (t : CellToken) (rest : List CellToken) → AreInCells cells n (t ∷ rest)
    → n + length rest ≤ cells.capacity
cells_hold cells n t [] here = omega (arith, here.0.has.1, here.1)
cells_hold cells n t (u ∷ rest) here = omega (arith, cells_hold cells (suc n) u rest here.2)

pub placed_fit : (cells : Cells) (tokens : List CellToken) → AreInCells cells 1 tokens → length tokens ≤ cells.capacity
placed_fit cells [] here = omega arith
placed_fit cells (t ∷ rest) here = omega (arith, cells_hold cells 1 t rest here)
