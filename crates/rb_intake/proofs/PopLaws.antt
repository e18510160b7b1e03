-- What a pop tells, said of what the sequencer's pass knows.
use Rattle.std.proofs.Common.{◌≡◌, List, [], ◌∷◌, ◌++◌, length, sym, refl, ap, ◌∙◌, subst, Option, Some}
use Rattle.std.proofs.Common.{None, arith, ◌≤◌}
use Rattle.std.specs.Option.{MatchOption}
use Rattle.std.specs.List.{AllByRecursion}
use Rattle.std.proofs.lemmas.List.{append-nil}
use Rattle.atomic_table.specs.Seated.{TableId}
use Rattle.crossbeam_queue.specs.Fifo.{Held}
use Rattle.rb_sequence.specs.Item.{Item}
use Rattle.rb_sequence.specs.Items.{own_of}
use Rattle.rb_intake.specs.declared.known.Known.{Known}
use Rattle.rb_intake.specs.declared.known.Known.TheVariants.{Ends}
use Rattle.rb_intake.specs.Passes.{SequencerKnows, IsAllPulled, LastKnows, IsAllPulledAnd}
use Rattle.rb_intake.specs.Draining.{PopsLast}
use Rattle.rb_intake.specs.Joined.{JoinedOnce}
use Rattle.rb_intake.specs.Rule.{pulled_one, pulled_in, ended_in, made_in, IsPulledOr, AreFronts, AreWhole}
use Rattle.rb_intake.proofs.Views.{all_weaker}

-- what a sequencer's pass of this queue shows
abbrev pub seen_by : TableId → Known → SequencerKnows
seen_by queue v = record { queue = queue; pulled = pulled_in v; ended = ended_in v }

no_items : (items : List Item) → length items ≡ 0 → items ≡ []
no_items [] e = refl
no_items (x ∷ items) e = absurd (omega (arith, e))

-- a pop that finds none changes nothing, and what the joined publishers sent is pulled
pub empty_tells : (before after : TableId) (old new : Known) → after ≡ before
    → (new ≡ old) × Held 0 (λ items. AllByRecursion (IsPulledOr (pulled_in old) items) (ended_in old))
    → (seen_by after new ≡ seen_by before old) × IsAllPulled (seen_by after new)
empty_tells before after old new same told =
    let items = no_items told.1.0 told.1.1 in (
      (λ i. seen_by (same i) (told.0 i)),
      subst (λ u. IsAllPulled (seen_by after u)) (sym told.0) (all_weaker
          (IsPulledOr (pulled_in old) told.1.0) (λ e. e.1 ≡ own_of e.0 (pulled_in old)) (ended_in old)
          (λ e h. h ∙ ap (λ xs. own_of e.0 (pulled_in old ++ xs)) items ∙ ap (own_of e.0) (append-nil (pulled_in old)))
          told.1.2),
    )

-- what the last pass of this queue shows
abbrev pub last_seen_by : TableId → Known → LastKnows
last_seen_by queue v = record { queue = queue; pulled = pulled_in v; ended = ended_in v; made = made_in v }

abbrev pub PoppedLast : TableId → Known → LastKnows → Option Item → Type 0
PoppedLast queue new p result = PopsLast result p (last_seen_by queue new)

pub last_pop_tells : (before after : TableId) (old new : Known) (result : Option Item) → after ≡ before
    → old ≡ Ends (pulled_in old) (ended_in old) (made_in old)
    → MatchOption result
    ((new ≡ old) × Held 0 (AreWhole old))
    (λ item. (new ≡ pulled_one old item) × AreFronts new)
    → PoppedLast after new (last_seen_by before old) result
last_pop_tells before after old new None same is told =
    let items = no_items told.1.0 told.1.1 in (
      (λ i. last_seen_by (same i) (told.0 i)),
      subst (λ u. IsAllPulledAnd (last_seen_by after u) []) (sym told.0) (all_weaker
          (IsPulledOr (pulled_in old) told.1.0) (λ e. e.1 ≡ own_of e.0 (pulled_in old ++ [])) (ended_in old)
          (λ e h. h ∙ ap (λ xs. own_of e.0 (pulled_in old ++ xs)) items)
          told.1.2.0),
      λ p above. ap (λ u. own_of p (pulled_in u)) told.0
          ∙ sym (ap (own_of p) (append-nil (pulled_in old)))
          ∙ sym (ap (λ xs. own_of p (pulled_in old ++ xs)) items)
          ∙ told.1.2.1 p (subst (λ u. made_in u ≤ p) told.0 above),
      subst (λ u. JoinedOnce (ended_in u)) (sym told.0) told.1.2.2,
    )
last_pop_tells before after old new (Some item) same is told = (
  (λ i. last_seen_by (same i) ((told.0 ∙ ap (λ u. pulled_one u item) is) i)),
  told.1.0,
  told.1.1,
)
