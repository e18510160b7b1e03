-- Nothing is placed once the sequence is closed, and a closed subscription accepts nothing more.
use Rattle.std.proofs.Common.{◌≡◌, ℕ, Bool, true, inl, inr, List, Option, Some, None, refl, sym}
use Rattle.std.proofs.Common.{subst, ◌∙◌}
use Rattle.std.specs.Prelude.{slice_get, slice_set}
use Rattle.std.proofs.lemmas.Bool.Decides.{eqb_tells}
use Rattle.cs_apply.specs.State as tables
use Rattle.rb_desk.proofs.pictures.PictureLaws.{get_set, get_set_other}
use Rattle.rb_sequence.specs.Entry.{Entry}
use Rattle.rb_core.specs.World.{Subscriber, World}
use Rattle.rb_core.specs.Moves.{Leads, StaysClosed, with_subscriber}
use Rattle.rb_core.proofs.headline.Moving.{get_push, apart_from_sending, MovingKeeps, crash_leaves, kept_through}

-- ---- the sequence

-- a world that differs from this one in other parts is closed too, by computing
abbrev IsClosed : ℕ → List Entry → World → Type 0
IsClosed last sequence world = (world.closing ≡ Some last) × (world.sequence ≡ sequence)

not_open : (last : ℕ) (o : Option ℕ) → o ≡ Some last → o ≡ None → ⊥
not_open last o some none = absurd (cc (sym some ∙ none))

closed_kept : (last : ℕ) (sequence : List Entry) → MovingKeeps (IsClosed last sequence)
closed_kept last sequence = record {
  sending = apart_from_sending (IsClosed last sequence) (λ old senders intake hand h. h);
  places = λ old new move h. absurd (not_open last old.closing h.0 move.not_closed);
  closes = λ old new move h. absurd (not_open last old.closing h.0 move.not_closed);
  subscribes = λ old new move h. subst (IsClosed last sequence) (sym move.kept) h;
  delivers = λ old new move h. subst (IsClosed last sequence) (sym move.kept) h;
  accepts = λ old new move h. subst (IsClosed last sequence) (sym move.kept) h;
  reconnects = λ old new move h. subst (IsClosed last sequence) (sym move.kept) h;
  unsubscribes = λ old new move h. subst (IsClosed last sequence) (sym move.kept) h;
  withdraws = λ old new move h. subst (IsClosed last sequence) (sym move.kept) h;
  crashes = λ old new move h. crash_leaves (IsClosed last sequence) old new move h h;
  resumes = λ old new move h. subst (IsClosed last sequence) (sym move.kept) h;
}

pub nothing_placed : (old : World) (mids : List World) (new : World) (last : ℕ) → old.closing ≡ Some last
    → Leads old mids new → (new.closing ≡ Some last) × (new.sequence ≡ old.sequence)
nothing_placed old mids new last closed leads =
    kept_through (IsClosed last old.sequence) (closed_kept last old.sequence) old mids new leads (closed, refl)

-- ---- a subscription

record LeftParts (was : Subscriber) (mark : Bool) (entries : List Entry) (parts : List (List Entry))
    (now : tables.TableState) : Type 0 where
  closed : mark ≡ true
  accepted_same : entries ≡ was.accepted
  batches_same : parts ≡ was.batches
  tables_same : now ≡ was.tables

-- One that is closed, and has the entries, batches and tables of this one. One that differs from it in other parts has
-- them too, by computing.
abbrev HasLeft : Subscriber → Subscriber → Type 0
HasLeft was q = LeftParts was q.closed q.accepted q.batches q.tables

abbrev Left : ℕ → Subscriber → World → Type 0
Left s was world = (q : Subscriber) × (slice_get world.subscribers s ≡ Some q) × HasLeft was q

-- one subscription becomes another, and stays closed where it is closed
becomes : (s : ℕ) (was : Subscriber) (old : World) (at : ℕ) (q r : Subscriber)
    → slice_get old.subscribers at ≡ Some q → (HasLeft was q → HasLeft was r)
    → Left s was old → Left s was (with_subscriber old at r)
becomes s was old at q r found stays h =
    elim (eqb_tells at s) as (λ w. Left s was (with_subscriber old at r)) [
      | inl is ↦
          let found_here : slice_get old.subscribers s ≡ Some q =
          subst (λ n. slice_get old.subscribers n ≡ Some q) is.1 found in
          let same : h.0 ≡ q = cc (sym h.1 ∙ found_here) in (
            r,
            subst (λ n. slice_get (slice_set old.subscribers at r) n ≡ Some r) is.1
                (get_set old.subscribers at q r found),
            stays (subst (HasLeft was) same h.2),
          )
      | inr other ↦ (h.0, get_set_other old.subscribers at s r (λ e. other.1 (sym e)) ∙ h.1, h.2)
    ]

left_kept : (s : ℕ) (was : Subscriber) → MovingKeeps (Left s was)
left_kept s was = record {
  sending = apart_from_sending (Left s was) (λ old senders intake hand h. h);
  places = λ old new move h. subst (Left s was) (sym move.kept) h;
  closes = λ old new move h. subst (Left s was) (sym move.kept) h;
  subscribes = λ old new move h. subst (Left s was) (sym move.kept)
      (h.0, get_push old.subscribers _ h.0 s h.1, h.2);
  delivers = λ old new move h. subst (Left s was) (sym move.kept)
      (becomes s was old move.s move.subscriber _ move.found (λ left. left) h);
  accepts = λ old new move h. subst (Left s was) (sym move.kept)
      (becomes s was old move.made.s move.made.subscriber _ move.made.found
      (λ left. absurd (cc (sym left.closed ∙ move.made.accepts.not_closed))) h);
  reconnects = λ old new move h. subst (Left s was) (sym move.kept)
      (becomes s was old move.s move.subscriber _ move.found (λ left. left) h);
  unsubscribes = λ old new move h. subst (Left s was) (sym move.kept)
      (becomes s was old move.s move.subscriber _ move.found
      (λ left. record {
        closed = refl;
        accepted_same = left.accepted_same;
        batches_same = left.batches_same;
        tables_same = left.tables_same;
      }) h);
  withdraws = λ old new move h. subst (Left s was) (sym move.kept) h;
  crashes = λ old new move h.
      crash_leaves (Left s was) old new move
      (becomes s was old move.made.s move.made.subscriber _ move.made.found (λ left. left) h)
      (becomes s was old move.made.s move.made.subscriber _ move.made.found
      (λ left. absurd (cc (sym left.closed ∙ move.made.accepts.not_closed))) h);
  resumes = λ old new move h. subst (Left s was) (sym move.kept)
      (becomes s was old move.s move.subscriber _ move.found (λ left. left) h);
}

pub nothing_accepted : (old : World) (mids : List World) (new : World) (s : ℕ) (q : Subscriber)
    → slice_get old.subscribers s ≡ Some q → q.closed ≡ true → Leads old mids new
    → (r : Subscriber) × (slice_get new.subscribers s ≡ Some r) × StaysClosed q r
nothing_accepted old mids new s q found closed leads =
    let h = kept_through (Left s q) (left_kept s q) old mids new leads
    (q, found, record { closed = closed; accepted_same = refl; batches_same = refl; tables_same = refl }) in (
      h.0,
      h.1,
      record {
        closed = h.2.closed;
        accepted = h.2.accepted_same;
        batches = h.2.batches_same;
        tables = h.2.tables_same;
      },
    )
