-- From the joined passes to the publishers.
use Rattle.std.proofs.Common.{◌≡◌, ℕ, zero, suc, ◌+◌, ◌<◌, ◌≤◌, ◌==◌, List, [], ◌∷◌, ◌++◌, length, drop}
use Rattle.std.proofs.Common.{ap, ◌∙◌, inl, inr, sym, refl, subst, arith, ⊎_elim, append_assoc, slice_index_or, Option, Some}
use Rattle.std.specs.List.{AllByRecursion}
use Rattle.std.proofs.lemmas.List.{append-nil, length-append, length-map}
use Rattle.std.proofs.lemmas.List.Elements.{filter-append}
use Rattle.std.proofs.lemmas.Bool.Decides.{eqb_tells}
use Rattle.rb_sequence.specs.Item.{Item}
use Rattle.rb_sequence.specs.Items.{own_of}
use Rattle.rb_intake.specs.Joined.{HasEndedAs}
use Rattle.rb_intake.specs.Passes.{SequencerKnows, LastKnows, total_sent, Drains, AreOfJoined}
use Rattle.atomic_table.specs.Seated.{TableId}
use Rattle.rb_broker.specs.Publishers.{PublisherView}
use Rattle.rb_sequence.specs.Cells.{CellToken, Cells, IsLastToken, LastToken}
use Rattle.rb_sequencer.specs.Turns.{SequencerState, items_placed, in_hand}
use Rattle.rb_close.specs.Finishing.{AreAllPresent, AreAllThere, AreTheirs, Finishes, IsPresent, JoinsPasses, PullsInOrder, all_sent, sendings_of}
use Rattle.rb_close.specs.Finishing.{closing_shown}

pub all_sent_is : (ps : List PublisherView) → total_sent (sendings_of ps) ≡ all_sent ps
all_sent_is [] = refl
all_sent_is (p ∷ ps) = ap (λ n. length p.sent + n) (all_sent_is ps)

pub present_has_ended : (n : ℕ) (ps : List PublisherView) → IsPresent n ps → HasEndedAs n (sendings_of ps)
present_has_ended n [] h = h
present_has_ended n (p ∷ ps) h = ⊎_elim (λ e. inl e) (λ later. inr (present_has_ended n ps later)) h

pub ended_is_present : (n : ℕ) (ps : List PublisherView) → HasEndedAs n (sendings_of ps) → IsPresent n ps
ended_is_present n [] h = h
ended_is_present n (p ∷ ps) h = ⊎_elim (λ e. inl e) (λ later. inr (ended_is_present n ps later)) h

-- some are joined, and these are left
abbrev pub JoinsSo : List PublisherView → List PublisherView → SequencerKnows → SequencerKnows → Type 0
JoinsSo all rest first now = (now ≡ record first { ended = now.ended })
    × (now.ended ++ sendings_of rest ≡ first.ended ++ sendings_of all)

pub joins_one : (all rest later : List PublisherView) (p : PublisherView) (first mid new : SequencerKnows)
    → JoinsSo all rest first mid → rest ≡ p ∷ later
    → new ≡ record mid { ended = mid.ended ++ (p.number, p.sent) ∷ [] } → JoinsSo all later first new
joins_one all rest later p first mid new so left is =
    let grown : new.ended ≡ mid.ended ++ (p.number, p.sent) ∷ [] = ap (λ (k : SequencerKnows). k.ended) is in (
      is ∙ ap (λ (k : SequencerKnows). record k { ended = mid.ended ++ (p.number, p.sent) ∷ [] }) so.0
          ∙ ap (λ es. record first { ended = es }) (sym grown),
      ap (λ es. es ++ sendings_of later) grown ∙ append_assoc mid.ended ((p.number, p.sent) ∷ []) (sendings_of later)
          ∙ ap (λ ps. mid.ended ++ sendings_of ps) (sym left) ∙ so.1,
    )

pub joins_all_end : (all rest : List PublisherView) (first now : SequencerKnows) → JoinsSo all rest first now → rest ≡ []
    → JoinsPasses all first now
joins_all_end all rest first now so none =
    so.0 ∙ ap (λ es. record first { ended = es })
    (sym (append-nil now.ended) ∙ ap (λ ps. now.ended ++ sendings_of ps) (sym none) ∙ so.1)

-- the publisher at a place is among them
pub present_at : (n : ℕ) (ps : List PublisherView) (i : ℕ) (d : PublisherView) → i < length ps
    → (slice_index_or ps i d).number ≡ n → IsPresent n ps
present_at n [] i d lt e = absurd (omega (arith, lt))
present_at n (p ∷ ps) zero d lt e = inl e
present_at n (p ∷ ps) (suc i) d lt e = inr (present_at n ps i d (omega (arith, lt)) e)

-- ---- the end

there : (ps : List PublisherView) (all placed left : List Item) → all ≡ placed ++ left
    → AllByRecursion (λ e. e.1 ≡ own_of e.0 all) (sendings_of ps) → AreAllThere ps placed left
there [] all placed left is h = tt
there (p ∷ ps) all placed left is h = (
  h.0 ∙ ap (own_of p.number) is ∙ filter-append (λ (i : Item). i.publisher == p.number) placed left,
  there ps all placed left is h.1,
)

theirs : (ps : List PublisherView) (items : List Item) → AreOfJoined (sendings_of ps) items → AreTheirs ps items
theirs ps [] h = tt
theirs ps (x ∷ items) h = (ended_is_present x.publisher ps h.0, theirs ps items h.1)

-- ---- what is taken_apart apart

-- the last pass knows what the publishers sent, and what was placed and then in hand, which is kept
pub record IsTakenApart (ps : List PublisherView) (s : SequencerState) (last : LastKnows) (kept : List Item)
    : Type 0 where
  pub joined : last.ended ≡ sendings_of ps
  pub flows : last.pulled ≡ items_placed s.placed ++ in_hand s.hand
  pub held : kept ≡ in_hand s.hand

pub taken_apart : (ps : List PublisherView) (s : SequencerState) (queue : TableId) (pass mid : SequencerKnows) (made : ℕ)
    (last : LastKnows) (hand : Option Item) (kept : List Item)
    → pass ≡ record { queue = queue; pulled = s.pulled; ended = [] }
    → s.pulled ≡ items_placed s.placed ++ in_hand s.hand → hand ≡ s.hand → JoinsPasses ps pass mid
    → last ≡ record { queue = mid.queue; pulled = mid.pulled; ended = mid.ended; made = made }
    → kept ≡ in_hand hand → IsTakenApart ps s last kept
taken_apart ps s queue pass mid made last hand kept begun flows held joins ends is = record {
  joined = ap (λ (l : LastKnows). l.ended) ends ∙ ap (λ (k : SequencerKnows). k.ended) joins
      ∙ ap (λ (k : SequencerKnows). k.ended ++ sendings_of ps) begun;
  flows = ap (λ (l : LastKnows). l.pulled) ends ∙ ap (λ (k : SequencerKnows). k.pulled) joins
      ∙ ap (λ (k : SequencerKnows). k.pulled) begun ∙ flows;
  held = is ∙ ap (λ (h : Option Item). in_hand h) held;
}

-- the last pass is of the queue that the sequencer's pass was of
pub last_queue : (ps : List PublisherView) (s : SequencerState) (queue : TableId) (pass mid : SequencerKnows) (made : ℕ)
    (last : LastKnows) → pass ≡ record { queue = queue; pulled = s.pulled; ended = [] } → JoinsPasses ps pass mid
    → last ≡ record { queue = mid.queue; pulled = mid.pulled; ended = mid.ended; made = made } → last.queue ≡ queue
last_queue ps s queue pass mid made last begun joins ends =
    ap (λ (l : LastKnows). l.queue) ends
    ∙ (ap (λ (k : SequencerKnows). k.queue) joins ∙ ap (λ (k : SequencerKnows). k.queue) begun)

-- the room is enough for what waits
pub room_is : (ps : List PublisherView) (s : SequencerState) (last : LastKnows) (kept : List Item) (len cap : ℕ)
    → IsTakenApart ps s last kept → length kept ≡ len → all_sent ps ≤ length s.placed + cap
    → total_sent last.ended + len ≤ length last.pulled + cap
room_is ps s last kept len cap is counted room =
    let sent = ap total_sent is.joined ∙ all_sent_is ps in
    let all = ap length is.flows ∙ length-append (items_placed s.placed) (in_hand s.hand) in
    let placed = length-map s.placed (λ (t : CellToken). t.entry.item) in
    let held = ap length is.held in
    omega (arith, sent, all, placed, held, counted, room)

-- what was drained after the hand, said of the publishers
pub broker_finishes : (cells : Cells) (ps : List PublisherView) (s : SequencerState) (last : LastKnows)
    (kept new : List Item) (end : LastKnows) (placed : ℕ) (closing : LastToken) → IsTakenApart ps s last kept
    → Drains last kept new end → placed ≡ length s.placed → IsLastToken cells closing × (closing.last ≡ length s.placed)
    → Finishes cells ps s placed new closing
broker_finishes cells ps s last kept new end placed closing is drains many closed = record {
  hand = (more, drains.1 ∙ ap (λ xs. xs ++ more) is.held);
  sent = there ps (last.pulled ++ more) (items_placed s.placed) new all
      (subst (λ es. AllByRecursion (λ (e : ℕ × List Item). e.1 ≡ own_of e.0 (last.pulled ++ more)) es) is.joined
      drains.3);
  theirs = subst (λ xs. AreTheirs ps xs) all
      (theirs ps (last.pulled ++ more) (subst (λ es. AreOfJoined es (last.pulled ++ more)) is.joined drains.4));
  counted =
      let count = drains.5 in
      let sent = ap total_sent is.joined ∙ all_sent_is ps in
      let parts = ap length all ∙ length-append (items_placed s.placed) new in
      let tokens = length-map s.placed (λ (t : CellToken). t.entry.item) in
      omega (arith, count, sent, parts, tokens, many);
  many = many;
  closed = closed.0;
  last = closed.1 ∙ sym many;
}
  where
    more : List Item
    more = drains.0

    all : last.pulled ++ more ≡ items_placed s.placed ++ new
    all = ap (λ xs. xs ++ more) is.flows ∙ append_assoc (items_placed s.placed) (in_hand s.hand) more
        ∙ ap (λ xs. items_placed s.placed ++ (xs ++ more)) (sym is.held)
        ∙ ap (λ xs. items_placed s.placed ++ xs) (sym drains.1)

-- what was placed, and then what is left, is what the last pass pulled
pub order_of_pulls : (ps : List PublisherView) (s : SequencerState) (queue : TableId) (last : LastKnows)
    (kept new : List Item) (end : LastKnows) → IsTakenApart ps s last kept → last.queue ≡ queue
    → Drains last kept new end → PullsInOrder queue s.placed new end
order_of_pulls ps s queue last kept new end is of drains = (
  ap (λ (l : LastKnows). l.queue) drains.2 ∙ of,
  ap (λ (l : LastKnows). l.pulled) drains.2 ∙ ap (λ xs. xs ++ drains.0) is.flows
      ∙ append_assoc (items_placed s.placed) (in_hand s.hand) drains.0
      ∙ ap (λ xs. items_placed s.placed ++ (xs ++ drains.0)) (sym is.held)
      ∙ ap (λ xs. items_placed s.placed ++ xs) (sym drains.1),
)

-- what the closing cell shows, by its token
pub shown_is : (closing : Option LastToken) (told : LastToken) (placed : ℕ) → closing ≡ Some told → told.last ≡ placed
    → closing_shown closing ≡ Some placed
shown_is closing told placed is last = ap closing_shown is ∙ ap (λ n. Some n) last

-- ---- who is given

-- one more number is given
pub present_more : (ps : List PublisherView) (m : ℕ) → AreAllPresent m ps → IsPresent m ps → AreAllPresent (m + 1) ps
present_more ps m all one n below = elim (eqb_tells n m) as (λ _. IsPresent n ps) [
  | inl same ↦ subst (λ k. IsPresent k ps) (sym same.1) one
  | inr other ↦ all n (let isnt = other.1 in omega (arith, below, isnt))
]
