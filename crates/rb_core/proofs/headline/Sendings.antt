-- Each publisher's sendings are in the sequence in the order in which it sent them, each once.
use Rattle.std.proofs.Common.{◌≡◌, ◌==◌, ℕ, zero, suc, ◌+◌, ◌≤◌, inl, inr, Bool, true, false, cond, List, [], ◌∷◌, ◌++◌}
use Rattle.std.proofs.Common.{length, Option, Some, None, refl, sym, ap, subst, ◌∙◌, append_assoc, arith}
use Rattle.std.specs.Prelude.{slice_get, slice_set}
use Rattle.std.proofs.lemmas.Bool.Decides.{eqb_tells}
use Rattle.std.proofs.lemmas.List.{append-nil, map-append}
use Rattle.std.proofs.lemmas.List.Elements.{filter-append}
use Rattle.rb_desk.proofs.pictures.PictureLaws.{get_set, get_set_other}
use Rattle.rb_sequence.specs.Item.{Item}
use Rattle.rb_sequence.specs.Entry.{Entry}
use Rattle.rb_core.specs.World.{Sender, World, world_begun}
use Rattle.rb_core.specs.Moves.{Leads, items_of}
use Rattle.rb_sequence.specs.Items.{own_of}
use Rattle.rb_core.specs.Moves.{AreAllOf, IsFront, IsIn, IsSending, unplaced}
use Rattle.rb_core.proofs.headline.Moving.{MovingKeeps, crash_leaves, kept_through}

-- ---- numbers

-- the own numbers go on from n, one by one
abbrev SendingsNumbered : ℕ → List Item → Type 0
SendingsNumbered n [] = Unit {0}
SendingsNumbered n (item ∷ items) = (item.own ≡ n) × SendingsNumbered (suc n) items

sendings_numbered_push : (n : ℕ) (items : List Item) (item : Item) → SendingsNumbered n items → item.own ≡ n
    + length items → SendingsNumbered n (items ++ item ∷ [])
sendings_numbered_push n [] item all own = (omega (arith, own), tt)
sendings_numbered_push n (first ∷ items) item all own =
    (all.0, sendings_numbered_push (suc n) items item all.1 (omega (arith, own)))

numbered_front : (n : ℕ) (items more : List Item) → SendingsNumbered n (items ++ more) → SendingsNumbered n items
numbered_front n [] more all = tt
numbered_front n (item ∷ items) more all = (all.0, numbered_front (suc n) items more all.1)

-- ---- all that was sent, in the order in which it is placed

abbrev sendings_held : Option Item → List Item
sendings_held None = []
sendings_held (Some item) = item ∷ []

held_then_intake : (hand : Option Item) (intake : List Item) → sendings_held hand ++ intake ≡ unplaced hand intake
held_then_intake None intake = refl
held_then_intake (Some item) intake = refl

abbrev flow : World → List Item
flow world = items_of world.sequence ++ (sendings_held world.hand ++ world.intake)

-- what a publisher sent is what there is of it, numbered from 1; one that hasn't come yet sent nothing
abbrev SendingsHolds : Option Sender → List Item → Type 0
SendingsHolds None own = own ≡ []
SendingsHolds (Some q) own = (own ≡ q.sent) × SendingsNumbered 1 q.sent

abbrev SendingsSent : ℕ → World → Type 0
SendingsSent p world = SendingsHolds (slice_get world.senders p) (own_of p (flow world))

-- ---- publishers

push_holds : (senders : List Sender) (p : ℕ) (new : Sender) (own : List Item) → new.sent ≡ []
    → SendingsHolds (slice_get senders p) own → SendingsHolds (slice_get (senders ++ new ∷ []) p) own
push_holds [] zero new own none h = (h ∙ sym none, subst (SendingsNumbered 1) (sym none) tt)
push_holds [] (suc p) new own none h = h
push_holds (q ∷ senders) zero new own none h = h
push_holds (q ∷ senders) (suc p) new own none h = push_holds senders p new own none h

-- one publisher becomes another: what holds at its own place, and what holds elsewhere as before
set_holds : (senders : List Sender) (p at : ℕ) (before after : Sender) (own more : List Item)
    → slice_get senders at ≡ Some before
    → ((at == p) ≡ true → SendingsHolds (Some before) own → SendingsHolds (Some after) more)
    → ((at == p) ≡ false → own ≡ more) → SendingsHolds (slice_get senders p) own
    → SendingsHolds (slice_get (slice_set senders at after) p) more
set_holds senders p at before after own more found here elsewhere h =
    elim (eqb_tells at p) as (λ w. SendingsHolds (slice_get (slice_set senders at after) p) more) [
      | inl is ↦
          let old : SendingsHolds (Some before) own =
          subst (λ o. SendingsHolds o own) (subst (λ n. slice_get senders n ≡ Some before) is.1 found) h in
          let new : slice_get (slice_set senders at after) p ≡ Some after =
          subst (λ n. slice_get (slice_set senders at after) n ≡ Some after) is.1
          (get_set senders at before after found) in
          subst (λ o. SendingsHolds o more) (sym new) (here is.0 old)
      | inr other ↦
          subst (λ o. SendingsHolds o more) (sym (get_set_other senders at p after (λ e. other.1 (sym e))))
          (subst (SendingsHolds (slice_get senders p)) (elsewhere other.0) h)
    ]

same_holds : (senders : List Sender) (p at : ℕ) (before after : Sender) (own : List Item) → slice_get senders at
    ≡ Some before → after.sent ≡ before.sent → SendingsHolds (slice_get senders p) own
    → SendingsHolds (slice_get (slice_set senders at after) p) own
same_holds senders p at before after own found same =
    set_holds senders p at before after own own found
    (λ is here. (here.0 ∙ sym same, subst (SendingsNumbered 1) (sym same) here.1)) (λ other. refl)

-- ---- a sending

flow_sent : (world : World) (items : List Item) (item : Item) → items_of world.sequence
    ++ (sendings_held world.hand ++ (world.intake ++ item ∷ [])) ≡ flow world ++ item ∷ []
flow_sent world items item =
    ap (λ xs. items_of world.sequence ++ xs) (sym (append_assoc (sendings_held world.hand) world.intake (item ∷ [])))
    ∙ sym (append_assoc (items_of world.sequence) (sendings_held world.hand ++ world.intake) (item ∷ []))

own_sent : (p : ℕ) (world : World) (item : Item)
    → own_of p (items_of world.sequence ++ (sendings_held world.hand ++ (world.intake ++ item ∷ [])))
    ≡ own_of p (flow world) ++ cond (item.publisher == p) (item ∷ []) []
own_sent p world item = ap (own_of p) (flow_sent world [] item)
    ∙ filter-append (λ (i : Item). i.publisher == p) (flow world) (item ∷ [])

sends_holds : (senders : List Sender) (p at : ℕ) (before after : Sender) (item : Item) (own : List Item)
    → slice_get senders at ≡ Some before → after.sent ≡ before.sent ++ item ∷ [] → item.publisher ≡ at → item.own
    ≡ suc (length before.sent)
    → SendingsHolds (slice_get senders p) own
    → SendingsHolds (slice_get (slice_set senders at after) p) (own ++ cond (item.publisher == p) (item ∷ []) [])
sends_holds senders p at before after item own found grown mine number =
    set_holds senders p at before after own (own ++ cond (item.publisher == p) (item ∷ []) []) found
    (λ is here.
    let tested : (item.publisher == p) ≡ true = ap (λ n. n == p) mine ∙ is in
    let all : own ++ cond (item.publisher == p) (item ∷ []) [] ≡ after.sent =
    ap (λ b. own ++ cond b (item ∷ []) []) tested ∙ ap (λ xs. xs ++ item ∷ []) here.0 ∙ sym grown in (
      all,
      subst (SendingsNumbered 1) (sym grown)
          (sendings_numbered_push 1 before.sent item here.1 (omega (arith, number))),
    ))
    (λ other.
    let tested : (item.publisher == p) ≡ false = ap (λ n. n == p) mine ∙ other in
    sym (ap (λ b. own ++ cond b (item ∷ []) []) tested ∙ append-nil own))

-- ---- moves

flow_pulled : (old : World) (item : Item) (rest : List Item) → old.hand ≡ None → old.intake ≡ item ∷ rest → flow old
    ≡ items_of old.sequence ++ (sendings_held (Some item) ++ rest)
flow_pulled old item rest empty first = ap (λ h. items_of old.sequence ++ (sendings_held h ++ old.intake)) empty
    ∙ ap (λ xs. items_of old.sequence ++ xs) first

flow_placed : (old : World) (item : Item) (entry : Entry) → old.hand ≡ Some item → entry.item ≡ item → flow old
    ≡ items_of (old.sequence ++ entry ∷ []) ++ (sendings_held None ++ old.intake)
flow_placed old item entry holds is =
    ap (λ h. items_of old.sequence ++ (sendings_held h ++ old.intake)) holds
    ∙ ap (λ i. items_of old.sequence ++ (i ∷ old.intake)) (sym is)
    ∙ sym (append_assoc (items_of old.sequence) (entry.item ∷ []) old.intake)
    ∙ ap (λ xs. xs ++ old.intake) (sym (map-append (λ (e : Entry). e.item) old.sequence (entry ∷ [])))

sent_kept : (p : ℕ) → MovingKeeps (SendingsSent p)
sent_kept p = record {
  sending = record {
    adds_publisher = λ old new move h. subst (SendingsSent p) (sym move)
        (push_holds old.senders p (record { text = []; staged = None; sent = [] }) (own_of p (flow old)) refl h);
    streams = λ old new move h. subst (SendingsSent p) (sym move.kept)
        (same_holds old.senders p move.p move.sender _ (own_of p (flow old)) move.found refl h);
    sends = λ old new move h.
        let after : Sender = record move.sender { staged = None; sent = move.sender.sent ++ move.item ∷ [] } in
        let held_now = sends_holds old.senders p move.p move.sender after move.item (own_of p (flow old)) move.found
        refl (ap (λ (i : Item). i.publisher) move.is) (ap (λ (i : Item). i.own) move.is) h in
        subst (SendingsSent p) (sym move.kept)
        (subst (SendingsHolds (slice_get (slice_set old.senders move.p after) p)) (sym (own_sent p old move.item))
        held_now);
    pulls = λ old new move h. subst (SendingsSent p) (sym move.kept)
        (subst (λ xs. SendingsHolds (slice_get old.senders p) (own_of p xs))
        (flow_pulled old move.item move.rest move.empty move.first) h);
  };
  places = λ old new move h.
      let entry : Entry = record { number = suc (length old.sequence); item = move.item } in
      subst (SendingsSent p) (sym move.kept)
      (subst (λ xs. SendingsHolds (slice_get old.senders p) (own_of p xs))
      (flow_placed old move.item entry move.held refl) h);
  closes = λ old new move h. subst (SendingsSent p) (sym move.kept) h;
  subscribes = λ old new move h. subst (SendingsSent p) (sym move.kept) h;
  delivers = λ old new move h. subst (SendingsSent p) (sym move.kept) h;
  accepts = λ old new move h. subst (SendingsSent p) (sym move.kept) h;
  reconnects = λ old new move h. subst (SendingsSent p) (sym move.kept) h;
  unsubscribes = λ old new move h. subst (SendingsSent p) (sym move.kept) h;
  withdraws = λ old new move h. subst (SendingsSent p) (sym move.kept)
      (same_holds old.senders p move.p move.sender _ (own_of p (flow old)) move.found refl h);
  crashes = λ old new move h. crash_leaves (SendingsSent p) old new move h h;
  resumes = λ old new move h. subst (SendingsSent p) (sym move.kept) h;
}

-- ---- in order

abbrev sendings_waiting : World → List Item
sendings_waiting world = sendings_held world.hand ++ world.intake

own_parts : (p : ℕ) (world : World) → own_of p (flow world) ≡ own_of p (items_of world.sequence)
    ++ own_of p (sendings_waiting world)
own_parts p world = filter-append (λ (i : Item). i.publisher == p) (items_of world.sequence) (sendings_waiting world)

sent_through : (p : ℕ) (mids : List World) (new : World) → Leads world_begun mids new → SendingsSent p new
sent_through p mids new leads = kept_through (SendingsSent p) (sent_kept p) world_begun mids new leads refl

pub all_are_sendings : (mids : List World) (new : World) (p : ℕ) (q : Sender) → Leads world_begun mids new
    → slice_get new.senders p ≡ Some q → AreAllOf p new.sequence new.hand new.intake q
all_are_sendings mids new p q leads found =
    let h : SendingsHolds (Some q) (own_of p (flow new)) =
    subst (λ o. SendingsHolds o (own_of p (flow new))) found (sent_through p mids new leads) in
    ap (λ xs. own_of p (items_of new.sequence) ++ own_of p xs) (sym (held_then_intake new.hand new.intake))
    ∙ sym (own_parts p new) ∙ h.0

pub in_order : (mids : List World) (new : World) (p : ℕ) (q : Sender) → Leads world_begun mids new
    → slice_get new.senders p ≡ Some q → IsFront (own_of p (items_of new.sequence)) q.sent
in_order mids new p q leads found =
    (own_of p (unplaced new.hand new.intake), all_are_sendings mids new p q leads found)

-- ---- once

numbered_by : (o : Option Sender) (own : List Item) → SendingsHolds o own → SendingsNumbered 1 own
numbered_by None own h = subst (SendingsNumbered 1) (sym h) tt
numbered_by (Some q) own h = subst (SendingsNumbered 1) (sym h.0) h.1

abbrev placed_of : ℕ → List Entry → List Item
placed_of p entries = own_of p (items_of entries)

abbrev with_first : ℕ → Entry → List Entry → Bool → List Item
with_first p entry entries b = cond b (entry.item ∷ placed_of p entries) (placed_of p entries)

entry_at : (x b : Entry) → Some x ≡ Some b → x ≡ b
entry_at x b e = cc e

sendings_at_least : (n p : ℕ) (entries : List Entry) → SendingsNumbered n (placed_of p entries) → (j : ℕ) (b : Entry)
    → slice_get entries j ≡ Some b → b.item.publisher ≡ p → n ≤ b.item.own
sendings_at_least n p [] all j b found mine = absurd (cc found)
sendings_at_least n p (x ∷ entries) all zero b found mine =
    elim (eqb_tells x.item.publisher p) as (λ w. n ≤ b.item.own) [
      | inl is ↦
          let here : SendingsNumbered n (x.item ∷ placed_of p entries) =
          subst (λ t. SendingsNumbered n (with_first p x entries t)) is.0 all in
          omega (arith, here.0, ap (λ (e : Entry). e.item.own) (entry_at x b found))
      | inr other ↦ absurd (other.1 (ap (λ (e : Entry). e.item.publisher) (entry_at x b found) ∙ mine))
    ]
sendings_at_least n p (x ∷ entries) all (suc j) b found mine =
    elim (eqb_tells x.item.publisher p) as (λ w. n ≤ b.item.own) [
      | inl is ↦
          let here : SendingsNumbered n (x.item ∷ placed_of p entries) =
          subst (λ t. SendingsNumbered n (with_first p x entries t)) is.0 all in
          let more = sendings_at_least (suc n) p entries here.1 j b found mine in
          omega (arith, more)
      | inr other ↦
          let rest : SendingsNumbered n (placed_of p entries) =
          subst (λ t. SendingsNumbered n (with_first p x entries t)) other.0 all in
          sendings_at_least n p entries rest j b found mine
    ]

-- the first entry has another own number than each later one of its publisher
first_alone : (n p : ℕ) (x : Entry) (entries : List Entry) → SendingsNumbered n (placed_of p (x ∷ entries))
    → x.item.publisher ≡ p → (j : ℕ) (b : Entry) → slice_get entries j ≡ Some b → b.item.publisher ≡ p → x.item.own
    ≡ b.item.own → ⊥
first_alone n p x entries all first j b found mine same = elim (eqb_tells x.item.publisher p) as (λ w. ⊥) [
  | inl is ↦
      let here : SendingsNumbered n (x.item ∷ placed_of p entries) =
      subst (λ t. SendingsNumbered n (with_first p x entries t)) is.0 all in
      let more = sendings_at_least (suc n) p entries here.1 j b found mine in
      absurd (omega (arith, more, here.0, same))
  | inr other ↦ absurd (other.1 first)
]

rest_numbered : (n p : ℕ) (x : Entry) (entries : List Entry) → SendingsNumbered n (placed_of p (x ∷ entries)) → (m : ℕ)
    × SendingsNumbered m (placed_of p entries)
rest_numbered n p x entries all =
    elim (eqb_tells x.item.publisher p) as (λ w. (m : ℕ) × SendingsNumbered m (placed_of p entries)) [
      | inl is ↦
          let here : SendingsNumbered n (x.item ∷ placed_of p entries) =
          subst (λ t. SendingsNumbered n (with_first p x entries t)) is.0 all in
          (suc n, here.1)
      | inr other ↦ (n, subst (λ t. SendingsNumbered n (with_first p x entries t)) other.0 all)
    ]

distinct : (n p : ℕ) (entries : List Entry) → SendingsNumbered n (placed_of p entries) → (i j : ℕ) (a b : Entry)
    → slice_get entries i ≡ Some a → slice_get entries j ≡ Some b → a.item.publisher ≡ p → b.item.publisher ≡ p
    → a.item.own ≡ b.item.own → i ≡ j
distinct n p [] all i j a b at_i at_j of_a of_b same = absurd (cc at_i)
distinct n p (x ∷ entries) all zero zero a b at_i at_j of_a of_b same = refl
distinct n p (x ∷ entries) all zero (suc j) a b at_i at_j of_a of_b same =
    let is = entry_at x a at_i in
    absurd (first_alone n p x entries all (ap (λ (e : Entry). e.item.publisher) is ∙ of_a) j b at_j of_b
    (ap (λ (e : Entry). e.item.own) is ∙ same))
distinct n p (x ∷ entries) all (suc i) zero a b at_i at_j of_a of_b same =
    let is = entry_at x b at_j in
    absurd (first_alone n p x entries all (ap (λ (e : Entry). e.item.publisher) is ∙ of_b) i a at_i of_a
    (ap (λ (e : Entry). e.item.own) is ∙ sym same))
distinct n p (x ∷ entries) all (suc i) (suc j) a b at_i at_j of_a of_b same =
    let rest = rest_numbered n p x entries all in
    ap suc (distinct rest.0 p entries rest.1 i j a b at_i at_j of_a of_b same)

pub once : (mids : List World) (new : World) (i j : ℕ) (a b : Entry) → Leads world_begun mids new
    → slice_get new.sequence i ≡ Some a → slice_get new.sequence j ≡ Some b → a.item.publisher ≡ b.item.publisher
    → a.item.own ≡ b.item.own → i ≡ j
once mids new i j a b leads at_i at_j publisher same =
    let p = b.item.publisher in
    let all = numbered_by (slice_get new.senders p) (own_of p (flow new)) (sent_through p mids new leads) in
    let front = numbered_front 1 (own_of p (items_of new.sequence)) (own_of p (sendings_waiting new))
    (subst (SendingsNumbered 1) (own_parts p new) all) in
    distinct 1 p new.sequence front i j a b at_i at_j publisher refl same

-- ---- each entry is a sending

numbered_at : (n : ℕ) (items : List Item) (x : Item) → SendingsNumbered n items → IsIn x items → (m : ℕ)
    × (x.own ≡ n + m) × (slice_get items m ≡ Some x)
numbered_at n [] x all here = absurd here
numbered_at n (item ∷ items) x all here =
    elim here as (λ w. (m : ℕ) × (x.own ≡ n + m) × (slice_get (item ∷ items) m ≡ Some x)) [
      | inl same ↦ (0, omega (arith, ap (λ (i : Item). i.own) same, all.0), ap Some (sym same))
      | inr rest ↦
          let at = numbered_at (suc n) items x all.1 rest in
          (suc at.0, omega (arith, at.1), at.2)
    ]

-- an entry's item is among those of its publisher that are placed
among_placed : (p : ℕ) (entries : List Entry) (i : ℕ) (b : Entry) → slice_get entries i ≡ Some b → b.item.publisher ≡ p
    → IsIn b.item (placed_of p entries)
among_placed p [] i b found mine = absurd (cc found)
among_placed p (x ∷ entries) zero b found mine =
    elim (eqb_tells x.item.publisher p) as (λ w. IsIn b.item (placed_of p (x ∷ entries))) [
      | inl is ↦
          subst (λ t. IsIn b.item (with_first p x entries t)) (sym is.0)
          (inl (ap (λ (e : Entry). e.item) (sym (entry_at x b found))))
      | inr other ↦ absurd (other.1 (ap (λ (e : Entry). e.item.publisher) (entry_at x b found) ∙ mine))
    ]
among_placed p (x ∷ entries) (suc i) b found mine =
    let rest = among_placed p entries i b found mine in
    elim (eqb_tells x.item.publisher p) as (λ w. IsIn b.item (placed_of p (x ∷ entries))) [
      | inl is ↦ subst (λ t. IsIn b.item (with_first p x entries t)) (sym is.0) (inr rest)
      | inr other ↦ subst (λ t. IsIn b.item (with_first p x entries t)) (sym other.0) rest
    ]

in_append : {A : Type 0} (xs ys : List A) (x : A) → IsIn x xs → IsIn x (xs ++ ys)
in_append [] ys x here = absurd here
in_append (z ∷ xs) ys x here = elim here as (λ w. IsIn x ((z ∷ xs) ++ ys)) [
  | inl same ↦ inl same
  | inr rest ↦ inr (in_append xs ys x rest)
]

sending_by : (o : Option Sender) (own : List Item) (item : Item) → SendingsHolds o own → IsIn item own
    → (sender : Sender) × (o ≡ Some sender) × IsSending sender item
sending_by None own item h here = absurd (subst (IsIn item) h here)
sending_by (Some q) own item h here =
    let at = numbered_at 1 q.sent item h.1 (subst (IsIn item) h.0 here) in
    (q, refl, (at.0, omega (arith, at.1), at.2))

pub sending_of_entry : (mids : List World) (new : World) (i : ℕ) (entry : Entry) → Leads world_begun mids new
    → slice_get new.sequence i ≡ Some entry → (sender : Sender)
    × (slice_get new.senders entry.item.publisher ≡ Some sender) × IsSending sender entry.item
sending_of_entry mids new i entry leads found =
    let p = entry.item.publisher in
    let placed = among_placed p new.sequence i entry found refl in
    let here : IsIn entry.item (own_of p (flow new)) =
    subst (IsIn entry.item) (sym (own_parts p new))
    (in_append (own_of p (items_of new.sequence)) (own_of p (sendings_waiting new)) entry.item placed) in
    sending_by (slice_get new.senders p) (own_of p (flow new)) entry.item (sent_through p mids new leads) here
