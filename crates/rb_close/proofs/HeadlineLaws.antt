-- The headline of a running broker, from what its parts show.
use Rattle.std.proofs.Common.{◌≡◌, ℕ, zero, suc, ◌+◌, ◌-◌, ◌≤◌, ◌==◌, List, [], ◌∷◌, ◌++◌, length, take, drop}
use Rattle.std.proofs.Common.{Some, ap, ◌∙◌, sym, refl, subst, arith, ⊎_elim, append_assoc}
use Rattle.std.specs.Prelude.{slice_get}
use Rattle.std.specs.List.{AllByRecursion}
use Rattle.std.proofs.lemmas.List.{length-map, map-append, take-append-drop}
use Rattle.std.proofs.lemmas.List.Elements.{filter-append}
use Rattle.std.proofs.lemmas.Simd.{map-map}
use Rattle.rb_sequence.specs.Cells.{AreInCells, CellToken, Cells, LastToken}
use Rattle.rb_sequence.specs.Entry.{Entry}
use Rattle.rb_sequence.specs.Items.{AreNumbered, own_of}
use Rattle.rb_sequence.specs.Item.{Item}
use Rattle.rb_intake.proofs.DrainLaws.{own_head}
use Rattle.rb_intake.proofs.ItemLaws.{CountsFrom, numbered_pulled}
use Rattle.rb_broker.specs.Publishers.{PublisherView}
use Rattle.rb_sequencer.specs.Turns.{SequencerState, in_hand, items_placed}
use Rattle.rb_subscriber.specs.Accept.{HasSingleTables, part}
use Rattle.rb_subscriber.specs.Shown.{entries_told}
use Rattle.rb_subscriber.specs.Subscription.{SubscriptionState, cursor_of}
use Rattle.rb_close.specs.Finishing.{AreAllThere, AreTheirs, Finishes, IsPresent}
use Rattle.rb_close.specs.Headline.{IsStretchOf, KeepsRunningHeadline, ShowsPlaced, items_in}
use Rattle.rb_close.specs.Meeting.{HasMet}

-- ---- numbers

entries_numbered : (cells : Cells) (n : ℕ) (tokens : List CellToken) → AreInCells cells n tokens
    → AreNumbered (λ (e : Entry). e.number) n (entries_told tokens)
entries_numbered cells n [] all = tt
entries_numbered cells n (t ∷ rest) all =
    (all.0.numbered ∙ all.1, entries_numbered cells (suc n) rest all.2)

no_higher : (n most : ℕ) (es : List Entry) → AreNumbered (λ (e : Entry). e.number) n es → n + length es ≤ suc most
    → AllByRecursion (λ (e : Entry). e.number ≤ most) es
no_higher n most [] all fits = tt
no_higher n most (e ∷ es) all fits =
    (omega (arith, all.0, fits), no_higher (suc n) most es all.1 (omega (arith, fits)))

kept_by_drop : {A : Type 0} (P : A → Type 0) (n : ℕ) (xs : List A) → AllByRecursion P xs → AllByRecursion P (drop n xs)
kept_by_drop P zero xs all = all
kept_by_drop P (suc n) [] all = tt
kept_by_drop P (suc n) (x ∷ xs) all = kept_by_drop P n xs all.1

kept_by_take : {A : Type 0} (P : A → Type 0) (n : ℕ) (xs : List A) → AllByRecursion P xs → AllByRecursion P (take n xs)
kept_by_take P zero xs all = tt
kept_by_take P (suc n) [] all = tt
kept_by_take P (suc n) (x ∷ xs) all = (all.0, kept_by_take P n xs all.1)

kept_in_front : {A : Type 0} (P : A → Type 0) (xs ys : List A) → AllByRecursion P (xs ++ ys) → AllByRecursion P xs
kept_in_front P [] ys all = tt
kept_in_front P (x ∷ xs) ys all = (all.0, kept_in_front P xs ys all.1)

-- ---- each item once

own_at_least : (n p : ℕ) (xs : List Item) → CountsFrom n (own_of p xs) → (j : ℕ) (b : Item) → slice_get xs j ≡ Some b
    → b.publisher ≡ p → n ≤ b.own
own_at_least n p [] all j b found mine = absurd (cc found)
own_at_least n p (x ∷ xs) all zero b found mine =
    let is : x ≡ b = cc found in
    let own = ap (λ (i : Item). i.own) is in
    ⊎_elim (λ h. let here : CountsFrom n (x ∷ own_of p xs) = subst (CountsFrom n) h.1 all in let first = here.0 in omega (arith, first, own))
    (λ h. absurd (h.0 (ap (λ (i : Item). i.publisher) is ∙ mine))) (own_head p x xs)
own_at_least n p (x ∷ xs) all (suc j) b found mine =
    ⊎_elim (λ h.
    let here : CountsFrom n (x ∷ own_of p xs) = subst (CountsFrom n) h.1 all in
    let later = own_at_least (suc n) p xs here.1 j b found mine in omega (arith, later))
    (λ h. own_at_least n p xs (subst (CountsFrom n) h.1 all) j b found mine) (own_head p x xs)

-- the first item has another own number than each later one of its publisher
own_alone : (n p : ℕ) (x : Item) (xs : List Item) → CountsFrom n (own_of p (x ∷ xs)) → x.publisher ≡ p → (j : ℕ)
    (b : Item) → slice_get xs j ≡ Some b → b.publisher ≡ p → x.own ≡ b.own → ⊥
own_alone n p x xs all mine j b found its same =
    ⊎_elim (λ h.
    let here : CountsFrom n (x ∷ own_of p xs) = subst (CountsFrom n) h.1 all in
    let later = own_at_least (suc n) p xs here.1 j b found its in
    let first = here.0 in
    absurd (omega (arith, first, later, same))) (λ h. h.0 mine) (own_head p x xs)

later_numbered : (n p : ℕ) (x : Item) (xs : List Item) → CountsFrom n (own_of p (x ∷ xs))
    → (m : ℕ) × CountsFrom m (own_of p xs)
later_numbered n p x xs all = ⊎_elim (λ h. (suc n, goes_on (subst (CountsFrom n) h.1 all)))
    (λ h. (n, subst (CountsFrom n) h.1 all)) (own_head p x xs)
  where
    goes_on : CountsFrom n (x ∷ own_of p xs) → CountsFrom (suc n) (own_of p xs)
    goes_on all = all.1

own_distinct : (n p : ℕ) (xs : List Item) → CountsFrom n (own_of p xs) → (i j : ℕ) (a b : Item)
    → slice_get xs i ≡ Some a → slice_get xs j ≡ Some b → a.publisher ≡ p → b.publisher ≡ p → a.own ≡ b.own → i ≡ j
own_distinct n p [] all i j a b at_i at_j of_a of_b same = absurd (cc at_i)
own_distinct n p (x ∷ xs) all zero zero a b at_i at_j of_a of_b same = refl
own_distinct n p (x ∷ xs) all zero (suc j) a b at_i at_j of_a of_b same =
    let is : x ≡ a = cc at_i in
    absurd (own_alone n p x xs all (ap (λ (i : Item). i.publisher) is ∙ of_a) j b at_j of_b
    (ap (λ (i : Item). i.own) is ∙ same))
own_distinct n p (x ∷ xs) all (suc i) zero a b at_i at_j of_a of_b same =
    let is : x ≡ b = cc at_j in
    absurd (own_alone n p x xs all (ap (λ (i : Item). i.publisher) is ∙ of_b) i a at_i of_a
    (ap (λ (i : Item). i.own) is ∙ sym same))
own_distinct n p (x ∷ xs) all (suc i) (suc j) a b at_i at_j of_a of_b same =
    let later = later_numbered n p x xs all in
    ap suc (own_distinct later.0 p xs later.1 i j a b at_i at_j of_a of_b same)

item_at : (es : List Entry) (i : ℕ) (a : Entry) → slice_get es i ≡ Some a → slice_get (items_in es) i ≡ Some a.item
item_at [] i a found = absurd (cc found)
item_at (e ∷ es) zero a found = let is : e ≡ a = cc found in ap (λ (x : Entry). Some x.item) is
item_at (e ∷ es) (suc i) a found = item_at es i a found

-- ---- each publisher's in its order

own_both : (p : ℕ) (xs ys : List Entry) → own_of p (items_in (xs ++ ys))
    ≡ own_of p (items_in xs) ++ own_of p (items_in ys)
own_both p xs ys = ap (own_of p) (map-append (λ (e : Entry). e.item) xs ys)
    ∙ filter-append (λ (i : Item). i.publisher == p) (items_in xs) (items_in ys)

own_part : (p : ℕ) (es : List Entry) (after n : ℕ) → IsStretchOf (own_of p (items_in (part es after n)))
    (own_of p (items_in es))
own_part p es after n = (
  own_of p (items_in (take after es)),
  own_of p (items_in (drop n (drop after es))),
  ap (λ xs. own_of p (items_in (take after es)) ++ xs)
      (sym (own_both p (take n (drop after es)) (drop n (drop after es)))
      ∙ ap (λ xs. own_of p (items_in xs)) (take-append-drop n (drop after es)))
      ∙ sym (own_both p (take after es) (drop after es))
      ∙ ap (λ xs. own_of p (items_in xs)) (take-append-drop after es),
)

run_longer : (run items more sent : List Item) → IsStretchOf run items → sent ≡ items ++ more → IsStretchOf run sent
run_longer run items more sent r is = (
  r.0,
  r.1 ++ more,
  ap (λ xs. r.0 ++ xs) (sym (append_assoc run r.1 more)) ∙ sym (append_assoc r.0 (run ++ r.1) more)
      ∙ ap (λ xs. xs ++ more) r.2 ∙ sym is,
)

each_in_order : (ps : List PublisherView) (told es : List Entry) (placed left : List Item) (after n : ℕ)
    → told ≡ part es after n → placed ≡ items_in es → AreAllThere ps placed left
    → AllByRecursion (λ (p : PublisherView). IsStretchOf (own_of p.number (items_in told)) p.sent) ps
each_in_order [] told es placed left after n is from all = tt
each_in_order (p ∷ ps) told es placed left after n is from all = (
  run_longer (own_of p.number (items_in told)) (own_of p.number (items_in es)) (own_of p.number left) p.sent
      (subst (λ xs. IsStretchOf (own_of p.number (items_in xs)) (own_of p.number (items_in es))) (sym is)
      (own_part p.number es after n))
      (all.0 ∙ ap (λ xs. own_of p.number xs ++ own_of p.number left) from),
  each_in_order ps told es placed left after n is from all.1,
)

-- ---- together

pub running_headline : (cells : Cells) (ps : List PublisherView) (q : SequencerState) (placed : ℕ) (left : List Item)
    (closing : LastToken) (s : SubscriptionState) → ShowsPlaced cells q → Finishes cells ps q placed left closing
    → HasMet q s → HasSingleTables s.base (entries_told s.told) s.tables → KeepsRunningHeadline cells ps q closing s
running_headline cells ps q placed left closing s shows finishes met singly = record {
  gapless = met;
  numbers = numbers;
  once = λ i j a b at_i at_j publisher own.
      own_distinct 1 b.item.publisher (items_in entries) (subst (λ xs. CountsFrom 1 (own_of b.item.publisher xs)) from
      (numbered_pulled b.item.publisher q.pulled (items_placed q.placed) (in_hand q.hand) shows.pulled
      (shows.numbered b.item.publisher))) i j a.item b.item (item_at entries i a at_i) (item_at entries j b at_j)
      publisher refl own;
  in_order = each_in_order ps (entries_told s.told) entries (items_placed q.placed) left s.start
      (cursor_of s - s.start) met from finishes.sent;
  sent = kept_in_front (λ (i : Item). IsPresent i.publisher ps) (items_placed q.placed) left finishes.theirs;
  closed = (finishes.closed, last);
  last = subst (λ es. AllByRecursion (λ (e : Entry). e.number ≤ closing.last) es) (sym met)
      (kept_by_take (λ (e : Entry). e.number ≤ closing.last) (cursor_of s - s.start) (drop s.start entries)
      (kept_by_drop (λ (e : Entry). e.number ≤ closing.last) s.start entries
      (no_higher 1 closing.last entries numbers
      (let many = length-map q.placed (λ (t : CellToken). t.entry) in omega (arith, many, last)))));
  tables = singly;
}
  where
    entries : List Entry
    entries = entries_told q.placed

    from : items_placed q.placed ≡ items_in entries
    from = sym (map-map (λ (e : Entry). e.item) (λ (t : CellToken). t.entry) q.placed)

    numbers : AreNumbered (λ (e : Entry). e.number) 1 entries
    numbers = entries_numbered cells 1 q.placed shows.shown

    last : closing.last ≡ length q.placed
    last = finishes.last ∙ finishes.many
