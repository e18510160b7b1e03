-- What the last pass pulled is no more than the all_are_joined publishers sent.
use Rattle.std.proofs.Common.{◌≡◌, ◌≢◌, ℕ, zero, suc, ◌+◌, ◌<◌, ◌≤◌, List, [], ◌∷◌, ◌++◌, length, cond, ◌⊎◌}
use Rattle.std.proofs.Common.{ap, ◌∙◌, inl, inr, sym, refl, subst, arith, ⊎_elim, Some, None}
use Rattle.std.specs.List.{AllByRecursion}
use Rattle.std.proofs.lemmas.Bool.Decides.{eqb_tells}
use Rattle.std.proofs.Common.{append_assoc}
use Rattle.std.proofs.lemmas.List.{length-append, append-nil}
use Rattle.rb_sequence.specs.Item.{Item}
use Rattle.rb_sequence.specs.Items.{own_of}
use Rattle.rb_intake.specs.Joined.{HasEndedAs, JoinedOnce}
use Rattle.rb_intake.specs.Passes.{total_sent, LastKnows, IsAllPulledAnd, AreOfJoined, Drains}
use Rattle.rb_intake.specs.Draining.{PopsLast}
use Rattle.rb_intake.specs.Rule.{IsPulledOr, AreBegun}
use Rattle.rb_intake.proofs.ItemLaws.{own_append}

-- an item in front is its publisher's, and no other's
pub own_head : (p : ℕ) (x : Item) (xs : List Item) → ((x.publisher ≡ p) × (own_of p (x ∷ xs) ≡ x ∷ own_of p xs))
    ⊎ ((x.publisher ≢ p) × (own_of p (x ∷ xs) ≡ own_of p xs))
own_head p x xs = elim (eqb_tells x.publisher p)
    as (λ _. ((x.publisher ≡ p) × (own_of p (x ∷ xs) ≡ x ∷ own_of p xs))
    ⊎ ((x.publisher ≢ p) × (own_of p (x ∷ xs) ≡ own_of p xs))) [
      | inl same ↦ inl (same.1, ap (λ b. cond b (x ∷ own_of p xs) (own_of p xs)) same.0)
      | inr other ↦ inr (other.1, ap (λ b. cond b (x ∷ own_of p xs) (own_of p xs)) other.0)
    ]

-- how many of these items are the all_are_joined publishers', joined_counted for each of them
abbrev pub total_own : List (ℕ × List Item) → List Item → ℕ
total_own [] xs = 0
total_own (e ∷ rest) xs = length (own_of e.0 xs) + total_own rest xs

total_own_grows : (ended : List (ℕ × List Item)) (x : Item) (xs : List Item) → total_own ended xs ≤ total_own ended (x ∷ xs)
total_own_grows [] x xs = omega arith
total_own_grows (e ∷ rest) x xs =
    let more = total_own_grows rest x xs in
    ⊎_elim (λ h. let here = ap length h.1 in omega (arith, here, more))
    (λ h. let here = ap length h.1 in omega (arith, here, more)) (own_head e.0 x xs)

total_own_counts : (ended : List (ℕ × List Item)) (x : Item) (xs : List Item) → HasEndedAs x.publisher ended
    → suc (total_own ended xs) ≤ total_own ended (x ∷ xs)
total_own_counts [] x xs has = absurd has
total_own_counts (e ∷ rest) x xs has =
    ⊎_elim (λ h. let here = ap length h.1 in let more = total_own_grows rest x xs in omega (arith, here, more))
    (λ h.
    let here = ap length h.1 in
    ⊎_elim (λ same. absurd (h.0 (sym same)))
    (λ later. let more = total_own_counts rest x xs later in omega (arith, here, more)) has) (own_head e.0 x xs)

joined_counted : (ended : List (ℕ × List Item)) (xs : List Item) → AreOfJoined ended xs → length xs ≤ total_own ended xs
joined_counted ended [] all = omega arith
joined_counted ended (x ∷ xs) all =
    let rest = joined_counted ended xs all.1 in
    let more = total_own_counts ended x xs all.0 in
    omega (arith, rest, more)

-- none is of a publisher that was never made, and all that were made are all_are_joined
all_are_joined : (ended : List (ℕ × List Item)) (made : ℕ) (xs : List Item) → ((p : ℕ) → p < made → HasEndedAs p ended)
    → ((p : ℕ) → made ≤ p → own_of p xs ≡ []) → AreOfJoined ended xs
all_are_joined ended made [] all none = tt
all_are_joined ended made (x ∷ xs) all none = (
  here,
  all_are_joined ended made xs all
      (λ p above. ⊎_elim (λ h. absurd (cc (h.1, none p above))) (λ h. sym h.1 ∙ none p above) (own_head p x xs)),
)
  where
    either : (a b : ℕ) → (a < b) ⊎ (b ≤ a)
    either a zero = inr (omega arith)
    either zero (suc b) = inl (omega arith)
    either (suc a) (suc b) = ⊎_elim (λ h. inl (omega (arith, h))) (λ h. inr (omega (arith, h))) (either a b)

    here : HasEndedAs x.publisher ended
    here = ⊎_elim (λ (below : x.publisher < made). all x.publisher below)
        (λ (above : made ≤ x.publisher). ⊎_elim (λ h. absurd (cc (h.1, none x.publisher above)))
        (λ h. absurd (h.0 refl)) (own_head x.publisher x xs)) (either x.publisher made)

joined_fit : (ended : List (ℕ × List Item)) (pulled waiting : List Item) → AllByRecursion (IsPulledOr pulled waiting) ended
    → total_own ended pulled ≤ total_sent ended
joined_fit [] pulled waiting all = omega arith
joined_fit (e ∷ rest) pulled waiting all =
    let more = joined_fit rest pulled waiting all.1 in
    let whole = ap length (all.0 ∙ own_append e.0 pulled waiting) in
    let parts = length-append (own_of e.0 pulled) (own_of e.0 waiting) in
    omega (arith, more, whole, parts)

-- what was pulled is no more than what was sent
pub pulled_fit : (ended : List (ℕ × List Item)) (made : ℕ) (pulled : List Item)
    → ((p : ℕ) → p < made → HasEndedAs p ended) → AreBegun pulled ended
    → ((p : ℕ) → made ≤ p → own_of p pulled ≡ []) → length pulled ≤ total_sent ended
pulled_fit ended made pulled all begun none =
    let few = joined_counted ended pulled (all_are_joined ended made pulled all none) in
    let most = joined_fit ended pulled begun.0 begun.1 in
    omega (arith, few, most)

-- ---- nobody was all_are_joined twice, so the all_are_joined ones' items are as many as all

not_counted : (ended : List (ℕ × List Item)) (x : Item) (xs : List Item) → (HasEndedAs x.publisher ended → ⊥)
    → total_own ended (x ∷ xs) ≡ total_own ended xs
not_counted [] x xs none = refl
not_counted (e ∷ rest) x xs none =
    let more = not_counted rest x xs (λ later. none (inr later)) in
    ⊎_elim (λ h. absurd (none (inl (sym h.0)))) (λ h. let here = ap length h.1 in omega (arith, here, more))
    (own_head e.0 x xs)

counted_once : (ended : List (ℕ × List Item)) (x : Item) (xs : List Item) → JoinedOnce ended
    → HasEndedAs x.publisher ended → total_own ended (x ∷ xs) ≡ suc (total_own ended xs)
counted_once [] x xs apart has = absurd has
counted_once (e ∷ rest) x xs apart has =
    ⊎_elim (λ h.
    let here = ap length h.1 in
    let more = not_counted rest x xs (λ later. apart.0 (subst (λ q. HasEndedAs q rest) h.0 later)) in
    omega (arith, here, more))
    (λ h.
    let here = ap length h.1 in
    ⊎_elim (λ same. absurd (h.0 (sym same)))
    (λ later. let more = counted_once rest x xs apart.1 later in omega (arith, here, more)) has) (own_head e.0 x xs)

none_own : (ended : List (ℕ × List Item)) → total_own ended [] ≡ 0
none_own [] = refl
none_own (e ∷ rest) = let more = none_own rest in omega (arith, more)

joined_exact : (ended : List (ℕ × List Item)) (xs : List Item) → JoinedOnce ended → AreOfJoined ended xs
    → total_own ended xs ≡ length xs
joined_exact ended [] apart all = none_own ended
joined_exact ended (x ∷ xs) apart all =
    let rest = joined_exact ended xs apart all.1 in
    let one = counted_once ended x xs apart all.0 in
    omega (arith, rest, one)

total_of_all : (ended : List (ℕ × List Item)) (xs : List Item) → AllByRecursion (λ e. e.1 ≡ own_of e.0 xs) ended
    → total_sent ended ≡ total_own ended xs
total_of_all [] xs all = refl
total_of_all (e ∷ rest) xs all =
    let here = ap length all.0 in
    let more = total_of_all rest xs all.1 in
    omega (arith, here, more)

-- ---- the loop

-- so far these items were pulled, and appended to the old ones
abbrev pub Draining : LastKnows → LastKnows → List Item → List Item → Type 0
Draining first now old items = (more : List Item) × (items ≡ old ++ more)
    × (now ≡ record first { pulled = first.pulled ++ more })

pub drain_begins : (first : LastKnows) (old : List Item) → Draining first first old old
drain_begins first old = ([], sym (append-nil old), ap (λ xs. record first { pulled = xs }) (sym (append-nil first.pulled)))

pub drain_goes_on : (first now new : LastKnows) (old items : List Item) (item : Item) → Draining first now old items
    → PopsLast (Some item) now new → Draining first new old (items ++ item ∷ [])
drain_goes_on first now new old items item so pop = (
  so.0 ++ item ∷ [],
  ap (λ xs. xs ++ item ∷ []) so.1 ∙ append_assoc old so.0 (item ∷ []),
  pop.0 ∙ ap (λ (p : LastKnows). record p { pulled = p.pulled ++ item ∷ [] }) so.2
      ∙ ap (λ xs. record first { pulled = xs }) (append_assoc first.pulled so.0 (item ∷ [])),
)

pub drained : (first now new : LastKnows) (old items : List Item) → Draining first now old items
    → ((p : ℕ) → p < first.made → HasEndedAs p first.ended) → PopsLast None now new → Drains first old items new
drained first now new old items so all pop = (
  so.0,
  so.1,
  pop.0 ∙ so.2,
  whole,
  theirs,
  sym (joined_exact first.ended (first.pulled ++ so.0) apart theirs)
      ∙ sym (total_of_all first.ended (first.pulled ++ so.0) whole),
)
  where
    whole : AllByRecursion (λ e. e.1 ≡ own_of e.0 (first.pulled ++ so.0)) first.ended
    whole = subst (λ xs. AllByRecursion (λ e. e.1 ≡ own_of e.0 xs) first.ended) (append-nil (first.pulled ++ so.0))
        (subst (λ (p : LastKnows). IsAllPulledAnd p []) (pop.0 ∙ so.2) pop.1)

    theirs : AreOfJoined first.ended (first.pulled ++ so.0)
    theirs = all_are_joined first.ended first.made (first.pulled ++ so.0) all
        (subst (λ (p : LastKnows). (q : ℕ) → p.made ≤ q → own_of q p.pulled ≡ []) (pop.0 ∙ so.2) pop.2)

    apart : JoinedOnce first.ended
    apart = subst (λ (p : LastKnows). JoinedOnce p.ended) (pop.0 ∙ so.2) pop.3

-- one more was pulled, so fewer than all were pulled before
pub pulls_fit : (first now new : LastKnows) (old items : List Item) (item : Item) → Draining first now old items
    → ((p : ℕ) → p < first.made → HasEndedAs p first.ended) → PopsLast (Some item) now new
    → suc (length now.pulled) ≤ total_sent first.ended
pulls_fit first now new old items item so all pop =
    let is : new ≡ record first { pulled = new.pulled } =
    pop.0 ∙ ap (λ (p : LastKnows). record p { pulled = p.pulled ++ item ∷ [] }) so.2
    ∙ ap (λ xs. record first { pulled = xs }) (sym (ap (λ (p : LastKnows). p.pulled) (pop.0 ∙ ap (λ (p : LastKnows). record p { pulled = p.pulled ++ item ∷ [] }) so.2))) in
    let fit = pulled_fit first.ended first.made new.pulled all
    (subst (λ es. AreBegun new.pulled es) (ap (λ (p : LastKnows). p.ended) is) pop.1)
    (λ p above. pop.2 p (subst (λ m. m ≤ p) (sym (ap (λ (p : LastKnows). p.made) is)) above)) in
    let longer = ap (λ (p : LastKnows). length p.pulled) pop.0 in
    let parts = length-append now.pulled (item ∷ []) in
    omega (arith, fit, longer, parts)
