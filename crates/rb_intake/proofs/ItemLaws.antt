-- One more item among those of a publisher, and numbers that count up.
use Rattle.std.proofs.Common.{◌≡◌, ◌≢◌, ℕ, suc, ◌+◌, true, false, ◌==◌, List, [], ◌∷◌, ◌++◌, length, cond}
use Rattle.std.proofs.Common.{ap, ◌∙◌, inl, inr, subst, arith, refl, sym}
use Rattle.std.proofs.lemmas.Bool.Decides.{eqb_tells}
use Rattle.std.proofs.lemmas.List.Elements.{filter-append}
use Rattle.std.proofs.lemmas.List.{append-nil}
use Rattle.rb_sequence.specs.Item.{Item}
use Rattle.rb_sequence.specs.Items.{own_of, AreNumbered, CountsUp}

-- own numbers count up from 1, or from n
abbrev pub CountsFrom : ℕ → List Item → Type 0
CountsFrom n items = AreNumbered (λ (item : Item). item.own) n items

abbrev pub UpFromOne : List Item → Type 0
UpFromOne items = CountsFrom 1 items

pub own_append : (p : ℕ) (items more : List Item) → own_of p (items ++ more) ≡ own_of p items ++ own_of p more
own_append p items more = filter-append (λ (i : Item). i.publisher == p) items more

pub own_more : (p : ℕ) (items : List Item) (x : Item) → x.publisher ≡ p → own_of p (items ++ x ∷ [])
    ≡ own_of p items ++ x ∷ []
own_more p items x is = own_append p items (x ∷ []) ∙ ap (λ b. own_of p items ++ cond b (x ∷ []) []) (tested p x is)
  where
    tested : (p : ℕ) (x : Item) → x.publisher ≡ p → (x.publisher == p) ≡ true
    tested p x is = elim (eqb_tells x.publisher p) as (λ w. (x.publisher == p) ≡ true) [
      | inl same ↦ same.0
      | inr other ↦ absurd (other.1 is)
    ]

pub own_other : (p : ℕ) (items : List Item) (x : Item) → x.publisher ≢ p → own_of p (items ++ x ∷ []) ≡ own_of p items
own_other p items x isnt = own_append p items (x ∷ [])
    ∙ ap (λ b. own_of p items ++ cond b (x ∷ []) []) (tested p x isnt) ∙ append-nil (own_of p items)
  where
    tested : (p : ℕ) (x : Item) → x.publisher ≢ p → (x.publisher == p) ≡ false
    tested p x isnt = elim (eqb_tells x.publisher p) as (λ w. (x.publisher == p) ≡ false) [
      | inl same ↦ absurd (isnt same.1)
      | inr other ↦ other.0
    ]

pub numbered_more : (n : ℕ) (items : List Item) (x : Item) → CountsFrom n items → x.own ≡ n + length items
    → CountsFrom n (items ++ x ∷ [])
numbered_more n [] x all own = (omega (arith, own), tt)
numbered_more n (first ∷ items) x all own = (all.0, numbered_more (suc n) items x all.1 (omega (arith, own)))

pub own_numbers_front : (n : ℕ) (items more : List Item) → CountsFrom n (items ++ more) → CountsFrom n items
own_numbers_front n [] more all = tt
own_numbers_front n (item ∷ items) more all = (all.0, own_numbers_front (suc n) items more all.1)

-- what was pulled is numbered, if all that was sent is
pub numbered_pulled : (p : ℕ) (sent pulled waiting : List Item) → sent ≡ pulled ++ waiting → CountsUp p sent
    → CountsUp p pulled
numbered_pulled p sent pulled waiting is all = own_numbers_front 1 (own_of p pulled) (own_of p waiting)
    (subst UpFromOne (ap (own_of p) is ∙ own_append p pulled waiting) all)

-- nothing of a publisher in the front, if there is nothing of it in all
pub none_of_front : (p : ℕ) (front back : List Item) → own_of p (front ++ back) ≡ [] → own_of p front ≡ []
none_of_front p front back none = no_front (own_of p front) (own_of p back) (sym (own_append p front back) ∙ none)
  where
    no_front : (xs ys : List Item) → xs ++ ys ≡ [] → xs ≡ []
    no_front [] ys e = refl
    no_front (x ∷ xs) ys e = absurd (cc e)
