-- The items of one publisher among those of all, and numbers that count up.
use Rattle.std.specs.Prelude.{◌≡◌, ℕ, suc, List, [], ◌∷◌, ◌==◌}
use Rattle.std.specs.List.{filter}
use Rattle.rb_sequence.specs.Item.{Item}

-- the items of a publisher, in order
abbrev pub own_of : ℕ → List Item → List Item
own_of p items = filter (λ item. item.publisher == p) items

-- the items, or whatever has a number, are numbered from n
abbrev pub AreNumbered : {A : Type 0} → (A → ℕ) → ℕ → List A → Type 0
AreNumbered number n [] = Unit {0}
AreNumbered number n (x ∷ rest) = (number x ≡ n) × AreNumbered number (suc n) rest

-- a publisher's own numbers in these items count from 1
abbrev pub CountsUp : ℕ → List Item → Type 0
CountsUp p items = AreNumbered (λ item. item.own) 1 (own_of p items)
