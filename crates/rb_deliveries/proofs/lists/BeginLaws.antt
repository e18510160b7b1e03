-- The key of the span that begins with a number.
use Rattle.std.proofs.Common.{◌≡◌, ℕ, ◌==◌, Bool, true, false, List, get_or}
use Rattle.std.proofs.Common.{Option, None, IfSome, IsSome, inl, inr}
use Rattle.std.proofs.lemmas.Bool.Decides.{eqb_tells}
use Rattle.link_lists.specs.Lanes.{Lanes}
use Rattle.rb_deliveries.specs.declared.rank.Held.{Held}
use Rattle.rb_deliveries.specs.Taken.{NoSpanBegins, held_under, held_in, nth_list}
use Rattle.rb_deliveries.proofs.lists.KeyLaws.{all_keys}
use Rattle.rb_deliveries.proofs.lists.ListedLaws.{if_some_held}
use Rattle.rb_deliveries.proofs.lists.FindLaws.{NonePass}

-- whether the span under a key begins with this number
abbrev pub begins_key : List (Option Held) → ℕ → ℕ → Bool
begins_key slots first key = (held_under slots key).span.first == first

pub begins_here : (slots : List (Option Held)) (first key : ℕ) → begins_key slots first key ≡ true →
    (held_under slots key).span.first ≡ first
begins_here slots first key is =
    elim (eqb_tells (held_under slots key).span.first first) [ inl same ↦ same.1 | inr differs ↦ absurd cc ]

-- what a look at a record that is there says
pub begins_there : (slots : List (Option Held)) (first key : ℕ) (r : Bool) → IsSome (get_or slots key None) →
    IfSome (get_or slots key None) (λ h. r ≡ (h.span.first == first)) → r ≡ begins_key slots first key
begins_there slots first key r some is =
    if_some_held (λ h. r ≡ (h.span.first == first)) (get_or slots key None) some is

pub absent_begins : (lanes : Lanes Held) (first : ℕ) →
    NonePass (begins_key lanes.slots first) (nth_list 0 lanes.second) → NoSpanBegins first (held_in lanes)
absent_begins lanes first none =
    all_keys (λ h. (h.span.first == first) ≡ false) (held_under lanes.slots) (nth_list 0 lanes.second) none
