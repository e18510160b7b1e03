-- What is listed: a key's record is as its list says, and stays so where one record changes, joins or leaves.
use Rattle.std.proofs.Common.{◌≡◌, ℕ, ◌<◌, ◌&&◌, Bool, true, false, cond, List, map, get_or, eqb}
use Rattle.std.proofs.Common.{Option, Some, None, IfSome, IsSome, is_some, refl, sym, ap, ◌∙◌}
use Rattle.rb_deliveries.specs.declared.span.Status.{Status}
use Rattle.rb_deliveries.specs.declared.span.Status.TheVariants.{Ready, InFlight}
use Rattle.rb_deliveries.specs.declared.rank.Held.{Held}
use Rattle.rb_deliveries.specs.Spans.{is_ready, is_out}
use Rattle.rb_deliveries.specs.Subs.{IsGiven, IsNewest}
use Rattle.rb_deliveries.specs.Taken.{AreListed, lists_key, held_under, held_or, number_of, status_passes, slot_passes}
use Rattle.rb_deliveries.proofs.lists.KeyLaws.{SetsSlot, key_of_all}

pub both_hold : (a b : Bool) → (a && b) ≡ true → (a ≡ true) × (b ≡ true)
both_hold true b is = (refl, is)
both_hold false b is = absurd cc

-- what passes a test is there
pub passed_some : (test : Status → Bool) (slot : Option Held) → status_passes test slot ≡ true → IsSome slot
passed_some test None is = absurd cc
passed_some test (Some h) is = refl

pub passed_held : (test : Status → Bool) (slot : Option Held) → status_passes test slot ≡ true →
    test (held_or slot).span.status ≡ true
passed_held test None is = absurd cc
passed_held test (Some h) is = is

pub held_passes : (test : Status → Bool) (slot : Option Held) → IsSome slot →
    status_passes test slot ≡ test (held_or slot).span.status
held_passes test None some = absurd cc
held_passes test (Some h) some = refl

pub some_held : (slot : Option Held) → IsSome slot → slot ≡ Some (held_or slot)
some_held None some = absurd cc
some_held (Some h) some = refl

pub if_some_held : (P : Held → Type 0) (slot : Option Held) → IsSome slot → IfSome slot P → P (held_or slot)
if_some_held P None some holds = absurd cc
if_some_held P (Some h) some holds = holds

-- a status has a number below one that was issued later
pub less_given : (number : ℕ) (status : Status) → is_out status ≡ true → IsGiven number status →
    number_of status < number
less_given number (Ready taken) out given = absurd cc
less_given number (InFlight n moment) out given = given

module _ (slots : List (Option Held)) (ready out all : List ℕ) (listed : AreListed slots ready out all) (key : ℕ) where
  pub ready_key : lists_key key ready ≡ true → (lists_key key all ≡ true) × (slot_passes is_ready slots key ≡ true)
  ready_key there = both_hold (lists_key key all) (slot_passes is_ready slots key) (sym (listed.ready_keys key) ∙ there)

  pub out_key : lists_key key out ≡ true → (lists_key key all ≡ true) × (slot_passes is_out slots key ≡ true)
  out_key there = both_hold (lists_key key all) (slot_passes is_out slots key) (sym (listed.out_keys key) ∙ there)

  pub out_some : lists_key key out ≡ true → IsSome (get_or slots key None)
  out_some there = passed_some is_out (get_or slots key None) (out_key there).1

  -- a number that is the newest is greater than that of each key in flight
  pub out_less : (number : ℕ) → IsNewest number (map (held_under slots) all) → lists_key key out ≡ true →
      number_of (held_under slots key).span.status < number
  out_less number newest there =
      let k = out_key there in
      less_given number (held_under slots key).span.status (passed_held is_out (get_or slots key None) k.1)
      (key_of_all (λ h. IsGiven number h.span.status) (held_under slots) all key newest k.0)

-- what a list has of those that pass a test, after one key's record changed, joined or left
pub still_listed : (test : Status → Bool) (old new : List (Option Held)) (key : ℕ) (x : Option Held) (here : Bool)
    (listed more all new_all : List ℕ) → SetsSlot key x old new →
    ((other : ℕ) → lists_key other new_all ≡ cond (eqb key other) here (lists_key other all)) →
    ((other : ℕ) → lists_key other more ≡ cond (eqb key other) (here && status_passes test x)
    (lists_key other listed)) →
    ((other : ℕ) → lists_key other listed ≡ (lists_key other all && slot_passes test old other)) →
    (other : ℕ) → lists_key other more ≡ (lists_key other new_all && slot_passes test new other)
still_listed test old new key x here listed more all new_all sets are_all are were other =
    are other ∙ ap (cond (eqb key other) (here && status_passes test x)) (were other)
    ∙ by_key (eqb key other) (lists_key other all) (get_or old other None)
    ∙ (λ i. sym (are_all other) i && status_passes test (sym (sets other) i))
  where
    by_key : (b c : Bool) (slot : Option Held) → cond b (here && status_passes test x) (c && status_passes test slot)
        ≡ (cond b here c && status_passes test (cond b x slot))
    by_key true c slot = refl
    by_key false c slot = refl

-- all keys have a record, and no other, after one key's record changed, joined or left
pub still_all : (old new : List (Option Held)) (key : ℕ) (x : Option Held) (all new_all : List ℕ) →
    SetsSlot key x old new →
    ((other : ℕ) → lists_key other new_all ≡ cond (eqb key other) (is_some x) (lists_key other all)) →
    ((other : ℕ) → lists_key other all ≡ is_some (get_or old other None)) →
    (other : ℕ) → lists_key other new_all ≡ is_some (get_or new other None)
still_all old new key x all new_all sets are_all were other =
    are_all other ∙ ap (cond (eqb key other) (is_some x)) (were other)
    ∙ by_key (eqb key other) (get_or old other None) ∙ ap is_some (sym (sets other))
  where
    by_key : (b : Bool) (slot : Option Held) → cond b (is_some x) (is_some slot) ≡ is_some (cond b x slot)
    by_key true slot = refl
    by_key false slot = refl
