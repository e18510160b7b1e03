-- How the lists stand after each step, and what that makes of the spans that they list.
use Rattle.std.proofs.Common.{◌≡◌, ℕ, ◌||◌, Bool, true, false, cond, List, [], ◌∷◌, ◌++◌, map, length, get_or, slice_get}
use Rattle.std.proofs.Common.{eqb, Option, Some, None, refl, sym, ap, subst, ◌∙◌, inl, inr, append-nil}
use Rattle.std.proofs.lemmas.Bool.Decides.{eqb_tells}
use Rattle.std.proofs.lemmas.List.Folds.{list_any-append}
use Rattle.link_lists.specs.declared.lane.Lane.TheVariants.{First, Second}
use Rattle.link_lists.specs.Lanes.{Lanes, ChangesSlot, StandsIn, emptied, with_lane, lane_keys, pushed_back}
use Rattle.link_lists.specs.Lanes.{without_key}
use Rattle.rb_deliveries.specs.declared.rank.Held.{Held}
use Rattle.rb_deliveries.specs.Taken.{AreKept, AreListed, AreWoven, lists_key, held_under, held_in, nth_list}
use Rattle.rb_deliveries.proofs.lists.KeyLaws.{SetsSlot, keys_but, has_not_but}

-- the lists of these lanes are these
pub record StandAs (lanes : Lanes Held) (slots : List (Option Held)) (ready out all : List ℕ) : Type 0 where
  pub slots_are : lanes.slots ≡ slots
  pub two_lists : lanes.first ≡ ready ∷ out ∷ []
  pub one_list : lanes.second ≡ all ∷ []

pub standing : (lanes : Lanes Held) → AreWoven lanes →
    StandAs lanes lanes.slots (nth_list 0 lanes.first) (nth_list 1 lanes.first) (nth_list 0 lanes.second)
standing lanes are = record { slots_are = refl; two_lists = are.two; one_list = are.one }

-- which list is which
pub second_there : (lanes : Lanes Held) → AreWoven lanes → slice_get lanes.second 0 ≡ Some (nth_list 0 lanes.second)
second_there lanes are = ap (λ (l : List (List ℕ)). slice_get l 0) are.one

pub out_there : (lanes : Lanes Held) → AreWoven lanes → slice_get lanes.first 1 ≡ Some (nth_list 1 lanes.first)
out_there lanes are = ap (λ (l : List (List ℕ)). slice_get l 1) are.two

module _ {lanes : Lanes Held} {slots : List (Option Held)} {ready out all : List ℕ}
    (stand : StandAs lanes slots ready out all) where
  -- what is listed is listed there
  pub records_stand : AreListed slots ready out all → AreWoven lanes
  records_stand listed = record {
    two = stand.two_lists ∙ sym (ap (λ l. nth_list 0 l ∷ nth_list 1 l ∷ []) stand.two_lists);
    one = stand.one_list ∙ sym (ap (λ l. nth_list 0 l ∷ []) stand.one_list);
    listed = subst (λ s. AreListed s (nth_list 0 lanes.first) (nth_list 1 lanes.first) (nth_list 0 lanes.second))
        (sym stand.slots_are)
        (subst (λ f. AreListed slots (nth_list 0 f) (nth_list 1 f) (nth_list 0 lanes.second)) (sym stand.two_lists)
        (subst (λ s. AreListed slots ready out (nth_list 0 s)) (sym stand.one_list) listed));
  }

  pub held_stand : held_in lanes ≡ map (held_under slots) all
  held_stand = ap (λ s. map (held_under s) (nth_list 0 lanes.second)) stand.slots_are
      ∙ ap (λ s. map (held_under slots) (nth_list 0 s)) stand.one_list

  pub out_stand : nth_list 1 lanes.first ≡ out
  out_stand = ap (nth_list 1) stand.two_lists

  -- a key of all stands in the second lane
  pub stands_second : (key : ℕ) → lists_key key all ≡ true → StandsIn key lanes.second
  stands_second key there =
      subst (StandsIn key) (sym stand.one_list) (ap (lists_key key) (append-nil all) ∙ there)

  pub not_among : (key : ℕ) → (StandsIn key lanes.second → ⊥) → lists_key key all ≡ false
  not_among key free = by_case (lists_key key all) refl
    where
      by_case : (b : Bool) → lists_key key all ≡ b → b ≡ false
      by_case true is = absurd (free (stands_second key is))
      by_case false is = refl

  -- ---- each step

  module _ {new : Lanes Held} where
    pub step_unlinked : (key : ℕ) → new ≡ with_lane First (without_key key lanes.first) lanes →
        StandAs new slots (keys_but key ready) (keys_but key out) all
    step_unlinked key is = record {
      slots_are = ap (λ (l : Lanes Held). l.slots) is ∙ stand.slots_are;
      two_lists = ap (λ (l : Lanes Held). l.first) is ∙ ap (without_key key) stand.two_lists;
      one_list = ap (λ (l : Lanes Held). l.second) is ∙ stand.one_list;
    }

    pub step_dropped : (key : ℕ) → new ≡ with_lane Second (without_key key lanes.second) lanes →
        StandAs new slots ready out (keys_but key all)
    step_dropped key is = record {
      slots_are = ap (λ (l : Lanes Held). l.slots) is ∙ stand.slots_are;
      two_lists = ap (λ (l : Lanes Held). l.first) is ∙ stand.two_lists;
      one_list = ap (λ (l : Lanes Held). l.second) is ∙ ap (without_key key) stand.one_list;
    }

    pub step_in_line : (key : ℕ) → new ≡ with_lane First (pushed_back 0 key lanes.first) lanes →
        StandAs new slots (ready ++ key ∷ []) out all
    step_in_line key is = record {
      slots_are = ap (λ (l : Lanes Held). l.slots) is ∙ stand.slots_are;
      two_lists = ap (λ (l : Lanes Held). l.first) is ∙ ap (pushed_back 0 key) stand.two_lists;
      one_list = ap (λ (l : Lanes Held). l.second) is ∙ stand.one_list;
    }

    pub step_in_flight : (key : ℕ) → new ≡ with_lane First (pushed_back 1 key lanes.first) lanes →
        StandAs new slots ready (out ++ key ∷ []) all
    step_in_flight key is = record {
      slots_are = ap (λ (l : Lanes Held). l.slots) is ∙ stand.slots_are;
      two_lists = ap (λ (l : Lanes Held). l.first) is ∙ ap (pushed_back 1 key) stand.two_lists;
      one_list = ap (λ (l : Lanes Held). l.second) is ∙ stand.one_list;
    }

    pub step_last : (key : ℕ) → new ≡ with_lane Second (pushed_back 0 key lanes.second) lanes →
        StandAs new slots ready out (all ++ key ∷ [])
    step_last key is = record {
      slots_are = ap (λ (l : Lanes Held). l.slots) is ∙ stand.slots_are;
      two_lists = ap (λ (l : Lanes Held). l.first) is ∙ stand.two_lists;
      one_list = ap (λ (l : Lanes Held). l.second) is ∙ ap (pushed_back 0 key) stand.one_list;
    }

    pub step_slots : (more : List (Option Held)) (spare : ℕ) → new ≡ record lanes { slots = more; spare = spare } →
        StandAs new more ready out all
    step_slots more spare is = record {
      slots_are = ap (λ (l : Lanes Held). l.slots) is;
      two_lists = ap (λ (l : Lanes Held). l.first) is ∙ stand.two_lists;
      one_list = ap (λ (l : Lanes Held). l.second) is ∙ stand.one_list;
    }

-- how many are in flight where a key was taken out of its list
pub out_left : (old new : Lanes Held) (key : ℕ) → AreWoven old →
    new ≡ with_lane First (without_key key old.first) old →
    length (nth_list 1 new.first) ≡ length (keys_but key (nth_list 1 old.first))
out_left old new key are is = ap length (out_stand (step_unlinked (standing old are) key is))

-- a key that was taken out of its list stands in none of the lane
pub stands_nowhere : (key : ℕ) (lane : List (List ℕ)) → StandsIn key (without_key key lane) → ⊥
stands_nowhere key [] stands = absurd cc
stands_nowhere key (keys ∷ lane) stands =
    stands_nowhere key lane
    (sym (list_any-append (eqb key) (keys_but key keys) (lane_keys (without_key key lane))
    ∙ ap (λ b. b || lists_key key (lane_keys (without_key key lane))) (has_not_but key keys)) ∙ stands)

pub slot_changed : (old new : Lanes Held) (key : ℕ) (x : Option Held) → ChangesSlot old new key x →
    SetsSlot key x old.slots new.slots
slot_changed old new key x changes other =
    elim (eqb_tells key other) [
      | inl same ↦
          subst (λ o. get_or new.slots o None ≡ x) same.1 changes.changed
          ∙ ap (λ b. cond b x (get_or old.slots other None)) (sym same.0)
      | inr differs ↦
          changes.others other (λ e. differs.1 (sym e))
          ∙ ap (λ b. cond b x (get_or old.slots other None)) (sym differs.0)
    ]

-- lanes without a value have no span
pub none_kept : (old new : Lanes Held) (spare : ℕ) → AreWoven old →
    new ≡ record { slots = []; first = emptied old.first; second = emptied old.second; spare = spare } →
    AreKept (Some new) 0 × (held_in new ≡ [])
none_kept old new spare are is =
    let stand : StandAs new [] [] [] [] = record {
      slots_are = ap (λ (l : Lanes Held). l.slots) is;
      two_lists = ap (λ (l : Lanes Held). l.first) is ∙ ap emptied are.two;
      one_list = ap (λ (l : Lanes Held). l.second) is ∙ ap emptied are.one;
    } in
    let listed : AreListed [] [] [] [] = record {
      ready_keys = λ key. refl;
      out_keys = λ key. refl;
      all_keys = λ key. refl;
      in_line = tt;
      by_number = tt;
    } in ((records_stand stand listed, sym (ap length (out_stand stand))), held_stand stand)
