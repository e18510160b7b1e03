-- The earliest moment of spans in flight: in whatever order they are listed, it is the same.
use Rattle.std.proofs.Common.{◌≡◌, ℕ, ◌||◌, ◌&&◌, Bool, true, false, List, [], ◌∷◌, ◌++◌, map, get_or}
use Rattle.std.proofs.Common.{Option, Some, None, refl, sym, ap, subst, ◌∙◌, inl, inr, arith, if◌then◌else◌}
use Rattle.std.proofs.lemmas.Bool.Decides.{eqb_tells}
use Rattle.link_lists.specs.Lanes.{Lanes, AreLanes}
use Rattle.rb_deliveries.specs.declared.span.Status.{Status}
use Rattle.rb_deliveries.specs.declared.span.Status.TheVariants.{Ready, InFlight}
use Rattle.rb_deliveries.specs.declared.rank.Held.{Held}
use Rattle.rb_deliveries.specs.declared.rank.Rank.{Rank}
use Rattle.rb_deliveries.specs.Queues.{earlier}
use Rattle.rb_deliveries.specs.Spans.{is_out}
use Rattle.rb_deliveries.specs.Taken.{AreWoven, lists_key, held_under, held_in, nth_list, slot_passes}
use Rattle.rb_deliveries.specs.Waiting.{earliest, first_rank, moment_of}
use Rattle.rb_deliveries.proofs.orders.Line.{earlier_asymmetric, earlier_irreflexive, later_transitive}
use Rattle.rb_deliveries.proofs.orders.MomentLaws.{first_assoc}
use Rattle.rb_deliveries.proofs.lists.KeyLaws.{has_first, has_later}
use Rattle.rb_deliveries.proofs.lists.ListedLaws.{held_passes}
use Rattle.rb_deliveries.proofs.lists.OnceLaws.{all_there}

-- two ranks of which neither is earlier are one
pub one_rank : (a b : Rank) → earlier a b ≡ false → earlier b a ≡ false → a ≡ b
one_rank a b p q =
    let fronts : a.front ≡ b.front = grind arith in
    let turns : a.turn ≡ b.turn = grind arith in
    λ i. record { front = fronts i; turn = turns i }

-- ---- the earliest of some keys

module _ (slots : List (Option Held)) where
  abbrev pub moment_under : ℕ → Option Rank
  moment_under key = moment_of (held_under slots key).span.status

  -- with one more key behind
  pub earliest_more : (keys : List ℕ) (key : ℕ) → earliest (map (held_under slots) (keys ++ key ∷ []))
      ≡ first_rank (earliest (map (held_under slots) keys)) (moment_under key)
  earliest_more [] key = alone (moment_under key)
    where
      alone : (o : Option Rank) → first_rank o None ≡ o
      alone None = refl
      alone (Some t) = refl
  earliest_more (k ∷ keys) key =
      ap (first_rank (moment_under k)) (earliest_more keys key)
      ∙ sym (first_assoc (moment_under k) (earliest (map (held_under slots) keys)) (moment_under key))

  -- it is the moment of one of them, and none is earlier
  pub record IsSoonest (keys : List ℕ) (t : Rank) : Type 0 where
    pub key : ℕ
    pub there : lists_key key keys ≡ true
    pub moment : moment_under key ≡ Some t
    pub soonest : (other : ℕ) (u : Rank) → lists_key other keys ≡ true → moment_under other ≡ Some u →
        earlier u t ≡ false

  abbrev pub IsEarliest : List ℕ → Option Rank → Type 0
  IsEarliest keys None = (key : ℕ) → lists_key key keys ≡ true → moment_under key ≡ None
  IsEarliest keys (Some t) = IsSoonest keys t

  -- one of a list with one more in front
  of_first : (P : ℕ → Type 0) (k : ℕ) (keys : List ℕ) → P k → ((key : ℕ) → lists_key key keys ≡ true → P key) →
      (key : ℕ) → lists_key key (k ∷ keys) ≡ true → P key
  of_first P k keys first rest key there = elim (eqb_tells key k) [
    | inl same ↦ subst P (sym same.1) first
    | inr differs ↦ rest key (ap (λ b. b || lists_key key keys) (sym differs.0) ∙ there)
  ]

  -- a moment in front that none behind is earlier than
  front_soonest : (k : ℕ) (keys : List ℕ) (a : Rank) → moment_under k ≡ Some a →
      ((key : ℕ) (u : Rank) → lists_key key keys ≡ true → moment_under key ≡ Some u → earlier u a ≡ false) →
      IsEarliest (k ∷ keys) (Some a)
  front_soonest k keys a is rest = record {
    key = k;
    there = has_first k keys;
    moment = is;
    soonest = λ other u there moment. of_first (λ q. moment_under q ≡ Some u → earlier u a ≡ false) k keys
        (λ here. let same : Some a ≡ Some u = sym is ∙ here in
        let e : a ≡ u = cc in ap (λ x. earlier x a) (sym e) ∙ earlier_irreflexive a)
        (λ q among. rest q u among) other there moment;
  }

  soonest_first : (k : ℕ) (keys : List ℕ) (m o : Option Rank) → moment_under k ≡ m → IsEarliest keys o →
      IsEarliest (k ∷ keys) (first_rank m o)
  soonest_first k keys None None is rest = of_first (λ key. moment_under key ≡ None) k keys is rest
  soonest_first k keys None (Some t) is rest = record {
    key = rest.key;
    there = has_later rest.key k keys rest.there;
    moment = rest.moment;
    soonest = λ other u there moment. of_first (λ q. moment_under q ≡ Some u → earlier u t ≡ false) k keys
        (λ here. let clash : None ≡ Some u = sym is ∙ here in absurd cc)
        (λ q among. rest.soonest q u among) other there moment;
  }
  soonest_first k keys (Some a) None is rest =
      front_soonest k keys a is (λ q u among here. let clash : None ≡ Some u = sym (rest q among) ∙ here in absurd cc)
  soonest_first k keys (Some a) (Some t) is rest = by_rank (earlier t a) refl
    where
      by_rank : (b : Bool) → earlier t a ≡ b → IsEarliest (k ∷ keys) (if b then Some t else Some a)
      by_rank true sooner = record {
        key = rest.key;
        there = has_later rest.key k keys rest.there;
        moment = rest.moment;
        soonest = λ other u there moment. of_first (λ q. moment_under q ≡ Some u → earlier u t ≡ false) k keys
            (λ here. let same : Some a ≡ Some u = sym is ∙ here in
            let e : a ≡ u = cc in ap (λ x. earlier x t) (sym e) ∙ earlier_asymmetric t a sooner)
            (λ q among. rest.soonest q u among) other there moment;
      }
      by_rank false later =
          front_soonest k keys a is (λ q u among here. later_transitive u t a (rest.soonest q u among here) later)

  pub is_earliest : (keys : List ℕ) → IsEarliest keys (earliest (map (held_under slots) keys))
  is_earliest [] = λ key there. absurd cc
  is_earliest (k ∷ keys) =
      soonest_first k keys (moment_under k) (earliest (map (held_under slots) keys)) refl (is_earliest keys)

  -- lists with the same keys in flight have the same
  pub same_soonest : (xs ys : List ℕ) → ((key : ℕ) (t : Rank) → moment_under key ≡ Some t →
      lists_key key xs ≡ lists_key key ys) →
      (o p : Option Rank) → IsEarliest xs o → IsEarliest ys p → o ≡ p
  same_soonest xs ys same None None are rest = refl
  same_soonest xs ys same None (Some t) are rest =
      let clash : None ≡ Some t =
      sym (are rest.key (same rest.key t rest.moment ∙ rest.there)) ∙ rest.moment in absurd cc
  same_soonest xs ys same (Some t) None are rest =
      let clash : None ≡ Some t =
      sym (rest are.key (sym (same are.key t are.moment) ∙ are.there)) ∙ are.moment in absurd cc
  same_soonest xs ys same (Some t) (Some u) are rest =
      ap (λ (x : Rank). Some x) (one_rank t u
      (rest.soonest are.key t (sym (same are.key t are.moment) ∙ are.there) are.moment)
      (are.soonest rest.key u (same rest.key u rest.moment ∙ rest.there) rest.moment))

-- those in flight have the earliest moment of all
module _ (lanes : Lanes Held) (valid : AreLanes lanes) (are : AreWoven lanes) where
  flies : (status : Status) (t : Rank) → moment_of status ≡ Some t → is_out status ≡ true
  flies (Ready taken) t is = absurd cc
  flies (InFlight number moment) t is = refl

  same_keys : (key : ℕ) (t : Rank) → moment_of (held_under lanes.slots key).span.status ≡ Some t →
      lists_key key (nth_list 1 lanes.first) ≡ lists_key key (nth_list 0 lanes.second)
  same_keys key t moment = are.listed.out_keys key ∙ by_case (lists_key key (nth_list 0 lanes.second)) refl
    where
      by_case : (b : Bool) → lists_key key (nth_list 0 lanes.second) ≡ b → (b && slot_passes is_out lanes.slots key) ≡ b
      by_case false absent = refl
      by_case true there =
          held_passes is_out (get_or lanes.slots key None) (all_there lanes valid are key there)
          ∙ flies (held_under lanes.slots key).span.status t moment

  pub earliest_is : earliest (map (held_under lanes.slots) (nth_list 1 lanes.first)) ≡ earliest (held_in lanes)
  earliest_is =
      same_soonest lanes.slots (nth_list 1 lanes.first) (nth_list 0 lanes.second) same_keys
      (earliest (map (held_under lanes.slots) (nth_list 1 lanes.first))) (earliest (held_in lanes))
      (is_earliest lanes.slots (nth_list 1 lanes.first)) (is_earliest lanes.slots (nth_list 0 lanes.second))
