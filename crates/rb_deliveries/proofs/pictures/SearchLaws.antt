-- Which span is delivered first: the first in line of those whose subscription has room, as the ready order names it.
use Rattle.std.proofs.Common.{◌≡◌, ℕ, ◌+◌, ◌≤◌, false, cond, List, [], map, Option, Some, None, option_map, find}
use Rattle.std.proofs.Common.{slice_get, nat_lt, refl, sym, ap, subst, ◌∙◌, arith}
use Rattle.std.specs.List.{AllByRecursion}
use Rattle.std.proofs.lemmas.Option.{slice_get-map}
use Rattle.rb_deliveries.specs.declared.span.Span.{Span}
use Rattle.rb_deliveries.specs.declared.rank.Held.{Held}
use Rattle.rb_deliveries.specs.declared.sub.Sub.{Sub}
use Rattle.rb_deliveries.specs.Spans.{how_many_out}
use Rattle.rb_deliveries.specs.Queues.{AreRising, spans_of, queue_held, least}
use Rattle.rb_deliveries.specs.Orders.{order, ready_at}
use Rattle.rb_deliveries.specs.Subs.{Belongs, IsDeliverable, first_to_deliver, span_to_deliver, sub_held}
use Rattle.rb_deliveries.specs.Picture.{Subscription}
use Rattle.rb_deliveries.specs.Changes.{first_of_all, has_room_of, span_at, span_of, span_numbered}
use Rattle.rb_deliveries.specs.Pictured.{pictured, pictured_sub}
use Rattle.rb_deliveries.proofs.orders.CandidateLaws.{candidates, roomy, first_of_subs, least_found}
use Rattle.rb_deliveries.proofs.orders.CandidateLaws.{find_order}
use Rattle.rb_deliveries.proofs.pictures.OpenLaws.{IsOpen}
use Rattle.rb_deliveries.proofs.spans.FirstLaws.{tagged_to_go, candidates_are, first_goes, goes_open, none_some}
use Rattle.rb_deliveries.proofs.spans.FoundLaws.{may_go_least}
use Rattle.rb_deliveries.proofs.subs.KnownLaws.{all_get}

-- what is found in the ready order is the first of what the subscriptions with room offer
find_ready : (batch window front number : ℕ) (subs : List Sub)
    → find (has_room_of (map (pictured_sub batch front) subs) window) (order ready_at (map (sub_held batch front) subs))
    ≡ option_map (λ e. e.1) (candidates batch front
    (λ sub. nat_lt (how_many_out (spans_of (queue_held batch front sub.queue))) window) 0 subs)
find_ready batch window front number subs =
    find_order ready_at (has_room_of all window) (map (sub_held batch front) subs)
    ∙ ap (option_map (λ e. e.1))
    (first_of_subs batch front (has_room_of all window) (roomy batch front window) 0 subs own)
  where
    all : List Subscription
    all = map (pictured_sub batch front) subs

    own : (k i : ℕ) (sub : Sub) → k ≡ 0 + i → slice_get subs i ≡ Some sub → sub.closed ≡ false → (first : ℕ)
        → has_room_of all window (k, first) ≡ roomy batch front window sub
    own k i sub is found opened first =
        let same : k ≡ i = omega (arith, is) in
        let seen : slice_get (map (pictured_sub batch front) subs) k ≡ Some (pictured_sub batch front sub) =
        ap (slice_get (map (pictured_sub batch front) subs)) same ∙ slice_get-map (pictured_sub batch front) subs i
        ∙ ap (option_map (pictured_sub batch front)) found in
        rw seen (ap (λ c. nat_lt (how_many_out (spans_of (cond c [] (queue_held batch front sub.queue)))) window)
        opened)

-- the subscription of the first of all is open, and the span may be delivered
pub record MayGo (batch front turn number : ℕ) (subs : List Sub) (s : ℕ) (span : Span) : Type 0 where
  pub sub : Sub
  pub opened : IsOpen batch front turn number subs s sub
  pub may : IsDeliverable batch front sub.queue span

pair_same : (c : ℕ × Span) (s : ℕ) (span : Span) → Some c ≡ Some (s, span) → (c.0 ≡ s) × (c.1 ≡ span)
pair_same c s span h =
    let same : c ≡ (s, span) = cc in (ap (λ (c : ℕ × Span). c.0) same, ap (λ (c : ℕ × Span). c.1) same)

module _ (batch window front turn number : ℕ) (subs : List Sub) (one : 1 ≤ batch)
    (b : AllByRecursion (Belongs front turn number) subs) (rise : AllByRecursion (λ sub. AreRising sub.queue) subs) where
  goes_at : (c : ℕ × Held) → first_to_deliver window batch front 0 subs ≡ Some c
      → (sub : Sub) × IsOpen batch front turn number subs c.0 sub × (least (queue_held batch front sub.queue) ≡ Some c.1)
  goes_at c is =
      let g = first_goes window batch front 0 subs c is in
      let here : slice_get subs c.0 ≡ Some g.1 = subst (λ k. slice_get subs k ≡ Some g.1) (omega (arith, g.2)) g.3 in
      let o = goes_open window batch front g.1 c.1 g.4 in (
        g.1,
        record {
          one = one;
          belong = b;
          found = here;
          is_open = o.0;
          rises = all_get (λ (sub : Sub). AreRising sub.queue) subs c.0 g.1 rise here;
        },
        o.1,
      )

  -- the search finds the first of all
  pub first_is : option_map span_to_deliver (first_to_deliver window batch front 0 subs)
      ≡ first_of_all (pictured batch window front number subs)
  first_is = by (first_to_deliver window batch front 0 subs) refl
    where
      all : List Subscription
      all = map (pictured_sub batch front) subs

      found : (o : Option (ℕ × Held)) → first_to_deliver window batch front 0 subs ≡ o
          → find (has_room_of all window) (order ready_at (map (sub_held batch front) subs))
          ≡ option_map (λ e. e.1) (option_map tagged_to_go o)
      found o is = find_ready batch window front number subs
          ∙ ap (option_map (λ e. e.1)) (candidates_are window batch front 0 subs ∙ ap (option_map tagged_to_go) is)

      by : (o : Option (ℕ × Held)) → first_to_deliver window batch front 0 subs ≡ o
          → option_map span_to_deliver o ≡ first_of_all (pictured batch window front number subs)
      by None is = sym (ap (span_at all) (found None is))
      by (Some c) is =
          let g = goes_at c is in
          let o = g.1 in
          let next = (all_get (Belongs front turn number) subs c.0 g.0 b o.found).is_next in
          sym (ap (span_at all) (found (Some c) is)
          ∙ ap (span_of c.0 c.1.span.first)
          (slice_get-map (pictured_sub batch front) subs c.0 ∙ ap (option_map (pictured_sub batch front)) o.found)
          ∙ ap (span_numbered c.0) (least_found batch front g.0 c.1 one next o.rises o.is_open g.2))

  -- the first of all may be delivered
  pub first_goes_of : (s : ℕ) (span : Span) → first_of_all (pictured batch window front number subs) ≡ Some (s, span)
      → MayGo batch front turn number subs s span
  first_goes_of s span first = by (first_to_deliver window batch front 0 subs) refl (first_is ∙ first)
    where
      by : (o : Option (ℕ × Held)) → first_to_deliver window batch front 0 subs ≡ o
          → option_map span_to_deliver o ≡ Some (s, span) → MayGo batch front turn number subs s span
      by None is e = absurd (none_some e)
      by (Some c) is e =
          let same = pair_same (span_to_deliver c) s span e in
          let g = goes_at c is in
          record {
            sub = g.0;
            opened = subst (λ k. IsOpen batch front turn number subs k g.0) same.0 g.1;
            may = subst (λ (span : Span). IsDeliverable batch front g.0.queue span) same.1
                (may_go_least batch front g.0.queue c.1 one g.2);
          }
