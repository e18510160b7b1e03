-- Each call of `Deliveries`: what it finds in what is stored, what is stored after it, and the picture after it.
use Rattle.std.proofs.Common.{◌≡◌, ◌⊎◌, inl, inr, ℕ, suc, ◌+◌, ◌≤◌, ◌<◌, true, false, List, [], ◌∷◌, ◌++◌, map, length}
use Rattle.std.proofs.Common.{Result, Ok, Err, OnErr, Some, slice_get, slice_set}
use Rattle.std.proofs.Common.{sym, ap, subst, ◌∙◌, arith}
use Rattle.std.specs.List.{AllByRecursion}
use Rattle.std.proofs.lemmas.List.{length-append, length-map}
use Rattle.rb_deliveries.specs.declared.span.Span.{Span}
use Rattle.rb_deliveries.specs.declared.sub.Sub.{Sub}
use Rattle.rb_deliveries.specs.declared.rank.Rank.{Rank}
use Rattle.rb_deliveries.specs.Changes.{IsOutTo, MayContinue, MayDeliver, acked_to, all_expired, delivered_to}
use Rattle.rb_deliveries.specs.Changes.{first_of_all, grown_picture, nacked_to, opened_to, reconnected_spans}
use Rattle.rb_deliveries.specs.Changes.{subscribed_spans, unsubscribed_from}
use Rattle.rb_deliveries.specs.Expiry.{by_number, expired_sub, turns_from}
use Rattle.rb_deliveries.specs.KeptSubs.{KeptSubs}
use Rattle.rb_deliveries.specs.Queues.{AreRising, HasNumbers, HeldRise, Queue, queue_floor, most_numbers, settled_queue}
use Rattle.rb_deliveries.specs.Queues.{spans_of}
use Rattle.rb_deliveries.specs.Opening.{opened_sub}
use Rattle.rb_deliveries.specs.Picture.{DeliveriesSeen, DeliveryPicture, Subscription}
use Rattle.rb_deliveries.specs.Pictured.{DeliveriesAgree, pictured, pictured_sub}
use Rattle.rb_deliveries.specs.Spans.{cut_spans, first_ready, floor_of, is_fresh, out_as, without_first}
use Rattle.rb_deliveries.specs.Subs.{Belongs, IsDeliverable, closed_sub, delivered_sub, new_sub}
use Rattle.rb_deliveries.specs.Subs.{reconnected_sub, returned_sub, settled_sub}
use Rattle.rb_deliveries.proofs.spans.FoundLaws.{may_go_first, out_as_held}
use Rattle.rb_deliveries.proofs.spans.QueueChanges.{held_span, may_go_span}
use Rattle.rb_deliveries.proofs.spans.CutLaws.{CutIsFresh, cut_fresh}
use Rattle.rb_deliveries.proofs.subs.ExpiredLaws.{belongs_turned_back}
use Rattle.rb_deliveries.proofs.subs.KnownLaws.{all_get, few_map, few_set}
use Rattle.rb_deliveries.proofs.pictures.OpenLaws.{IsOpen}
use Rattle.rb_deliveries.proofs.pictures.OutLaws.{out_as_is, out_running, ready_running}
use Rattle.rb_deliveries.proofs.pictures.StoredLaws.{of_stored, slice_get_there, stored}
use Rattle.rb_deliveries.proofs.pictures.SearchLaws.{MayGo, first_goes_of}
use Rattle.rb_deliveries.proofs.pictures.HandLaws.{handed_pictured, belongs_handed, returned_as, belongs_returned}
use Rattle.rb_deliveries.proofs.pictures.HandLaws.{settled_as, settled_floor, belongs_settled}
use Rattle.rb_deliveries.proofs.pictures.HandLaws.{belongs_opened, opened_as, out_numbers}
use Rattle.rb_deliveries.proofs.pictures.CuttingLaws.{subscribed_pictured, belongs_subscribed, reconnected_pictured}
use Rattle.rb_deliveries.proofs.pictures.CuttingLaws.{belongs_reconnected, unsubscribed_pictured, belongs_unsubscribed}
use Rattle.rb_deliveries.proofs.pictures.PlaceLaws.{belongs_placed, placed_pictured}
use Rattle.rb_deliveries.proofs.pictures.ExpireShown.{all_expired_pictured}

-- one more
pub suc_is_more : (n : ℕ) → n + 1 ≡ suc n
suc_is_more n = omega arith

-- what holds anyhow holds where there is an error
pub on_any_error : {A E P : Type 0} (answer : Result A E) → P → OnErr answer P
on_any_error (Ok done) p = tt
on_any_error (Err why) p = p

abbrev pub AllRise : List Sub → Type 0
AllRise subs = AllByRecursion (λ sub. AreRising sub.queue) subs

-- a span that is in flight to a stored subscription, which is open
pub record IsOutOf (batch front turn number : ℕ) (subs : List Sub) (s : ℕ) (span : Span) : Type 0 where
  pub sub : Sub
  pub opened : IsOpen batch front turn number subs s sub
  pub delivery : ℕ
  pub out : out_as delivery (spans_of sub.queue.held) ≡ Some span

-- the view of what is stored
abbrev view_with : ℕ → DeliveryPicture → DeliveriesSeen
view_with turn picture = record { picture = picture; turns = turn }

abbrev pub view_of : ℕ → ℕ → ℕ → ℕ → ℕ → List Sub → DeliveriesSeen
view_of batch window front turn number subs =
    record { picture = pictured batch window front number subs; turns = turn }

-- what is known of the subscriptions is known of what keeps them
agree_by : (batch front turn number window : ℕ) (subs : List Sub) (new : KeptSubs)
    → new ≡ record { window = window; subs = subs } → DeliveriesAgree batch front turn number subs
    → DeliveriesAgree batch front turn number new.subs
agree_by batch front turn number window subs new is k =
    subst (λ (n : KeptSubs). DeliveriesAgree batch front turn number n.subs) (sym is) k

view_by : (batch front turn number window : ℕ) (subs : List Sub) (new : KeptSubs)
    → new ≡ record { window = window; subs = subs } → (picture : DeliveryPicture)
    → pictured batch window front number subs ≡ picture
    → view_of batch new.window front turn number new.subs ≡ record { picture = picture; turns = turn }
view_by batch front turn number window subs new is picture shows =
    ap (λ (n : KeptSubs). view_of batch n.window front turn number n.subs) is
    ∙ ap (view_with turn) shows

-- a call that left a changed subscription in the place of the one there
abbrev pub LeavesChanged : ℕ → List Sub → ℕ → (Sub → Sub) → KeptSubs → Type 0
LeavesChanged window subs s change new =
    (sub : Sub) → slice_get subs s ≡ Some sub → new ≡ record { window = window; subs = slice_set subs s (change sub) }

-- what is stored after a call on subscription s agrees with the turns and the deliveries' numbers then, and the
-- picture is what the call's definition makes of the subscription
abbrev pub Gives : ℕ → ℕ → List Sub → ℕ → ℕ → ℕ → KeptSubs → (Subscription → DeliveryPicture) → Type 0
Gives batch front subs turn number s new made =
    DeliveriesAgree batch front turn number new.subs
    × ((q : Subscription) → slice_get (map (pictured_sub batch front) subs) s ≡ Some q
    → view_of batch new.window front turn number new.subs ≡ record { picture = made q; turns = turn })

-- the same, where one more turn was drawn
abbrev pub GivesNext : ℕ → ℕ → List Sub → ℕ → ℕ → ℕ → KeptSubs → (Subscription → DeliveryPicture) → Type 0
GivesNext batch front subs turn number s new made =
    DeliveriesAgree batch front (turn + 1) number new.subs
    × ((q : Subscription) → slice_get (map (pictured_sub batch front) subs) s ≡ Some q
    → view_of batch new.window front (turn + 1) number new.subs ≡ record { picture = made q; turns = suc turn })

module _ {batch front turn number : ℕ} {subs : List Sub} (k : DeliveriesAgree batch front turn number subs)
    (window : ℕ) where
  abbrev old : DeliveryPicture
  old = pictured batch window front number subs

  -- the ranks of the last turn drawn, and of the next
  abbrev pub latest_rank : Rank
  latest_rank = record { front = front; turn = turn }

  abbrev pub next_rank : Rank
  next_rank = record { front = front; turn = suc turn }

  -- what is stored with a new subscription, and after deliveries expired
  abbrev pub with_new : ℕ → ℕ → Rank → KeptSubs
  with_new start link rank = record { window = window; subs = subs ++ new_sub start link rank ∷ [] }

  abbrev pub with_expired : ℕ → ℕ → Rank → KeptSubs
  with_expired timeout clock latest = record {
    window = window;
    subs = map (expired_sub timeout clock (by_number (turns_from latest.front latest.turn))) subs;
  }

  gives : (turn' number' s : ℕ) (new : KeptSubs) (made : Subscription → DeliveryPicture) (change : Sub → Sub)
      (sub : Sub) → slice_get subs s ≡ Some sub → LeavesChanged window subs s change new
      → AllByRecursion (Belongs front turn' number') (slice_set subs s (change sub))
      → pictured batch window front number' (slice_set subs s (change sub)) ≡ made (pictured_sub batch front sub)
      → Gives batch front subs turn' number' s new made
  gives turn' number' s new made change sub found left belong shows = (
    agree_by batch front turn' number' window (slice_set subs s (change sub)) new (left sub found)
        (record {
          batch_is = k.batch_is;
          front_is = k.front_is;
          belong = belong;
          few = few_set subs s (change sub) k.few;
        }),
    of_stored batch front subs s
        (λ q. view_of batch new.window front turn' number' new.subs ≡ record { picture = made q; turns = turn' })
        sub found
        (view_by batch front turn' number' window (slice_set subs s (change sub)) new (left sub found)
        (made (pictured_sub batch front sub)) shows),
  )

  gives_next : (s : ℕ) (new : KeptSubs) (made : Subscription → DeliveryPicture)
      → Gives batch front subs (suc turn) number s new made → GivesNext batch front subs turn number s new made
  gives_next s new made g = (
    subst (λ n. DeliveriesAgree batch front n number new.subs) (sym (suc_is_more turn)) g.0,
    λ q at. ap (λ n. view_of batch new.window front n number new.subs) (suc_is_more turn) ∙ g.1 q at,
  )

  -- ---- subscriptions are made and go on

  pub subscribed_kept : (start link : ℕ) (rank : Rank) (new : KeptSubs) → start ≤ front
      → length (map (pictured_sub batch front) subs) < 1024 → rank ≡ next_rank → new ≡ with_new start link rank
      → DeliveriesAgree batch front (turn + 1) number new.subs
  subscribed_kept start link rank new le few drawn is =
      subst (λ n. DeliveriesAgree batch front n number new.subs) (sym (suc_is_more turn))
      (agree_by batch front (suc turn) number window _ new (is ∙ ap (with_new start link) drawn) (record {
        batch_is = k.batch_is;
        front_is = k.front_is;
        belong = belongs_subscribed front turn link number start subs le k.belong;
        few = omega (
          arith,
          few,
          length-map subs (pictured_sub batch front),
          length-append subs (new_sub start link next_rank ∷ []),
        );
      }))

  pub subscribed_seen : (start link : ℕ) (rank : Rank) (new : KeptSubs)
      → rank ≡ next_rank → new ≡ with_new start link rank
      → view_of batch new.window front (turn + 1) number new.subs
      ≡ record { picture = subscribed_spans old start (cut_spans batch (suc start) front) link; turns = suc turn }
  subscribed_seen start link rank new drawn is =
      ap (λ n. view_of batch new.window front n number new.subs) (suc_is_more turn)
      ∙ view_by batch front (suc turn) number window _ new (is ∙ ap (with_new start link) drawn) _
      (subscribed_pictured batch window front turn link number start subs k.batch_is.0 k.belong)

  continues : (s cursor : ℕ) → MayContinue old s cursor
      → (sub : Sub) × (slice_get subs s ≡ Some sub) × (sub.closed ≡ false) × (cursor ≤ front)
  continues s cursor t =
      let at = stored batch front subs s t.sub t.found in
      let offered = (all_get (Belongs front turn number) subs s at.sub k.belong at.found).is_offered in
      let same : at.sub.offered ≡ t.sub.offered = ap (λ (q : Subscription). q.offered) at.same in (
        at.sub,
        at.found,
        ap (λ (q : Subscription). q.closed) at.same ∙ t.is_open,
        omega (arith, t.to, same, offered),
      )

  pub continues_placed : (s cursor : ℕ) → MayContinue old s cursor → cursor ≤ most_numbers
  continues_placed s cursor t = omega (arith, (continues s cursor t).3, k.front_is)

  pub reconnects : (s cursor link : ℕ) (rank : Rank) (new : KeptSubs) → MayContinue old s cursor
      → rank ≡ next_rank → LeavesChanged window subs s (λ sub. reconnected_sub sub cursor link rank) new
      → GivesNext batch front subs turn number s new
      (λ q. reconnected_spans old s q cursor (cut_spans batch (suc cursor) front) link)
  reconnects s cursor link rank new t drawn left =
      let at = continues s cursor t in
      gives_next s new (λ q. reconnected_spans old s q cursor (cut_spans batch (suc cursor) front) link)
      (gives (suc turn) number s new (λ q. reconnected_spans old s q cursor (cut_spans batch (suc cursor) front) link)
      (λ sub. reconnected_sub sub cursor link next_rank) at.0 at.1
      (subst (λ (t : Rank). LeavesChanged window subs s (λ sub. reconnected_sub sub cursor link t) new) drawn left)
      (belongs_reconnected front turn link number s cursor subs at.0 at.3 k.belong at.1)
      (reconnected_pictured batch window front turn link number s cursor subs at.0 k.batch_is.0 k.belong at.1 at.2))

  -- ---- a number is placed

  pub placed_kept : suc front ≤ most_numbers → DeliveriesAgree batch (suc front) turn number subs
  placed_kept room = record {
    batch_is = k.batch_is;
    front_is = room;
    belong = belongs_placed front turn number subs k.belong;
    few = k.few;
  }

  pub placed_seen : view_of batch window (suc front) turn number subs
      ≡ record { picture = grown_picture old; turns = turn }
  placed_seen = ap (view_with turn) (placed_pictured batch window front turn number subs k.batch_is.0 k.belong)

  module _ (rise : AllRise subs) where
    is_one : (s : ℕ) (sub : Sub) → slice_get subs s ≡ Some sub → sub.closed ≡ false
        → IsOpen batch front turn number subs s sub
    is_one s sub found running = record {
      one = k.batch_is.0;
      belong = k.belong;
      found = found;
      is_open = running;
      rises = all_get (λ (sub : Sub). AreRising sub.queue) subs s sub rise found;
    }

    out_of : (s : ℕ) (span : Span) → IsOutTo old s span → IsOutOf batch front turn number subs s span
    out_of s span t =
        let at = stored batch front subs s t.sub t.found in
        let out = out_running t.delivery at.sub span
        (sym (out_as_is batch front t.delivery at.sub) ∙ ap (λ (q : Subscription). out_as t.delivery q.spans) at.same
        ∙ t.out) in
        record {
          sub = at.sub;
          opened = is_one s at.sub at.found out.0;
          delivery = t.delivery;
          out = out.1;
        }

    goes_by : (s : ℕ) (span : Span) (q : Subscription) → slice_get (map (pictured_sub batch front) subs) s ≡ Some q
        → (first_ready q.spans ≡ Some span) ⊎ (first_of_all old ≡ Some (s, span))
        → MayGo batch front turn number subs s span
    goes_by s span q found (inl first) =
        let at = stored batch front subs s q found in
        let ready = ready_running batch front at.sub span
        (ap (λ (q : Subscription). first_ready q.spans) at.same ∙ first) in
        record {
          sub = at.sub;
          opened = is_one s at.sub at.found ready.0;
          may = may_go_first batch front at.sub.queue span ready.1;
        }
    goes_by s span q found (inr first) =
        first_goes_of batch window front turn number subs k.batch_is.0 k.belong rise s span first

    goes_to : (s : ℕ) (span : Span) → MayDeliver old s span → MayGo batch front turn number subs s span
    goes_to s span t = goes_by s span t.sub t.found t.first

    -- ---- a span is delivered

    pub goes_numbered : (s : ℕ) (span : Span) → MayDeliver old s span → HasNumbers span
    goes_numbered s span t =
        let g = goes_to s span t in
        let next = (all_get (Belongs front turn number) subs s g.sub k.belong g.opened.found).is_next in
        let at = may_go_span batch front 1 g.sub.queue span k.batch_is.0 next g.opened.rises g.may in
        (at.0, omega (arith, at.1, k.front_is))

    -- and it was never delivered, where it begins with the first number of those
    fresh_by : (kept : Queue) (span : Span) → HeldRise 1 kept.held kept.next → IsDeliverable batch front kept span
        → span.first ≡ kept.next → is_fresh span.status ≡ true
    fresh_by kept span rises (inl held) e = absurd (omega (arith, held_span 1 kept span rises held.0, e))
    fresh_by kept span rises (inr found) e =
        ap is_fresh
        (all_get CutIsFresh (cut_spans batch kept.next front) 0 span (cut_fresh batch kept.next front) found)

    pub only_fresh : (s : ℕ) (span : Span) → MayDeliver old s span
        → ((sub : Sub) → slice_get subs s ≡ Some sub → span.first ≡ sub.queue.next) → is_fresh span.status ≡ true
    only_fresh s span t next =
        let g = goes_to s span t in
        fresh_by g.sub.queue span g.opened.rises g.may (next g.sub g.opened.found)

    pub delivers : (s : ℕ) (span : Span) (tick : ℕ) (new : KeptSubs) → MayDeliver old s span
        → LeavesChanged window subs s (λ sub. delivered_sub sub span number tick) new
        → Gives batch front subs turn (suc number) s new (λ q. delivered_to old s q span tick)
    delivers s span tick new t left =
        let g = goes_to s span t in
        gives turn (suc number) s new (λ q. delivered_to old s q span tick) (λ sub. delivered_sub sub span number tick)
        g.sub g.opened.found left
        (belongs_handed batch window front turn number subs s g.sub g.opened tick span g.may)
        (handed_pictured batch window front turn number subs s g.sub g.opened tick span g.may)

    -- ---- a span is acknowledged

    pub acks : (s : ℕ) (span : Span) (new : KeptSubs) → IsOutTo old s span
        → LeavesChanged window subs s (λ sub. settled_sub sub span.first) new
        → Gives batch front subs turn number s new
        (λ q. acked_to old s q span.first (without_first span.first q.spans))
    acks s span new t left =
        let g = out_of s span t in
        gives turn number s new (λ q. acked_to old s q span.first (without_first span.first q.spans))
        (λ sub. settled_sub sub span.first) g.sub g.opened.found left
        (belongs_settled batch window front turn number subs s g.sub g.opened span.first)
        (settled_as batch window front turn number subs s g.sub g.opened g.delivery span g.out)

    pub acked_floor : (s : ℕ) (span : Span) (floor : ℕ) → IsOutTo old s span
        → ((sub : Sub) → slice_get subs s ≡ Some sub → floor ≡ queue_floor (settled_queue sub.queue span.first))
        → (q : Subscription) → slice_get (map (pictured_sub batch front) subs) s ≡ Some q
        → floor ≡ floor_of (without_first span.first q.spans) front
    acked_floor s span floor t is =
        let g = out_of s span t in
        of_stored batch front subs s (λ q. floor ≡ floor_of (without_first span.first q.spans) front) g.sub
        g.opened.found
        (is g.sub g.opened.found
        ∙ settled_floor batch window front turn number subs s g.sub g.opened span
        (out_as_held g.delivery g.sub.queue span g.out).0)

    -- ---- a span goes back

    pub nacks : (s : ℕ) (span : Span) (rank : Rank) (new : KeptSubs) → IsOutTo old s span
        → rank ≡ next_rank → LeavesChanged window subs s (λ sub. returned_sub sub span.first rank) new
        → GivesNext batch front subs turn number s new (λ q. nacked_to old s q span)
    nacks s span rank new t drawn left =
        let g = out_of s span t in
        gives_next s new (λ q. nacked_to old s q span)
        (gives (suc turn) number s new (λ q. nacked_to old s q span)
        (λ sub. returned_sub sub span.first next_rank) g.sub g.opened.found
        (subst (λ (t : Rank). LeavesChanged window subs s (λ sub. returned_sub sub span.first t) new) drawn left)
        (belongs_returned batch window front turn number subs s g.sub g.opened span.first)
        (returned_as batch window front turn number subs s g.sub g.opened g.delivery span g.out))

    -- ---- a span is opened

    pub opens : (s : ℕ) (span : Span) (latest : Rank) (new : KeptSubs) → IsOutTo old s span
        → latest ≡ latest_rank → LeavesChanged window subs s (λ sub. opened_sub sub span.first latest) new
        → Gives batch front subs (turn + front) number s new (λ q. opened_to old s q span)
    opens s span latest new t drawn left =
        let g = out_of s span t in
        gives (turn + front) number s new (λ q. opened_to old s q span)
        (λ sub. opened_sub sub span.first latest_rank) g.sub g.opened.found
        (subst (λ (t : Rank). LeavesChanged window subs s (λ sub. opened_sub sub span.first t) new) drawn left)
        (belongs_opened batch window front turn number subs s g.sub g.opened span.first)
        (opened_as batch window front turn number subs s g.sub g.opened g.delivery span g.out)

    -- its numbers are placed, so they can be counted
    pub out_placed : (s : ℕ) (span : Span) → IsOutTo old s span → (span.first ≤ span.last) × (span.last ≤ most_numbers)
    out_placed s span t =
        let g = out_of s span t in
        let at = out_numbers batch window front turn number subs s g.sub g.opened g.delivery span g.out in
        (at.0, omega (arith, at.1, k.front_is))

    -- ---- a subscription is closed

    pub closes : (s : ℕ) (new : KeptSubs) → s < length (map (pictured_sub batch front) subs)
        → LeavesChanged window subs s closed_sub new
        → Gives batch front subs turn number s new (λ q. unsubscribed_from old s q)
    closes s new less left =
        let there : s < length subs = omega (arith, less, length-map subs (pictured_sub batch front)) in
        let at = slice_get_there subs s there in
        gives turn number s new (λ q. unsubscribed_from old s q) closed_sub at.0 at.1 left
        (belongs_unsubscribed front turn number s subs at.0 k.belong at.1
        (all_get (λ (sub : Sub). AreRising sub.queue) subs s at.0 rise at.1))
        (unsubscribed_pictured batch window front number s subs at.0 at.1)

    -- ---- deliveries expire

    pub expired_kept : (timeout clock : ℕ) (latest : Rank) (new : KeptSubs)
        → latest ≡ latest_rank → new ≡ with_expired timeout clock latest
        → DeliveriesAgree batch front (turn + number) number new.subs
    expired_kept timeout clock latest new drawn is =
        agree_by batch front (turn + number) number window _ new (is ∙ ap (with_expired timeout clock) drawn) (record {
          batch_is = k.batch_is;
          front_is = k.front_is;
          belong = belongs_turned_back front turn number timeout clock subs k.belong;
          few = few_map subs _ k.few;
        })

    pub expired_seen : (timeout clock : ℕ) (latest : Rank) (new : KeptSubs)
        → latest ≡ latest_rank → new ≡ with_expired timeout clock latest
        → pictured batch new.window front number new.subs ≡ all_expired old timeout clock
    expired_seen timeout clock latest new drawn is =
        ap (λ (n : KeptSubs). pictured batch n.window front number n.subs) (is ∙ ap (with_expired timeout clock) drawn)
        ∙ all_expired_pictured batch window front turn number timeout clock subs k.batch_is.0 k.belong rise
