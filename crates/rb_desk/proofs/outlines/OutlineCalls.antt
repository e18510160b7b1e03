-- What each call changes in the outline; a refused call changes nothing.
use Rattle.std.proofs.Common.{◌≡◌, ℕ, suc, max, ◌==◌, Option, Some, None, IfSome, Result, Ok, IsOk, slice_get, refl}
use Rattle.std.proofs.Common.{sym, ap, ◌∙◌, subst, map, slice_set}
use Rattle.std.specs.Prelude.{⊤}
use Rattle.std.proofs.lemmas.List.{length-map, map-append}
use Rattle.rb_desk.specs.declared.delivery.Delivery.{Delivery}
use Rattle.rb_desk.specs.declared.refusal.DeskRefusal.{DeskRefusal}
use Rattle.rb_deliveries.specs.Spans.{cut_spans, is_ready, grown_spans}
use Rattle.rb_desk.specs.Picture.{Picture}
use Rattle.rb_deliveries.specs.Picture.{Subscription}
use Rattle.rb_desk.specs.Calls.{subscribe, subscribed_picture, take, take_any, ack, nack, nack_opened, expire}
use Rattle.rb_desk.specs.Calls.{reconnect, reconnected_picture, unsubscribe, prepare, place, close, last_number}
use Rattle.rb_deliveries.specs.Changes.{goes_back, grown_subscription}
use Rattle.rb_desk.specs.IsPicture.{IsPicture}
use Rattle.rb_desk.specs.Outline.{member_of, outline_of}
use Rattle.rb_desk.specs.Outline as outline
use Rattle.rb_desk.proofs.calls.CallLaws.{may_place, prepared}
use Rattle.rb_desk.proofs.outlines.Outlines.{OutlinesTells, found_member, same_members, each_member, set_member}
use Rattle.rb_desk.proofs.outlines.Outlines.{with_members, found_open, handed_shows}
use Rattle.rb_desk.proofs.calls.CallCases.{either_way, subscribe_case, take_case, take_any_case, ack_case, nack_case}
use Rattle.rb_desk.proofs.calls.CallCases.{nack_opened_case, reconnect_case, unsubscribe_case}

-- ---- what each call does, by its answer

abbrev pub Joined : Picture → ℕ → ℕ × ℕ → Picture → Type 0
Joined old start given new = outline.Subscribes (outline_of old) (outline_of new) start given.0 given.1

abbrev pub TookOf : Picture → ℕ → Delivery → Picture → Type 0
TookOf old s delivery new = IsPicture old → (delivery.sub ≡ s)
    × outline.Delivers (outline_of old) (outline_of new) delivery

abbrev pub OutlineCallsTook : Picture → Delivery → Picture → Type 0
OutlineCallsTook old delivery new = IsPicture old → outline.Delivers (outline_of old) (outline_of new) delivery

abbrev pub Stays : {A : Type 0} → Picture → A → Picture → Type 0
Stays old answer new = outline_of new ≡ outline_of old

abbrev pub Relinked : Picture → ℕ → ℕ → Picture → Type 0
Relinked old s link new = outline.Reconnects (outline_of old) (outline_of new) s link

abbrev pub Gone : Picture → ℕ → ⊤ → Picture → Type 0
Gone old s answer new = outline.Unsubscribes (outline_of old) (outline_of new) s

-- ---- subscribe

pub outline_calls_subscribe_tells : (p : Picture) (start : ℕ) → OutlinesTells p (Joined p start) (subscribe p start)
outline_calls_subscribe_tells p start = subscribe_case (OutlinesTells p (Joined p start)) p start (λ why. refl)
    (λ behind room. record {
      placed = behind;
      last = sym (length-map p.subscriptions member_of);
      given = refl;
      kept = ap (with_members (outline_of new)) (map-append member_of p.subscriptions _);
    })
  where
    new : Picture
    new = subscribed_picture p start (cut_spans p.limits.batch (suc start) p.front)

-- ---- take and take any

pub outline_calls_take_tells : (p : Picture) (s link cursor now : ℕ)
    → OutlinesTells p (TookOf p s) (take p s link cursor now)
outline_calls_take_tells p s link cursor now =
    take_case (OutlinesTells p (TookOf p s)) p s link cursor now (λ why. refl)
    (λ q span here runs room is good.
    (refl, handed_shows p s q span (max p.clock now) (λ x. is_ready x.status) good here runs is))

pub outline_calls_take_any_tells : (p : Picture) (now : ℕ) → OutlinesTells p (OutlineCallsTook p) (take_any p now)
outline_calls_take_any_tells p now = take_any_case (OutlinesTells p (OutlineCallsTook p)) p now (λ why. refl)
    (λ at q span first here is good. handed_shows p at.0 q span (max p.clock now) (λ x. x.first == at.1) good here
    (found_open p at.0 q span (λ x. x.first == at.1) good here is) is)

-- ---- ack, nack, nack_opened and expire

-- the outline stays where one subscription gets other spans and another floor
one_stays : (p : Picture) (s : ℕ) (q r : Subscription) → slice_get p.subscriptions s ≡ Some q
    → member_of r ≡ member_of q
    → with_members (outline_of p) (map member_of (slice_set p.subscriptions s r)) ≡ outline_of p
one_stays p s q r here same = ap (with_members (outline_of p)) (same_members p.subscriptions s q r here same)

pub outline_calls_ack_tells : (p : Picture) (s link number cursor : ℕ)
    → OutlinesTells p (Stays p) (ack p s link number cursor)
outline_calls_ack_tells p s link number cursor =
    ack_case (OutlinesTells p (Stays p)) p s link number cursor (λ why. refl)
    (λ q span here is. one_stays p s q _ here refl)

pub outline_calls_nack_tells : (p : Picture) (s link number : ℕ) → OutlinesTells p (Stays p) (nack p s link number)
outline_calls_nack_tells p s link number = nack_case (OutlinesTells p (Stays p)) p s link number (λ why. refl)
    (λ q span here is. one_stays p s q _ here refl)

pub outline_calls_nack_opened_tells : (p : Picture) (s link number : ℕ)
    → OutlinesTells p (Stays p) (nack_opened p s link number)
outline_calls_nack_opened_tells p s link number =
    nack_opened_case (OutlinesTells p (Stays p)) p s link number (λ why. refl)
    (λ q span here is. one_stays p s q _ here refl)

pub expire_stays : (p : Picture) (now : ℕ) → outline_of (expire p now).1 ≡ outline_of p
unfolding expire
expire_stays p now = ap (with_members (outline_of p))
    (each_member (goes_back p.limits.timeout (max p.clock now)) p.subscriptions (λ q. refl))

-- ---- reconnect and unsubscribe

pub outline_calls_reconnect_tells : (p : Picture) (s cursor : ℕ) → OutlinesTells p (Relinked p s) (reconnect p s cursor)
outline_calls_reconnect_tells p s cursor = reconnect_case (OutlinesTells p (Relinked p s)) p s cursor (λ why. refl)
    (λ q here runs low high. record {
      member = member_of q;
      found = found_member p.subscriptions s q here;
      not_closed = runs;
      given = refl;
      kept = ap
          (with_members (outline_of (reconnected_picture p s q cursor (cut_spans p.limits.batch (suc cursor) p.front))))
          (set_member p.subscriptions s _);
    })

pub outline_calls_unsubscribe_tells : (p : Picture) (s link : ℕ) → OutlinesTells p (Gone p s) (unsubscribe p s link)
outline_calls_unsubscribe_tells p s link = unsubscribe_case (OutlinesTells p (Gone p s)) p s link (λ why. refl)
    (λ q here runs. record {
      member = member_of q;
      found = found_member p.subscriptions s q here;
      not_closed = runs;
      kept = ap (with_members (outline_of p)) (set_member p.subscriptions s _);
    })

-- ---- place and close

-- what grows is the same member
grows_member : (batch n : ℕ) (q : Subscription) → member_of (grown_subscription batch n q) ≡ member_of q
grows_member batch n q = either_way (λ (x : Subscription). member_of x ≡ member_of q) q.closed q
    (record q { spans = grown_spans batch n q.spans }) refl refl

pub outline_calls_place_shows : (p : Picture) (number : ℕ) → prepare p ≡ Ok number
    → outline.Places (outline_of p) (outline_of (place p)) number
unfolding place
outline_calls_place_shows p number ok = record {
  not_closed = (may_place p is_ok).0;
  next = next;
  kept = ap (with_members (outline_of (place p)))
      (each_member (grown_subscription p.limits.batch (suc p.front)) p.subscriptions
      (grows_member p.limits.batch (suc p.front)))
      ∙ ap (λ n. record (outline_of p) { front = n }) (sym next);
}
  where
    is_ok : IsOk (prepare p)
    is_ok = subst (λ (r : Result ℕ DeskRefusal). IsOk r) (sym ok) refl

    next : number ≡ suc p.front
    next = let same : Ok number ≡ Ok (suc p.front) = sym ok ∙ prepared p is_ok in cc

pub outline_calls_close_shows : (p : Picture) → IsPicture p
    → outline.Closes (outline_of p) (outline_of (close p).1) (close p).0
unfolding close
outline_calls_close_shows p good = record { front = by p.closing good.closed; kept = refl }
  where
    by : (o : Option ℕ) → IfSome o (λ last. last ≡ p.front) → last_number p o ≡ p.front
    by None h = refl
    by (Some last) h = h
