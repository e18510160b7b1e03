-- The invariant of `no_number_is_lost` holds after each call. What a call adds to the journal is an argument (`note`).
use Rattle.std.proofs.Common.{◌≡◌, ℕ, zero, suc, max, ◌<◌, ◌≤◌, ◌⊎◌, inl, inr, Bool, true, false, cond, ◌==◌, List, []}
use Rattle.std.proofs.Common.{◌∷◌, ◌++◌, map, Option, Some, None, option_map, Result, Ok, Err, slice_get}
use Rattle.std.proofs.Common.{refl, sym, ap, ◌∙◌, subst, arith, eqb-true}
use Rattle.std.proofs.lemmas.Bool.{false≢true, cases_lt}
use Rattle.std.proofs.lemmas.Option.{slice_get-map}
use Rattle.rb_deliveries.specs.declared.span.Span.{Span}
use Rattle.rb_deliveries.specs.declared.span.Status.{Status}
use Rattle.rb_deliveries.specs.declared.span.Status.TheVariants.{Ready, InFlight}
use Rattle.rb_deliveries.specs.Changes.{goes_back, grown_subscription}
use Rattle.rb_deliveries.specs.Picture.{Subscription}
use Rattle.rb_deliveries.specs.Spans.{beginning, cut_spans, floor_of, grown_spans, is_out_as, is_ready, out_as}
use Rattle.rb_deliveries.specs.Spans.{without_first, SpansRise}
use Rattle.rb_deliveries.proofs.spans.CutLaws.{cut_fresh}
use Rattle.rb_desk.specs.declared.delivery.Delivery.{Delivery}
use Rattle.rb_desk.specs.declared.refusal.DeskRefusal.{DeskRefusal}
use Rattle.rb_desk.specs.Calls.{subscribe, take, take_any, ack, nack, nack_opened, expire, reconnect, unsubscribe}
use Rattle.rb_desk.specs.Calls.{place, close, delivered_picture, delivery_from, settled_span, expired_at}
use Rattle.rb_desk.specs.Calls.{reconnected_picture, unsubscribed_picture, nacked_picture}
use Rattle.rb_desk.specs.Calls.{opened_picture}
use Rattle.rb_desk.specs.IsPicture.{IsPicture, IsInSpan}
use Rattle.rb_desk.specs.Picture.{Picture}
use Rattle.rb_desk.specs.Steps.{placed_if}
use Rattle.rb_desk.proofs.calls.CallCases.{subscribe_case, take_case, take_any_case, ack_case}
use Rattle.rb_desk.proofs.calls.CallCases.{nack_case, nack_opened_case, reconnect_case, unsubscribe_case, LeavesPicture}
use Rattle.rb_desk.proofs.pictures.KeepCut.{cut_in, one_in_batch}
use Rattle.rb_desk.proofs.pictures.KeepExpire.{back_in}
use Rattle.rb_desk.proofs.pictures.KeepPlace.{grown_in}
use Rattle.rb_desk.proofs.pictures.OpenedLaws.{opened_all, opened_in}
use Rattle.rb_desk.proofs.pictures.OutSpans.{found_out}
use Rattle.rb_desk.proofs.pictures.RiseLaws.{all_spans_found, found_begins, found_passes, restated_all, restated_in}
use Rattle.rb_desk.proofs.pictures.RiseLaws.{without_all}
use Rattle.rb_desk.proofs.pictures.StandLaws.{found_good, open_rise}
use Rattle.rb_desk.proofs.history.Accounts.{Accounts, Deliveries, CarriesOver, IsAccounted, SpanWasMade, MadeAs}
use Rattle.rb_desk.proofs.history.Accounts.{Settlements}
use Rattle.rb_desk.proofs.history.Accounts.{accounted_later, accounts_later, accounts_set, all_made_later, back_made}
use Rattle.rb_desk.proofs.history.Accounts.{fresh_made, grown_made, in_others, settled_or}

module _ {Made Made' : Deliveries} {Settled Settled' : Settlements} (on : CarriesOver Made Made' Settled Settled')
    (p : Picture) (good : IsPicture p) (old : Accounts Made Settled p) where
  abbrev Later : Picture → Type 0
  Later = Accounts Made' Settled'

  pub stays : Later p
  stays = accounts_later on p p refl refl old

  -- ---- take and take_any

  abbrev pub IsNoted : {A : Type 0} → (A → Type 0) → Result A DeskRefusal × Picture → Type 0
  IsNoted {A} Note x = ((answer : A) → x.0 ≡ Ok answer → Note answer) → Later x.1

  abbrev pub IsMadeSo : Delivery → Type 0
  IsMadeSo d = Made' d.sub d.number d.first d.last

  delivered : (s : ℕ) (q : Subscription) (span : Span) (clock : ℕ) → slice_get p.subscriptions s ≡ Some q
      → beginning span.first q.spans ≡ Some span → IsMadeSo (delivery_from p s q span)
      → Later (delivered_picture p s q span clock)
  delivered s q span clock here found made =
      let was = old s q here in
      let rise = open_rise p s q here good span span.first found in
      accounts_set on p (delivered_picture p s q span clock) s q _ here refl refl old (record {
        made = restated_all (SpanWasMade Made' s) (suc q.floor) p.front span.first
            (InFlight p.next_delivery clock) q.spans
            span rise found made (all_made_later on s q.spans was.made);
        kept = λ runs n low high. settled_or on s q.link n
            (restated_in n span.first (InFlight p.next_delivery clock) q.spans)
            (was.kept runs n low high);
      })

  pub take_accounts : (s link cursor now : ℕ) → IsNoted IsMadeSo (take p s link cursor now)
  take_accounts s link cursor now =
      take_case (IsNoted IsMadeSo) p s link cursor now (λ why note. stays)
      (λ q span here runs room found note. delivered s q span (max p.clock now) here
      (found_begins (λ x. is_ready x.status) (suc q.floor) p.front q.spans span
      ((found_good p s q here good).rise runs) found)
      (note (delivery_from p s q span) refl))

  pub take_any_accounts : (now : ℕ) → IsNoted IsMadeSo (take_any p now)
  take_any_accounts now =
      take_any_case (IsNoted IsMadeSo) p now (λ why note. stays)
      (λ at q span first here found note.
      let its : span.first ≡ at.1 = eqb-true span.first at.1 (found_passes (λ x. x.first == at.1) q.spans span found) in
      delivered at.0 q span (max p.clock now) here (ap (λ n. beginning n q.spans) its ∙ found)
      (note (delivery_from p at.0 q span) refl))

  -- ---- ack

  -- the span that is in flight as a delivery has the delivery's numbers
  pub out_made : (s number : ℕ) (q : Subscription) (span : Span) → slice_get p.subscriptions s ≡ Some q
      → out_as number q.spans ≡ Some span → Made s number span.first span.last
  out_made s number q span here is =
      by span.status
      (found_passes (λ x. is_out_as number x.status) q.spans span is)
      (all_spans_found (SpanWasMade Made s) (λ x. is_out_as number x.status) q.spans span (old s q here).made is)
    where
      by : (status : Status) → is_out_as number status ≡ true → MadeAs Made s span.first span.last status
          → Made s number span.first span.last
      by (Ready taken) passes made = absurd (false≢true passes)
      by (InFlight d moment) passes made = subst (λ m. Made s m span.first span.last) (eqb-true d number passes) made

  -- each number of the delivery is settled under the link that the subscription has
  abbrev pub AreSettledNow : ℕ → ℕ → Type 0
  AreSettledNow s number = (q : Subscription) → slice_get p.subscriptions s ≡ Some q → (first last n : ℕ)
      → Made s number first last → first ≤ n → n ≤ last → Settled' s q.link n

  pub ack_accounts : (s link number cursor : ℕ)
      → IsNoted (λ floor. AreSettledNow s number) (ack p s link number cursor)
  ack_accounts s link number cursor =
      ack_case (IsNoted (λ floor. AreSettledNow s number)) p s link number cursor (λ why note. stays)
      (λ q span here is note.
      let was = old s q here in
      let o = found_out p s number q span good here is in
      accounts_set on p (settled_span p s q span.first (without_first span.first q.spans)).1 s q _ here refl refl old
      (record {
        made = without_all (SpanWasMade Made' s) span.first q.spans (all_made_later on s q.spans was.made);
        kept = λ runs n low high. settled s q span o.rise o.found n
            (λ first last. note (floor_of (without_first span.first q.spans) p.front) refl q here span.first span.last n
            (out_made s number q span here is) first last)
            (was.kept runs n low high);
      }))
    where
      settled : (s : ℕ) (q : Subscription) (span : Span) → SpansRise (suc q.floor) q.spans p.front
          → beginning span.first q.spans ≡ Some span → (n : ℕ)
          → (span.first ≤ n → n ≤ span.last → Settled' s q.link n) → Settled s q.link n ⊎ IsInSpan n q.spans
          → Settled' s q.link n ⊎ IsInSpan n (without_first span.first q.spans)
      settled s q span rise found n note (inl was) = inl (on.settled s q.link n was)
      settled s q span rise found n note (inr there) =
          by (in_others n (suc q.floor) p.front span.first q.spans span rise found there)
        where
          by : ((span.first ≤ n) × (n ≤ span.last)) ⊎ IsInSpan n (without_first span.first q.spans)
              → Settled' s q.link n ⊎ IsInSpan n (without_first span.first q.spans)
          by (inl out) = inl (note out.0 out.1)
          by (inr other) = inr other

  -- ---- nack and nack_opened

  pub nack_accounts : (s link number : ℕ) → LeavesPicture Later (nack p s link number)
  nack_accounts s link number =
      nack_case (LeavesPicture Later) p s link number (λ why. stays)
      (λ q span here is.
      let was = old s q here in
      let o = found_out p s number q span good here is in
      accounts_set on p (nacked_picture p s q span) s q _ here refl refl old (record {
        made = restated_all (SpanWasMade Made' s) (suc q.floor) p.front span.first
            (Ready true) q.spans span o.rise o.found
            tt (all_made_later on s q.spans was.made);
        kept = λ runs n low high. settled_or on s q.link n (restated_in n span.first (Ready true) q.spans)
            (was.kept runs n low high);
      }))

  pub nack_opened_accounts : (s link number : ℕ) → LeavesPicture Later (nack_opened p s link number)
  nack_opened_accounts s link number =
      nack_opened_case (LeavesPicture Later) p s link number (λ why. stays)
      (λ q span here is.
      let was = old s q here in
      let o = found_out p s number q span good here is in
      accounts_set on p (opened_picture p s q span) s q _ here refl refl old (record {
        made = opened_all p.front span (suc q.floor) q.spans o.rise o.found (SpanWasMade Made' s) (λ k from to. tt)
            (all_made_later on s q.spans was.made);
        kept = λ runs n low high. settled_or on s q.link n
            (opened_in p.front span (suc q.floor) q.spans o.rise o.found n)
            (was.kept runs n low high);
      }))

  -- ---- expire, place and close

  mapped : (new : Picture) (f : Subscription → Subscription) → new.subscriptions ≡ map f p.subscriptions
      → ((s : ℕ) (q : Subscription) → slice_get p.subscriptions s ≡ Some q → IsAccounted Made Settled p.front s q
      → IsAccounted Made' Settled' new.front s (f q))
      → Later new
  mapped new f is each s r there = by (slice_get p.subscriptions s) refl
    where
      at : option_map f (slice_get p.subscriptions s) ≡ Some r
      at = sym (slice_get-map f p.subscriptions s) ∙ ap (λ subs. slice_get subs s) (sym is) ∙ there

      by : (o : Option Subscription) → slice_get p.subscriptions s ≡ o → IsAccounted Made' Settled' new.front s r
      by None none = absurd (let no : None ≡ Some r = ap (option_map f) (sym none) ∙ at in cc)
      by (Some q) here =
          let both : Some (f q) ≡ Some r = ap (option_map f) (sym here) ∙ at in
          let same : f q ≡ r = cc in
          subst (λ (x : Subscription). IsAccounted Made' Settled' new.front s x) same (each s q here (old s q here))

  pub expire_accounts : (now : ℕ) → Later (expire p now).1
  unfolding expire
  expire_accounts now =
      mapped (expired_at p (max p.clock now)).1 (goes_back p.limits.timeout (max p.clock now)) refl (λ s q here was.
      record {
        made = back_made Made' s p.limits.timeout (max p.clock now) q.spans (all_made_later on s q.spans was.made);
        kept = λ runs n low high. settled_or on s q.link n (back_in p.limits.timeout (max p.clock now) n q.spans)
            (was.kept runs n low high);
      })

  grown : (s : ℕ) (q : Subscription) → slice_get p.subscriptions s ≡ Some q → IsAccounted Made Settled p.front s q
      → IsAccounted Made' Settled' (suc p.front) s (grown_subscription p.limits.batch (suc p.front) q)
  grown s q here was = by q.closed refl
    where
      r : Subscription
      r = record q { spans = grown_spans p.limits.batch (suc p.front) q.spans }

      kept : q.closed ≡ false → (n : ℕ) → q.start < n → n ≤ suc p.front → (p.front < n) ⊎ (n ≤ p.front)
          → Settled' s q.link n ⊎ IsInSpan n r.spans
      kept runs n low high (inl next) =
          inr (grown_in p.limits.batch (suc q.floor) p.front n q.spans ((found_good p s q here good).rise runs) high
          (λ le. absurd (omega (arith, next, le))))
      kept runs n low high (inr le) =
          settled_or on s q.link n
          (λ i. grown_in p.limits.batch (suc q.floor) p.front n q.spans ((found_good p s q here good).rise runs) high
          (λ _. i))
          (was.kept runs n low le)

      by : (b : Bool) → q.closed ≡ b → IsAccounted Made' Settled' (suc p.front) s (cond b q r)
      by true closed = record {
        made = all_made_later on s q.spans was.made;
        kept = λ runs. absurd (false≢true (sym runs ∙ closed));
      }
      by false open_ = record {
        made = grown_made Made' s p.limits.batch (suc p.front) q.spans (all_made_later on s q.spans was.made);
        kept = λ runs n low high. kept runs n low high (cases_lt p.front n);
      }

  pub place_accounts : Later (place p)
  unfolding place
  place_accounts = mapped (place p) (grown_subscription p.limits.batch (suc p.front)) refl grown

  pub placed_accounts : (r : Result ℕ DeskRefusal) → Later (placed_if p r)
  placed_accounts (Ok n) = place_accounts
  placed_accounts (Err why) = stays

  pub close_accounts : Later (close p).1
  unfolding close
  close_accounts = accounts_later on p (close p).1 refl refl old

  -- ---- subscribe, reconnect and unsubscribe

  -- cut spans have each number after the start; the others are noted
  cut_accounted : (s start : ℕ) (q : Subscription) → q.spans ≡ cut_spans p.limits.batch (suc start) p.front
      → ((n : ℕ) → n ≤ start → q.start < n → Settled' s q.link n) → IsAccounted Made' Settled' p.front s q
  cut_accounted s start q is note = record {
    made = rw is (fresh_made Made' s (cut_spans p.limits.batch (suc start) p.front)
        (cut_fresh p.limits.batch (suc start) p.front));
    kept = λ runs n low high. rw is (by n low high (cases_lt start n));
  }
    where
      by : (n : ℕ) → q.start < n → n ≤ p.front → (start < n) ⊎ (n ≤ start)
          → Settled' s q.link n ⊎ IsInSpan n (cut_spans p.limits.batch (suc start) p.front)
      by n low high (inl less) =
          inr (cut_in p.limits.batch (suc start) p.front n (one_in_batch p.limits good.in_range)
          (omega (arith, less)) high)
      by n low high (inr le) = inl (note n le low)

  pub subscribe_accounts : (start : ℕ) → LeavesPicture Later (subscribe p start)
  subscribe_accounts start =
      subscribe_case (LeavesPicture Later) p start (λ why. stays)
      (λ placed few s q here. added start s q here)
    where
      new : Subscription
      new = record {
        start = start;
        floor = start;
        offered = start;
        link = p.next_link;
        closed = false;
        spans = cut_spans p.limits.batch (suc start) p.front;
      }

      get_append : (xs : List Subscription) (i : ℕ) (x y : Subscription) → slice_get (xs ++ y ∷ []) i ≡ Some x
          → (slice_get xs i ≡ Some x) ⊎ (y ≡ x)
      get_append [] zero x y is = inr cc
      get_append [] (suc i) x y is = absurd (let none : None ≡ Some x = is in cc)
      get_append (z ∷ xs) zero x y is = inl is
      get_append (z ∷ xs) (suc i) x y is = get_append xs i x y is

      added : (start s : ℕ) (q : Subscription) → slice_get (p.subscriptions ++ new ∷ []) s ≡ Some q
          → IsAccounted Made' Settled' p.front s q
      added from s q here = by (get_append p.subscriptions s q new here)
        where
          by : (slice_get p.subscriptions s ≡ Some q) ⊎ (new ≡ q) → IsAccounted Made' Settled' p.front s q
          by (inl was) = accounted_later on p.front s q (old s q was)
          by (inr same) =
              subst (λ (x : Subscription). IsAccounted Made' Settled' p.front s x) same
              (cut_accounted s start new refl (λ n le low. absurd (omega (arith, le, low))))

  pub reconnect_accounts : (s cursor : ℕ)
      → IsNoted (λ link. (n : ℕ) → n ≤ cursor → Settled' s link n) (reconnect p s cursor)
  reconnect_accounts s cursor =
      reconnect_case (IsNoted (λ link. (n : ℕ) → n ≤ cursor → Settled' s link n)) p s cursor (λ why note. stays)
      (λ q here runs low high note.
      accounts_set on p (reconnected_picture p s q cursor (cut_spans p.limits.batch (suc cursor) p.front)) s q _ here
      refl refl old
      (cut_accounted s cursor _ refl (λ n le _. note p.next_link refl n le)))

  pub unsubscribe_accounts : (s link : ℕ) → LeavesPicture Later (unsubscribe p s link)
  unsubscribe_accounts s link =
      unsubscribe_case (LeavesPicture Later) p s link (λ why. stays)
      (λ q here runs. accounts_set on p (unsubscribed_picture p s q) s q _ here refl refl old (record {
        made = tt;
        kept = λ open_. absurd (false≢true (sym open_));
      }))
