-- What a withdrawal reports.
use Rattle.std.proofs.Common.{◌≡◌, ◌==◌, ◌↔◌, ℕ, zero, suc, ◌+◌, ◌-◌, ◌<◌, ◌≤◌, inl, inr, Bool, true, false, cond, List}
use Rattle.std.proofs.Common.{[], ◌∷◌, Option, Some, None, refl, sym, ap, subst, ◌∙◌, arith}
use Rattle.std.specs.Prelude.{get_or, slice_get, not}
use Rattle.std.proofs.lemmas.Bool.Decides.{eqb_tells}
use Rattle.cs_invert.specs.Inverse.{withdrawal_of}
use Rattle.cs_model.specs.declared.origin.Origin.TheVariants as origin
use Rattle.cs_model.specs.declared.shape.Shape.{Shape}
use Rattle.rb_sequence.specs.Entry.{Entry}
use Rattle.rb_core.specs.declared.event.Event.TheVariants as event
use Rattle.rb_core.specs.declared.publisher.PublisherState.{PublisherState}
use Rattle.rb_core.specs.declared.publisher.Staged.{Staged}
use Rattle.rb_core.specs.declared.reply.BrokerRefusal.TheVariants as refusal
use Rattle.rb_core.specs.declared.reply.Reply.{Reply}
use Rattle.rb_core.specs.declared.reply.Reply.TheVariants as reply
use Rattle.rb_core.specs.Moves.{Withdraws, IsNew}
use Rattle.rb_core.specs.Outcome as out
use Rattle.rb_core.specs.Outcome.{entry_of}
use Rattle.rb_core.specs.State.{State, IsWorld, is_withdrawn, with_mark}
use Rattle.rb_sequence.specs.Items.{AreNumbered}
use Rattle.rb_core.specs.Told as say
use Rattle.rb_core.specs.Told.{IsSender, IsToldBy}
use Rattle.rb_core.specs.World.{Sender, World}
use Rattle.rb_core.proofs.invariants.Marks.{mark_here, mark_other}
use Rattle.rb_core.proofs.invariants.Numbers.{number_from_one, found_from_one}
use Rattle.rb_core.proofs.whole_runs.Pairs.{paired_get}
use Rattle.rb_core.proofs.reports.Telling.{TellingGoes, nothing_told, move_told, with_sendings}
use Rattle.rb_core.proofs.reports.TellPublishers.{with_pair}

-- ---- the entry

entry_number_at : (n : ℕ) (entries : List Entry) (i : ℕ) (entry : Entry)
    → AreNumbered (λ (e : Entry). e.number) n entries → slice_get entries i ≡ Some entry → entry.number ≡ n + i
entry_number_at n [] i entry are found = absurd (cc found)
entry_number_at n (first ∷ entries) zero entry are found =
    let same : first ≡ entry = cc found in
    omega (arith, are.0, ap (λ (e : Entry). e.number) same)
entry_number_at n (first ∷ entries) (suc i) entry are found =
    omega (arith, entry_number_at (suc n) entries i entry are.1 found)

-- ---- what is withdrawn

-- the marks agree with the numbers, and so they do with one more of each
marks_told : (flags : List Bool) (numbers : List ℕ) (n : ℕ) → 1 ≤ n
    → ((m : ℕ) → 0 < m → (get_or flags (m - 1) false ≡ false) ↔ IsNew numbers m) → (m : ℕ) → 0 < m
    → (get_or (with_mark (n - 1) flags) (m - 1) false ≡ false) ↔ IsNew (n ∷ numbers) m
marks_told flags numbers n some all m more =
    elim (eqb_tells n m) as (λ w. (get_or (with_mark (n - 1) flags) (m - 1) false ≡ false) ↔ IsNew (n ∷ numbers) m) [
      | inl is ↦ (
        λ none.
            let marked : get_or (with_mark (n - 1) flags) (m - 1) false ≡ true =
            subst (λ (k : ℕ). get_or (with_mark (n - 1) flags) (k - 1) false ≡ true) is.1 (mark_here (n - 1) flags) in
            let bad : true ≡ false = sym marked ∙ none in
            absurd cc,
        λ new. absurd (new.0 is.1),
      )
      | inr other ↦
          let same : get_or (with_mark (n - 1) flags) (m - 1) false ≡ get_or flags (m - 1) false =
          mark_other (n - 1) (m - 1) flags (λ e. other.1 (omega (arith, e, some, more))) in (
            λ none. (other.1, (all m more).0 (sym same ∙ none)),
            λ new. same ∙ (all m more).1 new.1,
          )
    ]

-- ---- the event

entry_tells : (schema : List Shape) (old : State) (world : World) (p n : ℕ) (publisher : PublisherState) (entry : Entry)
    → slice_get old.publishers p ≡ Some publisher → publisher.staged ≡ None → entry_of old n ≡ Some entry
    → entry.item.publisher ≡ p → is_withdrawn old n ≡ false → IsWorld old → IsToldBy schema old world
    → TellingGoes schema world (event.Withdraw p n) (out.withdrawn_entry old p publisher n entry)
entry_tells schema old world p n publisher entry e free found mine fresh good h =
    let some : 1 ≤ n = number_from_one (λ (x : Entry). x.number) n old.sequence entry good.entries found in
    let here : slice_get old.sequence (n - 1) ≡ Some entry =
    sym (found_from_one (λ (x : Entry). x.number) old.sequence n good.entries some) ∙ found in
    let there : slice_get world.sequence (n - 1) ≡ Some entry =
    ap (λ (es : List Entry). slice_get es (n - 1)) h.sequence ∙ here in
    let at = paired_get IsSender old.publishers world.senders p publisher h.senders e in
    let sender = at.0 in
    let staged : Staged = record { origin = origin.Withdraws n; body = withdrawal_of entry.item.body } in
    let after : Sender = record sender { staged = Some staged } in
    let left : PublisherState = record publisher { staged = Some staged } in
    let pair : IsSender left after = record { stream = at.2.stream; staged = refl; sent = at.2.sent } in
    let set = with_pair schema old world p left after pair h in
    let withdraws : Withdraws world (say.with_withdrawal world p n sender entry) = record {
      p = p;
      sender = sender;
      place = n - 1;
      number = n;
      entry = entry;
      found = at.1;
      free = at.2.staged ∙ free;
      is = omega (arith, some);
      placed = there;
      numbered = omega (arith, some, entry_number_at 1 old.sequence (n - 1) entry good.entries here);
      own = mine;
      new_number = (h.withdrawn n some).0 fresh;
      kept = refl;
    } in
    let is : say.withdrawn world p n ≡ say.with_withdrawal world p n sender entry = ap (say.withdrawn_of world p n) at.1
    ∙ ap (say.withdrawn_entry world p n sender) there in
    move_told schema world (say.with_withdrawal world p n sender entry) (event.Withdraw p n) reply.Staged
    (out.withdrawn_entry old p publisher n entry).1 is
    (inr (inr (inr (inr (inr (inr (inr (inr (inr (inr (inr (inr (inl withdraws)))))))))))))
    (with_sendings schema old (out.withdrawn_entry old p publisher n entry).1 world
    (say.with_withdrawal world p n sender entry) set.senders h.intake h.hand h.sequence
    (marks_told old.withdrawn world.withdrawn n some h.withdrawn) h)

-- the tests of an entry that is found
when_found : (P : Reply × State → Type 0) (mine marked : Bool) (x y z : Reply × State) → P x → P y
    → (mine ≡ true → marked ≡ false → P z) → P (cond (not mine) x (cond marked y z))
when_found P false marked x y z one other last = one
when_found P true true x y z one other last = other
when_found P true false x y z one other last = last refl refl

same_number : (a b : ℕ) → (a == b) ≡ true → a ≡ b
same_number a b e = elim (eqb_tells a b) as (λ w. a ≡ b) [
  | inl is ↦ is.1
  | inr other ↦ absurd (let bad : true ≡ false = sym e ∙ other.0 in cc)
]

found_tells : (schema : List Shape) (old : State) (world : World) (p n : ℕ) (publisher : PublisherState)
    (found : Option Entry) → slice_get old.publishers p ≡ Some publisher → publisher.staged ≡ None → entry_of old n
    ≡ found → IsWorld old → IsToldBy schema old world
    → TellingGoes schema world (event.Withdraw p n) (out.withdrawn_from old p publisher n found)
found_tells schema old world p n publisher None e free is good h =
    nothing_told schema world (event.Withdraw p n) (reply.Refused refusal.NotPlaced) old refl h
found_tells schema old world p n publisher (Some entry) e free is good h =
    when_found (TellingGoes schema world (event.Withdraw p n)) (entry.item.publisher == p) (is_withdrawn old n)
    (out.refused old refusal.NotYours) (out.refused old refusal.AlreadyWithdrawn)
    (out.withdrawn_entry old p publisher n entry)
    (nothing_told schema world (event.Withdraw p n) (reply.Refused refusal.NotYours) old refl h)
    (nothing_told schema world (event.Withdraw p n) (reply.Refused refusal.AlreadyWithdrawn) old refl h)
    (λ mine fresh. entry_tells schema old world p n publisher entry e free is
    (same_number entry.item.publisher p mine) fresh good h)

free_tells : (schema : List Shape) (old : State) (world : World) (p n : ℕ) (publisher : PublisherState)
    (staged : Option Staged) → slice_get old.publishers p ≡ Some publisher → publisher.staged ≡ staged → IsWorld old
    → IsToldBy schema old world
    → TellingGoes schema world (event.Withdraw p n) (out.withdrawn_by old p publisher n staged)
free_tells schema old world p n publisher None e free good h =
    found_tells schema old world p n publisher (entry_of old n) e free refl good h
free_tells schema old world p n publisher (Some staged) e free good h =
    nothing_told schema world (event.Withdraw p n) (reply.Refused refusal.Holding) old refl h

pub withdraw_tells : (schema : List Shape) (old : State) (world : World) (p n : ℕ) (found : Option PublisherState)
    → slice_get old.publishers p ≡ found → IsWorld old → IsToldBy schema old world
    → TellingGoes schema world (event.Withdraw p n) (out.withdrawn_for old p n found)
withdraw_tells schema old world p n None e good h =
    nothing_told schema world (event.Withdraw p n) (reply.Refused refusal.NoPublisher) old refl h
withdraw_tells schema old world p n (Some publisher) e good h =
    free_tells schema old world p n publisher publisher.staged e refl good h
