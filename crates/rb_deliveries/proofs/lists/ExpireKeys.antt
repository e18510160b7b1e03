-- Spans that are due go back to the line, one key in flight after another.
use Rattle.std.proofs.Common.{◌≡◌, ℕ, ◌<◌, ◌&&◌, Bool, true, false, not, cond, List, []}
use Rattle.std.proofs.Common.{◌∷◌, ◌++◌, map, get_or, set, eqb, Option, Some, None, IsSome, refl, sym, ap}
use Rattle.std.proofs.Common.{subst, ◌∙◌, ◌⊎◌, inl, inr, arith, append-nil, append_assoc, if◌then◌else◌}
use Rattle.std.proofs.lemmas.Bool.Decides.{eqb_tells}
use Rattle.rb_deliveries.specs.declared.span.Status.{Status}
use Rattle.rb_deliveries.specs.declared.span.Status.TheVariants.{Ready, InFlight}
use Rattle.rb_deliveries.specs.declared.rank.Held.{Held}
use Rattle.rb_deliveries.specs.declared.rank.Rank.{Rank}
use Rattle.rb_deliveries.specs.Expiry.{expired_by, rank_of, turns_from}
use Rattle.rb_deliveries.specs.Queues.{earlier}
use Rattle.rb_deliveries.specs.Spans.{is_due, is_out, is_ready}
use Rattle.rb_deliveries.specs.Subs.{IsGiven}
use Rattle.rb_deliveries.specs.Taken.{AreListed, lists_key, held_under, number_under, number_of, status_passes}
use Rattle.rb_deliveries.specs.Taken.{slot_passes, rank_under}
use Rattle.rb_deliveries.proofs.lists.KeyLaws.{SetsSlot, has_behind, has_first, has_later, key_differs}
use Rattle.rb_deliveries.proofs.lists.KeyLaws.{key_same, keys_but, left_key, map_through, pushed_key, slot_set}
use Rattle.rb_deliveries.proofs.lists.KeyLaws.{slot_within}
use Rattle.rb_deliveries.proofs.lists.RiseLaws.{IsLess, SlotsRise, numbers_in_order, rise_before, rise_split}
use Rattle.rb_deliveries.proofs.lists.ListedLaws.{held_passes, out_key, passed_held, passed_some}
use Rattle.rb_deliveries.proofs.lists.OnceLaws.{keys_but_none}
use Rattle.rb_deliveries.proofs.lists.OutLaws.{due_is_out, passes_out}
use Rattle.rb_deliveries.proofs.lists.MoveLaws.{held_moved, moved_ready}

-- ---- one span that expires

module _ (timeout clock : ℕ) (latest : Rank) where
  pub expired_due : (h : Held) → is_due timeout clock h.span.status ≡ true → expired_by timeout clock latest h
      ≡ record {
        span = record h.span { status = Ready true };
        rank = rank_of (turns_from latest.front latest.turn) h.span.status;
      }
  expired_due h due = ap (λ b. if b then record {
    span = record h.span { status = Ready true };
    rank = rank_of (turns_from latest.front latest.turn) h.span.status;
  } else h) due

  pub expired_undue : (h : Held) → is_due timeout clock h.span.status ≡ false → expired_by timeout clock latest h ≡ h
  expired_undue h undue = ap (λ b. if b then record {
    span = record h.span { status = Ready true };
    rank = rank_of (turns_from latest.front latest.turn) h.span.status;
  } else h) undue

  -- it expires once
  pub expired_twice : (h : Held) → expired_by timeout clock latest (expired_by timeout clock latest h)
      ≡ expired_by timeout clock latest h
  expired_twice h = by_case (is_due timeout clock h.span.status) refl
    where
      by_case : (b : Bool) → is_due timeout clock h.span.status ≡ b →
          expired_by timeout clock latest (expired_by timeout clock latest h) ≡ expired_by timeout clock latest h
      by_case true due = ap (expired_by timeout clock latest) (expired_due h due) ∙ sym (expired_due h due)
      by_case false undue = ap (expired_by timeout clock latest) (expired_undue h undue)

  pub expired_given : (next : ℕ) (h : Held) → IsGiven next h.span.status →
      IsGiven next (expired_by timeout clock latest h).span.status
  expired_given next h given = by_case (is_due timeout clock h.span.status)
    where
      by_case : (b : Bool) → IsGiven next (if b then record {
        span = record h.span { status = Ready true };
        rank = rank_of (turns_from latest.front latest.turn) h.span.status;
      } else h).span.status
      by_case true = tt
      by_case false = given

  -- its rank is that of its delivery's number
  pub expired_rank : (h : Held) → is_due timeout clock h.span.status ≡ true →
      (expired_by timeout clock latest h).rank ≡ turns_from latest.front latest.turn (number_of h.span.status)
  expired_rank h due = ap (λ (x : Held). x.rank) (expired_due h due) ∙ by_status h.span.status due
    where
      by_status : (status : Status) → is_due timeout clock status ≡ true →
          rank_of (turns_from latest.front latest.turn) status
          ≡ turns_from latest.front latest.turn (number_of status)
      by_status (Ready taken) due = absurd cc
      by_status (InFlight number moment) due = refl

pub turn_before : (front turn n m : ℕ) → n < m → earlier (turns_from front turn n) (turns_from front turn m) ≡ true
turn_before front turn n m less = grind arith

-- ---- the lists

-- Of those in flight some were passed, which are not due, and these are left. Each that is ready is in line before the
-- rank that one of those left would get.
pub record AreExpiring (timeout clock : ℕ) (latest : Rank) (next : ℕ) (slots : List (Option Held))
    (ready kept left all : List ℕ) : Type 0 where
  pub listed : AreListed slots ready (kept ++ left) all
  pub undue : (k : ℕ) → lists_key k kept ≡ true → slot_passes (is_due timeout clock) slots k ≡ false
  pub given : (k : ℕ) → lists_key k all ≡ true → IsGiven next (held_under slots k).span.status
  pub there : (k : ℕ) → lists_key k all ≡ true → IsSome (get_or slots k None)
  pub line : (k j : ℕ) → lists_key k ready ≡ true → lists_key j left ≡ true →
      earlier (rank_under slots k) (turns_from latest.front latest.turn (number_under slots j)) ≡ true

but_between : (front : List ℕ) (key : ℕ) (back : List ℕ) →
    ((k : ℕ) → lists_key k front ≡ true → eqb key k ≡ false) → ((k : ℕ) → lists_key k back ≡ true → eqb key k ≡ false) →
    keys_but key (front ++ key ∷ back) ≡ front ++ back
but_between [] key back before after =
    ap (λ b. cond (not b) (key ∷ keys_but key back) (keys_but key back)) (key_same key)
    ∙ keys_but_none key back after
but_between (k ∷ front) key back before after =
    ap (λ b. cond (not b) (k ∷ keys_but key (front ++ key ∷ back)) (keys_but key (front ++ key ∷ back)))
    (before k (has_first k front))
    ∙ ap (λ ks. k ∷ ks)
    (but_between front key back (λ q there. before q (has_later q k front there)) after)

module _ (timeout clock : ℕ) (latest : Rank) (next : ℕ) (slots : List (Option Held)) (ready kept all : List ℕ) where
  -- where none is left, none of all is due
  pub all_expired : AreExpiring timeout clock latest next slots ready kept [] all →
      map (expired_by timeout clock latest) (map (held_under slots) all) ≡ map (held_under slots) all
  all_expired are =
      map_through (expired_by timeout clock latest) (held_under slots) (held_under slots) all (λ k there.
      expired_undue timeout clock latest (held_under slots k)
      (sym (held_passes (is_due timeout clock) (get_or slots k None) (are.there k there))
      ∙ by_case k there (slot_passes (is_due timeout clock) slots k) refl))
    where
      by_case : (k : ℕ) → lists_key k all ≡ true → (b : Bool) → slot_passes (is_due timeout clock) slots k ≡ b →
          slot_passes (is_due timeout clock) slots k ≡ false
      by_case k there false undue = undue
      by_case k there true due =
          are.undue k (sym (ap (lists_key k) (append-nil kept)) ∙ are.listed.out_keys k
          ∙ ap (λ b. b && slot_passes is_out slots k) there
          ∙ passes_out (is_due timeout clock) (due_is_out timeout clock) (get_or slots k None) due)

  module _ (key : ℕ) (left : List ℕ) (are : AreExpiring timeout clock latest next slots ready kept (key ∷ left) all)
    where
      out_at : lists_key key (kept ++ key ∷ left) ≡ true
      out_at = has_behind key kept (key ∷ left) (has_first key left)

      pub among_all : lists_key key all ≡ true
      among_all = (out_key slots ready (kept ++ key ∷ left) all are.listed key out_at).0

      -- one that isn't due stays
      pub kept_expires : slot_passes (is_due timeout clock) slots key ≡ false →
          AreExpiring timeout clock latest next slots ready (kept ++ key ∷ []) left all
      kept_expires undue = record {
        listed = subst (λ out. AreListed slots ready out all) (sym (append_assoc kept (key ∷ []) left)) are.listed;
        undue = λ k there. elim (pushed_key key k kept there) [
          | inl same ↦ ap (slot_passes (is_due timeout clock) slots) (sym same) ∙ undue
          | inr passed ↦ are.undue k passed
        ];
        given = are.given;
        there = are.there;
        line = λ k j waits flies. are.line k j waits (has_later j key left flies);
      }

      -- one that is due goes to the end of the line
      module _ (due : slot_passes (is_due timeout clock) slots key ≡ true) where
        -- the span then, and the slots
        abbrev expired : Held
        expired = expired_by timeout clock latest (held_under slots key)

        abbrev slots_then : List (Option Held)
        slots_then = set slots key (Some expired)

        rises : SlotsRise IsLess slots (kept ++ key ∷ left)
        rises = numbers_in_order slots (kept ++ key ∷ left) are.listed.by_number

        number_less : (j : ℕ) → lists_key j left ≡ true → number_under slots key < number_under slots j
        number_less j there =
            rise_split (λ k o. IsLess (get_or slots k None) (get_or slots o None)) kept key left rises j there

        left_apart : (j : ℕ) → lists_key j left ≡ true → eqb key j ≡ false
        left_apart j there = key_differs key j (λ same.
            let less = number_less j there in
            let number = ap (number_under slots) same in absurd (omega (arith, less, number)))

        kept_apart : (k : ℕ) → lists_key k kept ≡ true → eqb key k ≡ false
        kept_apart k there = key_differs key k (λ same.
            let less : number_under slots k < number_under slots key =
            rise_before (λ q o. IsLess (get_or slots q None) (get_or slots o None)) kept key left rises k there in
            let number = ap (number_under slots) same in absurd (omega (arith, less, number)))

        is_due_there : is_due timeout clock (held_under slots key).span.status ≡ true
        is_due_there = passed_held (is_due timeout clock) (get_or slots key None) due

        own_rank : expired.rank ≡ turns_from latest.front latest.turn (number_under slots key)
        own_rank = expired_rank timeout clock latest (held_under slots key) is_due_there

        sets : SetsSlot key (Some expired) slots slots_then
        sets = slot_set slots key (Some expired)
            (slot_within slots key (passed_some (is_due timeout clock) (get_or slots key None) due))

        held_then : (k : ℕ) → held_under slots_then k ≡ cond (eqb key k) expired (held_under slots k)
        held_then = held_moved slots slots_then key expired sets

        other_then : (k : ℕ) → eqb key k ≡ false → held_under slots_then k ≡ held_under slots k
        other_then k apart = held_then k ∙ ap (λ b. cond b expired (held_under slots k)) apart

        own_then : held_under slots_then key ≡ expired
        own_then = held_then key ∙ ap (λ b. cond b expired (held_under slots key)) (key_same key)

        pub out_then : keys_but key (kept ++ key ∷ left) ≡ kept ++ left
        out_then = but_between kept key left kept_apart left_apart

        line_then : (k j : ℕ) → (key ≡ k) ⊎ (lists_key k (keys_but key ready) ≡ true) → lists_key j left ≡ true →
            earlier (rank_under slots_then k) (turns_from latest.front latest.turn (number_under slots_then j)) ≡ true
        line_then k j where_it_is flies =
            subst (λ h. earlier (rank_under slots_then k)
            (turns_from latest.front latest.turn (number_of h.span.status)) ≡ true)
            (sym (other_then j (left_apart j flies))) (by_where where_it_is)
          where
            by_where : (key ≡ k) ⊎ (lists_key k (keys_but key ready) ≡ true) →
                earlier (rank_under slots_then k) (turns_from latest.front latest.turn (number_under slots j)) ≡ true
            by_where (inl same) =
                subst (λ t. earlier t (turns_from latest.front latest.turn (number_under slots j)) ≡ true)
                (sym (ap (rank_under slots_then) (sym same) ∙ ap (λ (h : Held). h.rank) own_then ∙ own_rank))
                (turn_before latest.front latest.turn (number_under slots key) (number_under slots j)
                (number_less j flies))
            by_where (inr waits) =
                let l = left_key key k ready waits in
                subst (λ h. earlier h.rank (turns_from latest.front latest.turn (number_under slots j)) ≡ true)
                (sym (other_then k l.1)) (are.line k j l.0 (has_later j key left flies))

        pub due_expires : AreExpiring timeout clock latest next slots_then (keys_but key ready ++ key ∷ []) kept left
            all
        due_expires = record {
          listed = subst (λ out. AreListed slots_then (keys_but key ready ++ key ∷ []) out all) out_then
              (moved_ready slots slots_then key expired ready (kept ++ key ∷ left) all sets among_all are.listed (
                ap (λ (h : Held). is_ready h.span.status)
                    (expired_due timeout clock latest (held_under slots key) is_due_there),
                ap (λ (h : Held). is_out h.span.status)
                    (expired_due timeout clock latest (held_under slots key) is_due_there),
                λ k waits. subst (λ t. earlier (rank_under slots k) t ≡ true) (sym own_rank)
                    (are.line k key waits (has_first key left)),
              ));
          undue = λ k passed.
              ap (status_passes (is_due timeout clock)) (sets k
              ∙ ap (λ b. cond b (Some expired) (get_or slots k None)) (kept_apart k passed)) ∙ are.undue k passed;
          given = λ k among. subst (λ (h : Held). IsGiven next h.span.status) (sym (held_then k))
              (given_then (eqb key k) (held_under slots k) (are.given k among));
          there = λ k among. subst IsSome (sym (sets k))
              (some_then (eqb key k) (get_or slots k None) (are.there k among));
          line = λ k j waits flies. line_then k j (pushed_key key k (keys_but key ready) waits) flies;
        }
          where
            given_then : (b : Bool) (h : Held) → IsGiven next h.span.status →
                IsGiven next (cond b expired h).span.status
            given_then true h given =
                expired_given timeout clock latest next (held_under slots key) (are.given key among_all)
            given_then false h given = given

            some_then : (b : Bool) (slot : Option Held) → IsSome slot → IsSome (cond b (Some expired) slot)
            some_then true slot some = refl
            some_then false slot some = some

        -- the spans that expire are the same
        pub spans_expire : map (expired_by timeout clock latest) (map (held_under slots_then) all)
            ≡ map (expired_by timeout clock latest) (map (held_under slots) all)
        spans_expire =
            map_through (expired_by timeout clock latest) (held_under slots_then)
            (λ k. expired_by timeout clock latest (held_under slots k)) all
            (λ k among. ap (expired_by timeout clock latest) (held_then k) ∙ by_key k)
            ∙ sym (map_through (expired_by timeout clock latest) (held_under slots)
            (λ k. expired_by timeout clock latest (held_under slots k)) all (λ k among. refl))
          where
            by_key : (k : ℕ) → expired_by timeout clock latest (cond (eqb key k) expired (held_under slots k))
                ≡ expired_by timeout clock latest (held_under slots k)
            by_key k = elim (eqb_tells key k) [
              | inl same ↦
                  ap (λ b. expired_by timeout clock latest (cond b expired (held_under slots k))) same.0
                  ∙ expired_twice timeout clock latest (held_under slots key)
                  ∙ ap (λ o. expired_by timeout clock latest (held_under slots o)) same.1
              | inr differs ↦
                  ap (λ b. expired_by timeout clock latest (cond b expired (held_under slots k))) differs.0
            ]
