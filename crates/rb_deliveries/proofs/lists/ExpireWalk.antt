-- The walk along those in flight, on which each span that is due goes back to the line.
use Rattle.std.proofs.Common.{◌≡◌, ℕ, ◌+◌, ◌≤◌, Bool, true, false, List, [], ◌∷◌, ◌++◌}
use Rattle.std.proofs.Common.{map, length, set, Option, Some, refl, sym, ap, subst, ◌∙◌, arith, append_assoc, slice_get}
use Rattle.std.proofs.Common.{if◌then◌else◌}
use Rattle.std.specs.List.{AllByRecursion}
use Rattle.link_lists.specs.Lanes.{Lanes, AreLanes, IsKeyAfter, first_key, pushed_back, without_key}
use Rattle.rb_deliveries.specs.declared.rank.Held.{Held}
use Rattle.rb_deliveries.specs.declared.rank.Rank.{Rank}
use Rattle.rb_deliveries.specs.Expiry.{expired_by, turns_from}
use Rattle.rb_deliveries.specs.Queues.{earlier}
use Rattle.rb_deliveries.specs.Spans.{is_due}
use Rattle.rb_deliveries.specs.Subs.{IsDrawn, IsGiven}
use Rattle.rb_deliveries.specs.Taken.{AreWoven, expired_key, held_under, held_in, nth_list, number_under, slot_passes}
use Rattle.rb_deliveries.specs.Taken.{rank_under}
use Rattle.rb_deliveries.proofs.lists.KeyLaws.{keys_but, key_of_all}
use Rattle.rb_deliveries.proofs.lists.ListedLaws.{ready_key}
use Rattle.rb_deliveries.proofs.lists.OnceLaws.{all_there}
use Rattle.rb_deliveries.proofs.lists.StandLaws.{StandAs, held_stand, standing}
use Rattle.rb_deliveries.proofs.lists.ExpireKeys.{AreExpiring, all_expired, due_expires, kept_expires}
use Rattle.rb_deliveries.proofs.lists.ExpireKeys.{out_then, spans_expire}

module _ (timeout clock : ℕ) (latest : Rank) (next : ℕ) where
  -- so many keys were passed, and expiring what is there gives what expiring the spans from the start does
  pub record IsExpiring (start now : Lanes Held) (flying i : ℕ) (at : Option ℕ) : Type 0 where
    pub slots : List (Option Held)
    pub ready : List ℕ
    pub kept : List ℕ
    pub left : List ℕ
    pub all : List ℕ
    pub lists : StandAs now slots ready (kept ++ left) all
    pub expiring : AreExpiring timeout clock latest next slots ready kept left all
    pub count : i + length left ≡ flying
    pub stands : at ≡ first_key left
    pub spans : map (expired_by timeout clock latest) (map (held_under slots) all)
        ≡ map (expired_by timeout clock latest) (held_in start)

  module _ (start : Lanes Held) (flying : ℕ) where
    -- it begins with none passed
    pub expiry_begins : AreLanes start → AreWoven start → flying ≡ length (nth_list 1 start.first) →
        AllByRecursion (λ h. IsGiven next h.span.status) (held_in start) →
        AllByRecursion (λ h. IsDrawn latest.front latest.turn h.rank) (held_in start) →
        (at : Option ℕ) → at ≡ first_key (nth_list 1 start.first) → IsExpiring start start flying 0 at
    expiry_begins valid are many given drawn at stands = record {
      slots = start.slots;
      ready = nth_list 0 start.first;
      kept = [];
      left = nth_list 1 start.first;
      all = nth_list 0 start.second;
      lists = standing start are;
      expiring = record {
        listed = are.listed;
        undue = λ k passed. absurd cc;
        given = λ k there.
            key_of_all (λ h. IsGiven next h.span.status) (held_under start.slots)
            (nth_list 0 start.second) k given there;
        there = all_there start valid are;
        line = λ k j waits flies. in_line (rank_under start.slots k) (number_under start.slots j)
            (key_of_all (λ h. IsDrawn latest.front latest.turn h.rank) (held_under start.slots)
            (nth_list 0 start.second) k drawn
            (ready_key start.slots (nth_list 0 start.first) (nth_list 1 start.first)
            (nth_list 0 start.second) are.listed k
            waits).0);
      };
      count = omega (arith, many);
      stands = stands;
      spans = refl;
    }
      where
        in_line : (t : Rank) (n : ℕ) → IsDrawn latest.front latest.turn t →
            earlier t (turns_from latest.front latest.turn n) ≡ true
        in_line t n drawn = later t.front t.turn drawn.0 drawn.1
          where
            later : (f u : ℕ) → f ≤ latest.front → u ≤ latest.turn →
                earlier (record { front = f; turn = u }) (turns_from latest.front latest.turn n) ≡ true
            later f u front turn = grind arith

    module _ (now : Lanes Held) (i : ℕ) (at : Option ℕ) (walk : IsExpiring start now flying i at) where
      -- at its end all are expired that were due
      expiry_over : (left : List ℕ) → left ≡ [] → StandAs now walk.slots walk.ready (walk.kept ++ left) walk.all →
          AreExpiring timeout clock latest next walk.slots walk.ready walk.kept left walk.all →
          held_in now ≡ map (expired_by timeout clock latest) (held_in start)
      expiry_over [] over lists expiring =
          held_stand lists
          ∙ sym (all_expired timeout clock latest next walk.slots walk.ready walk.kept walk.all expiring) ∙ walk.spans
      expiry_over (k ∷ left) over lists expiring = absurd cc

      pub expiry_ends : flying ≤ i → held_in now ≡ map (expired_by timeout clock latest) (held_in start)
      expiry_ends many = expiry_over walk.left (none_left walk.left (omega (arith, many, walk.count))) walk.lists
          walk.expiring
        where
          none_left : (left : List ℕ) → length left ≤ 0 → left ≡ []
          none_left [] short = refl
          none_left (k ∷ left) short = absurd (omega (arith, short))

      -- a key at which it stands
      pub record AtLeft (key : ℕ) : Type 0 where
        pub later : List ℕ
        pub parts : walk.left ≡ key ∷ later

      pub at_left : (key : ℕ) → at ≡ Some key → AtLeft key
      at_left key is = by_left walk.left refl (sym walk.stands ∙ is)
        where
          by_left : (left : List ℕ) → walk.left ≡ left → first_key left ≡ Some key → AtLeft key
          by_left [] parts first = absurd cc
          by_left (k ∷ left) parts first =
              let same : k ≡ key = cc in
              record { later = left; parts = parts ∙ ap (λ (q : ℕ). q ∷ left) same }

      module _ (key : ℕ) (is : at ≡ Some key) where
        expiring_here : AreExpiring timeout clock latest next walk.slots walk.ready walk.kept
            (key ∷ (at_left key is).later) walk.all
        expiring_here = subst (λ l. AreExpiring timeout clock latest next walk.slots walk.ready walk.kept l walk.all)
            (at_left key is).parts walk.expiring

        lists_here : StandAs now walk.slots walk.ready (walk.kept ++ key ∷ (at_left key is).later) walk.all
        lists_here = subst (λ l. StandAs now walk.slots walk.ready (walk.kept ++ l) walk.all) (at_left key is).parts
            walk.lists

        -- it goes on after the key's span expired, if it was due
        pub expiry_goes : (new : Lanes Held) (after : Option ℕ) → IsKeyAfter key now.first after →
            new ≡ expired_key timeout clock latest key now → IsExpiring start new flying (i + 1) after
        expiry_goes new after follows changed =
            by_due (slot_passes (is_due timeout clock) walk.slots key) refl
          where
            after_is : after ≡ first_key (at_left key is).later
            after_is = follows 1 walk.kept (at_left key is).later (ap (λ (l : List (List ℕ)). slice_get l 1)
                lists_here.two_lists)

            count_is : i + 1 + length (at_left key is).later ≡ flying
            count_is = omega (arith, walk.count, ap length (at_left key is).parts)

            changes : (b : Bool) → slot_passes (is_due timeout clock) walk.slots key ≡ b →
                new ≡ (if b then record now {
                  slots = set now.slots key (Some (expired_by timeout clock latest (held_under now.slots key)));
                  first = pushed_back 0 key (without_key key now.first);
                } else now)
            changes b is_b = changed ∙ ap (λ b. if b then record now {
              slots = set now.slots key (Some (expired_by timeout clock latest (held_under now.slots key)));
              first = pushed_back 0 key (without_key key now.first);
            } else now) (ap (λ s. slot_passes (is_due timeout clock) s key) walk.lists.slots_are ∙ is_b)

            by_due : (b : Bool) → slot_passes (is_due timeout clock) walk.slots key ≡ b →
                IsExpiring start new flying (i + 1) after
            by_due true due = record {
              slots = set walk.slots key (Some (expired_by timeout clock latest (held_under walk.slots key)));
              ready = keys_but key walk.ready ++ key ∷ [];
              kept = walk.kept;
              left = (at_left key is).later;
              all = walk.all;
              lists = record {
                slots_are = ap (λ (l : Lanes Held). l.slots) (changes true due)
                    ∙ ap (λ s. set s key (Some (expired_by timeout clock latest (held_under s key))))
                    walk.lists.slots_are;
                two_lists = ap (λ (l : Lanes Held). l.first) (changes true due)
                    ∙ ap (λ f. pushed_back 0 key (without_key key f)) lists_here.two_lists
                    ∙ ap (λ out. (keys_but key walk.ready ++ key ∷ []) ∷ out ∷ [])
                    (out_then timeout clock latest next walk.slots walk.ready walk.kept walk.all key
                    (at_left key is).later expiring_here due);
                one_list = ap (λ (l : Lanes Held). l.second) (changes true due) ∙ lists_here.one_list;
              };
              expiring = due_expires timeout clock latest next walk.slots walk.ready walk.kept walk.all key
                  (at_left key is).later expiring_here due;
              count = count_is;
              stands = after_is;
              spans = spans_expire timeout clock latest next walk.slots walk.ready walk.kept walk.all key
                  (at_left key is).later expiring_here due ∙ walk.spans;
            }
            by_due false undue = record {
              slots = walk.slots;
              ready = walk.ready;
              kept = walk.kept ++ key ∷ [];
              left = (at_left key is).later;
              all = walk.all;
              lists = subst (λ n. StandAs n walk.slots walk.ready ((walk.kept ++ key ∷ []) ++ (at_left key is).later)
                  walk.all) (sym (changes false undue))
                  (subst (λ out. StandAs now walk.slots walk.ready out walk.all)
                  (sym (append_assoc walk.kept (key ∷ []) (at_left key is).later)) lists_here);
              expiring = kept_expires timeout clock latest next walk.slots walk.ready walk.kept walk.all key
                  (at_left key is).later expiring_here undue;
              count = count_is;
              stands = after_is;
              spans = walk.spans;
            }
