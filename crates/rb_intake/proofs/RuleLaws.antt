-- Each kind of step keeps the rule of the intake.
use Rattle.std.proofs.Common.{◌≡◌, ◌≢◌, ℕ, zero, suc, List, [], ◌∷◌, ◌++◌, length, set, sym, refl, ap, ◌∙◌}
use Rattle.std.proofs.Common.{subst, ⊎_elim, append_assoc, Some, None, arith, inl, inr, ◌<◌, ◌⊎◌}
use Rattle.std.specs.List.{AllByRecursion}
use Rattle.std.proofs.lemmas.Bool.Decides.{eqb_tells}
use mathlib.Core.Option.{some, some-ne-none, some-injective}
use lib.ListN.{get_elem?}
use Rattle.crossbeam_queue.specs.Fifo.{Pushes, Pops, Forks, Merges, Learns}
use Rattle.crossbeam_queue.proofs.Lists.{at_set}
use Rattle.rb_sequence.specs.Item.{Item}
use Rattle.rb_sequence.specs.Items.{own_of, CountsUp}
use Rattle.rb_intake.specs.declared.known.Known.{Known}
use Rattle.rb_intake.specs.declared.known.Known.TheVariants.{Starts, Makes, Sends, Pulls, Ends, Spent}
use Rattle.rb_intake.specs.Joined.{HasEndedAs, JoinedOnce}
use Rattle.rb_intake.specs.Rule.{History, HasEnded, IsSo, KeepsOrder, after_making, newcomer}
use Rattle.rb_intake.specs.Rule.{sent_one, AreFronts, AreWhole}
use Rattle.rb_intake.specs.Rule.{pulled_one, taken_in, pulled_in, ended_in, IsPulledOr}
use Rattle.rb_intake.proofs.Views.{EachPass, each_pass_set, each_pass_more, with_seat, here, elsewhere, all_weaker}
use Rattle.rb_intake.proofs.Views.{all_more}
use Rattle.rb_intake.proofs.ItemLaws.{UpFromOne, own_more, own_other, numbered_more, numbered_pulled, none_of_front}

-- ---- the first pass

abbrev first_history : History
first_history = record { sent = []; pulled = []; reader = 0; maker = 0; made = 0; pass_of = λ _. None }

pub starts_in_order : KeepsOrder [] (Starts ∷ [])
starts_in_order = (
  first_history,
  record {
    waits = refl;
    numbered = λ p. tt;
    later = λ p _. (refl, refl);
    known = known;
  },
)
  where
    known : (pass : ℕ) (v : Known) → get_elem? (Starts ∷ []) pass ≡ some v → IsSo first_history pass v
    known zero v e =
        let mine : IsSo first_history 0 Starts = (refl, refl, refl, refl) in
        subst (λ u. IsSo first_history 0 u) (some-injective Starts v e) mine
    known (suc pass) v e = absurd (some-ne-none v (sym e))

nothing_before : (xs ys : List Item) → [] ≡ xs ++ ys → [] ≡ xs
nothing_before [] ys e = refl
nothing_before (x ∷ xs) ys e = absurd (cc e)

-- the sequencer's pass is what the first one becomes, and the maker's is new
first_others : (h : History) (pass now : ℕ) → IsSo h pass Starts → (j : ℕ) (u : Known) → j ≢ pass → IsSo h j u
    → IsSo (record h { maker = now }) j u
first_others h pass now so j Starts isnt was = absurd (isnt (was.0 ∙ sym so.0))
first_others h pass now so j (Makes n) isnt was = absurd (isnt (was.0 ∙ sym so.1))
first_others h pass now so j (Sends p items) isnt was = was
first_others h pass now so j (Pulls items ended) isnt was = absurd (isnt (was.0 ∙ sym so.0))
first_others h pass now so j (Ends items ended n) isnt was = absurd (isnt (was.0 ∙ sym so.0))
first_others h pass now so j Spent isnt was = tt

-- a pass that knows this makes another, by what the rule is then
forks_so : (pass : ℕ) (v known : Known) (waiting : List Item) (views : List Known) → v ≡ known
    → KeepsOrder waiting (set views pass (after_making known) ++ newcomer known ∷ [])
    → KeepsOrder waiting (set views pass (after_making v) ++ newcomer v ∷ [])
forks_so pass v known waiting views is =
    subst (λ (u : Known). KeepsOrder waiting (set views pass (after_making u) ++ newcomer u ∷ [])) (sym is)

pub forks_first : (pass : ℕ) (v : Known) → v ≡ Starts → Forks KeepsOrder pass v (after_making v) (newcomer v)
forks_first pass v is waiting views kept at =
    let h : History = kept.0 in
    let so : IsSo h pass Starts = kept.1.known pass Starts (at ∙ ap some is) in
    let vs : List Known = set views pass (Pulls [] []) in
    let new : History = record h { maker = length vs } in
    let none : [] ≡ h.pulled = nothing_before h.pulled waiting (sym so.3 ∙ kept.1.waits) in
    let old : EachPass (IsSo new) vs = each_pass_set (IsSo new) views pass (Pulls [] []) (so.0, none, tt, tt)
    (λ j u isnt e. first_others h pass (length vs) so j u isnt (kept.1.known j u e)) in
    forks_so pass v Starts waiting views is (
      new,
      record {
        waits = kept.1.waits;
        numbered = kept.1.numbered;
        later = kept.1.later;
        known = each_pass_more (IsSo new) vs (Makes 0) old (refl, sym so.2);
      },
    )

-- ---- one more publisher

make_others : (h : History) (pass now n : ℕ) → pass ≡ h.maker → n ≡ h.made → (j : ℕ) (u : Known) → j ≢ pass
    → IsSo h j u → IsSo (record h { made = suc n; pass_of = with_seat h.pass_of n (Some now) }) j u
make_others h pass now n is_maker made j Starts isnt was = absurd (isnt (was.1 ∙ sym is_maker))
make_others h pass now n is_maker made j (Makes m) isnt was = absurd (isnt (was.0 ∙ sym is_maker))
make_others h pass now n is_maker made j (Sends p items) isnt was = (
  elsewhere h.pass_of n p (Some now) (λ e. omega (arith, e, made, was.2)) ∙ was.0,
  was.1,
  omega (arith, made, was.2),
)
make_others h pass now n is_maker made j (Pulls items ended) isnt was = (
  was.0,
  was.1,
  all_weaker (HasEnded h) (HasEnded (record h { made = suc n; pass_of = with_seat h.pass_of n (Some now) })) ended
      (λ e ends. (
        elsewhere h.pass_of n e.0 (Some now) (λ same. omega (arith, same, made, ends.1)) ∙ ends.0,
        omega (arith, made, ends.1),
        ends.2,
      )) was.2,
  was.3,
)
make_others h pass now n is_maker made j (Ends items ended m) isnt was = absurd (isnt (was.3 ∙ sym is_maker))
make_others h pass now n is_maker made j Spent isnt was = tt

pub forks_make : (pass : ℕ) (v : Known) (n : ℕ) → v ≡ Makes n → Forks KeepsOrder pass v (after_making v) (newcomer v)
forks_make pass v n is waiting views kept at =
    forks_so pass v (Makes n) waiting views is made
  where
    made : KeepsOrder waiting (set views pass (Makes (suc n)) ++ Sends n [] ∷ [])
    made =
        let h : History = kept.0 in
        let so : IsSo h pass (Makes n) = kept.1.known pass (Makes n) (at ∙ ap some is) in
        let vs : List Known = set views pass (Makes (suc n)) in
        let new : History = record h { made = suc n; pass_of = with_seat h.pass_of n (Some (length vs)) } in
        let none = kept.1.later n (omega (arith, so.1)) in
        let old : EachPass (IsSo new) vs = each_pass_set (IsSo new) views pass (Makes (suc n)) (so.0, refl)
        (λ j u isnt e. make_others h pass (length vs) n so.0 so.1 j u isnt (kept.1.known j u e)) in (
          new,
          record {
            waits = kept.1.waits;
            numbered = kept.1.numbered;
            later = λ p above. (
              elsewhere h.pass_of n p (Some (length vs)) (λ e. omega (arith, e, above))
                  ∙ (kept.1.later p (omega (arith, above, so.1))).0,
              (kept.1.later p (omega (arith, above, so.1))).1,
            );
            known = each_pass_more (IsSo new) vs (Sends n []) old
                (here h.pass_of n (Some (length vs)), sym none.1, omega arith);
          },
        )

-- ---- an item is sent

-- what a publisher sent that has ended stays, where another one sends
still_ended : (h : History) (pass p : ℕ) (x : Item) → h.pass_of p ≡ Some pass → x.publisher ≡ p
    → (ended : List (ℕ × List Item)) → AllByRecursion (HasEnded h) ended
    → AllByRecursion (HasEnded (record h { sent = h.sent ++ x ∷ [] })) ended
still_ended h pass p x mine is ended =
    all_weaker (HasEnded h) (HasEnded (record h { sent = h.sent ++ x ∷ [] })) ended
    (λ e ends. (
      ends.0,
      ends.1,
      ends.2 ∙ sym (own_other e.0 h.sent x (λ same. absurd (cc (ends.0, mine, same, is)))),
    ))

push_others : (h : History) (pass p : ℕ) (x : Item) → h.pass_of p ≡ Some pass → p < h.made → x.publisher ≡ p → (j : ℕ)
    (u : Known) → j ≢ pass → IsSo h j u → IsSo (record h { sent = h.sent ++ x ∷ [] }) j u
push_others h pass p x mine below is j Starts isnt was = absurd (omega (arith, below, was.2))
push_others h pass p x mine below is j (Makes m) isnt was = was
push_others h pass p x mine below is j (Sends q items) isnt was = (
  was.0,
  was.1 ∙ sym (own_other q h.sent x (λ e. isnt (cc (was.0, mine, e, is)))),
  was.2,
)
push_others h pass p x mine below is j (Pulls items ended) isnt was =
    (was.0, was.1, still_ended h pass p x mine is ended was.2, was.3)
push_others h pass p x mine below is j (Ends items ended n) isnt was =
    (was.0, was.1, still_ended h pass p x mine is ended was.2, was.3, was.4, was.5)
push_others h pass p x mine below is j Spent isnt was = tt

numbered_after : (h : History) (p : ℕ) (x : Item) → x.publisher ≡ p → x.own ≡ suc (length (own_of p h.sent))
    → ((q : ℕ) → CountsUp q h.sent) → (q : ℕ) → CountsUp q (h.sent ++ x ∷ [])
numbered_after h p x is own all q = elim (eqb_tells p q) as (λ w. CountsUp q (h.sent ++ x ∷ [])) [
  | inl same ↦
      subst UpFromOne (sym (own_more q h.sent x (is ∙ same.1)))
      (numbered_more 1 (own_of q h.sent) x (all q)
      (let at = own ∙ ap (λ r. suc (length (own_of r h.sent))) same.1 in omega (arith, at)))
  | inr other ↦ subst UpFromOne (sym (own_other q h.sent x (λ e. other.1 (sym is ∙ e)))) (all q)
]

pub push_keeps : (room pass : ℕ) (v : Known) (x : Item) (p : ℕ) (items : List Item) → v ≡ Sends p items
    → x.publisher ≡ p → x.own ≡ suc (length items) → Pushes KeepsOrder room pass v x (λ w. w ≡ sent_one v x)
push_keeps room pass v x p items is mine own waiting views _ kept at =
    (Sends p (items ++ x ∷ []), pushed, ap (λ u. sent_one u x) (sym is))
  where
    pushed : KeepsOrder (waiting ++ x ∷ []) (set views pass (Sends p (items ++ x ∷ [])))
    pushed =
        let h : History = kept.0 in
        let so : IsSo h pass (Sends p items) = kept.1.known pass (Sends p items) (at ∙ ap some is) in
        let new : History = record h { sent = h.sent ++ x ∷ [] } in (
          new,
          record {
            waits = ap (λ l. l ++ x ∷ []) kept.1.waits ∙ append_assoc h.pulled waiting (x ∷ []);
            numbered = numbered_after h p x mine (own ∙ ap (λ l. suc (length l)) so.1) kept.1.numbered;
            later = λ q above. (
              (kept.1.later q above).0,
              own_other q h.sent x (λ e. omega (arith, e, mine, so.2, above)) ∙ (kept.1.later q above).1,
            );
            known = each_pass_set (IsSo new) views pass (Sends p (items ++ x ∷ []))
                (so.0, ap (λ l. l ++ x ∷ []) so.1 ∙ sym (own_more p h.sent x mine), so.2)
                (λ j u isnt e. push_others h pass p x so.0 so.2 mine j u isnt (kept.1.known j u e));
          },
        )

-- ---- an item is pulled

pull_others : (h : History) (pass : ℕ) (x : Item) → pass ≡ h.reader → (j : ℕ) (u : Known) → j ≢ pass → IsSo h j u
    → IsSo (record h { pulled = h.pulled ++ x ∷ [] }) j u
pull_others h pass x reader j Starts isnt was = was
pull_others h pass x reader j (Makes m) isnt was = was
pull_others h pass x reader j (Sends q items) isnt was = was
pull_others h pass x reader j (Pulls items ended) isnt was = absurd (isnt (was.0 ∙ sym reader))
pull_others h pass x reader j (Ends items ended n) isnt was = absurd (isnt (was.0 ∙ sym reader))
pull_others h pass x reader j Spent isnt was = tt

pub pop_keeps : (pass : ℕ) (v : Known) (items : List Item) (ended : List (ℕ × List Item)) → v ≡ Pulls items ended
    → Pops KeepsOrder pass v (λ x w. (w ≡ pulled_one v x) × ((p : ℕ) → CountsUp p (pulled_in w)))
pop_keeps pass v items ended is x waiting views kept at =
    let h : History = kept.0 in
    let so : IsSo h pass (Pulls items ended) = kept.1.known pass (Pulls items ended) (at ∙ ap some is) in
    let new : History = record h { pulled = h.pulled ++ x ∷ [] } in
    let flows : h.sent ≡ (h.pulled ++ x ∷ []) ++ waiting =
    kept.1.waits ∙ sym (append_assoc h.pulled (x ∷ []) waiting) in
    let grown : items ++ x ∷ [] ≡ h.pulled ++ x ∷ [] = ap (λ l. l ++ x ∷ []) so.1 in (
      Pulls (items ++ x ∷ []) ended,
      (
        new,
        record {
          waits = flows;
          numbered = kept.1.numbered;
          later = kept.1.later;
          known = each_pass_set (IsSo new) views pass (Pulls (items ++ x ∷ []) ended) (so.0, grown, so.2, so.3)
              (λ j u isnt e. pull_others h pass x so.0 j u isnt (kept.1.known j u e));
        },
      ),
      (
        ap (λ u. pulled_one u x) (sym is),
        λ p. numbered_pulled p h.sent (items ++ x ∷ []) waiting (flows ∙ ap (λ l. l ++ waiting) (sym grown))
            (kept.1.numbered p),
      ),
    )

-- at any moment, what a joined publisher sent was pulled or waits
pub learns : (pass : ℕ) (v : Known) (items : List Item) (ended : List (ℕ × List Item)) → v ≡ Pulls items ended
    → Learns KeepsOrder pass v (λ waiting. AllByRecursion (IsPulledOr (pulled_in v) waiting) (ended_in v))
learns pass v items ended is waiting views kept at =
    subst (λ u. AllByRecursion (IsPulledOr (pulled_in u) waiting) (ended_in u)) (sym is) learned
  where
    learned : AllByRecursion (IsPulledOr items waiting) ended
    learned =
        let h : History = kept.0 in
        let so : IsSo h pass (Pulls items ended) = kept.1.known pass (Pulls items ended) (at ∙ ap some is) in
        all_weaker (HasEnded h) (IsPulledOr items waiting) ended
        (λ e ends. ends.2 ∙ ap (own_of e.0) (kept.1.waits ∙ ap (λ l. l ++ waiting) (sym so.1))) so.2

-- ---- who was joined

not_ended : (h : History) (ended : List (ℕ × List Item)) (p : ℕ) → AllByRecursion (HasEnded h) ended
    → HasEndedAs p ended → h.pass_of p ≡ None
not_ended h [] p all has = absurd has
not_ended h (e ∷ rest) p all has =
    ⊎_elim (λ same. subst (λ q. h.pass_of q ≡ None) same all.0.0) (λ later. not_ended h rest p all.1 later) has

has_before : (ended : List (ℕ × List Item)) (p q : ℕ) (sent : List Item) → HasEndedAs q (ended ++ (p, sent) ∷ [])
    → HasEndedAs q ended ⊎ (p ≡ q)
has_before [] p q sent has = ⊎_elim (λ same. inr same) (λ none. absurd none) has
has_before (e ∷ rest) p q sent has =
    ⊎_elim (λ same. inl (inl same))
    (λ later. ⊎_elim (λ before. inl (inr before)) (λ same. inr same) (has_before rest p q sent later)) has

apart_more : (ended : List (ℕ × List Item)) (p : ℕ) (sent : List Item) → JoinedOnce ended → (HasEndedAs p ended → ⊥)
    → JoinedOnce (ended ++ (p, sent) ∷ [])
apart_more [] p sent apart new = (λ none. none, tt)
apart_more (e ∷ rest) p sent apart new = (
  λ has. ⊎_elim (λ before. apart.0 before) (λ same. new (inl (sym same))) (has_before rest p e.0 sent has),
  apart_more rest p sent apart.1 (λ later. new (inr later)),
)

-- ---- a publisher's pass is joined

join_others : (h : History) (pass other p : ℕ) → pass ≡ h.reader → h.pass_of p ≡ Some other → (j : ℕ) (u : Known)
    → j ≢ pass → j ≢ other → IsSo h j u → IsSo (record h { pass_of = with_seat h.pass_of p None }) j u
join_others h pass other p reader theirs j Starts isnt apart was = was
join_others h pass other p reader theirs j (Makes m) isnt apart was = was
join_others h pass other p reader theirs j (Sends q items) isnt apart was =
    (elsewhere h.pass_of p q None (λ e. apart (cc (was.0, theirs, e))) ∙ was.0, was.1, was.2)
join_others h pass other p reader theirs j (Pulls items ended) isnt apart was = absurd (isnt (was.0 ∙ sym reader))
join_others h pass other p reader theirs j (Ends items ended n) isnt apart was = absurd (isnt (was.0 ∙ sym reader))
join_others h pass other p reader theirs j Spent isnt apart was = tt

pub merges : (pass : ℕ) (v : Known) (other : ℕ) (w : Known) (items : List Item) (ended : List (ℕ × List Item)) (p : ℕ)
    (sent : List Item) → v ≡ Pulls items ended → w ≡ Sends p sent
    → Merges KeepsOrder pass v other w (taken_in v w) Spent
merges pass v other w items ended p sent is is' waiting views kept at two at' =
    subst (λ (u : Known). KeepsOrder waiting (set (set views pass u) other Spent))
    (λ i. taken_in (sym is i) (sym is' i)) merged
  where
    merged : KeepsOrder waiting (set (set views pass (Pulls items (ended ++ (p, sent) ∷ []))) other Spent)
    merged =
        let h : History = kept.0 in
        let both : Known = Pulls items (ended ++ (p, sent) ∷ []) in
        let so : IsSo h pass (Pulls items ended) = kept.1.known pass (Pulls items ended) (at ∙ ap some is) in
        let was : get_elem? views other ≡ some w =
        ⊎_elim (λ x. absurd (two x.0)) (λ x. x.1) (at_set views pass other (taken_in v w) w at') in
        let theirs : IsSo h other (Sends p sent) = kept.1.known other (Sends p sent) (was ∙ ap some is') in
        let new : History = record h { pass_of = with_seat h.pass_of p None } in
        let ends : AllByRecursion (HasEnded new) ended = all_weaker (HasEnded h) (HasEnded new) ended
        (λ e x. (elsewhere h.pass_of p e.0 None (λ same. absurd (cc (x.0, theirs.0, same))) ∙ x.0, x.1, x.2)) so.2 in
        let now : EachPass (λ j u. j ≢ other → IsSo new j u) (set views pass both) =
        each_pass_set (λ j u. j ≢ other → IsSo new j u) views pass both
        (λ _. (
          so.0,
          so.1,
          all_more (HasEnded new) ended (p, sent) ends
              (here h.pass_of p None, theirs.2, theirs.1),
          apart_more ended p sent so.3 (λ has. absurd (cc (not_ended h ended p so.2 has, theirs.0))),
        ))
        (λ j u isnt e apart. join_others h pass other p so.0 theirs.0 j u isnt apart (kept.1.known j u e)) in (
          new,
          record {
            waits = kept.1.waits;
            numbered = kept.1.numbered;
            later = λ q above. (
              elsewhere h.pass_of p q None (λ e. omega (arith, e, theirs.2, above)) ∙ (kept.1.later q above).0,
              (kept.1.later q above).1,
            );
            known = each_pass_set (IsSo new) (set views pass both) other Spent tt (λ j u apart e. now j u e apart);
          },
        )

-- ---- no publisher is made any more

end_others : (h : History) (pass other : ℕ) → pass ≡ h.reader → other ≡ h.maker → (j : ℕ) (u : Known) → j ≢ pass
    → j ≢ other → IsSo h j u → IsSo (record h { maker = pass }) j u
end_others h pass other reader maker_is j Starts isnt apart was = absurd (isnt (was.0 ∙ sym reader))
end_others h pass other reader maker_is j (Makes m) isnt apart was = absurd (apart (was.0 ∙ sym maker_is))
end_others h pass other reader maker_is j (Sends q items) isnt apart was = was
end_others h pass other reader maker_is j (Pulls items ended) isnt apart was = absurd (isnt (was.0 ∙ sym reader))
end_others h pass other reader maker_is j (Ends items ended n) isnt apart was = absurd (isnt (was.0 ∙ sym reader))
end_others h pass other reader maker_is j Spent isnt apart was = tt

pub ends_keeps : (pass : ℕ) (v : Known) (other : ℕ) (w : Known) (items : List Item) (ended : List (ℕ × List Item)) (n : ℕ)
    → v ≡ Pulls items ended → w ≡ Makes n → Merges KeepsOrder pass v other w (taken_in v w) Spent
ends_keeps pass v other w items ended n is is' waiting views kept at two at' =
    subst (λ (u : Known). KeepsOrder waiting (set (set views pass u) other Spent))
    (λ i. taken_in (sym is i) (sym is' i)) merged
  where
    merged : KeepsOrder waiting (set (set views pass (Ends items ended n)) other Spent)
    merged =
        let h : History = kept.0 in
        let both : Known = Ends items ended n in
        let so : IsSo h pass (Pulls items ended) = kept.1.known pass (Pulls items ended) (at ∙ ap some is) in
        let was : get_elem? views other ≡ some w =
        ⊎_elim (λ x. absurd (two x.0)) (λ x. x.1) (at_set views pass other (taken_in v w) w at') in
        let theirs : IsSo h other (Makes n) = kept.1.known other (Makes n) (was ∙ ap some is') in
        let new : History = record h { maker = pass } in
        let now : EachPass (λ j u. j ≢ other → IsSo new j u) (set views pass both) =
        each_pass_set (λ j u. j ≢ other → IsSo new j u) views pass both
        (λ _. (so.0, so.1, so.2, refl, theirs.1, so.3))
        (λ j u isnt e apart. end_others h pass other so.0 theirs.0 j u isnt apart (kept.1.known j u e)) in (
          new,
          record {
            waits = kept.1.waits;
            numbered = kept.1.numbered;
            later = kept.1.later;
            known = each_pass_set (IsSo new) (set views pass both) other Spent tt (λ j u apart e. now j u e apart);
          },
        )

-- ---- the last pass

pub last_keeps : (pass : ℕ) (v : Known) (items : List Item) (ended : List (ℕ × List Item)) (n : ℕ) → v ≡ Ends items ended n
    → Pops KeepsOrder pass v (λ x w. (w ≡ pulled_one v x) × AreFronts w)
last_keeps pass v items ended n is x waiting views kept at =
    let h : History = kept.0 in
    let so : IsSo h pass (Ends items ended n) = kept.1.known pass (Ends items ended n) (at ∙ ap some is) in
    let new : History = record h { pulled = h.pulled ++ x ∷ [] } in
    let flows : h.sent ≡ (h.pulled ++ x ∷ []) ++ waiting =
    kept.1.waits ∙ sym (append_assoc h.pulled (x ∷ []) waiting) in
    let grown : items ++ x ∷ [] ≡ h.pulled ++ x ∷ [] = ap (λ l. l ++ x ∷ []) so.1 in
    let all : h.sent ≡ (items ++ x ∷ []) ++ waiting = flows ∙ ap (λ l. l ++ waiting) (sym grown) in (
      Ends (items ++ x ∷ []) ended n,
      (
        new,
        record {
          waits = flows;
          numbered = kept.1.numbered;
          later = kept.1.later;
          known = each_pass_set (IsSo new) views pass (Ends (items ++ x ∷ []) ended n) (so.0, grown, so.2, so.3, so.4, so.5)
              (λ j u isnt e. pull_others h pass x so.0 j u isnt (kept.1.known j u e));
        },
      ),
      (
        ap (λ u. pulled_one u x) (sym is),
        (
          (
            waiting,
            all_weaker (HasEnded h) (IsPulledOr (items ++ x ∷ []) waiting) ended
                (λ e ends. ends.2 ∙ ap (own_of e.0) all) so.2,
          ),
          λ p above. none_of_front p (items ++ x ∷ []) waiting
              (ap (own_of p) (sym all) ∙ (kept.1.later p (omega (arith, above, so.4))).1),
        ),
      ),
    )

-- at any moment, what a joined publisher sent was pulled or waits
pub last_learns : (pass : ℕ) (v : Known) (items : List Item) (ended : List (ℕ × List Item)) (n : ℕ) → v ≡ Ends items ended n
    → Learns KeepsOrder pass v (AreWhole v)
last_learns pass v items ended n is waiting views kept at = subst (λ u. AreWhole u waiting) (sym is) learned
  where
    learned : AreWhole (Ends items ended n) waiting
    learned =
        let h : History = kept.0 in
        let so : IsSo h pass (Ends items ended n) = kept.1.known pass (Ends items ended n) (at ∙ ap some is) in
        let all = kept.1.waits ∙ ap (λ l. l ++ waiting) (sym so.1) in (
          all_weaker (HasEnded h) (IsPulledOr items waiting) ended (λ e ends. ends.2 ∙ ap (own_of e.0) all) so.2,
          λ p above. ap (own_of p) (sym all) ∙ (kept.1.later p (omega (arith, above, so.4))).1,
          so.5,
        )
