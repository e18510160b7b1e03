-- Lanes as lists of lists: where a key stands, and one list changed by a map over all.
use Rattle.std.proofs.Common.{◌≡◌, ◌≢◌, ℕ, zero, suc, ◌+◌, ◌≤◌, ◌||◌, Bool, true, false, not, cond, List, [], ◌∷◌, ◌++◌}
use Rattle.std.proofs.Common.{length, map, set, eqb, filter, Option, Some, None, slice_get, refl, sym, ap, subst, ◌∙◌}
use Rattle.std.proofs.Common.{inl, inr, arith, zero-add}
use Rattle.std.specs.List.{list_any, IsDistinct, AllByRecursion, flat_map}
use Rattle.std.proofs.lemmas.Bool.{ne_eqb}
use Rattle.std.proofs.lemmas.Bool.Decides.{eqb_tells}
use Rattle.std.proofs.lemmas.List.Folds.{list_any-append}
use Rattle.std.proofs.lemmas.Map.Steps.{length-le_from_distinct_below}
use Rattle.link_lists.specs.declared.link.Link.{Link}
use Rattle.link_lists.specs.Lanes.{lane_keys, StandsIn, put_after, without_key}
use Rattle.link_lists.specs.Nodes.{Strand}
use Rattle.link_lists.specs.Spelling.{walk, walked, first_or, ends_of, LinksSpell, SpellsLists}
use Rattle.link_lists.proofs.NodeLemmas.{some_within}
use Rattle.link_lists.proofs.SpellLemmas.{Lacks, AreOnce, lacks_other, spelled_has, spelled_apart, walk_spelled}
use Rattle.link_lists.proofs.SpellLemmas.{once_append, apart_without}

-- a list has the key: what stands before it, and what after it
pub record KeyAmong (key : ℕ) (keys : List ℕ) : Type 0 where
  pub front : List ℕ
  pub back : List ℕ
  pub parts : keys ≡ front ++ key ∷ back

pub key_among : (key : ℕ) (keys : List ℕ) → list_any (eqb key) keys ≡ true → KeyAmong key keys
key_among key [] has = absurd cc
key_among key (k ∷ keys) has =
    elim (eqb_tells key k) [
      | inl same ↦ record { front = []; back = keys; parts = ap (λ q. q ∷ keys) (sym same.1) }
      | inr differs ↦
          let later : list_any (eqb key) keys ≡ true = sym (ap (λ b. b || list_any (eqb key) keys) differs.0) ∙ has in
          let h = key_among key keys later in
          record { front = k ∷ h.front; back = h.back; parts = ap (λ ks. k ∷ ks) h.parts }
    ]

any_refl : (key : ℕ) → eqb key key ≡ true
any_refl key = elim (eqb_tells key key) [ inl same ↦ same.0 | inr differs ↦ absurd (differs.1 refl) ]

or_true : (b : Bool) → (b || true) ≡ true
or_true true = refl
or_true false = refl

pub has_between : (key : ℕ) (front back : List ℕ) → list_any (eqb key) (front ++ key ∷ back) ≡ true
has_between key [] back = ap (λ b. b || list_any (eqb key) back) (any_refl key)
has_between key (k ∷ front) back = ap (λ b. eqb key k || b) (has_between key front back) ∙ or_true (eqb key k)

-- where a key stands in a lane
pub record StandsAt (key : ℕ) (lane : List (List ℕ)) : Type 0 where
  pub list : ℕ
  pub front : List ℕ
  pub back : List ℕ
  pub here : slice_get lane list ≡ Some (front ++ key ∷ back)

pub stands_at : (key : ℕ) (lane : List (List ℕ)) → StandsIn key lane → StandsAt key lane
stands_at key [] stands = absurd cc
stands_at key (keys ∷ lane) stands =
    at_or_later (list_any (eqb key) keys) refl (sym (list_any-append (eqb key) keys (lane_keys lane)) ∙ stands)
    (stands_at key lane)
  where
    at_or_later : (b : Bool) → list_any (eqb key) keys ≡ b →
        (list_any (eqb key) keys || list_any (eqb key) (lane_keys lane)) ≡ true →
        (StandsIn key lane → StandsAt key lane) → StandsAt key (keys ∷ lane)
    at_or_later true here either later =
        let h = key_among key keys here in
        record { list = 0; front = h.front; back = h.back; here = ap (λ ks. Some ks) h.parts }
    at_or_later false here either later =
        let l = later (sym (ap (λ b. b || list_any (eqb key) (lane_keys lane)) here) ∙ either) in
        record { list = suc l.list; front = l.front; back = l.back; here = l.here }

pub stands_from : (key : ℕ) (lane : List (List ℕ)) (list : ℕ) (front back : List ℕ) →
    slice_get lane list ≡ Some (front ++ key ∷ back) → StandsIn key lane
stands_from key [] list front back here = absurd cc
stands_from key (keys ∷ lane) zero front back here =
    let e : keys ≡ front ++ key ∷ back = cc in
    list_any-append (eqb key) keys (lane_keys lane)
    ∙ ap (λ b. b || list_any (eqb key) (lane_keys lane)) (ap (list_any (eqb key)) e ∙ has_between key front back)
stands_from key (keys ∷ lane) (suc list) front back here =
    list_any-append (eqb key) keys (lane_keys lane)
    ∙ ap (λ b. list_any (eqb key) keys || b) (stands_from key lane list front back here)
    ∙ or_true (list_any (eqb key) keys)

-- a key that stands in no list is none of any list's
lacks_absent : (key : ℕ) (keys : List ℕ) → (KeyAmong key keys → ⊥) → Lacks key keys
lacks_absent key [] absent = tt
lacks_absent key (k ∷ keys) absent = (
  λ same. absent (record { front = []; back = keys; parts = ap (λ q. q ∷ keys) (sym same) }),
  lacks_absent key keys (λ h. absent (record {
    front = k ∷ h.front;
    back = h.back;
    parts =
        ap (λ ks. k ∷ ks) h.parts;
  })),
)

pub absent_from : (key : ℕ) (lane : List (List ℕ)) → (StandsIn key lane → ⊥) → (list : ℕ) (keys : List ℕ) →
    slice_get lane list ≡ Some keys → Lacks key keys
absent_from key lane absent list keys here =
    lacks_absent key keys (λ h. absent (stands_from key lane list h.front h.back (here ∙ ap (λ ks. Some ks) h.parts)))

-- no key twice, as a test says it
all_differ : (key : ℕ) (keys : List ℕ) → Lacks key keys → AllByRecursion (λ y. eqb key y ≡ false) keys
all_differ key [] lacks = tt
all_differ key (k ∷ keys) lacks = (ne_eqb key k lacks.0, all_differ key keys lacks.1)

pub distinct_keys : (keys : List ℕ) → AreOnce keys → IsDistinct eqb keys
unfolding IsDistinct
distinct_keys [] once = tt
distinct_keys (k ∷ keys) once = (all_differ k keys once.0, distinct_keys keys once.1)

-- a spelled list is no longer than the links are many
pub spelled_short : (links : List (Option Link)) (list : ℕ) (keys : List ℕ) → LinksSpell links list None keys None →
    length keys ≤ length links
spelled_short links list keys spells =
    length-le_from_distinct_below keys (length links) (distinct_keys keys (spelled_apart list links None keys spells))
    (λ q has.
    let h = key_among q keys has in
    let at = spelled_has list links None h.front q h.back None
    (subst (λ (ks : List ℕ). LinksSpell links list None ks None) h.parts spells) in
    some_within links q _ at)

-- walks meet what is spelled
walks_meet : (links : List (Option Link)) (fuel : ℕ) (lists : List (List ℕ)) →
    ((list : ℕ) (keys : List ℕ) → slice_get lists list ≡ Some keys → walk links fuel (first_or keys None) ≡ keys) →
    map (λ e. walk links fuel e.first) (map ends_of lists) ≡ lists
walks_meet links fuel [] meets = refl
walks_meet links fuel (keys ∷ lists) meets =
    let head = meets 0 keys refl in
    let rest = walks_meet links fuel lists (λ list ks here. meets (suc list) ks here) in
    λ i. head i ∷ rest i

pub walked_spelled : (strand : Strand) (lists : List (List ℕ)) → SpellsLists strand lists → walked strand ≡ lists
walked_spelled strand lists spelled =
    ap (map (λ e. walk strand.links (length strand.links) e.first)) spelled.ends
    ∙ walks_meet strand.links (length strand.links) lists (λ list keys here.
    let spells = spelled.spelled list keys here in
    walk_spelled list strand.links None keys (length strand.links) spells (spelled_short strand.links list keys spells))

-- a map that changes one list alone
mapped_one : (f : List ℕ → List ℕ) (lane : List (List ℕ)) (list : ℕ) (old new : List ℕ) →
    slice_get lane list ≡ Some old → f old ≡ new →
    ((other : ℕ) (keys : List ℕ) → other ≢ list → slice_get lane other ≡ Some keys → f keys ≡ keys) →
    map f lane ≡ set lane list new
mapped_one f [] list old new here changes kept = refl
mapped_one f (keys ∷ lane) zero old new here changes kept =
    let e : keys ≡ old = cc in
    let head = ap f e ∙ changes in
    let rest = mapped_none f lane (λ other ks there. kept (suc other) ks (λ z. absurd (omega arith)) there) in
    λ i. head i ∷ rest i
  where
    mapped_none : (f : List ℕ → List ℕ) (lane : List (List ℕ)) →
        ((other : ℕ) (keys : List ℕ) → slice_get lane other ≡ Some keys → f keys ≡ keys) → map f lane ≡ lane
    mapped_none f [] kept = refl
    mapped_none f (keys ∷ lane) kept =
        let head = kept 0 keys refl in
        let rest = mapped_none f lane (λ other ks there. kept (suc other) ks there) in
        λ i. head i ∷ rest i
mapped_one f (keys ∷ lane) (suc list) old new here changes kept =
    let head = kept 0 keys (λ z. absurd (omega arith)) refl in
    let rest = mapped_one f lane list old new here changes
    (λ other ks differs there. kept (suc other) ks (λ e. differs (omega arith)) there) in
    λ i. head i ∷ rest i

put_kept : (at key : ℕ) (keys : List ℕ) → Lacks at keys →
    flat_map (λ other. cond (eqb at other) (other ∷ key ∷ []) (other ∷ [])) keys ≡ keys
put_kept at key [] lacks = refl
put_kept at key (k ∷ keys) lacks =
    ap (λ b. cond b (k ∷ key ∷ []) (k ∷ []) ++ flat_map
    (λ other. cond (eqb at other) (other ∷ key ∷ []) (other ∷ [])) keys) (ne_eqb at k lacks.0)
    ∙ ap (λ ks. k ∷ ks) (put_kept at key keys lacks.1)

put_between : (at key : ℕ) (front back : List ℕ) → Lacks at front → Lacks at back →
    flat_map (λ other. cond (eqb at other) (other ∷ key ∷ []) (other ∷ [])) (front ++ at ∷ back) ≡
    (front ++ at ∷ []) ++ key ∷ back
put_between at key [] back no_front no_back =
    ap (λ b. cond b (at ∷ key ∷ []) (at ∷ []) ++ flat_map
    (λ other. cond (eqb at other) (other ∷ key ∷ []) (other ∷ [])) back) (any_refl at)
    ∙ ap (λ ks. at ∷ key ∷ ks) (put_kept at key back no_back)
put_between at key (k ∷ front) back no_front no_back =
    ap (λ b. cond b (k ∷ key ∷ []) (k ∷ []) ++ flat_map (λ other. cond (eqb at other) (other ∷ key ∷ []) (other ∷ []))
    (front ++ at ∷ back)) (ne_eqb at k no_front.0)
    ∙ ap (λ ks. k ∷ ks) (put_between at key front back no_front.1 no_back)

left_same : (key : ℕ) (keys : List ℕ) → Lacks key keys → filter (λ other. not (eqb key other)) keys ≡ keys
left_same key [] lacks = refl
left_same key (k ∷ keys) lacks =
    let rest = left_same key keys lacks.1 in
    ap (λ b. cond (not b) (k ∷ filter (λ other. not (eqb key other)) keys)
    (filter (λ other. not (eqb key other)) keys)) (ne_eqb key k lacks.0) ∙ ap (λ ks. k ∷ ks) rest

left_between : (key : ℕ) (front back : List ℕ) → Lacks key front → Lacks key back →
    filter (λ other. not (eqb key other)) (front ++ key ∷ back) ≡ front ++ back
left_between key [] back no_front no_back =
    ap (λ b. cond (not b) (key ∷ filter (λ other. not (eqb key other)) back)
    (filter (λ other. not (eqb key other)) back)) (any_refl key) ∙ left_same key back no_back
left_between key (k ∷ front) back no_front no_back =
    let rest = left_between key front back no_front.1 no_back in
    ap (λ b. cond (not b) (k ∷ filter (λ other. not (eqb key other)) (front ++ key ∷ back))
    (filter (λ other. not (eqb key other)) (front ++ key ∷ back))) (ne_eqb key k no_front.0)
    ∙ ap (λ ks. k ∷ ks) rest

-- a key that stands in a list stands once there, and in no other list
alone_there : (strand : Strand) (lane : List (List ℕ)) (list : ℕ) (front : List ℕ) (key : ℕ) (back : List ℕ) →
    SpellsLists strand lane →
    slice_get lane list ≡ Some (front ++ key ∷ back) → Lacks key front × Lacks key back
alone_there strand lane list front key back spelled here =
    let parts = once_append front (key ∷ back) (spelled_apart list strand.links None (front ++ key ∷ back)
    (spelled.spelled list (front ++ key ∷ back) here)) in
    ((apart_without front key back parts.1.1).0, parts.1.0.0)

alone_elsewhere : (strand : Strand) (lane : List (List ℕ)) (list : ℕ) (front : List ℕ) (key : ℕ) (back : List ℕ) →
    SpellsLists strand lane →
    slice_get lane list ≡ Some (front ++ key ∷ back) → (other : ℕ) (keys : List ℕ) → other ≢ list →
    slice_get lane other ≡ Some keys → Lacks key keys
alone_elsewhere strand lane list front key back spelled here other keys differs there =
    lacks_other other strand.links None keys None key _
    (spelled_has list strand.links None front key back None (spelled.spelled list (front ++ key ∷ back) here))
    (λ e. differs (sym e)) (spelled.spelled other keys there)

-- so a key is put after it in this list alone
pub put_after_one : (strand : Strand) (lane : List (List ℕ)) (list : ℕ) (front : List ℕ) (at : ℕ) (back : List ℕ)
    (key : ℕ) → SpellsLists strand lane →
    slice_get lane list ≡ Some (front ++ at ∷ back) →
    put_after at key lane ≡ set lane list ((front ++ at ∷ []) ++ key ∷ back)
put_after_one strand lane list front at back key spelled here =
    let alone = alone_there strand lane list front at back spelled here in
    mapped_one (flat_map (λ other. cond (eqb at other) (other ∷ key ∷ []) (other ∷ []))) lane list
    (front ++ at ∷ back) _ here
    (put_between at key front back alone.0 alone.1)
    (λ other keys differs there. put_kept at key keys
    (alone_elsewhere strand lane list front at back spelled here other keys differs there))

-- and it is left out of this list alone
pub without_one : (strand : Strand) (lane : List (List ℕ)) (list : ℕ) (front : List ℕ) (key : ℕ) (back : List ℕ) →
    SpellsLists strand lane →
    slice_get lane list ≡ Some (front ++ key ∷ back) → without_key key lane ≡ set lane list (front ++ back)
without_one strand lane list front key back spelled here =
    let alone = alone_there strand lane list front key back spelled here in
    mapped_one (filter (λ other. not (eqb key other))) lane list (front ++ key ∷ back) _ here
    (left_between key front back alone.0 alone.1)
    (λ other keys differs there. left_same key keys
    (alone_elsewhere strand lane list front key back spelled here other keys differs there))

-- no key stands twice in a lane
lacks_joined : (key : ℕ) (xs ys : List ℕ) → Lacks key xs → Lacks key ys → Lacks key (xs ++ ys)
lacks_joined key [] ys front back = back
lacks_joined key (x ∷ xs) ys front back = (front.0, lacks_joined key xs ys front.1 back)

lacks_all : (key : ℕ) (lane : List (List ℕ)) → ((list : ℕ) (keys : List ℕ) → slice_get lane list ≡ Some keys →
    Lacks key keys) → Lacks key (lane_keys lane)
lacks_all key [] lacks = tt
lacks_all key (keys ∷ lane) lacks = lacks_joined key keys (lane_keys lane) (lacks 0 keys refl)
    (lacks_all key lane (λ list ks here. lacks (suc list) ks here))

once_joined : (xs ys : List ℕ) → AreOnce xs → AreOnce ys → ((key : ℕ) → KeyAmong key xs → Lacks key ys) →
    AreOnce (xs ++ ys)
once_joined [] ys once rest apart = rest
once_joined (x ∷ xs) ys once rest apart = (
  lacks_joined x xs ys once.0 (apart x (record { front = []; back = xs; parts = refl })),
  once_joined xs ys once.1 rest (λ key h. apart key
      (record { front = x ∷ h.front; back = h.back; parts = ap (λ ks. x ∷ ks) h.parts })),
)

once_from : (links : List (Option Link)) (n : ℕ) (lane : List (List ℕ)) →
    ((list : ℕ) (keys : List ℕ) → slice_get lane list ≡ Some keys → LinksSpell links (n + list) None keys None) →
    AreOnce (lane_keys lane)
once_from links n [] spelled = tt
once_from links n (keys ∷ lane) spelled =
    let here = spelled 0 keys refl in
    let later : (list : ℕ) (ks : List ℕ) → slice_get lane list ≡ Some ks →
    LinksSpell links (n + 1 + list) None ks None =
    λ list ks there. let e : n + suc list ≡ n + 1 + list = omega arith in
    subst (λ (l : ℕ). LinksSpell links l None ks None) e (spelled (suc list) ks there)
    in
    once_joined keys (lane_keys lane) (spelled_apart (n + 0) links None keys here)
    (once_from links (n + 1) lane later) (λ key h.
    let found = spelled_has (n + 0) links None h.front key h.back None
    (subst (λ (ks : List ℕ). LinksSpell links (n + 0) None ks None) h.parts here) in
    lacks_all key lane (λ list ks there. lacks_other (n + 1 + list) links None ks None key _ found
    (λ e. absurd (omega (arith, e))) (later list ks there)))

pub lane_once : (strand : Strand) (lane : List (List ℕ)) → SpellsLists strand lane → AreOnce (lane_keys lane)
lane_once strand lane spelled =
    once_from strand.links 0 lane (λ list keys here. subst (λ (l : ℕ). LinksSpell strand.links l None keys None)
    (sym (zero-add list)) (spelled.spelled list keys here))
