-- A lane with one of its lists cut in two, while links are written at the cut.
use Rattle.std.proofs.Common.{◌≡◌, ◌≢◌, ℕ, zero, suc, ◌<◌, ◌⊎◌, List, [], ◌∷◌, ◌++◌, length, map, get_or, set, Option}
use Rattle.std.proofs.Common.{Some, None, slice_get, refl, sym, ap, subst, ◌∙◌, inl, inr, arith}
use Rattle.std.specs.Option.{option_map}
use Rattle.std.proofs.lemmas.Bool.{cases_eq}
use Rattle.std.proofs.lemmas.List.{get_or-set_same, get_or-set_other, set-set, set-get_or, map-set, length-map}
use Rattle.std.proofs.lemmas.Option.{slice_get_within}
use Rattle.link_lists.specs.declared.link.Link.{Link}
use Rattle.link_lists.specs.declared.link.Ends.{Ends}
use Rattle.link_lists.specs.declared.link.Side.{Side}
use Rattle.link_lists.specs.declared.link.Side.TheVariants.{Next, Previous}
use Rattle.link_lists.specs.Nodes.{Strand, no_ends, link_set}
use Rattle.link_lists.specs.Linking.{link_beside, ends_beside, beside_set, keys_tied, key_placed}
use Rattle.link_lists.specs.Spelling.{first_or, last_or, ends_of, LinksSpell, SpellsLists}
use Rattle.link_lists.proofs.NodeLemmas.{some_within}
use Rattle.link_lists.proofs.SpellLemmas.{Lacks, ShareNoKey, AreOnce, first_append, last_append, lacks_append}
use Rattle.link_lists.proofs.SpellLemmas.{once_append, apart_append, apart_without, spells_parts, spells_joined}
use Rattle.link_lists.proofs.SpellLemmas.{spells_kept, lacks_other, spelled_has, spelled_apart}

-- the element at a place that was written, and at another
pub slice_get_set : {A : Type 0} (xs : List A) (i : ℕ) (x : A) → i < length xs → slice_get (set xs i x) i ≡ Some x
slice_get_set [] i x within = absurd (omega arith)
slice_get_set (y ∷ xs) zero x within = refl
slice_get_set (y ∷ xs) (suc i) x within = slice_get_set xs i x (omega arith)

pub slice_get_set_other : {A : Type 0} (xs : List A) (i j : ℕ) (x : A) → j ≢ i →
    slice_get (set xs i x) j ≡ slice_get xs j
slice_get_set_other [] i j x differs = refl
slice_get_set_other (y ∷ xs) zero zero x differs = absurd (differs refl)
slice_get_set_other (y ∷ xs) zero (suc j) x differs = refl
slice_get_set_other (y ∷ xs) (suc i) zero x differs = refl
slice_get_set_other (y ∷ xs) (suc i) (suc j) x differs = slice_get_set_other xs i j x (λ e. differs (ap suc e))

-- a list is empty, or has a last key
pub record HasLast (keys : List ℕ) : Type 0 where
  pub front : List ℕ
  pub last : ℕ
  pub parts : keys ≡ front ++ last ∷ []

pub empty_or_last : (keys : List ℕ) → (keys ≡ []) ⊎ HasLast keys
empty_or_last [] = inl refl
empty_or_last (key ∷ keys) =
    elim (empty_or_last keys) [
      | inl none ↦ inr (record { front = []; last = key; parts = ap (λ ks. key ∷ ks) none })
      | inr some ↦ inr (record { front = key ∷ some.front; last = some.last; parts = ap (λ ks. key ∷ ks) some.parts })
    ]

-- these links spell each list but this one
abbrev pub OthersSpelled : List (List ℕ) → ℕ → List (Option Link) → Type 0
OthersSpelled lists list links = (other : ℕ) (keys : List ℕ) → other ≢ list → slice_get lists other ≡ Some keys →
    LinksSpell links other None keys None

-- the parts of this list, which has no key twice
pub record AreParts (lists : List (List ℕ)) (list : ℕ) (front back : List ℕ) : Type 0 where
  pub within : list < length lists
  pub front_once : AreOnce front
  pub back_once : AreOnce back
  pub apart : ShareNoKey front back

-- The lane spells these lists, but for this list, which is cut between front and back. After the front comes `after`,
-- and before the back comes `before`.
pub record IsCutLane (lists : List (List ℕ)) (list : ℕ) (front : List ℕ) (after before : Option ℕ) (back : List ℕ)
    (strand : Strand) : Type 0 where
  pub parts : AreParts lists list front back
  pub ends : strand.ends ≡ set (map ends_of lists) list
      (record { first = first_or front after; last = last_or before back })
  pub front_spelled : LinksSpell strand.links list None front after
  pub back_spelled : LinksSpell strand.links list before back None
  pub others : OthersSpelled lists list strand.links

-- the ends of a list that is there
ends_there : (lists : List (List ℕ)) (list : ℕ) (keys : List ℕ) → slice_get lists list ≡ Some keys →
    get_or (map ends_of lists) list no_ends ≡ ends_of keys
ends_there [] list keys here = absurd cc
ends_there (ks ∷ lists) zero keys here = let e : ks ≡ keys = cc in ap ends_of e
ends_there (ks ∷ lists) (suc list) keys here = ends_there lists list keys here

-- the ends of a list in two parts
pub ends_split : (front back : List ℕ) → ends_of (front ++ back) ≡ record {
  first =
      first_or front (first_or back None);
  last = last_or (last_or None front) back;
}
ends_split front back = let f = first_append front back None in let l = last_append None front back in
    λ i. record { first = f i; last = l i }

module _ (lists : List (List ℕ)) (list : ℕ) where
  -- a lane can be cut before any key
  pub cut_between : (strand : Strand) (front back : List ℕ) → SpellsLists strand lists →
      slice_get lists list ≡ Some (front ++ back) →
      IsCutLane lists list front (first_or back None) (last_or None front) back strand
  cut_between strand front back spelled here =
      let whole = spelled.spelled list (front ++ back) here in
      let parts = spells_parts list strand.links None front back None whole in
      let once = once_append front back (spelled_apart list strand.links None (front ++ back) whole) in
      record {
        parts = record {
          within = slice_get_within lists list (front ++ back) here;
          front_once = once.0;
          back_once = once.1.0;
          apart = once.1.1;
        };
        ends = spelled.ends ∙ sym (set-get_or (map ends_of lists) list no_ends)
            ∙ ap (set (map ends_of lists) list) (ends_there lists list (front ++ back) here ∙ ends_split front back);
        front_spelled = parts.0;
        back_spelled = parts.1;
        others = λ other keys differs there. spelled.spelled other keys there;
      }

  -- and round a key, which is left out
  pub cut_round : (strand : Strand) (front : List ℕ) (key : ℕ) (back : List ℕ) → SpellsLists strand lists →
      slice_get lists list ≡ Some (front ++ key ∷ back) →
      IsCutLane lists list front (Some key) (Some key) back strand
  cut_round strand front key back spelled here =
      let c = cut_between strand front (key ∷ back) spelled here in
      record {
        parts = record {
          within = c.parts.within;
          front_once = c.parts.front_once;
          back_once = c.parts.back_once.1;
          apart = (apart_without front key back c.parts.apart).1;
        };
        ends = c.ends;
        front_spelled = c.front_spelled;
        back_spelled = c.back_spelled.1;
        others = c.others;
      }

  -- a link written at a key that stands nowhere
  pub key_written : (front back : List ℕ) (after before : Option ℕ) (strand : Strand) (key : ℕ) (link : Link) →
      IsCutLane lists list front after before back strand →
      Lacks key front → Lacks key back → ((other : ℕ) (keys : List ℕ) → slice_get lists other ≡ Some keys →
      Lacks key keys) →
      IsCutLane lists list front after before back (link_set key link strand)
  key_written front back after before strand key link c no_front no_back nowhere = record {
    parts = c.parts;
    ends = c.ends;
    front_spelled = spells_kept list strand.links None front after key (Some link) no_front c.front_spelled;
    back_spelled = spells_kept list strand.links before back None key (Some link) no_back c.back_spelled;
    others = λ other keys differs there. spells_kept other strand.links None keys None key (Some link)
        (nowhere other keys there) (c.others other keys differs there);
  }

  -- the ends of the list, written again
  ends_written : (side : Side) (ends : List Ends) (e : Ends) (other : Option ℕ) → list < length ends →
      set (set ends list e) list (ends_beside side other (get_or (set ends list e) list no_ends)) ≡ set ends list
      (ends_beside side other e)
  ends_written side ends e other within =
      set-set ends list e _ ∙ ap (λ (x : Ends). set ends list (ends_beside side other x))
      (get_or-set_same ends list e no_ends within)

  ends_within : list < length lists → list < length (map ends_of lists)
  ends_within within = rw (length-map lists ends_of) within

  -- one side of a key's link, written again, and the other lists after that
  side_written : (side : Side) (links : List (Option Link)) (key : ℕ) (old : Link) (other : Option ℕ) →
      get_or links key None ≡ Some old →
      get_or (set links key (option_map (link_beside side other) (get_or links key None))) key None ≡ Some
      (link_beside side other old)
  side_written side links key old other found =
      ap (λ (o : Option Link). get_or (set links key (option_map (link_beside side other) o)) key None) found
      ∙ get_or-set_same links key (Some (link_beside side other old)) None (some_within links key old found)

  others_kept : (links : List (Option Link)) (key : ℕ) (old : Link) (new : Option Link) →
      get_or links key None ≡ Some old → old.list ≡ list → OthersSpelled lists list links →
      OthersSpelled lists list (set links key new)
  others_kept links key old new found here spelled other keys differs at =
      let spells = spelled other keys differs at in
      spells_kept other links None keys None key new
      (lacks_other other links None keys None key old found (λ e. differs (sym e ∙ here)) spells) spells

  -- what comes next is written where nothing stands before the cut
  next_at_start : (back : List ℕ) (after before next : Option ℕ) (strand : Strand) →
      IsCutLane lists list [] after before back strand →
      IsCutLane lists list [] next before back (beside_set Next list None next strand)
  next_at_start back after before next strand c = record {
    parts = c.parts;
    ends = ap (λ (es : List Ends). set es list (ends_beside Next next (get_or es list no_ends))) c.ends
        ∙ ends_written Next (map ends_of lists) (record { first = after; last = last_or before back }) next
        (ends_within c.parts.within);
    front_spelled = tt;
    back_spelled = c.back_spelled;
    others = c.others;
  }

  -- and at the last key before the cut
  next_at_key : (front : List ℕ) (key : ℕ) (back : List ℕ) (after before next : Option ℕ) (strand : Strand) →
      IsCutLane lists list (front ++ key ∷ []) after before back strand →
      IsCutLane lists list (front ++ key ∷ []) next before back (beside_set Next list (Some key) next strand)
  next_at_key front key back after before next strand c =
      let old : Link = record { list = list; previous = last_or None front; next = after } in
      let found : get_or strand.links key None ≡ Some old =
      spelled_has list strand.links None front key [] after c.front_spelled in
      let parts = spells_parts list strand.links None front (key ∷ []) after c.front_spelled in
      let apart = apart_append front (key ∷ []) back c.parts.apart in
      let no_front : Lacks key front =
      (apart_without front key [] (once_append front (key ∷ []) c.parts.front_once).1.1).0 in
      record {
        parts = c.parts;
        ends = c.ends ∙ ap (λ (f : Option ℕ). set (map ends_of lists) list
            (record { first = f; last = last_or before back }))
            (first_append front (key ∷ []) after ∙ sym (first_append front (key ∷ []) next));
        front_spelled = spells_joined list _ None front (key ∷ []) next
            (spells_kept list strand.links None front (Some key) key _ no_front parts.0)
            (side_written Next strand.links key old next found, tt);
        back_spelled = spells_kept list strand.links before back None key _ apart.1.0 c.back_spelled;
        others = others_kept strand.links key old _ found refl c.others;
      }

  -- whatever stands before the cut
  pub next_written : (front back : List ℕ) (after before next : Option ℕ) (strand : Strand) →
      IsCutLane lists list front after before back strand →
      IsCutLane lists list front next before back (beside_set Next list (last_or None front) next strand)
  next_written front back after before next strand c =
      elim (empty_or_last front) [
        | inl none ↦
            subst (λ (f : List ℕ). IsCutLane lists list f next before back
            (beside_set Next list (last_or None f) next strand))
            (sym none)
            (next_at_start back after before next strand
            (subst (λ (f : List ℕ). IsCutLane lists list f after before back strand) none c))
        | inr some ↦
            subst (λ (f : List ℕ). IsCutLane lists list f next before back
            (beside_set Next list (last_or None f) next strand))
            (sym some.parts)
            (subst (λ (k : Option ℕ). IsCutLane lists list (some.front ++ some.last ∷ []) next before back
            (beside_set Next list k next strand)) (sym (last_append None some.front (some.last ∷ [])))
            (next_at_key some.front some.last back after before next strand
            (subst (λ (f : List ℕ). IsCutLane lists list f after before back strand) some.parts c)))
      ]

  -- what comes before is written at the first key after the cut, or at the end
  pub previous_written : (front back : List ℕ) (after before previous : Option ℕ) (strand : Strand) →
      IsCutLane lists list front after before back strand →
      IsCutLane lists list front after previous back (beside_set Previous list (first_or back None) previous strand)
  previous_written front [] after before previous strand c = record {
    parts = c.parts;
    ends = ap (λ (es : List Ends). set es list (ends_beside Previous previous (get_or es list no_ends))) c.ends
        ∙ ends_written Previous (map ends_of lists) (record { first = first_or front after; last = before }) previous
        (ends_within c.parts.within);
    front_spelled = c.front_spelled;
    back_spelled = tt;
    others = c.others;
  }
  previous_written front (key ∷ back) after before previous strand c =
      let old : Link = record { list = list; previous = before; next = first_or back None } in
      let found : get_or strand.links key None ≡ Some old = c.back_spelled.0 in
      let there = side_written Previous strand.links key old previous found in
      record {
        parts = c.parts;
        ends = c.ends;
        front_spelled = spells_kept list strand.links None front after key _
            (apart_without front key back c.parts.apart).0 c.front_spelled;
        back_spelled = (
          there,
          spells_kept list strand.links (Some key) back None key _ c.parts.back_once.0
              c.back_spelled.1,
        );
        others = others_kept strand.links key old _ found refl c.others;
      }

  -- a lane whose list is spelled again, whatever it is now
  pub spelled_again : (strand : Strand) (keys : List ℕ) → list < length lists →
      strand.ends ≡ set (map ends_of lists) list (ends_of keys) →
      LinksSpell strand.links list None keys None →
      OthersSpelled lists list strand.links →
      SpellsLists strand (set lists list keys)
  spelled_again strand keys within ends spells others = record {
    ends = ends ∙ sym (map-set ends_of lists list keys);
    spelled = λ other ks there.
        elim (cases_eq other list) [
          | inl same ↦
              let here : Some keys ≡ Some ks = sym (slice_get_set lists list keys within)
              ∙ ap (slice_get (set lists list keys)) (sym same) ∙ there in
              let e : keys ≡ ks = cc in
              subst (λ (l : ℕ). LinksSpell strand.links l None ks None) (sym same)
              (subst (λ (k : List ℕ). LinksSpell strand.links list None k None) e spells)
          | inr differs ↦ others other ks differs (sym (slice_get_set_other lists list other keys differs) ∙ there)
        ];
  }

  -- a key taken out of its list
  pub tied_spelled : (strand : Strand) (front : List ℕ) (key : ℕ) (back : List ℕ) → SpellsLists strand lists →
      slice_get lists list ≡ Some (front ++ key ∷ back) →
      SpellsLists (keys_tied list (last_or None front) (first_or back None) strand) (set lists list (front ++ back))
  tied_spelled strand front key back spelled here =
      let c = cut_round strand front key back spelled here in
      let d = next_written front back (Some key) (Some key) (first_or back None) strand c in
      let e = previous_written front back (first_or back None) (Some key) (last_or None front) _ d in
      spelled_again _ (front ++ back) e.parts.within (e.ends
      ∙ ap (set (map ends_of lists) list) (sym (ends_split front back)))
      (spells_joined list _ None front back None e.front_spelled e.back_spelled) e.others

  next_other : (front : List ℕ) (next : Option ℕ) (strand : Strand) (key : ℕ) → Lacks key front →
      get_or (beside_set Next list (last_or None front) next strand).links key None ≡ get_or strand.links key None
  next_other front next strand key lacks =
      elim (empty_or_last front) [
        | inl none ↦ subst (λ (f : List ℕ). get_or
            (beside_set Next list (last_or None f) next strand).links key None ≡ get_or strand.links key None)
            (sym none) refl
        | inr some ↦
            subst (λ (f : List ℕ). get_or (beside_set Next list (last_or None f) next strand).links key None ≡ get_or
            strand.links key None) (sym some.parts)
            (subst (λ (k : Option ℕ). get_or (beside_set Next list k next strand).links key None ≡ get_or
            strand.links key None) (sym (last_append None some.front (some.last ∷ [])))
            (get_or-set_other strand.links some.last key _ None
            (lacks_append key some.front (some.last ∷ []) (subst (Lacks key) some.parts lacks)).1.0))
      ]

  previous_other : (back : List ℕ) (previous : Option ℕ) (strand : Strand) (key : ℕ) → Lacks key back →
      get_or (beside_set Previous list (first_or back None) previous strand).links key None ≡ get_or
      strand.links key None
  previous_other [] previous strand key lacks = refl
  previous_other (k ∷ back) previous strand key lacks = get_or-set_other strand.links k key _ None lacks.0

  -- a key put between two parts of a list
  pub placed_spelled : (strand : Strand) (front : List ℕ) (key : ℕ) (back : List ℕ) → SpellsLists strand lists →
      slice_get lists list ≡ Some (front ++ back) →
      key < length strand.links → ((other : ℕ) (keys : List ℕ) → slice_get lists other ≡ Some keys → Lacks key keys) →
      SpellsLists (key_placed key (record { list = list; previous = last_or None front; next = first_or back None })
      strand)
      (set lists list (front ++ key ∷ back))
  placed_spelled strand front key back spelled here within nowhere =
      let link : Link = record { list = list; previous = last_or None front; next = first_or back None } in
      let lacks = lacks_append key front back (nowhere list (front ++ back) here) in
      let b = cut_between strand front back spelled here in
      let c = key_written front back _ _ strand key link b lacks.0 lacks.1 nowhere in
      let d = next_written front back (first_or back None) (last_or None front) (Some key) _ c in
      let e = previous_written front back (Some key) (last_or None front) (Some key) _ d in
      let there = previous_other back (Some key) _ key lacks.1
      ∙ next_other front (Some key) (link_set key link strand) key lacks.0
      ∙ get_or-set_same strand.links key (Some link) None within
      in
      spelled_again _ (front ++ key ∷ back) e.parts.within
      (e.ends ∙ ap (set (map ends_of lists) list) (sym (ends_split front (key ∷ back))))
      (spells_joined list _ None front (key ∷ back) None e.front_spelled (there, e.back_spelled)) e.others
