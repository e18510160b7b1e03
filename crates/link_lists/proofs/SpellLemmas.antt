-- What links spell: lists cut in two, walks, and that no key stands twice.
use Rattle.std.proofs.Common.{◌≡◌, ◌≢◌, ℕ, zero, suc, ◌≤◌, List, [], ◌∷◌, ◌++◌, length, get_or, set, Option, Some, None}
use Rattle.std.proofs.Common.{refl, sym, ap, subst, ◌∙◌, arith, length-append}
use Rattle.std.proofs.lemmas.List.{append_assoc, get_or-set_other}
use Rattle.link_lists.specs.declared.link.Link.{Link}
use Rattle.link_lists.specs.Spelling.{walk, next_of, first_or, last_or, LinksSpell}

-- the key is none of these
abbrev pub Lacks : ℕ → List ℕ → Type 0
Lacks key [] = Unit {0}
Lacks key (other ∷ keys) = (key ≢ other) × Lacks key keys

-- no key stands in both
abbrev pub ShareNoKey : List ℕ → List ℕ → Type 0
ShareNoKey [] ys = Unit {0}
ShareNoKey (x ∷ xs) ys = Lacks x ys × ShareNoKey xs ys

-- no key stands twice
abbrev pub AreOnce : List ℕ → Type 0
AreOnce [] = Unit {0}
AreOnce (x ∷ xs) = Lacks x xs × AreOnce xs

pub first_append : (xs ys : List ℕ) (after : Option ℕ) → first_or (xs ++ ys) after ≡ first_or xs (first_or ys after)
first_append [] ys after = refl
first_append (x ∷ xs) ys after = refl

pub last_append : (before : Option ℕ) (xs ys : List ℕ) → last_or before (xs ++ ys) ≡ last_or (last_or before xs) ys
last_append before [] ys = refl
last_append before (x ∷ xs) ys = last_append (Some x) xs ys

pub lacks_append : (key : ℕ) (xs ys : List ℕ) → Lacks key (xs ++ ys) → Lacks key xs × Lacks key ys
lacks_append key [] ys lacks = (tt, lacks)
lacks_append key (x ∷ xs) ys lacks = let rest = lacks_append key xs ys lacks.1 in ((lacks.0, rest.0), rest.1)

pub once_append : (xs ys : List ℕ) → AreOnce (xs ++ ys) → AreOnce xs × (AreOnce ys × ShareNoKey xs ys)
once_append [] ys once = (tt, (once, tt))
once_append (x ∷ xs) ys once =
    let lacks = lacks_append x xs ys once.0 in
    let rest = once_append xs ys once.1 in
    ((lacks.0, rest.0), (rest.1.0, (lacks.1, rest.1.1)))

pub apart_without : (xs : List ℕ) (y : ℕ) (ys : List ℕ) → ShareNoKey xs (y ∷ ys) → Lacks y xs × ShareNoKey xs ys
apart_without [] y ys apart = (tt, tt)
apart_without (x ∷ xs) y ys apart =
    let rest = apart_without xs y ys apart.1 in
    (((λ e. apart.0.0 (sym e)), rest.0), (apart.0.1, rest.1))

pub apart_append : (xs xs' ys : List ℕ) → ShareNoKey (xs ++ xs') ys → ShareNoKey xs ys × ShareNoKey xs' ys
apart_append [] xs' ys apart = (tt, apart)
apart_append (x ∷ xs) xs' ys apart = let rest = apart_append xs xs' ys apart.1 in ((apart.0, rest.0), rest.1)

-- a list without its first key
abbrev pub tail_of : List ℕ → List ℕ
tail_of [] = []
tail_of (x ∷ xs) = xs

module _ (list : ℕ) where
  -- a spelled list in two parts
  pub spells_parts : (links : List (Option Link)) (before : Option ℕ) (xs ys : List ℕ) (after : Option ℕ) →
      LinksSpell links list before (xs ++ ys) after →
      LinksSpell links list before xs (first_or ys after) × LinksSpell links list (last_or before xs) ys after
  spells_parts links before [] ys after spells = (tt, spells)
  spells_parts links before (x ∷ xs) ys after spells =
      let rest = spells_parts links (Some x) xs ys after spells.1 in (
        (
          spells.0 ∙ ap (λ (n : Option ℕ). Some (record { list = list; previous = before; next = n }))
              (first_append xs ys after),
          rest.0,
        ),
        rest.1,
      )

  -- and put together
  pub spells_joined : (links : List (Option Link)) (before : Option ℕ) (xs ys : List ℕ) (after : Option ℕ) →
      LinksSpell links list before xs (first_or ys after) →
      LinksSpell links list (last_or before xs) ys after → LinksSpell links list before (xs ++ ys) after
  spells_joined links before [] ys after front back = back
  spells_joined links before (x ∷ xs) ys after front back = (
    front.0 ∙ ap (λ (n : Option ℕ). Some (record { list = list; previous = before; next = n }))
        (sym (first_append xs ys after)),
    spells_joined links (Some x) xs ys after front.1 back,
  )

  -- what is written at a key that isn't one of these
  pub spells_kept : (links : List (Option Link)) (before : Option ℕ) (keys : List ℕ) (after : Option ℕ) (key : ℕ)
      (o : Option Link) → Lacks key keys →
      LinksSpell links list before keys after → LinksSpell (set links key o) list before keys after
  spells_kept links before [] after key o lacks spells = tt
  spells_kept links before (k ∷ keys) after key o lacks spells = (
    get_or-set_other links key k o None (λ e. lacks.0 (sym e)) ∙ spells.0,
    spells_kept links (Some k) keys after key o lacks.1 spells.1,
  )

  -- a key whose link names another list isn't one of these
  pub lacks_other : (links : List (Option Link)) (before : Option ℕ) (keys : List ℕ) (after : Option ℕ) (key : ℕ)
      (link : Link) →
      get_or links key None ≡ Some link → link.list ≢ list → LinksSpell links list before keys after → Lacks key keys
  lacks_other links before [] after key link found differs spells = tt
  lacks_other links before (k ∷ keys) after key link found differs spells = (
    λ same. differs (
        let e : Some link ≡ Some (record { list = list; previous = before; next = first_or keys after }) =
        sym found ∙ ap (λ q. get_or links q None) same ∙ spells.0
        in
        cc
        ),
    lacks_other links (Some k) keys after key link found differs spells.1,
  )

  -- a key with no link isn't one of these
  pub lacks_vacant : (links : List (Option Link)) (before : Option ℕ) (keys : List ℕ) (after : Option ℕ) (key : ℕ) →
      get_or links key None ≡ None → LinksSpell links list before keys after → Lacks key keys
  lacks_vacant links before [] after key found spells = tt
  lacks_vacant links before (k ∷ keys) after key found spells = (
    λ same. let e : None ≡ Some (record { list = list; previous = before; next = first_or keys after }) = sym found
        ∙ ap (λ q. get_or links q None) same ∙ spells.0 in cc,
    lacks_vacant links (Some k) keys after key found spells.1,
  )

  -- what is spelled to its end from one key is one list
  pub spelled_once : (links : List (Option Link)) (b c : Option ℕ) (xs ys : List ℕ) → LinksSpell links list b xs None →
      LinksSpell links list c ys None →
      first_or xs None ≡ first_or ys None → xs ≡ ys
  spelled_once links b c [] [] p q same = refl
  spelled_once links b c [] (y ∷ ys) p q same = absurd cc
  spelled_once links b c (x ∷ xs) [] p q same = absurd cc
  spelled_once links b c (x ∷ xs) (y ∷ ys) p q same =
      let head : x ≡ y = cc in
      let next : first_or xs None ≡ first_or ys None =
      ap next_of (sym p.0) ∙ ap (λ k. next_of (get_or links k None)) head ∙ ap next_of q.0
      in
      let rest = spelled_once links (Some x) (Some y) xs ys p.1 q.1 next in
      cc

  -- no key stands twice in it
  pub spelled_lacks : (links : List (Option Link)) (before : Option ℕ) (key : ℕ) (whole front back : List ℕ) →
      LinksSpell links list before (key ∷ whole) None →
      whole ≡ front ++ back → Lacks key back
  spelled_lacks links before key whole front [] spells parts = tt
  spelled_lacks links before key whole front (k ∷ back) spells parts = (
    λ same.
        let tail = subst (λ w. LinksSpell links list (Some key) w None) parts spells.1 in
        let from_k = (spells_parts links (Some key) front (k ∷ back) None tail).1 in
        let e : key ∷ whole ≡ k ∷ back = spelled_once links before (last_or (Some key) front) (key ∷ whole)
        (k ∷ back) spells from_k (ap Some same) in
        let lengths : length (front ++ k ∷ back) ≡ length back = ap length (sym parts)
        ∙ ap (λ xs. length (tail_of xs)) e in
        omega (arith, lengths, length-append front (k ∷ back)),
    spelled_lacks links before key whole (front ++ k ∷ []) back spells (parts ∙ sym (append_assoc front (k ∷ []) back)),
  )

  pub spelled_apart : (links : List (Option Link)) (before : Option ℕ) (keys : List ℕ) →
      LinksSpell links list before keys None → AreOnce keys
  spelled_apart links before [] spells = tt
  spelled_apart links before (k ∷ keys) spells = (
    spelled_lacks links before k keys [] keys spells refl,
    spelled_apart
        links (Some k) keys spells.1,
  )

  -- a walk meets what is spelled
  pub walk_spelled : (links : List (Option Link)) (before : Option ℕ) (keys : List ℕ) (fuel : ℕ) →
      LinksSpell links list before keys None → length keys ≤ fuel →
      walk links fuel (first_or keys None) ≡ keys
  walk_spelled links before [] zero spells enough = refl
  walk_spelled links before [] (suc fuel) spells enough = refl
  walk_spelled links before (k ∷ keys) zero spells enough = absurd (omega arith)
  walk_spelled links before (k ∷ keys) (suc fuel) spells enough =
      ap (λ (n : Option ℕ). k ∷ walk links fuel n) (ap next_of spells.0)
      ∙ ap (λ rest. k ∷ rest) (walk_spelled links (Some k) keys fuel spells.1 (omega arith))

  -- each of these keys has a link, in this list
  pub spelled_has : (links : List (Option Link)) (before : Option ℕ) (xs : List ℕ) (key : ℕ) (ys : List ℕ)
      (after : Option ℕ) →
      LinksSpell links list before (xs ++ key ∷ ys) after →
      get_or links key None ≡ Some (record { list = list; previous = last_or before xs; next = first_or ys after })
  spelled_has links before xs key ys after spells = (spells_parts links before xs (key ∷ ys) after spells).1.0
