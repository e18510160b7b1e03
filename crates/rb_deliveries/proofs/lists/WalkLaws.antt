-- A walk along a list: what was passed, and where it stands.
use Rattle.std.proofs.Common.{◌≡◌, ℕ, ◌+◌, ◌≤◌, true, List, [], ◌∷◌, ◌++◌, length, Option, Some, None}
use Rattle.std.proofs.Common.{slice_get, sym, ap, subst, ◌∙◌, arith, append-nil, append_assoc, length-append}
use Rattle.link_lists.specs.Lanes.{IsKeyAfter, first_key}
use Rattle.rb_deliveries.specs.Taken.{lists_key}
use Rattle.rb_deliveries.proofs.lists.KeyLaws.{has_behind, has_first}

-- so many keys were passed, of which P holds, and here stands the first of the others
pub record IsWalk (P : List ℕ → Type 0) (whole : List ℕ) (i : ℕ) (at : Option ℕ) : Type 0 where
  pub before : List ℕ
  pub after : List ℕ
  pub parts : whole ≡ before ++ after
  pub count : length before ≡ i
  pub stands : at ≡ first_key after
  pub so_far : P before

-- a walk that stands at a key
pub record WalkAt (P : List ℕ → Type 0) (whole : List ℕ) (i key : ℕ) : Type 0 where
  pub before : List ℕ
  pub after : List ℕ
  pub parts : whole ≡ before ++ key ∷ after
  pub count : length before ≡ i
  pub so_far : P before

module _ (P : List ℕ → Type 0) (whole : List ℕ) (i : ℕ) where
  pub walk_at : (at : Option ℕ) (key : ℕ) → IsWalk P whole i at → at ≡ Some key → WalkAt P whole i key
  walk_at at key walk is = by_rest walk.after walk.parts (sym walk.stands ∙ is)
    where
      by_rest : (after : List ℕ) → whole ≡ walk.before ++ after → first_key after ≡ Some key → WalkAt P whole i key
      by_rest [] parts stands = absurd cc
      by_rest (k ∷ after) parts stands = let same : k ≡ key = cc in record {
        before = walk.before;
        after = after;
        parts = parts ∙ ap (λ (q : ℕ). walk.before ++ q ∷ after) same;
        count = walk.count;
        so_far = walk.so_far;
      }

  pub walk_has : (at : Option ℕ) (key : ℕ) → IsWalk P whole i at → at ≡ Some key → lists_key key whole ≡ true
  walk_has at key walk is =
      let a = walk_at at key walk is in
      ap (lists_key key) a.parts ∙ has_behind key a.before (key ∷ a.after) (has_first key a.after)

  -- it goes on to the next key
  pub walk_goes : (Q : List ℕ → Type 0) (lane : List (List ℕ)) (list : ℕ) (at next : Option ℕ) (key : ℕ) →
      slice_get lane list ≡ Some whole → IsWalk P whole i at → at ≡ Some key → IsKeyAfter key lane next →
      ((before : List ℕ) → P before → Q (before ++ key ∷ [])) → IsWalk Q whole (i + 1) next
  walk_goes Q lane list at next key here walk is after on =
      let a = walk_at at key walk is in record {
        before = a.before ++ key ∷ [];
        after = a.after;
        parts = a.parts ∙ sym (append_assoc a.before (key ∷ []) a.after);
        count = omega (arith, length-append a.before (key ∷ []), a.count);
        stands = after list a.before a.after (here ∙ ap (λ keys. Some keys) a.parts);
        so_far = on a.before a.so_far;
      }

  -- it ends where no key is left
  pub walk_ends : (at : Option ℕ) → IsWalk P whole i at → at ≡ None → P whole
  walk_ends at walk is = by_rest walk.after walk.parts (sym walk.stands ∙ is)
    where
      by_rest : (after : List ℕ) → whole ≡ walk.before ++ after → first_key after ≡ None → P whole
      by_rest [] parts stands = subst P (sym (parts ∙ append-nil walk.before)) walk.so_far
      by_rest (k ∷ after) parts stands = absurd cc

  pub walk_over : (at : Option ℕ) → IsWalk P whole i at → length whole ≤ i → P whole
  walk_over at walk long = by_rest walk.after walk.parts
    where
      by_rest : (after : List ℕ) → whole ≡ walk.before ++ after → P whole
      by_rest [] parts = subst P (sym (parts ∙ append-nil walk.before)) walk.so_far
      by_rest (k ∷ after) parts =
          absurd (omega (arith, long, ap length parts, length-append walk.before (k ∷ after), walk.count))
