-- Two lists that are the same have the same first item, and the same items after it. Items that move from one list
-- into another, one by one, keep what they have.
use Rattle.std.proofs.Common.{◌≡◌, ℕ, zero, suc, ◌+◌, Bool, true, if◌then◌else◌, List, [], ◌∷◌, ◌++◌, map, replicate}
use Rattle.std.proofs.Common.{ap, append_assoc, arith, refl, sym, ◌∙◌}
use Rattle.std.proofs.lemmas.List.{append-nil, map-append}

pub same_head : {A : Type 0} (x y : A) (xs ys : List A) → x ∷ xs ≡ y ∷ ys → x ≡ y
same_head x y xs ys same = cc

pub same_tail : {A : Type 0} (x y : A) (xs ys : List A) → x ∷ xs ≡ y ∷ ys → xs ≡ ys
same_tail x y xs ys same = cc

pub nothing_is_first : {A : Type 0} (x : A) (xs : List A) → [] ≡ x ∷ xs → ⊥
nothing_is_first x xs same = cc

-- one more item has moved
pub moved_on : {A B C : Type 0} (f : A → C) (g : B → C) (done : List A) (x : A) (y : B) (rest : List B) (whole : List C)
    → f x ≡ g y → map f done ++ map g (y ∷ rest) ≡ whole → map f (done ++ x ∷ []) ++ map g rest ≡ whole
moved_on f g done x y rest whole same is =
    ap (λ front. front ++ map g rest) (map-append f done (x ∷ []))
    ∙ append_assoc (map f done) (f x ∷ []) (map g rest)
    ∙ ap (λ z. map f done ++ z ∷ map g rest) same ∙ is

-- all items have moved
pub all_moved : {A B C : Type 0} (f : A → C) (g : B → C) (done : List A) (rest : List B) (whole : List C)
    → rest ≡ [] → map f done ++ map g rest ≡ whole → map f done ≡ whole
all_moved f g done rest whole none is =
    sym (append-nil (map f done)) ∙ ap (λ r. map f done ++ map g r) (sym none) ∙ is

replicate_more : {A : Type 0} (n : ℕ) (a : A) → replicate n a ++ a ∷ [] ≡ replicate (suc n) a
replicate_more zero a = refl
replicate_more (suc n) a = ap (λ rest. a ∷ rest) (replicate_more n a)

-- one more item that has the same as all before it
pub made_one_more : {A B : Type 0} (f : A → B) (done : List A) (x : A) (n : ℕ) (b : B) → map f done ≡ replicate n b → f x ≡ b
    → map f (done ++ x ∷ []) ≡ replicate (n + 1) b
made_one_more f done x n b before same =
    let next : suc n ≡ n + 1 = omega arith in
    map-append f done (x ∷ []) ∙ ap (λ front. front ++ f x ∷ []) before ∙ ap (λ z. replicate n b ++ z ∷ []) same
    ∙ replicate_more n b ∙ ap (λ m. replicate m b) next

-- what was pushed_one without an error is at the end
pub pushed_one : {A : Type 0} (ok : Bool) (old : List A) (x : A) (new : List A)
    → new ≡ (if ok then old ++ x ∷ [] else old) → ok ≡ true → new ≡ old ++ x ∷ []
pushed_one ok old x new is was = is ∙ ap (λ b. if b then old ++ x ∷ [] else old) was
