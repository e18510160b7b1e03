-- For callers: which keys stand in a lane, and where.
use Rattle.std.proofs.Common.{◌≡◌, ℕ, ◌<◌, List, [], ◌∷◌, ◌++◌, length, get_or, Option, Some, slice_get, sym, ap, ◌∙◌}
use Rattle.std.specs.Option.{IfSome}
use Rattle.std.proofs.lemmas.List.{append_assoc}
use Rattle.std.proofs.lemmas.Option.{slice_get-get_or}
use Rattle.link_lists.specs.Lanes.{StandsIn, IsKeyAfter, first_key}
pub use Rattle.link_lists.proofs.LaneLemmas.{StandsAt, stands_at, stands_from}

-- the first of the keys after this point of a list stands in the lane
front_stands : (lane : List (List ℕ)) (list : ℕ) (before after : List ℕ) →
    slice_get lane list ≡ Some (before ++ after) →
    IfSome (first_key after) (λ key. StandsIn key lane)
front_stands lane list before [] here = tt
front_stands lane list before (key ∷ after) here = stands_from key lane list before after here

-- what `front` returns stands in the lane
pub first_stands : (lane : List (List ℕ)) (list : ℕ) (r : Option ℕ) → list < length lane →
    r ≡ first_key (get_or lane list []) →
    IfSome r (λ key. StandsIn key lane)
first_stands lane list r within is =
    rw is (front_stands lane list [] (get_or lane list []) (slice_get-get_or lane list [] within))

-- what `next` returns stands in the lane
pub next_stands : (lane : List (List ℕ)) (key : ℕ) (r : Option ℕ) → StandsIn key lane → IsKeyAfter key lane r →
    IfSome r (λ next. StandsIn next lane)
next_stands lane key r stands after =
    let s = stands_at key lane stands in
    rw (after s.list s.front s.back s.here)
    (front_stands lane s.list (s.front ++ key ∷ []) s.back
    (s.here ∙ ap (λ ks. Some ks) (sym (append_assoc s.front (key ∷ []) s.back))))
