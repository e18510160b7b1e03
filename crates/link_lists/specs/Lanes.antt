-- Lanes: values under keys, and two lanes of lists of these keys.
use Rattle.std.specs.Prelude.{◌≡◌, ◌≢◌, ℕ, nat_eq, not, IsTrue, IsSome, List, [], ◌∷◌, ◌++◌, map}
use Rattle.std.specs.Prelude.{filter, Option, Some, None, slice_get, slice_index_or, slice_set}
use Rattle.std.specs.Prelude.{count_by, is_some, if◌then◌else◌}
use Rattle.std.specs.List.{flat_map, list_any, IsDistinct}
use Rattle.link_lists.specs.declared.lane.Lane.{Lane}
use Rattle.link_lists.specs.declared.lane.Lane.TheVariants.{First, Second}

-- *Lanes*: the value at each key from 0 on, the lists of each lane, each a sequence of keys, and
-- how many values fit without allocation.
pub record Lanes (T : Type 0) : Type 0 where
  pub slots : List (Option T)
  pub first : List (List ℕ)
  pub second : List (List ℕ)
  pub spare : ℕ

-- all keys of a lane, list by list
abbrev pub lane_keys : List (List ℕ) → List ℕ
lane_keys lane = flat_map (λ keys. keys) lane

-- the key stands in a list of the lane
abbrev pub StandsIn : ℕ → List (List ℕ) → Type 0
StandsIn key lane = IsTrue (list_any (nat_eq key) (lane_keys lane))

-- the first key of a list, if there is one
abbrev pub first_key : List ℕ → Option ℕ
first_key [] = None
first_key (key ∷ keys) = Some key

-- the result is the key after this one in its list, or nothing at the list's end
abbrev pub IsKeyAfter : ℕ → List (List ℕ) → Option ℕ → Type 0
IsKeyAfter key lane result = (list : ℕ) (before after : List ℕ) →
    slice_get lane list ≡ Some (before ++ key ∷ after) → result ≡ first_key after

-- the lane with the key at the end of this list
abbrev pub pushed_back : ℕ → ℕ → List (List ℕ) → List (List ℕ)
pushed_back list key lane = slice_set lane list (slice_index_or lane list [] ++ key ∷ [])

-- the lane with the key directly after `at`, in the list where `at` stands
abbrev pub put_after : ℕ → ℕ → List (List ℕ) → List (List ℕ)
put_after at key =
    map (flat_map (λ other. if nat_eq at other then (other ∷ key ∷ []) else (other ∷ [])))

-- the lane with the key taken out of its list
abbrev pub without_key : ℕ → List (List ℕ) → List (List ℕ)
without_key key = map (filter (λ other. not (nat_eq key other)))

-- as many lists, each empty
abbrev pub emptied : List (List ℕ) → List (List ℕ)
emptied = map (λ keys. [])

module _ {T : Type 0} where
  -- how many keys have a value
  abbrev pub value_count : Lanes T → ℕ
  value_count lanes = count_by is_some lanes.slots

  -- the value at a key
  abbrev pub value_under : Lanes T → ℕ → Option T
  value_under lanes key = slice_index_or lanes.slots key None

  -- the lists of a lane
  abbrev pub lane_of : Lane → Lanes T → List (List ℕ)
  lane_of First lanes = lanes.first
  lane_of Second lanes = lanes.second

  -- the same with other lists in one lane
  abbrev pub with_lane : Lane → List (List ℕ) → Lanes T → Lanes T
  with_lane First lists lanes = record lanes { first = lists }
  with_lane Second lists lanes = record lanes { second = lists }

  -- the same with this value at the key
  abbrev pub with_value_under : Lanes T → ℕ → T → Lanes T
  with_value_under lanes key value =
      record lanes { slots = slice_set lanes.slots key (Some value) }

  -- No key stands twice in this lane, and each key that stands in it has a value.
  pub record IsLane (slots : List (Option T)) (lane : List (List ℕ)) : Type 0 where
    pub distinct : IsDistinct nat_eq (lane_keys lane)
    pub valued : (key : ℕ) → StandsIn key lane → IsSome (slice_index_or slots key None)

  -- No key stands twice in a lane, and each key that stands in one has a value.
  pub record AreLanes (lanes : Lanes T) : Type 0 where
    pub first : IsLane lanes.slots lanes.first
    pub second : IsLane lanes.slots lanes.second

  -- The key has this slot, and each other key has what it had.
  pub record ChangesSlot (old new : Lanes T) (key : ℕ) (slot : Option T) : Type 0 where
    pub changed : value_under new key ≡ slot
    pub others : (other : ℕ) → other ≢ key → value_under new other ≡ value_under old other
