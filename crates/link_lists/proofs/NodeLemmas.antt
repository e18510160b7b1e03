-- Nodes in a slab: one node written, one removed, and which keys have a link.
use Rattle.std.proofs.Common.{◌≡◌, ◌≢◌, ℕ, zero, suc, ◌+◌, ◌-◌, ◌<◌, ◌≤◌, List, [], ◌∷◌, length, map, get_or, set, Option}
use Rattle.std.proofs.Common.{Some, None, is_some, cond, count_by, filter, refl, sym, ap, ◌∙◌, arith}
use Rattle.std.specs.Option.{option_map}
use Rattle.std.proofs.lemmas.List.{get_or_past, map-set, set-get_or}
use Rattle.std.proofs.lemmas.List.Sums.{length-filter, sum_by-set}
use Rattle.slab.specs.Slab.{Slab, get, with_value, slab_len, HasRoomFor, Updates}
use Rattle.link_lists.specs.declared.lane.Lane.{Lane}
use Rattle.link_lists.specs.declared.lane.Lane.TheVariants.{First, Second}
use Rattle.link_lists.specs.declared.link.Link.{Link}
use Rattle.link_lists.specs.declared.link.Ends.{Ends}
use Rattle.link_lists.specs.declared.link.Node.{Node}
use Rattle.link_lists.specs.Nodes.{Nodes, nodes_seen, no_ends, on_lane, link_set, with_slot, without_node}
use Rattle.link_lists.specs.Nodes.{without_nodes, IsAlike, GainsValue}

-- two views of the same slots have something at the same keys
pub both_some : {A B C : Type 0} (f : A → B) (g : A → C) (xs : List (Option A)) (key : ℕ) →
    is_some (get_or (map (option_map f) xs) key None) ≡ is_some (get_or (map (option_map g) xs) key None)
both_some f g [] key = refl
both_some f g (None ∷ xs) zero = refl
both_some f g (Some x ∷ xs) zero = refl
both_some f g (x ∷ xs) (suc key) = both_some f g xs key

-- what a view of slots has at a key
pub seen_under : {A B : Type 0} (f : A → B) (xs : List (Option A)) (key : ℕ) →
    get_or (map (option_map f) xs) key None ≡ option_map f (get_or xs key None)
seen_under f [] key = refl
seen_under f (x ∷ xs) zero = refl
seen_under f (x ∷ xs) (suc key) = seen_under f xs key

-- a view that doesn't show what was written stays
pub seen_kept : {A B : Type 0} (f : A → B) (xs : List (Option A)) (key : ℕ) (old new : A) →
    get_or xs key None ≡ Some old → f new ≡ f old → map (option_map f) (set xs key (Some new)) ≡ map (option_map f) xs
seen_kept f xs key old new found same =
    map-set (option_map f) xs key (Some new)
    ∙ ap (λ o. set (map (option_map f) xs) key o) (ap (λ b. Some b) same ∙ ap (option_map f) (sym found)
    ∙ sym (seen_under f xs key))
    ∙ set-get_or (map (option_map f) xs) key None

-- a key with something lies within the list
pub some_within : {A : Type 0} (xs : List (Option A)) (key : ℕ) (x : A) → get_or xs key None ≡ Some x → key < length xs
some_within xs key x found = grind (arith, get_or_past)

-- as many are there after one of them is written
pub count_kept : {A : Type 0} (xs : List (Option A)) (key : ℕ) (old new : A) →
    get_or xs key None ≡ Some old → count_by is_some (set xs key (Some new)) ≡ count_by is_some xs
count_kept {A} xs key old new found =
    let sums : count_by is_some (set xs key (Some new)) + cond {A = ℕ}
    (is_some (get_or xs key None)) 1 0 ≡ count_by is_some xs + 1 =
    sum_by-set (λ (o : Option A). cond (is_some o) 1 0) xs key (Some new) None (some_within xs key old found)
    in
    let one : cond {A = ℕ} (is_some (get_or xs key None)) 1 0 ≡ 1 = ap (λ (o : Option A). cond (is_some o) 1 0) found in
    omega (arith, sums, one)

-- a view of slots has as many values
node_count_seen : {A B : Type 0} (f : A → B) (xs : List (Option A)) →
    count_by is_some (map (option_map f) xs) ≡ count_by is_some xs
node_count_seen {A} f xs = sym (length-filter is_some (map (option_map f) xs)) ∙ kept xs ∙ length-filter is_some xs
  where
    kept : (xs : List (Option A)) → length (filter is_some (map (option_map f) xs)) ≡ length (filter is_some xs)
    kept [] = refl
    kept (None ∷ xs) = kept xs
    kept (Some x ∷ xs) = ap suc (kept xs)

module _ {T : Type 0} where
  -- nodes whose parts are the same
  same_nodes : (one other : Nodes T) → one.slots ≡ other.slots → one.first.links ≡ other.first.links →
      one.first.ends ≡ other.first.ends → one.second.links ≡ other.second.links →
      one.second.ends ≡ other.second.ends → one.spare ≡ other.spare → one ≡ other
  same_nodes one other slots first first_ends second second_ends spare = λ i. record {
    slots = slots i;
    first = record { links = first i; ends = first_ends i };
    second = record { links = second i; ends = second_ends i };
    spare = spare i;
  }

  pub alike : (slab : Slab (Node T)) (f s : List Ends) → IsAlike (nodes_seen slab f s)
  alike slab f s = record {
    first = both_some (λ n. n.first) (λ n. n.value) slab.slots;
    second = both_some (λ n. n.second) (λ n. n.value) slab.slots;
  }

  spare_kept : (slab : Slab (Node T)) (key : ℕ) (old new : Node T) → get slab key ≡ Some old →
      slab.capacity - slab_len (with_value slab key new) ≡ slab.capacity - slab_len slab
  spare_kept slab key old new found = ap (λ n. slab.capacity - n) (count_kept slab.slots key old new found)

  abbrev pub with_link : Lane → Link → Node T → Node T
  with_link First link node = record node { first = link }
  with_link Second link node = record node { second = link }

  pub link_written : (lane : Lane) (slab : Slab (Node T)) (f s : List Ends) (key : ℕ) (node : Node T) (link : Link) →
      get slab key ≡ Some node →
      nodes_seen (with_value slab key (with_link lane link node)) f s ≡ on_lane lane (link_set key link)
      (nodes_seen slab f s)
  link_written First slab f s key node link found =
      same_nodes _ _ (seen_kept (λ n. n.value) slab.slots key node _ found refl)
      (map-set (option_map (λ n. n.first)) slab.slots key _) refl
      (seen_kept (λ n. n.second) slab.slots key node _ found refl) refl (spare_kept slab key node _ found)
  link_written Second slab f s key node link found =
      same_nodes _ _ (seen_kept (λ n. n.value) slab.slots key node _ found refl)
      (seen_kept (λ n. n.first) slab.slots key node _ found refl) refl
      (map-set (option_map (λ n. n.second)) slab.slots key _) refl (spare_kept slab key node _ found)

  seen_without : {B : Type 0} (v : Node T → B) (old new : Slab (Node T)) (key : ℕ) →
      new.slots ≡ set old.slots key None →
      map (option_map v) new.slots ≡ set (map (option_map v) old.slots) key None
  seen_without v old new key slots = ap (map (option_map v)) slots ∙ map-set (option_map v) old.slots key None

  pub removed : (old new : Slab (Node T)) (f s : List Ends) (key : ℕ) → new.slots ≡ set old.slots key None →
      slab_len new + 1 ≡ slab_len old → HasRoomFor new 1 → new.capacity ≡ old.capacity →
      nodes_seen new f s ≡ without_node key (nodes_seen old f s)
  removed old new f s key slots len room capacity =
      same_nodes _ _ (seen_without (λ n. n.value) old new key slots)
      (seen_without (λ n. n.first) old new key slots) refl
      (seen_without (λ n. n.second) old new key slots) refl (omega arith)

  seen_others : {B : Type 0} (v : Node T → B) (old new : Slab (Node T)) (key : ℕ) →
      ((other : ℕ) → other ≢ key → get new other ≡ get old other) →
      (other : ℕ) → other ≢ key → get_or (map (option_map v) new.slots) other None ≡ get_or
      (map (option_map v) old.slots) other None
  seen_others v old new key others other differs =
      seen_under v new.slots other ∙ ap (option_map v) (others other differs) ∙ sym (seen_under v old.slots other)

  pub inserted : (old new : Slab (Node T)) (f s : List Ends) (key : ℕ) (node : Node T) →
      Updates old new key (Some node) →
      slab_len new ≡ slab_len old + 1 → 0 < old.capacity - slab_len old → new.capacity ≡ old.capacity →
      GainsValue (nodes_seen old f s) (nodes_seen new f s) key node.value
  inserted old new f s key node updates len room capacity = record {
    gained = seen_under (λ n. n.value) new.slots key ∙ ap (option_map (λ n. n.value)) updates.changed;
    others = seen_others (λ n. n.value) old new key updates.others;
    first = record { ends = refl; others = seen_others (λ n. n.first) old new key updates.others };
    second = record { ends = refl; others = seen_others (λ n. n.second) old new key updates.others };
    spare = omega arith;
  }

  pub value_written : (slab : Slab (Node T)) (f s : List Ends) (key : ℕ) (node : Node T) (value : T) →
      get slab key ≡ Some node →
      nodes_seen (with_value slab key (record node { value = value })) f s ≡ with_slot (nodes_seen slab f s) key value
  value_written slab f s key node value found =
      let new : Node T = record node { value = value } in
      same_nodes _ _ (map-set (option_map (λ n. n.value)) slab.slots key (Some new))
      (seen_kept (λ n. n.first) slab.slots key node new found refl) refl
      (seen_kept (λ n. n.second) slab.slots key node new found refl) refl (spare_kept slab key node new found)

  pub value_seen : (slab : Slab (Node T)) (key : ℕ) (node : Node T) → get slab key ≡ Some node →
      get_or (map (option_map (λ n. n.value)) slab.slots) key None ≡ Some node.value
  value_seen slab key node found = seen_under (λ n. n.value) slab.slots key ∙ ap (option_map (λ n. n.value)) found

  pub none_left : (old new : Slab (Node T)) (f s one two : List Ends) → new.slots ≡ [] → new.capacity ≡ old.capacity →
      slab_len old ≤ old.capacity → one ≡ map (λ _. no_ends) f → two ≡ map (λ _. no_ends) s →
      nodes_seen new one two ≡ without_nodes (nodes_seen old f s)
  none_left old new f s one two slots capacity within first second =
      let none = ap (count_by is_some) slots in
      let seen = node_count_seen (λ n. n.value) old.slots in
      let spare : new.capacity - slab_len new
      ≡ old.capacity - slab_len old + count_by is_some (map (option_map (λ (n : Node T). n.value)) old.slots) =
      omega (arith, none, seen) in
      same_nodes _ _ (ap (map (option_map (λ n. n.value))) slots)
      (ap (map (option_map (λ n. n.first))) slots) first
      (ap (map (option_map (λ n. n.second))) slots) second spare
