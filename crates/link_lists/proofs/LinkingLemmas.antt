-- The steps that write links, as the code takes them.
use Rattle.std.proofs.Common.{◌≡◌, ℕ, ◌<◌, List, length, get_or, set, Option, Some, None, IsSome, slice_get, refl, sym}
use Rattle.std.proofs.Common.{ap, subst, inl, inr, arith}
use Rattle.std.specs.Option.{option_map}
use Rattle.std.proofs.lemmas.Bool.{cases_eq}
use Rattle.std.proofs.lemmas.List.{length-set, get_or-set_same, get_or-set_other, get_or_past}
use Rattle.std.proofs.lemmas.Option.{get_or_from_slice_get}
use Rattle.link_lists.specs.declared.lane.Lane.{Lane}
use Rattle.link_lists.specs.declared.lane.Lane.TheVariants.{First, Second}
use Rattle.link_lists.specs.declared.link.Link.{Link}
use Rattle.link_lists.specs.declared.link.Ends.{Ends}
use Rattle.link_lists.specs.declared.link.Side.{Side}
use Rattle.link_lists.specs.Nodes.{Strand, Nodes, no_ends, link_under, strand_of, on_lane, link_set, with_ends}
use Rattle.link_lists.specs.Linking.{CanWrite, link_beside, ends_beside, beside_set}

module _ {T : Type 0} where
  -- what a change of a lane makes of it
  pub strand_on_lane : (lane : Lane) (change : Strand → Strand) (nodes : Nodes T) →
      strand_of lane (on_lane lane change nodes) ≡ change (strand_of lane nodes)
  strand_on_lane First change nodes = refl
  strand_on_lane Second change nodes = refl

  -- two changes that make the same of a lane
  on_lane_same : (lane : Lane) (nodes : Nodes T) (one other : Strand → Strand) →
      one (strand_of lane nodes) ≡ other (strand_of lane nodes) → on_lane lane one nodes ≡ on_lane lane other nodes
  on_lane_same First nodes one other same = ap (λ strand. record nodes { first = strand }) same
  on_lane_same Second nodes one other same = ap (λ strand. record nodes { second = strand }) same

  -- one side written in a key's link, and in the ends of a list
  pub link_written : (lane : Lane) (nodes : Nodes T) (list : ℕ) (side : Side) (key : ℕ) (other : Option ℕ)
      (link : Link) →
      link_under (strand_of lane nodes) key ≡ Some link →
      on_lane lane (link_set key (link_beside side other link)) nodes ≡ on_lane lane
      (beside_set side list (Some key) other) nodes
  link_written lane nodes list side key other link found =
      on_lane_same lane nodes _ _ (ap (λ (o : Option Link). record (strand_of lane nodes) {
        links = set (strand_of lane nodes).links key (option_map (link_beside side other) o);
      }) (sym found))

  pub ends_written : (lane : Lane) (nodes : Nodes T) (list : ℕ) (side : Side) (other : Option ℕ) (ends : Ends) →
      slice_get (strand_of lane nodes).ends list ≡ Some ends →
      on_lane lane (with_ends list (ends_beside side other ends)) nodes ≡ on_lane lane
      (beside_set side list None other) nodes
  ends_written lane nodes list side other ends found =
      on_lane_same lane nodes _ _ (ap (λ (e : Ends). with_ends list (ends_beside side other e) (strand_of lane nodes))
      (sym (get_or_from_slice_get (strand_of lane nodes).ends list ends no_ends found)))

-- a key has something still after something is written at a key that had something
pub some_set : {A : Type 0} (xs : List (Option A)) (key other : ℕ) (o : Option A) →
    (IsSome (get_or xs key None) → IsSome o) →
    IsSome (get_or xs other None) → IsSome (get_or (set xs key o) other None)
some_set xs key other o keeps found =
    elim (cases_eq other key) [
      | inl same ↦
          let here : IsSome (get_or xs key None) = subst (λ k. IsSome (get_or xs k None)) same found in
          let within : key < length xs = grind (arith, get_or_past) in
          rw (same, get_or-set_same xs key o None within) (keeps here)
      | inr differs ↦ rw (get_or-set_other xs key other o None differs) found
    ]

-- what can be written can be written still after a link was
pub write_after_link : (list : ℕ) (other : Option ℕ) (key : ℕ) (link : Link) (strand : Strand) →
    CanWrite list other strand → CanWrite list other (link_set key link strand)
write_after_link list None key link strand can = can
write_after_link list (Some other) key link strand can = some_set strand.links key other (Some link) (λ _. refl) can

some_mapped : {A B : Type 0} (f : A → B) (o : Option A) → IsSome o → IsSome (option_map f o)
some_mapped f None found = found
some_mapped f (Some x) found = refl

-- and after one side was
pub write_after_side : (side : Side) (list : ℕ) (other : Option ℕ) (list' : ℕ) (key to : Option ℕ) (strand : Strand) →
    CanWrite list other strand → CanWrite list other (beside_set side list' key to strand)
write_after_side side list None list' None to strand can = rw length-set can
write_after_side side list None list' (Some key) to strand can = can
write_after_side side list (Some other) list' None to strand can = can
write_after_side side list (Some other) list' (Some key) to strand can =
    some_set strand.links key other (option_map (link_beside side to) (link_under strand key))
    (some_mapped (link_beside side to) (link_under strand key)) can
