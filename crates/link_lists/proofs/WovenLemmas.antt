-- The calls, over the strand of one lane, and over both lanes.
use Rattle.std.proofs.Common.{◌≡◌, ◌≢◌, ℕ, zero, suc, ◌+◌, ◌<◌, ◌⊎◌, List, [], ◌∷◌, ◌++◌, length, map, get_or, set, Option}
use Rattle.std.proofs.Common.{Some, None, IsSome, is_some, Result, Ok, Err, OnOk, OnErr, slice_get, slice_index_or}
use Rattle.std.proofs.Common.{refl, sym, ap, subst, ◌∙◌, inl, inr, arith}
use Rattle.std.specs.Option.{option_map}
use Rattle.std.proofs.lemmas.Bool.{false≢true}
use Rattle.std.proofs.lemmas.List.{append_assoc, append-nil, get_or_past, map-append, length-map}
use Rattle.std.proofs.lemmas.Option.{slice_get-map, slice_get-get_or, slice_get_within, same_Some}
use Rattle.std.specs.declared.alloc.AllocError.{AllocError}
use Rattle.link_lists.specs.declared.lane.Lane.{Lane}
use Rattle.link_lists.specs.declared.lane.Lane.TheVariants.{First, Second}
use Rattle.link_lists.specs.declared.link.Link.{Link}
use Rattle.link_lists.specs.declared.link.Ends.{Ends}
use Rattle.link_lists.specs.Lanes.{Lanes, lane_of, with_lane, lane_keys, value_under, StandsIn, IsKeyAfter, first_key}
use Rattle.link_lists.specs.Lanes.{pushed_back, put_after, without_key, emptied, value_count, IsLane, AreLanes}
use Rattle.link_lists.specs.Nodes.{Strand, Nodes, strand_of, on_lane, link_under, no_ends, with_list, without_link}
use Rattle.link_lists.specs.Nodes.{without_node, without_links, without_nodes, KeepsLinks, GainsValue, IsAlike}
use Rattle.link_lists.specs.Linking.{CanWrite, keys_tied, key_placed}
use Rattle.link_lists.specs.Spelling.{walked, lanes_seen, next_of, first_or, last_or, ends_of, LinksSpell, SpellsLists}
use Rattle.link_lists.specs.Spelling.{BothSpelled}
use Rattle.link_lists.proofs.SpellLemmas.{Lacks, last_append, spells_parts, spells_kept, lacks_vacant, spelled_has}
use Rattle.link_lists.proofs.CutLemmas.{empty_or_last, placed_spelled, tied_spelled}
use Rattle.link_lists.proofs.LaneLemmas.{stands_at, absent_from, put_after_one, without_one, walked_spelled, lane_once}
use Rattle.link_lists.proofs.LaneLemmas.{distinct_keys}

-- a key's link, where it stands
pub link_there : (strand : Strand) (lane : List (List ℕ)) (list : ℕ) (front : List ℕ) (key : ℕ) (back : List ℕ) →
    SpellsLists strand lane →
    slice_get lane list ≡ Some (front ++ key ∷ back) →
    link_under strand key ≡ Some (record { list = list; previous = last_or None front; next = first_or back None })
link_there strand lane list front key back spelled here =
    spelled_has list strand.links None front key back None (spelled.spelled list (front ++ key ∷ back) here)

pub has_link : (strand : Strand) (lane : List (List ℕ)) (key : ℕ) → SpellsLists strand lane → StandsIn key lane →
    IsSome (link_under strand key)
has_link strand lane key spelled stands =
    let s = stands_at key lane stands in
    ap is_some (link_there strand lane s.list s.front key s.back spelled s.here)

-- a list's ends
pub ends_at : (strand : Strand) (lane : List (List ℕ)) (list : ℕ) (keys : List ℕ) → SpellsLists strand lane →
    slice_get lane list ≡ Some keys →
    slice_get strand.ends list ≡ Some (ends_of keys)
ends_at strand lane list keys spelled here =
    ap (λ es. slice_get es list) spelled.ends ∙ slice_get-map ends_of lane list ∙ ap (option_map ends_of) here

pub ends_many : (strand : Strand) (lane : List (List ℕ)) → SpellsLists strand lane → length strand.ends ≡ length lane
ends_many strand lane spelled = ap length spelled.ends ∙ length-map lane ends_of

-- what stands at the ends of a list can be written
can_write_first : (strand : Strand) (list : ℕ) (before : Option ℕ) (keys : List ℕ) → list < length strand.ends →
    LinksSpell strand.links list before keys None →
    CanWrite list (first_or keys None) strand
can_write_first strand list before [] within spells = within
can_write_first strand list before (k ∷ keys) within spells = ap is_some spells.0

can_write_last : (strand : Strand) (list : ℕ) (keys : List ℕ) (after : Option ℕ) → list < length strand.ends →
    LinksSpell strand.links list None keys after →
    CanWrite list (last_or None keys) strand
can_write_last strand list keys after within spells =
    elim (empty_or_last keys) [
      | inl none ↦ subst (λ (ks : List ℕ). CanWrite list (last_or None ks) strand) (sym none) within
      | inr some ↦
          subst (λ (ks : List ℕ). CanWrite list (last_or None ks) strand) (sym some.parts)
          (subst (λ (k : Option ℕ). CanWrite list k strand) (sym (last_append None some.front (some.last ∷ [])))
          (ap is_some (spelled_has list strand.links None some.front some.last [] after
          (subst (λ (ks : List ℕ). LinksSpell strand.links list None ks after) some.parts spells))))
    ]

first_or_none : (keys : List ℕ) → first_or keys None ≡ first_key keys
first_or_none [] = refl
first_or_none (k ∷ keys) = refl

can_write_end : (strand : Strand) (lane : List (List ℕ)) (list : ℕ) (ends : Ends) → SpellsLists strand lane →
    list < length lane →
    slice_get strand.ends list ≡ Some ends → CanWrite list ends.last strand
can_write_end strand lane list ends spelled within found =
    let keys = get_or lane list [] in
    let here : slice_get lane list ≡ Some keys = slice_get-get_or lane list [] within in
    let e : ends_of keys ≡ ends = same_Some (ends_of keys) ends
    (sym (ends_at strand lane list keys spelled here) ∙ found) in
    subst (λ (x : Ends). CanWrite list x.last strand) e
    (can_write_last strand list keys None (rw (ends_many strand lane spelled) within) (spelled.spelled list keys here))

can_write_round : (strand : Strand) (lane : List (List ℕ)) (key : ℕ) (link : Link) → SpellsLists strand lane →
    StandsIn key lane →
    link_under strand key ≡ Some link → CanWrite link.list link.previous strand × CanWrite link.list link.next strand
can_write_round strand lane key link spelled stands found =
    let s = stands_at key lane stands in
    let e : record { list = s.list; previous = last_or None s.front; next = first_or s.back None } ≡ link =
    same_Some _ link (sym (link_there strand lane s.list s.front key s.back spelled s.here) ∙ found)
    in
    let within : s.list < length strand.ends = rw (ends_many strand lane spelled)
    (slice_get_within lane s.list _ s.here) in
    let parts = spells_parts s.list strand.links None s.front (key ∷ s.back) None (spelled.spelled s.list _ s.here) in
    subst (λ (l : Link). CanWrite l.list l.previous strand × CanWrite l.list l.next strand) e (
      can_write_last strand s.list s.front (Some key) within parts.0,
      can_write_first strand s.list (Some key) s.back within parts.1.1,
    )

-- one call on a strand

-- a key pushed to the end of a list
pub strand_pushed : (strand : Strand) (lane : List (List ℕ)) (list key : ℕ) (ends : Ends) → SpellsLists strand lane →
    list < length lane →
    key < length strand.links → (StandsIn key lane → ⊥) → slice_get strand.ends list ≡ Some ends →
    SpellsLists (key_placed key (record { list = list; previous = ends.last; next = None }) strand)
    (pushed_back list key lane)
strand_pushed strand lane list key ends spelled within linked absent found =
    let keys = get_or lane list [] in
    let here : slice_get lane list ≡ Some keys = slice_get-get_or lane list [] within in
    let e : ends_of keys ≡ ends = same_Some (ends_of keys) ends
    (sym (ends_at strand lane list keys spelled here) ∙ found) in
    subst (λ (x : Ends). SpellsLists (key_placed key (record { list = list; previous = x.last; next = None }) strand)
    (pushed_back list key lane)) e
    (placed_spelled lane list strand keys key [] spelled (here ∙ ap (λ ks. Some ks) (sym (append-nil keys))) linked
    (absent_from key lane absent))

-- a key put after another
pub strand_put_after : (strand : Strand) (lane : List (List ℕ)) (at key : ℕ) (link : Link) → SpellsLists strand lane →
    StandsIn at lane →
    key < length strand.links → (StandsIn key lane → ⊥) → link_under strand at ≡ Some link →
    SpellsLists (key_placed key (record { list = link.list; previous = Some at; next = link.next }) strand)
    (put_after at key lane)
strand_put_after strand lane at key link spelled stands linked absent found =
    let s = stands_at at lane stands in
    let there = link_there strand lane s.list s.front at s.back spelled s.here in
    let e : record { list = s.list; previous = last_or None s.front; next = first_or s.back None } ≡ link =
    same_Some _ link (sym there ∙ found) in
    let last : last_or None (s.front ++ at ∷ []) ≡ Some at = last_append None s.front (at ∷ []) in
    let moved : SpellsLists (key_placed key (record { list = s.list; previous = Some at; next = first_or s.back None })
    strand) (set lane s.list ((s.front ++ at ∷ []) ++ key ∷ s.back)) =
    subst (λ (p : Option ℕ). SpellsLists (key_placed key
    (record { list = s.list; previous = p; next = first_or s.back None }) strand)
    (set lane s.list ((s.front ++ at ∷ []) ++ key ∷ s.back))) last
    (placed_spelled lane s.list strand (s.front ++ at ∷ []) key s.back spelled
    (s.here ∙ ap (λ ks. Some ks) (sym (append_assoc s.front (at ∷ []) s.back))) linked (absent_from key lane absent))
    in
    subst (λ (l : Link). SpellsLists (key_placed key
    (record { list = l.list; previous = Some at; next = l.next }) strand)
    (put_after at key lane)) e
    (subst (λ (lists : List (List ℕ)). SpellsLists (key_placed key
    (record { list = s.list; previous = Some at; next = first_or s.back None }) strand) lists)
    (sym (put_after_one strand lane s.list s.front at s.back key spelled s.here)) moved)

-- a key taken out
pub strand_without : (strand : Strand) (lane : List (List ℕ)) (key : ℕ) (link : Link) → SpellsLists strand lane →
    StandsIn key lane → link_under strand key ≡ Some link →
    SpellsLists (keys_tied link.list link.previous link.next strand) (without_key key lane)
strand_without strand lane key link spelled stands found =
    let s = stands_at key lane stands in
    let e : record { list = s.list; previous = last_or None s.front; next = first_or s.back None } ≡ link =
    same_Some _ link (sym (link_there strand lane s.list s.front key s.back spelled s.here) ∙ found)
    in
    subst (λ (l : Link). SpellsLists (keys_tied l.list l.previous l.next strand) (without_key key lane)) e
    (subst (λ (lists : List (List ℕ)). SpellsLists
    (keys_tied s.list (last_or None s.front) (first_or s.back None) strand)
    lists)
    (sym (without_one strand lane s.list s.front key s.back spelled s.here))
    (tied_spelled lane s.list strand s.front key s.back spelled s.here))

-- a list more
got_or_added : (lane : List (List ℕ)) (list : ℕ) (keys : List ℕ) → slice_get (lane ++ [] ∷ []) list ≡ Some keys →
    (slice_get lane list ≡ Some keys) ⊎ (keys ≡ [])
got_or_added [] zero keys here = let e : [] ≡ keys = same_Some [] keys here in inr (sym e)
got_or_added [] (suc list) keys here = absurd cc
got_or_added (ks ∷ lane) zero keys here = inl here
got_or_added (ks ∷ lane) (suc list) keys here = got_or_added lane list keys here

pub strand_listed : (strand : Strand) (lane : List (List ℕ)) → SpellsLists strand lane →
    SpellsLists (with_list strand) (lane ++ [] ∷ [])
strand_listed strand lane spelled = record {
  ends = ap (λ es. es ++ no_ends ∷ []) spelled.ends ∙ sym (map-append ends_of lane ([] ∷ []));
  spelled = λ list keys here.
      elim (got_or_added lane list keys here) [
        | inl old ↦ spelled.spelled list keys old
        | inr empty ↦ subst (λ (ks : List ℕ). LinksSpell strand.links list None ks None) (sym empty) tt
      ];
}

-- other links than those of a key that stands nowhere
spells_others : (old new : List (Option Link)) (key list : ℕ) (before : Option ℕ) (keys : List ℕ) (after : Option ℕ) →
    ((other : ℕ) → other ≢ key → get_or new other None ≡ get_or old other None) → Lacks key keys →
    LinksSpell old list before keys after → LinksSpell new list before keys after
spells_others old new key list before [] after kept lacks spells = tt
spells_others old new key list before (k ∷ keys) after kept lacks spells =
    (kept k (λ e. lacks.0 (sym e)) ∙ spells.0, spells_others old new key list (Some k) keys after kept lacks.1 spells.1)

pub strand_kept : (old new : Strand) (lane : List (List ℕ)) (key : ℕ) → KeepsLinks key old new →
    link_under old key ≡ None → SpellsLists old lane → SpellsLists new lane
strand_kept old new lane key keeps vacant spelled = record {
  ends = keeps.ends ∙ spelled.ends;
  spelled = λ list keys here.
      let spells = spelled.spelled list keys here in
      spells_others old.links new.links key list None keys None keeps.others
      (lacks_vacant list old.links None keys None key vacant spells) spells;
}

pub strand_freed : (strand : Strand) (lane : List (List ℕ)) (key : ℕ) → (StandsIn key lane → ⊥) →
    SpellsLists strand lane → SpellsLists (without_link key strand) lane
strand_freed strand lane key absent spelled = record {
  ends = spelled.ends;
  spelled = λ list keys here. spells_kept list strand.links None keys None key None
      (absent_from key lane absent list keys here) (spelled.spelled list keys here);
}

-- a strand without a link spells empty lists
strand_emptied : (strand : Strand) (lane : List (List ℕ)) → SpellsLists strand lane →
    SpellsLists (without_links strand) (emptied lane)
strand_emptied strand lane spelled = record {
  ends = ap (map (λ _. no_ends)) spelled.ends ∙ all_empty lane;
  spelled = λ list keys here. subst (λ ks. LinksSpell [] list None ks None) (sym (none_there lane list keys here)) tt;
}
  where
    all_empty : (lists : List (List ℕ)) → map (λ _. no_ends) (map ends_of lists) ≡ map ends_of (emptied lists)
    all_empty [] = refl
    all_empty (keys ∷ lists) = ap (λ es. no_ends ∷ es) (all_empty lists)

    none_there : (lists : List (List ℕ)) (list : ℕ) (keys : List ℕ) → slice_get (emptied lists) list ≡ Some keys →
        keys ≡ []
    none_there [] list keys here = absurd cc
    none_there (ks ∷ lists) zero keys here = cc
    none_there (ks ∷ lists) (suc list) keys here = none_there lists list keys here

-- a key that stands has a link, so one without a link stands nowhere
pub vacant_stands_nowhere : (strand : Strand) (lane : List (List ℕ)) (key : ℕ) → SpellsLists strand lane →
    link_under strand key ≡ None → StandsIn key lane → ⊥
vacant_stands_nowhere strand lane key spelled vacant stands =
    false≢true (ap is_some (sym vacant) ∙ has_link strand lane key spelled stands)

-- something at a key lies within the list
some_is_within : {A : Type 0} (xs : List (Option A)) (key : ℕ) → IsSome (get_or xs key None) → key < length xs
some_is_within xs key found = grind (arith, get_or_past)

-- both lanes

-- nodes are sound, and stand for these lanes
pub record StandFor {T : Type 0} (nodes : Nodes T) (lanes : Lanes T) : Type 0 where
  pub spelled : BothSpelled nodes
  pub seen : lanes_seen nodes ≡ lanes

module _ {T : Type 0} where
  pub lane_spelled : (lane : Lane) (nodes : Nodes T) → BothSpelled nodes →
      SpellsLists (strand_of lane nodes) (lane_of lane (lanes_seen nodes))
  lane_spelled First nodes spelled = spelled.first
  lane_spelled Second nodes spelled = spelled.second

  -- a key with a value has a link in each lane
  pub alike_within : (lane : Lane) (nodes : Nodes T) (key : ℕ) → IsAlike nodes →
      IsSome (value_under (lanes_seen nodes) key) → key < length (strand_of lane nodes).links
  alike_within First nodes key alike value = some_is_within nodes.first.links key (alike.first key ∙ value)
  alike_within Second nodes key alike value = some_is_within nodes.second.links key (alike.second key ∙ value)

  -- nodes that spell these lists stand for them
  pub stand_for : (nodes : Nodes T) (first second : List (List ℕ)) → SpellsLists nodes.first first →
      SpellsLists nodes.second second →
      StandFor nodes (record { slots = nodes.slots; first = first; second = second; spare = nodes.spare })
  stand_for nodes first second one two =
      let f = walked_spelled nodes.first first one in
      let s = walked_spelled nodes.second second two in
      record {
        spelled = record {
          first = subst (SpellsLists nodes.first) (sym f) one;
          second =
              subst (SpellsLists nodes.second) (sym s) two;
        };
        seen = λ i. record { slots = nodes.slots; first = f i; second = s i; spare = nodes.spare };
      }

  lane_changed : (lane : Lane) (nodes : Nodes T) (change : Strand → Strand) (lists : List (List ℕ)) →
      BothSpelled nodes → SpellsLists (change (strand_of lane nodes)) lists →
      StandFor (on_lane lane change nodes) (with_lane lane lists (lanes_seen nodes))
  lane_changed First nodes change lists spelled changed =
      stand_for (on_lane First change nodes) lists (walked nodes.second) changed spelled.second
  lane_changed Second nodes change lists spelled changed =
      stand_for (on_lane Second change nodes) (walked nodes.first) lists spelled.first changed

  -- the calls

  pub listed : (lane : Lane) (old new : Nodes T) (lanes : Lanes T) → lanes_seen old ≡ lanes → BothSpelled old →
      new ≡ on_lane lane with_list old →
      StandFor new (with_lane lane (lane_of lane lanes ++ [] ∷ []) lanes)
  listed lane old new lanes seen spelled made =
      rw (made, ← seen) (lane_changed lane old with_list _ spelled (strand_listed _ _ (lane_spelled lane old spelled)))

  pub pushed_key : (lane : Lane) (old new : Nodes T) (lanes : Lanes T) (list key : ℕ) (ends : Ends) →
      lanes_seen old ≡ lanes → BothSpelled old → IsAlike old →
      list < length (lane_of lane lanes) → IsSome (value_under lanes key) → (StandsIn key (lane_of lane lanes) → ⊥) →
      slice_get (strand_of lane old).ends list ≡ Some ends →
      new ≡ on_lane lane (key_placed key (record { list = list; previous = ends.last; next = None })) old →
      StandFor new (with_lane lane (pushed_back list key (lane_of lane lanes)) lanes)
  pushed_key lane old new lanes list key ends seen spelled alike within value absent found made =
      subst (λ (l : Lanes T). list < length (lane_of lane l) → IsSome (value_under l key) →
      (StandsIn key (lane_of lane l) → ⊥) → StandFor new
      (with_lane lane (pushed_back list key (lane_of lane l)) l)) seen
      (λ w v a. subst (λ (n : Nodes T). StandFor n
      (with_lane lane (pushed_back list key (lane_of lane (lanes_seen old))) (lanes_seen old))) (sym made)
      (lane_changed lane old _ _ spelled (strand_pushed (strand_of lane old) _ list key ends
      (lane_spelled lane old spelled) w (alike_within lane old key alike v) a found)))
      within value absent

  pub put_key : (lane : Lane) (old new : Nodes T) (lanes : Lanes T) (at key : ℕ) (link : Link) →
      lanes_seen old ≡ lanes → BothSpelled old → IsAlike old →
      StandsIn at (lane_of lane lanes) → IsSome (value_under lanes key) → (StandsIn key (lane_of lane lanes) → ⊥) →
      link_under (strand_of lane old) at ≡ Some link →
      new ≡ on_lane lane (key_placed key (record { list = link.list; previous = Some at; next = link.next })) old →
      StandFor new (with_lane lane (put_after at key (lane_of lane lanes)) lanes)
  put_key lane old new lanes at key link seen spelled alike stands value absent found made =
      subst (λ (l : Lanes T). StandsIn at (lane_of lane l) → IsSome (value_under l key) →
      (StandsIn key (lane_of lane l) → ⊥) → StandFor new (with_lane lane (put_after at key (lane_of lane l)) l))
      seen
      (λ s v a. subst (λ (n : Nodes T). StandFor n
      (with_lane lane (put_after at key (lane_of lane (lanes_seen old))) (lanes_seen old))) (sym made)
      (lane_changed lane old _ _ spelled (strand_put_after (strand_of lane old) _ at key link
      (lane_spelled lane old spelled) s (alike_within lane old key alike v) a found)))
      stands value absent

  pub taken_out : (lane : Lane) (old new : Nodes T) (lanes : Lanes T) (key : ℕ) (link : Link) →
      lanes_seen old ≡ lanes → BothSpelled old → StandsIn key (lane_of lane lanes) →
      link_under (strand_of lane old) key ≡ Some link →
      new ≡ on_lane lane (keys_tied link.list link.previous link.next) old →
      StandFor new (with_lane lane (without_key key (lane_of lane lanes)) lanes)
  taken_out lane old new lanes key link seen spelled stands found made =
      subst (λ (l : Lanes T). StandsIn key (lane_of lane l) →
      StandFor new (with_lane lane (without_key key (lane_of lane l)) l)) seen
      (λ s. subst (λ (n : Nodes T). StandFor n (with_lane lane (without_key key (lane_of lane (lanes_seen old)))
      (lanes_seen old))) (sym made)
      (lane_changed lane old _ _ spelled (strand_without (strand_of lane old) _ key link
      (lane_spelled lane old spelled) s found)))
      stands

  vacant_link : (o : Option Link) (v : Option T) → is_some o ≡ is_some v → v ≡ None → o ≡ None
  vacant_link None v same none = refl
  vacant_link (Some link) v same none = absurd (false≢true (sym (same ∙ ap is_some none)))

  pub stored : (old new : Nodes T) (key : ℕ) (value : T) → BothSpelled old → IsAlike old →
      slice_index_or old.slots key None ≡ None → GainsValue old new key value →
      StandFor new (record {
        slots = new.slots;
        first = walked old.first;
        second = walked old.second;
        spare =
            new.spare;
      })
  stored old new key value spelled alike vacant gains =
      stand_for new (walked old.first) (walked old.second)
      (strand_kept old.first new.first _ key gains.first (vacant_link _ _ (alike.first key) vacant) spelled.first)
      (strand_kept old.second new.second _ key gains.second (vacant_link _ _ (alike.second key) vacant) spelled.second)

  pub stored_free : (old : Nodes T) (lanes : Lanes T) (key : ℕ) → lanes_seen old ≡ lanes → BothSpelled old →
      IsAlike old → slice_index_or old.slots key None ≡ None →
      (StandsIn key lanes.first → ⊥) × (StandsIn key lanes.second → ⊥)
  stored_free old lanes key seen spelled alike vacant =
      subst (λ (l : Lanes T). (StandsIn key l.first → ⊥) × (StandsIn key l.second → ⊥)) seen (
        vacant_stands_nowhere old.first _ key spelled.first (vacant_link _ _ (alike.first key) vacant),
        vacant_stands_nowhere old.second _ key spelled.second (vacant_link _ _ (alike.second key) vacant),
      )

  pub freed : (old new : Nodes T) (lanes : Lanes T) (key : ℕ) → lanes_seen old ≡ lanes → BothSpelled old →
      (StandsIn key lanes.first → ⊥) → (StandsIn key lanes.second → ⊥) →
      new ≡ without_node key old → StandFor new (record lanes {
        slots = set lanes.slots key None;
        spare =
            lanes.spare + 1;
      })
  freed old new lanes key seen spelled absent_first absent_second made =
      subst (λ (l : Lanes T). (StandsIn key l.first → ⊥) → (StandsIn key l.second → ⊥) →
      StandFor new (record l { slots = set l.slots key None; spare = l.spare + 1 })) seen
      (λ a b. subst (λ (n : Nodes T). StandFor n (record
      (lanes_seen old) { slots = set old.slots key None; spare = old.spare + 1 })) (sym made)
      (stand_for (without_node key old) _ _ (strand_freed old.first _ key a spelled.first)
      (strand_freed old.second _ key b spelled.second)))
      absent_first absent_second

  pub cleared_lanes : (old new : Nodes T) (lanes : Lanes T) → lanes_seen old ≡ lanes → BothSpelled old →
      new ≡ without_nodes old →
      StandFor new (record {
        slots = [];
        first = emptied lanes.first;
        second = emptied lanes.second;
        spare = lanes.spare + value_count lanes;
      })
  cleared_lanes old new lanes seen spelled made =
      rw (made, ← seen)
      (stand_for (without_nodes old) _ _ (strand_emptied old.first _ spelled.first)
      (strand_emptied old.second _ spelled.second))

  lane_valued : (strand : Strand) (slots : List (Option T)) (lane : List (List ℕ)) → SpellsLists strand lane →
      ((key : ℕ) → is_some (link_under strand key) ≡ is_some (slice_index_or slots key None)) → IsLane slots lane
  lane_valued strand slots lane spelled alike = record {
    distinct = distinct_keys (lane_keys lane) (lane_once strand lane spelled);
    valued = λ key stands. sym (alike key) ∙ has_link strand lane key spelled stands;
  }

  pub are_lanes : (nodes : Nodes T) → BothSpelled nodes → IsAlike nodes → AreLanes (lanes_seen nodes)
  are_lanes nodes spelled alike = record {
    first = lane_valued nodes.first nodes.slots _ spelled.first alike.first;
    second = lane_valued nodes.second nodes.slots _ spelled.second alike.second;
  }

  -- what the steps ask for

  pub linked : (lane : Lane) (nodes : Nodes T) (lanes : Lanes T) (key : ℕ) → lanes_seen nodes ≡ lanes →
      BothSpelled nodes → StandsIn key (lane_of lane lanes) →
      IsSome (link_under (strand_of lane nodes) key)
  linked lane nodes lanes key seen spelled stands =
      has_link (strand_of lane nodes) _ key (lane_spelled lane nodes spelled)
      (subst (λ (l : Lanes T). StandsIn key (lane_of lane l)) (sym seen) stands)

  pub write_last : (lane : Lane) (nodes : Nodes T) (lanes : Lanes T) (list : ℕ) (ends : Ends) →
      lanes_seen nodes ≡ lanes → BothSpelled nodes → list < length (lane_of lane lanes) →
      slice_get (strand_of lane nodes).ends list ≡ Some ends → CanWrite list ends.last (strand_of lane nodes)
  write_last lane nodes lanes list ends seen spelled within found =
      can_write_end (strand_of lane nodes) (lane_of lane (lanes_seen nodes)) list ends (lane_spelled lane nodes spelled)
      (subst (λ (l : Lanes T). list < length (lane_of lane l)) (sym seen) within) found

  pub write_round : (lane : Lane) (nodes : Nodes T) (lanes : Lanes T) (key : ℕ) (link : Link) →
      lanes_seen nodes ≡ lanes → BothSpelled nodes → StandsIn key (lane_of lane lanes) →
      link_under (strand_of lane nodes) key ≡ Some link →
      CanWrite link.list link.previous (strand_of lane nodes) × CanWrite link.list link.next (strand_of lane nodes)
  write_round lane nodes lanes key link seen spelled stands found =
      can_write_round (strand_of lane nodes) (lane_of lane (lanes_seen nodes)) key link
      (lane_spelled lane nodes spelled)
      (subst (λ (l : Lanes T). StandsIn key (lane_of lane l)) (sym seen) stands) found

  pub after_key : (lane : Lane) (nodes : Nodes T) (lanes : Lanes T) (key : ℕ) (link : Link) →
      lanes_seen nodes ≡ lanes → BothSpelled nodes →
      link_under (strand_of lane nodes) key ≡ Some link → IsKeyAfter key (lane_of lane lanes) link.next
  after_key lane nodes lanes key link seen spelled found =
      subst (λ (l : Lanes T). IsKeyAfter key (lane_of lane l) link.next) seen (λ list before after here.
      let there = link_there (strand_of lane nodes) _ list before key after (lane_spelled lane nodes spelled) here in
      ap next_of (sym found ∙ there) ∙ first_or_none after)

  pub listed_or_same : (lane : Lane) (old new : Nodes T) (lanes : Lanes T) (r : Result ℕ AllocError) →
      lanes_seen old ≡ lanes → BothSpelled old →
      OnOk r (new ≡ on_lane lane with_list old) → OnErr r (new ≡ old) → BothSpelled new
  listed_or_same lane old new lanes (Ok n) seen spelled ok err = (listed lane old new lanes seen spelled ok).spelled
  listed_or_same lane old new lanes (Err e) seen spelled ok err = subst BothSpelled (sym err) spelled

  pub listed_if_ok : (lane : Lane) (old new : Nodes T) (lanes : Lanes T) (r : Result ℕ AllocError) →
      lanes_seen old ≡ lanes → BothSpelled old →
      OnOk r (new ≡ on_lane lane with_list old) → OnOk r
      (lanes_seen new ≡ with_lane lane (lane_of lane lanes ++ [] ∷ []) lanes)
  listed_if_ok lane old new lanes (Ok n) seen spelled ok = (listed lane old new lanes seen spelled ok).seen
  listed_if_ok lane old new lanes (Err e) seen spelled ok = tt
