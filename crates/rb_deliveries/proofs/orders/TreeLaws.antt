-- A tournament's tree: the first node is the winner of all places, and what a call changes in the tree.
use Rattle.std.proofs.Common.{◌≡◌, ◌≢◌, ℕ, zero, suc, ◌+◌, ◌-◌, ◌<◌, ◌≤◌, List, [], ◌∷◌, ◌++◌, length, take, drop, map}
use Rattle.std.proofs.Common.{replicate, Option, Some, None, get_or, slice_set, refl, sym, ap, ◌∙◌, arith, subst}
use Rattle.std.proofs.Common.{Bool, true, false, ◌==◌, eqb-true, eq-eqb}
use Rattle.std.proofs.lemmas.Bool.{false≢true}
use Rattle.std.proofs.lemmas.List.{drop-set-add, get_or-set_same, get_or-set_other, set-append_left}
use Rattle.std.proofs.lemmas.List.{append_assoc, drop-replicate, length-append, length-drop, length-set, length-take-le}
use Rattle.std.proofs.Math.Seq.{set-append_seam, take-append_seam, take-length, take-suc}
use Rattle.rb_deliveries.specs.declared.rank.Rank.{Rank}
use Rattle.rb_deliveries.specs.declared.tournament.Winner.{Winner}
use Rattle.rb_deliveries.specs.Tournament.{winner_of_two, at_place, winner_from, leaves_from, places_at, node, WinsPair}
use Rattle.rb_deliveries.specs.Tournament.{NodesWin, IsTree, winners_rank, ranks_of}
use Rattle.rb_deliveries.proofs.orders.NodeLaws.{joined_none, winner_of, winner_append, winner_none, winner_leaves}
use Rattle.rb_deliveries.proofs.orders.NodeLaws.{length_leaves, start_one, node_wins}

-- ---- a tree

-- the ranks that its places have are the ones that its leaves were made of
ranks_again : (n : ℕ) (ranks : List (Option Rank)) → map winners_rank (leaves_from n ranks) ≡ ranks
ranks_again n [] = refl
ranks_again n (None ∷ rest) = ap (λ l. None ∷ l) (ranks_again (suc n) rest)
ranks_again n (Some rank ∷ rest) = ap (λ l. Some rank ∷ l) (ranks_again (suc n) rest)

pub ranks_are : (nodes : List (Option Winner)) (room len : ℕ) (ranks : List (Option Rank)) (pad : List (Option
    Winner))
    → length ranks ≡ len → drop room nodes ≡ leaves_from 0 ranks ++ pad → ranks_of nodes room len ≡ ranks
ranks_are nodes room len ranks pad long leaves =
    ap (λ l. map winners_rank (take len l)) leaves
    ∙ ap (λ n. map winners_rank (take n (leaves_from 0 ranks ++ pad))) (sym long ∙ sym (length_leaves 0 ranks))
    ∙ ap (map winners_rank) (take-append_seam (leaves_from 0 ranks) pad)
    ∙ ranks_again 0 ranks

length_places : (nodes : List (Option Winner)) (room : ℕ) → length nodes ≡ room + room → length (drop room nodes) ≡ room
length_places nodes room long = length-drop room nodes ∙ omega (arith, long)

pub first_wins : (nodes : List (Option Winner)) (room len : ℕ) → IsTree nodes room len → 0 < room
    → node nodes 1 ≡ winner_from 0 (ranks_of nodes room len)
first_wins nodes room len tree some =
    let depth = (tree.even some).0 in
    let even = (tree.even some).1 in
    let ranks = tree.leaves.0 in
    let pad = replicate (room - len) None in
    node_wins nodes room tree.long tree.inner depth 1 (omega arith) (omega (arith, start_one depth, even))
    ∙ (λ k. winner_of (take (sym even k) (drop ((start_one depth ∙ sym even) k) nodes)))
    ∙ ap winner_of (ap (λ n. take n (drop room nodes)) (sym (length_places nodes room tree.long))
    ∙ take-length (drop room nodes) ∙ tree.leaves.2)
    ∙ winner_append (leaves_from 0 ranks) pad
    ∙ ap (winner_of_two (winner_of (leaves_from 0 ranks))) (winner_none (room - len))
    ∙ joined_none (winner_of (leaves_from 0 ranks))
    ∙ winner_leaves 0 ranks
    ∙ ap (winner_from 0) (sym (ranks_are nodes room len ranks pad tree.leaves.1 tree.leaves.2))

-- ---- a place is set

set_leaf : (n place : ℕ) (ranks : List (Option Rank)) (rank : Option Rank) → place < length ranks
    → slice_set (leaves_from n ranks) place (at_place (n + place) rank)
    ≡ leaves_from n (slice_set ranks place rank)
set_leaf n place [] rank h = absurd (omega (arith, h))
set_leaf n zero (x ∷ rest) rank h =
    ap (λ k. at_place k rank ∷ leaves_from (suc n) rest) (let e : n + 0 ≡ n = omega arith in e)
set_leaf n (suc place) (x ∷ rest) rank h =
    ap (λ l. at_place n x ∷ l)
    (ap (λ k. slice_set (leaves_from (suc n) rest) place (at_place k rank))
    (let e : n + suc place ≡ suc n + place = omega arith in e)
    ∙ set_leaf (suc n) place rest rank (omega (arith, h)))

-- the places after one was set
pub leaves_set : (nodes : List (Option Winner)) (room place : ℕ) (ranks : List (Option Rank))
    (pad : List (Option Winner)) (rank : Option Rank) → place < length ranks
    → drop room nodes ≡ leaves_from 0 ranks ++ pad
    → drop room (slice_set nodes (room + place) (at_place place rank))
    ≡ leaves_from 0 (slice_set ranks place rank) ++ pad
leaves_set nodes room place ranks pad rank h leaves =
    drop-set-add room nodes place (at_place place rank)
    ∙ ap (λ l. slice_set l place (at_place place rank)) leaves
    ∙ set-append_left (leaves_from 0 ranks) pad place (at_place place rank) (omega (
      arith,
      h,
      length_leaves 0
          ranks,
    ))
    ∙ ap (λ l. l ++ pad)
    (ap (λ k. slice_set (leaves_from 0 ranks) place (at_place k rank)) (let e : place
    ≡ 0 + place = omega arith in e)
    ∙ set_leaf 0 place ranks rank h)

-- all nodes but one are winners of the two below them
abbrev pub NodesWinBut : List (Option Winner) → ℕ → ℕ → Type 0
NodesWinBut nodes room but = (i : ℕ) → 1 ≤ i → i < room → i ≢ but → WinsPair nodes i

-- a node that changes is one that only its own join and that of the node above it read
join_kept : (nodes : List (Option Winner)) (at i : ℕ) (x : Option Winner) → i ≢ at → i + i ≢ at → suc (i + i) ≢ at
    → WinsPair nodes i → WinsPair (slice_set nodes at x) i
join_kept nodes at i x own left right is =
    get_or-set_other nodes at i x None own ∙ is
    ∙ (λ k. winner_of_two (sym (get_or-set_other nodes at (i + i) x None left) k)
    (sym (get_or-set_other nodes at (suc (i + i)) x None right) k))

-- once that one is, only the node above that may not be
pub joined_up : (nodes : List (Option Winner)) (room at above : ℕ) (x : Option Winner) → 0 < at → at < room
    → length nodes ≡ room + room → above + above ≤ at → at ≤ suc (above + above)
    → x ≡ winner_of_two (node nodes (at + at)) (node nodes (suc (at + at))) → NodesWinBut nodes room at
    → NodesWinBut (slice_set nodes at x) room above
joined_up nodes room at above x some less long two more is but i one under other = by (i == at) refl
  where
    apart : i ≢ at → WinsPair (slice_set nodes at x) i
    apart own =
        join_kept nodes at i x own (λ e. other (omega (arith, e, two, more))) (λ e. other (omega (arith, e, two, more)))
        (but i one under own)

    here : WinsPair (slice_set nodes at x) at
    here =
        get_or-set_same nodes at x None (omega (arith, less, long)) ∙ is
        ∙ (λ k. winner_of_two (sym (get_or-set_other nodes at (at + at) x None (λ e. absurd (omega (arith, e, some))))
        k)
        (sym (get_or-set_other nodes at (suc (at + at)) x None (λ e. absurd (omega (arith, e, some)))) k))

    by : (b : Bool) → (i == at) ≡ b → WinsPair (slice_set nodes at x) i
    by true is = subst (WinsPair (slice_set nodes at x)) (sym (eqb-true i at is)) here
    by false is = apart (λ e. false≢true (sym is ∙ eq-eqb i at e))

pub all_joined : (nodes : List (Option Winner)) (room at : ℕ) → at < 1 → NodesWinBut nodes room at
    → NodesWin nodes room
all_joined nodes room at none but i one less = but i one less (λ e. absurd (omega (arith, e, none, one)))

-- ---- whole trees

-- a tree in which a place was set
pub tree_set : (nodes new : List (Option Winner)) (room len place : ℕ) (rank : Option Rank)
    (leaf : Option Winner)
    → IsTree nodes room len → place < length (ranks_of nodes room len) → leaf ≡ at_place place rank
    → length new ≡ room + room → drop room new ≡ drop room (slice_set nodes (room + place) leaf) → NodesWin new room
    → IsTree new room len × (ranks_of new room len ≡ slice_set (ranks_of nodes room len) place rank)
tree_set nodes new room len place rank leaf tree there made long places inner =
    let ranks = tree.leaves.0 in
    let seen = ranks_are nodes room len ranks _ tree.leaves.1 tree.leaves.2 in
    let within : place < length ranks = omega (arith, there, ap length seen) in
    let leaves = places ∙ ap (λ at. drop room (slice_set nodes (room + place) at)) made
    ∙ leaves_set nodes room place ranks _ rank within tree.leaves.2 in
    let count = length-set ranks place rank ∙ tree.leaves.1 in (
      record {
        long = long;
        fits = tree.fits;
        even = tree.even;
        leaves = (slice_set ranks place rank, count, leaves);
        inner = inner;
      },
      ranks_are new room len (slice_set ranks place rank) _ count leaves
          ∙ ap (λ l. slice_set l place rank) (sym seen),
    )

leaves_more : (n : ℕ) (ranks : List (Option Rank)) (rank : Option Rank)
    → leaves_from n (ranks ++ rank ∷ []) ≡ leaves_from n ranks ++ at_place (n + length ranks) rank ∷ []
leaves_more n [] rank = ap (λ k. at_place k rank ∷ []) (let e : n ≡ n + 0 = omega arith in e)
leaves_more n (x ∷ rest) rank =
    ap (λ l. at_place n x ∷ l) (leaves_more (suc n) rest rank
    ∙ ap (λ k. leaves_from (suc n) rest ++ at_place k rank ∷ [])
    (let e : suc n + length rest ≡ n + suc (length rest) = omega arith in e))

set_first : {X : Type 0} (xs : List X) (x y : X) (rest : List X) (n : ℕ) → length xs ≡ n
    → slice_set (xs ++ x ∷ rest) n y ≡ (xs ++ y ∷ []) ++ rest
set_first xs x y rest n e = ap (λ n. slice_set (xs ++ x ∷ rest) n y) (sym e) ∙ set-append_seam xs x rest y
    ∙ sym (append_assoc xs (y ∷ []) rest)

pad_first : (room len : ℕ) → len < room
    → replicate (room - len) None ≡ None ∷ (let rest : List (Option Winner) = replicate (room - suc len) None in rest)
pad_first room len h = ap (λ n. replicate n None) (let e : room - len ≡ suc (room - suc len) = omega (arith, h) in e)

-- a tree with one place more
pub tree_pushed : (nodes new : List (Option Winner)) (room len : ℕ) (rank : Option Rank)
    → IsTree nodes room len → len < room → length new ≡ room + room
    → drop room new ≡ drop room (slice_set nodes (room + len) (at_place len rank)) → NodesWin new room
    → IsTree new room (suc len) × (ranks_of new room (suc len) ≡ ranks_of nodes room len ++ rank ∷ [])
tree_pushed nodes new room len rank tree less long places inner =
    let ranks = tree.leaves.0 in
    let count = tree.leaves.1 in
    let leaf = at_place len rank in
    let pad : List (Option Winner) = replicate (room - suc len) None in
    let leaves =
    places ∙ drop-set-add room nodes len leaf
    ∙ ap (λ l. slice_set l len leaf)
    (tree.leaves.2 ∙ ap (λ l. leaves_from 0 ranks ++ l) (pad_first room len less))
    ∙ set_first (leaves_from 0 ranks) None leaf pad len (length_leaves 0 ranks ∙ count)
    ∙ ap (λ l. l ++ pad)
    (sym (leaves_more 0 ranks rank
    ∙ ap (λ n. leaves_from 0 ranks ++ at_place n rank ∷ [])
    (let e : 0 + length ranks ≡ len = omega (arith, count) in e))) in
    let more = length-append ranks (rank ∷ []) in
    let total : length (ranks ++ rank ∷ []) ≡ suc len = omega (arith, more, count) in (
      record {
        long = long;
        fits = less;
        even = tree.even;
        leaves = (ranks ++ rank ∷ [], total, leaves);
        inner = inner;
      },
      ranks_are new room (suc len) (ranks ++ rank ∷ []) pad total leaves
          ∙ ap (λ l. l ++ rank ∷ []) (sym (ranks_are nodes room len ranks _ count tree.leaves.2)),
    )

-- ---- a wider tree

-- a tree without ranks
pub empty_joined : (many room : ℕ) → NodesWin (replicate many None) room
empty_joined many room i one less =
    read many i ∙ sym (λ k. winner_of_two (read many (i + i) k) (read many (suc (i + i)) k))
  where
    read : (n i : ℕ) → node (replicate n None) i ≡ None
    read zero i = refl
    read (suc n) zero = refl
    read (suc n) (suc i) = read n i

pub drop_empty : (room : ℕ) → drop room (replicate (room + room) None)
    ≡ (let rest : List (Option Winner) = replicate room None in rest)
drop_empty room = drop-replicate room (room + room) None ∙ ap (λ n. replicate n None) (let e : room + room - room
    ≡ room = omega arith in e)

-- one more of the places is set
pub widened_more : (wider new places : List (Option Winner)) (wide place : ℕ) (d : Option Winner)
    → place < length places → place < wide
    → drop wide wider ≡ take place places ++ replicate (wide - place) None
    → drop wide new ≡ drop wide (slice_set wider (wide + place) (get_or places place d))
    → drop wide new ≡ take (suc place) places ++ replicate (wide - suc place) None
widened_more wider new places wide place d there less before after =
    after ∙ drop-set-add wide wider place (get_or places place d)
    ∙ ap (λ l. slice_set l place (get_or places place d)) (before
    ∙ ap (λ l. take place places ++ l) (pad_first wide place less))
    ∙ set_first (take place places) None (get_or places place d) _ place (length-take-le place places (omega (
      arith,
      there,
    )))
    ∙ ap (λ l. l ++ replicate (wide - suc place) None) (sym (take-suc places place d there))

-- with all places of a full tree set, it has the same ranks
pub tree_widened : (nodes new : List (Option Winner)) (room wide : ℕ) → IsTree nodes room room → room < wide
    → length new ≡ wide + wide
    → ((0 < wide) → (depth : ℕ) × (wide ≡ places_at depth))
    → drop wide new ≡ take room (drop room nodes) ++ replicate (wide - room) None → NodesWin new wide
    → IsTree new wide room × (ranks_of new wide room ≡ ranks_of nodes room room)
tree_widened nodes new room wide tree less long even places inner =
    let ranks = tree.leaves.0 in
    let whole : take room (drop room nodes) ≡ leaves_from 0 ranks =
    ap (take room) tree.leaves.2
    ∙ ap (λ n. take n (leaves_from 0 ranks ++ replicate (room - room) None))
    (sym (length_leaves 0 ranks ∙ tree.leaves.1))
    ∙ take-append_seam (leaves_from 0 ranks) _ in
    let leaves = places ∙ ap (λ l. l ++ replicate (wide - room) None) whole in (
      record {
        long = long;
        fits = omega (arith, less);
        even = even;
        leaves = (ranks, tree.leaves.1, leaves);
        inner = inner;
      },
      ranks_are new wide room ranks _ tree.leaves.1 leaves
          ∙ sym (ranks_are nodes room room ranks _ tree.leaves.1 tree.leaves.2),
    )

pub twice_even : (room : ℕ) → ((0 < room) → (depth : ℕ) × (room ≡ places_at depth)) → 0 < room
    → (depth : ℕ) × (room + room ≡ places_at depth)
twice_even room even some = (suc (even some).0, omega (arith, (even some).1))

-- a tree without its last place
pub tree_popped : (nodes new : List (Option Winner)) (room len : ℕ) (rest : List (Option Rank)) (rank : Option
    Rank)
    → IsTree nodes room (suc len) → ranks_of nodes room (suc len) ≡ rest ++ rank ∷ [] → length new ≡ room + room
    → drop room new ≡ drop room (slice_set nodes (room + len) None) → NodesWin new room
    → IsTree new room len × (ranks_of new room len ≡ rest)
tree_popped nodes new room len rest rank tree last long places inner =
    let ranks = tree.leaves.0 in
    let pad : List (Option Winner) = replicate (room - suc len) None in
    let is : ranks ≡ rest ++ rank ∷ [] =
    sym (ranks_are nodes room (suc len) ranks pad tree.leaves.1 tree.leaves.2) ∙ last in
    let count : length rest ≡ len =
    omega (arith, ap length is, length-append rest (rank ∷ []), tree.leaves.1) in
    let leaves =
    places ∙ drop-set-add room nodes len None
    ∙ ap (λ l. slice_set l len None)
    (tree.leaves.2 ∙ ap (λ l. leaves_from 0 l ++ pad) is
    ∙ ap (λ l. l ++ pad) (leaves_more 0 rest rank)
    ∙ append_assoc (leaves_from 0 rest) (at_place (0 + length rest) rank ∷ []) pad)
    ∙ set_first (leaves_from 0 rest) (at_place (0 + length rest) rank) None pad len (length_leaves 0 rest ∙ count)
    ∙ append_assoc (leaves_from 0 rest) (None ∷ []) pad
    ∙ ap (λ l. leaves_from 0 rest ++ l) (sym (pad_first room len tree.fits)) in (
      record {
        long = long;
        fits = omega (arith, tree.fits);
        even = tree.even;
        leaves = (rest, count, leaves);
        inner = inner;
      },
      ranks_are new room len rest (replicate (room - len) None) count leaves,
    )

-- the ranks of a tree before its last place, and the last one
pub last_place : (nodes : List (Option Winner)) (room len : ℕ) → IsTree nodes room (suc len)
    → (rest : List (Option Rank)) × (rank : Option Rank) × (ranks_of nodes room (suc len) ≡ rest ++ rank ∷ [])
last_place nodes room len tree =
    let ranks = tree.leaves.0 in
    let count = tree.leaves.1 in (
      take len ranks,
      get_or ranks len None,
      ranks_are nodes room (suc len) ranks _ count tree.leaves.2 ∙ sym (take-length ranks)
          ∙ ap (λ n. take n ranks) count ∙ take-suc ranks len None (omega (arith, count)),
    )
