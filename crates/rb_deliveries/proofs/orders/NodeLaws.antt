-- A node of a tournament's tree is the winner of the places below it.
use Rattle.std.proofs.Common.{◌≡◌, ℕ, zero, suc, ◌+◌, ◌<◌, ◌≤◌, List, [], ◌∷◌, ◌++◌, length, take, drop, replicate}
use Rattle.std.proofs.Common.{Option, Some, None, refl, sym, ap, ◌∙◌, arith}
use Rattle.std.proofs.lemmas.List.{drop-drop}
use Rattle.std.proofs.Math.Seq.{drop-cons, take-add}
use Rattle.rb_deliveries.specs.declared.rank.Rank.{Rank}
use Rattle.rb_deliveries.specs.declared.tournament.Winner.{Winner}
use Rattle.rb_deliveries.specs.Tournament.{winner_of_two, at_place, winner_from, leaves_from, places_at, node, NodesWin}

-- ---- winners of lists

pub joined_none : (a : Option Winner) → winner_of_two a None ≡ a
joined_none None = refl
joined_none (Some a) = refl

joined_assoc : (a b c : Option Winner) → winner_of_two (winner_of_two a b) c ≡ winner_of_two a (winner_of_two b c)
joined_assoc None b c = refl
joined_assoc (Some a) None c = refl
joined_assoc (Some a) (Some b) None = grind arith
joined_assoc (Some a) (Some b) (Some c) = grind arith

-- the winner of these winners
abbrev pub winner_of : List (Option Winner) → Option Winner
winner_of [] = None
winner_of (x ∷ rest) = winner_of_two x (winner_of rest)

pub winner_append : (xs ys : List (Option Winner)) → winner_of (xs ++ ys) ≡ winner_of_two (winner_of xs) (winner_of ys)
winner_append [] ys = refl
winner_append (x ∷ xs) ys = ap (winner_of_two x) (winner_append xs ys)
    ∙ sym (joined_assoc x (winner_of xs) (winner_of ys))

pub winner_none : (n : ℕ) → winner_of (replicate n None) ≡ None
winner_none zero = refl
winner_none (suc n) = winner_none n

pub winner_leaves : (n : ℕ) (ranks : List (Option Rank)) → winner_of (leaves_from n ranks) ≡ winner_from n ranks
winner_leaves n [] = refl
winner_leaves n (rank ∷ rest) = ap (winner_of_two (at_place n rank)) (winner_leaves (suc n) rest)

pub length_leaves : (n : ℕ) (ranks : List (Option Rank)) → length (leaves_from n ranks) ≡ length ranks
length_leaves n [] = refl
length_leaves n (rank ∷ rest) = ap suc (length_leaves (suc n) rest)

-- ---- where the places below a node begin

abbrev pub start : ℕ → ℕ → ℕ
start zero i = i
start (suc depth) i = start depth (i + i)

start_next : (depth i : ℕ) → start depth (suc i) ≡ start depth i + places_at depth
start_next zero i = omega arith
start_next (suc depth) i =
    ap (start depth) (let e : suc i + suc i ≡ suc (suc (i + i)) = omega arith in e)
    ∙ omega (arith, start_next depth (suc (i + i)), start_next depth (i + i))

start_least : (depth i : ℕ) → i ≤ start depth i
start_least zero i = omega arith
start_least (suc depth) i = omega (arith, start_least depth (i + i))

pub start_one : (depth : ℕ) → start depth 1 ≡ places_at depth
start_one zero = refl
start_one (suc depth) = omega (arith, start_next depth 1, start_one depth)

some_places : (depth : ℕ) → 0 < places_at depth
some_places zero = omega arith
some_places (suc depth) = omega (arith, some_places depth)

-- ---- a node is the winner of the places below it

take_twice : {X : Type 0} (n m at : ℕ) (xs : List X) → take n (drop at xs) ++ take m (drop (at + n) xs)
    ≡ take (n + m) (drop at xs)
take_twice n m at xs = ap (λ l. take n (drop at xs) ++ take m l) (sym (drop-drop n at xs))
    ∙ sym (take-add n m (drop at xs))

node_alone : (nodes : List (Option Winner)) (i : ℕ) → i < length nodes → node nodes i
    ≡ winner_of (take 1 (drop i nodes))
node_alone nodes i h = sym (ap (λ l. winner_of (take 1 l)) (drop-cons nodes i None h) ∙ joined_none (node nodes i))

pub node_wins : (nodes : List (Option Winner)) (room : ℕ) → length nodes ≡ room + room → NodesWin nodes room
    → (depth i : ℕ) → 1 ≤ i → start depth i + places_at depth ≤ room + room
    → node nodes i ≡ winner_of (take (places_at depth) (drop (start depth i) nodes))
node_wins nodes room long inner zero i one fits = node_alone nodes i (omega (arith, fits, long))
node_wins nodes room long inner (suc depth) i one fits =
    let next = start_next depth (i + i) in
    let some = some_places depth in
    let least = start_least depth (i + i) in
    inner i one (omega (arith, fits, some, least))
    ∙ (λ k. winner_of_two
    (node_wins nodes room long inner depth (i + i) (omega (arith, one)) (omega (arith, fits, some)) k)
    (node_wins nodes room long inner depth (suc (i + i)) (omega arith) (omega (arith, fits, next)) k))
    ∙ ap (λ at. winner_of_two (winner_of (take (places_at depth) (drop (start depth (i + i)) nodes)))
    (winner_of (take (places_at depth) (drop at nodes)))) next
    ∙ sym (winner_append (take (places_at depth) (drop (start depth (i + i)) nodes)) _)
    ∙ ap winner_of (take_twice (places_at depth) (places_at depth) (start depth (i + i)) nodes)
