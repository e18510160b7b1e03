-- The ghost side of each function. Assumes `Logic`.
use Rattle.std.proofs.Common.{◌≡◌, ℕ, zero, suc, ◌+◌, ◌<◌, ◌≤◌, Bool, true, false, List, [], ◌∷◌, ◌++◌, length, map, set, refl, sym, ◌∙◌, arith}
use mathlib.Core.List.{IsPrefix}
use seplogic.Ra.Pcs.{OpDef, OpDef-comm}
use seplogic.Ra.Ura.{Ura}
use base.Fraction.{full_share}
use base.FractionLaws.{not-OpDef-full_share}
use base.Share.{quarter, three_quarters}
use base.Stored.{Gv, Coded, coded×, coded_ℕ}
use base.Algebras.{pcs, shares}
use base.Logic.{SProp, ent, sep, ex, all, guard, upd, emp, via, apply∗, all_e, guard_i}
use base.Fml.{Lft, Fml, fbor, ftrue}
use base.Growing.{prefix_refl}
use base.Shift.{Keyless}
use types.Logic.{Logic, sem}
use types.Owned.{basic}
use types.Keyed.{entries_new, entries_beside, entry_keyless, entries_keyless}
use types.Growing.{latest_new, latest_grows, latest_shows, latest_bounds, at_least_dup, at_least_join}
use types.Kit.{‵, raw, ◌⊛◌, some, given, later, ◌$◌, ◌∵◌, !, qed, move, drop, split, join, fjoin, fsplit, fpick, fpack, pick, learn, show, check, done, use0, use1, use2, updating, await, now, rewrite}
use denote.Steps.{nothing}
use Rattle.logbook.specs.Pages.{Cell, cell}
use Rattle.logbook.specs.Kept.{halved, part, home, roster}
use Rattle.logbook.proofs.Roster.{prefix_out, prefix_in, resets, joined, Reset, at_home, comes_home}
use Rattle.logbook.proofs.Roster as rost
use Rattle.rb_history.specs.Kept.{logs, count_under, HasCounts, top_owns, seats_own, whole_owns, front_owns, hand_owns}
use Rattle.rb_history.proofs.Lists.{prefix_shorter, length_codes, counts_added, counts_kept, counts_seated, counts_none, none_yet}

module _ {M : Type 1} {𝓤 : Ura M} (𝓛 : Logic 𝓤) where
  abbrev part_of : ℕ → ℕ → ℕ → SProp 𝓤
  part_of δ k n = sem 𝓛 (part δ k quarter n)

  -- a hand's number has a cell
  seated : (δ : ℕ) (cs : List Cell) (k i j n : ℕ) → j ≡ k + i → ent 𝓤 (sep 𝓤 (sem 𝓛 (roster δ k cs)) (part_of δ j n)) (guard 𝓤 (i < length cs) (sep 𝓤 (sem 𝓛 (roster δ k cs)) (part_of δ j n)))
  seated δ [] k i j n e = qed 𝓛 (‵ (roster δ k []) ∷ ‵ (part δ j quarter n) ∷ []) ∵ move ! (1 ∷ 0 ∷ []) $
      use2 𝓛 (given (OpDef halved.op (quarter, n) (full_share, 0)) (‵ (part δ j quarter n) ⊛ ‵ (roster δ k []))) (entries_beside halved 𝓛 δ k j (λ _. (full_share, 0)) (quarter, n) (omega arith)) $
      learn ! (λ x. absurd (not-OpDef-full_share quarter ((OpDef-comm (pcs shares) {a = quarter} {b = full_share}).0 x.0)))
  seated δ (c ∷ cs) k zero j n e = guard_i 𝓤 _ _ (let r : zero < suc (length cs) = omega arith in r)
  seated δ (c ∷ cs) k (suc i) j n e = qed 𝓛 ((‵ (home δ k c.0 c.1) ⊛ ‵ (roster δ (suc k) cs)) ∷ ‵ (part δ j quarter n) ∷ []) ∵ split ! $ move ! (1 ∷ 2 ∷ []) $
      use2 𝓛 (given (i < length cs) (‵ (roster δ (suc k) cs) ⊛ ‵ (part δ j quarter n))) (seated δ cs (suc k) i j n (omega arith)) $ learn ! (λ l. check ! (let r : suc i < suc (length cs) = omega arith in r) $
      split ! $ move ! (2 ∷ 0 ∷ []) $ join ! $ done !)

module _ {M : Type 1} {𝓤 : Ura M} (𝓛 : Logic 𝓤) {E : Type 0} (cv : Coded E) where
  open 𝓛 use {H}

  abbrev cp : Coded (ℕ × E)
  cp = coded× coded_ℕ cv

  abbrev ◌⊢◌ : SProp 𝓤 → SProp 𝓤 → Type 1
  P ⊢ Q = ent 𝓤 P Q

  abbrev ◌∗◌ : SProp 𝓤 → SProp 𝓤 → SProp 𝓤
  P ∗ Q = sep 𝓤 P Q

  abbrev top : ℕ → List (ℕ × E) → SProp 𝓤
  top η log = sem 𝓛 (top_owns cv.code η log)

  abbrev whole : ℕ × ℕ → List (ℕ × E) → SProp 𝓤
  whole name log = sem 𝓛 (whole_owns cv.code name log)

  abbrev had : ℕ × ℕ → List (ℕ × E) → SProp 𝓤
  had name log = sem 𝓛 (front_owns cv.code name log)

  abbrev hand : ℕ × ℕ → ℕ → ℕ → SProp 𝓤
  hand name k n = sem 𝓛 (hand_owns name k n)

  infix 26 ◌⊢◌
  infixr 35 ◌∗◌
  seating : (δ : ℕ) (cs : List Cell) (log : List (ℕ × E)) → HasCounts cs log → sem 𝓛 (roster δ 0 cs) ⊢ sem 𝓛 (base.Fml.fex (List Cell) (seats_own δ log))
  seating δ cs log all = qed 𝓛 (‵ (roster δ 0 cs) ∷ []) ∵ nothing ! $ fpack ! (HasCounts cs log) (λ _. ftrue) all $ move ! (1 ∷ 0 ∷ []) $ fjoin ! $ fpack ! (List Cell) (seats_own δ log) cs $ done !

  pub begins : emp 𝓤 ⊢ H.⇛ (ex 𝓤 (λ (name : ℕ × ℕ). whole name []))
  unfolding whole_owns top_owns
  begins = qed 𝓛 [] ∵ updating ! $
      use0 𝓛 (later (some (λ (η : ℕ). ‵ (top_owns cv.code η [])))) (via 𝓤 _ (latest_new logs 𝓛 []) (basic 𝓛 _)) $ await ! tt $ pick ! (λ η.
      use0 𝓛 (later (some (λ (δ : ℕ). ‵ (roster δ 0 [])))) (via 𝓤 _ (entries_new halved 𝓛 0 (λ _. (full_share, 0))) (basic 𝓛 _)) $ await ! tt $ pick ! (λ δ.
      use1 𝓛 (‵ (base.Fml.fex (List Cell) (seats_own δ []))) (seating δ [] [] counts_none) $ now ! $ show ! (λ (name : ℕ × ℕ). whole name []) (η, δ) $ move ! (1 ∷ 0 ∷ []) $ done !))

  top_grows : (η : ℕ) (log : List (ℕ × E)) (x : ℕ × E) → top η log ⊢ upd 𝓤 (top η (log ++ x ∷ []))
  unfolding top_owns
  top_grows η log x = latest_grows logs 𝓛 η (map cp.code log) (map cp.code (log ++ x ∷ [])) (prefix_in cp log (x ∷ []))

  top_shown : (η δ : ℕ) (log : List (ℕ × E)) → top η log ⊢ top η log ∗ had (η, δ) log
  unfolding top_owns front_owns
  top_shown η δ log = latest_shows logs 𝓛 full_share η (map cp.code log) (map cp.code log) (prefix_refl (map cp.code log))

  top_bounds : (η δ : ℕ) (log l : List (ℕ × E)) → top η log ∗ had (η, δ) l ⊢ guard 𝓤 (IsPrefix l log) (top η log ∗ had (η, δ) l)
  unfolding top_owns front_owns
  top_bounds η δ log l = qed 𝓛 (raw (top η log) ∷ raw (had (η, δ) l) ∷ []) ∵
      use2 𝓛 (given (IsPrefix (map cp.code l) (map cp.code log)) (raw (top η log) ⊛ raw (had (η, δ) l))) (latest_bounds logs 𝓛 full_share η (map cp.code log) (map cp.code l)) $
      learn ! (λ p. check ! (prefix_out cp l log p) $ done !)

  pub shown : (name : ℕ × ℕ) (log : List (ℕ × E)) → whole name log ⊢ whole name log ∗ had name log
  unfolding whole_owns
  shown name log = qed 𝓛 (‵ (top_owns cv.code name.0 log) ∷ ‵ (base.Fml.fex (List Cell) (seats_own name.1 log)) ∷ []) ∵
      use1 𝓛 (‵ (top_owns cv.code name.0 log) ⊛ ‵ (front_owns cv.code name log)) (top_shown name.0 name.1 log) $ split ! $ move ! (0 ∷ 2 ∷ []) $ join ! $ done !

  pub bounded_by : (name : ℕ × ℕ) (log l : List (ℕ × E)) → whole name log ∗ had name l ⊢ guard 𝓤 (IsPrefix l log) (whole name log ∗ had name l)
  unfolding whole_owns
  bounded_by name log l = qed 𝓛 ((‵ (top_owns cv.code name.0 log) ⊛ ‵ (base.Fml.fex (List Cell) (seats_own name.1 log))) ∷ ‵ (front_owns cv.code name l) ∷ []) ∵ split ! $ move ! (0 ∷ 2 ∷ []) $
      use2 𝓛 (given (IsPrefix l log) (‵ (top_owns cv.code name.0 log) ⊛ ‵ (front_owns cv.code name l))) (top_bounds name.0 name.1 log l) $ learn ! (λ p. check ! p $ split ! $ move ! (0 ∷ 2 ∷ []) $ join ! $ done !)

  pub twice : (name : ℕ × ℕ) (log : List (ℕ × E)) → had name log ⊢ had name log ∗ had name log
  unfolding front_owns
  twice name log = at_least_dup logs 𝓛 name.0 (map cp.code log)

  abbrev pub Compared : List (ℕ × E) → List (ℕ × E) → Type 0
  Compared xs ys = (length xs ≤ length ys → IsPrefix xs ys) × (length ys ≤ length xs → IsPrefix ys xs)

  compared : (xs ys : List (ℕ × E)) (zs : List Gv) → IsPrefix (map cp.code xs) zs → IsPrefix (map cp.code ys) zs → Compared xs ys
  compared xs ys zs p q = (
    λ le. prefix_out cp xs ys (prefix_shorter (map cp.code xs) (map cp.code ys) zs p q (omega (arith, length_codes cp.code xs, length_codes cp.code ys))),
    λ le. prefix_out cp ys xs (prefix_shorter (map cp.code ys) (map cp.code xs) zs q p (omega (arith, length_codes cp.code xs, length_codes cp.code ys))),
  )

  pub meets : (name : ℕ × ℕ) (xs ys : List (ℕ × E)) → had name xs ∗ had name ys ⊢ guard 𝓤 (Compared xs ys) (emp 𝓤)
  unfolding front_owns
  meets name xs ys = qed 𝓛 (raw (had name xs) ∷ raw (had name ys) ∷ []) ∵
      use2 𝓛 (some (λ (zs : List Gv). given (base.Growing.Least IsPrefix (map cp.code xs) (map cp.code ys) zs) (‵ (base.Growing.at_least logs name.0 zs)))) (at_least_join logs 𝓛 name.0 (map cp.code xs) (map cp.code ys)) $
      pick ! (λ zs. learn ! (λ least. drop ! $ check ! (compared xs ys zs least.0 least.1) $ done !))

  -- ---- hands
  abbrev Enrolled : ℕ × ℕ → List (ℕ × E) → ℕ → SProp 𝓤
  Enrolled name log k = guard 𝓤 (count_under k log ≡ 0) (whole name log ∗ hand name k 0)

  pub enrolls : (name : ℕ × ℕ) (log : List (ℕ × E)) → whole name log ⊢ H.⇛ (ex 𝓤 (Enrolled name log))
  unfolding whole_owns hand_owns
  enrolls name log = let δ : ℕ = name.1 in qed 𝓛 (‵ (top_owns cv.code name.0 log) ∷ ‵ (base.Fml.fex (List Cell) (seats_own δ log)) ∷ []) ∵ updating ! $ move ! (1 ∷ []) $ fpick ! (λ cs. fsplit ! $ move ! (1 ∷ []) $ fpick ! (λ counts. drop ! $ let k : ℕ = length cs in
      use1 𝓛 (‵ (roster δ 0 (cs ++ (0, false) ∷ [])) ⊛ ‵ (part δ k full_share 0)) (rost.grows 𝓛 δ cs 0 k (omega arith)) $ split ! $ move ! (1 ∷ []) $
      use1 𝓛 (later (‵ (part δ k quarter 0) ⊛ ‵ (part δ k three_quarters 0))) (via 𝓤 _ (resets 𝓛 δ k 0 0) (basic 𝓛 _)) $ await ! tt $ split ! $ move ! (2 ∷ 1 ∷ []) $
      use2 𝓛 (‵ (roster δ 0 (set (cs ++ (0, false) ∷ []) k (0, true)))) (comes_home 𝓛 δ (cs ++ (0, false) ∷ []) 0 k k 0 (omega arith)) $
      use1 𝓛 (‵ (base.Fml.fex (List Cell) (seats_own δ log))) (seating δ (set (cs ++ (0, false) ∷ []) k (0, true)) log (counts_seated cs log counts)) $ move ! (2 ∷ 0 ∷ []) $ join ! $
      now ! $ show ! (Enrolled name log) k $ check ! (none_yet cs log counts) $ done !))

  pub audits : (name : ℕ × ℕ) (log : List (ℕ × E)) (k n : ℕ) → whole name log ∗ hand name k n ⊢ H.⇛ (guard 𝓤 (count_under k log ≡ n) (whole name log ∗ hand name k n))
  unfolding whole_owns hand_owns
  audits name log k n = let δ : ℕ = name.1 in
      qed 𝓛 ((‵ (top_owns cv.code name.0 log) ⊛ ‵ (base.Fml.fex (List Cell) (seats_own δ log))) ∷ ‵ (part δ k quarter n) ∷ []) ∵ updating ! $ split ! $ move ! (1 ∷ []) $ fpick ! (λ cs. fsplit ! $ move ! (1 ∷ []) $ fpick ! (λ counts. drop ! $
      move ! (0 ∷ 2 ∷ []) $ use2 𝓛 (given (k < length cs) (‵ (roster δ 0 cs) ⊛ ‵ (part δ k quarter n))) (seated 𝓛 δ cs 0 k k n (omega arith)) $ learn ! (λ here. split ! $
      use1 𝓛 (‵ (part δ k three_quarters (cell cs k).0) ⊛ raw (all 𝓤 (Reset 𝓛 δ 0 cs k k))) (at_home 𝓛 δ cs 0 k k (omega arith) here (counts.home k here)) $ split ! $ move ! (2 ∷ 0 ∷ []) $
      use2 𝓛 (given (n ≡ (cell cs k).0) (‵ (part δ k full_share n))) (joined 𝓛 δ k n (cell cs k).0) $ learn ! (λ same.
      use1 𝓛 (later (‵ (part δ k quarter n) ⊛ ‵ (part δ k three_quarters n))) (via 𝓤 _ (resets 𝓛 δ k n n) (basic 𝓛 _)) $ await ! tt $ split ! $ move ! (2 ∷ []) $
      use1 𝓛 (raw (Reset 𝓛 δ 0 cs k k n)) (all_e 𝓤 (Reset 𝓛 δ 0 cs k k) n) $ move ! (2 ∷ 0 ∷ []) $ use2 𝓛 (‵ (roster δ 0 (set cs k (n, true)))) (apply∗ 𝓤 (sem 𝓛 (part δ k three_quarters n)) (sem 𝓛 (roster δ 0 (set cs k (n, true))))) $
      let count : count_under k log ≡ n = sym (counts.all k) ∙ sym same in
      use1 𝓛 (‵ (base.Fml.fex (List Cell) (seats_own δ log))) (seating δ (set cs k (n, true)) log (counts_kept cs log k n here (sym count) counts)) $ move ! (2 ∷ 0 ∷ []) $ join ! $ now ! $ check ! count $ done !))))

  pub adds : (name : ℕ × ℕ) (log : List (ℕ × E)) (k n : ℕ) (x : E) → whole name log ∗ hand name k n ⊢ H.⇛ (guard 𝓤 (count_under k log ≡ n) (whole name (log ++ (k, x) ∷ []) ∗ hand name k (n + 1)))
  unfolding whole_owns hand_owns
  adds name log k n x = let δ : ℕ = name.1 in let log' : List (ℕ × E) = log ++ (k, x) ∷ [] in
      qed 𝓛 ((‵ (top_owns cv.code name.0 log) ⊛ ‵ (base.Fml.fex (List Cell) (seats_own δ log))) ∷ ‵ (part δ k quarter n) ∷ []) ∵ updating ! $ split ! $ move ! (1 ∷ []) $ fpick ! (λ cs. fsplit ! $ move ! (1 ∷ []) $ fpick ! (λ counts. drop ! $
      move ! (0 ∷ 2 ∷ []) $ use2 𝓛 (given (k < length cs) (‵ (roster δ 0 cs) ⊛ ‵ (part δ k quarter n))) (seated 𝓛 δ cs 0 k k n (omega arith)) $ learn ! (λ here. split ! $
      use1 𝓛 (‵ (part δ k three_quarters (cell cs k).0) ⊛ raw (all 𝓤 (Reset 𝓛 δ 0 cs k k))) (at_home 𝓛 δ cs 0 k k (omega arith) here (counts.home k here)) $ split ! $ move ! (2 ∷ 0 ∷ []) $
      use2 𝓛 (given (n ≡ (cell cs k).0) (‵ (part δ k full_share n))) (joined 𝓛 δ k n (cell cs k).0) $ learn ! (λ same.
      use1 𝓛 (later (‵ (part δ k quarter (n + 1)) ⊛ ‵ (part δ k three_quarters (n + 1)))) (via 𝓤 _ (resets 𝓛 δ k n (n + 1)) (basic 𝓛 _)) $ await ! tt $ split ! $ move ! (2 ∷ []) $
      use1 𝓛 (raw (Reset 𝓛 δ 0 cs k k (n + 1))) (all_e 𝓤 (Reset 𝓛 δ 0 cs k k) (n + 1)) $ move ! (2 ∷ 0 ∷ []) $ use2 𝓛 (‵ (roster δ 0 (set cs k (n + 1, true)))) (apply∗ 𝓤 (sem 𝓛 (part δ k three_quarters (n + 1))) (sem 𝓛 (roster δ 0 (set cs k (n + 1, true))))) $
      let count : count_under k log ≡ n = sym (counts.all k) ∙ sym same in
      rewrite ! 0 (λ (m : ℕ). ‵ (roster δ 0 (set cs k (m + 1, true)))) (sym count) refl $
      use1 𝓛 (‵ (base.Fml.fex (List Cell) (seats_own δ log'))) (seating δ (set cs k (count_under k log + 1, true)) log' (counts_added cs log k x here counts)) $ move ! (2 ∷ []) $
      use1 𝓛 (later (‵ (top_owns cv.code name.0 log'))) (via 𝓤 _ (top_grows name.0 log (k, x)) (basic 𝓛 _)) $ await ! tt $ move ! (0 ∷ 1 ∷ []) $ join ! $ now ! $ check ! count $ done !))))

pub front_keyless : {E : Type 0} (c : E → Gv) (name : ℕ × ℕ) (log : List (ℕ × E)) → Keyless (front_owns c name log)
unfolding front_owns base.Growing.at_least
front_keyless c name log = tt

home_keyless : (δ k n : ℕ) (y : Bool) → Keyless (home δ k n y)
home_keyless δ k n true = entry_keyless halved δ k _
home_keyless δ k n false = tt

roster_keyless : (δ k : ℕ) (cs : List Cell) → Keyless (roster δ k cs)
roster_keyless δ k [] = entries_keyless halved δ k (λ _. (full_share, 0))
roster_keyless δ k (c ∷ cs) = (home_keyless δ k c.0 c.1, roster_keyless δ (suc k) cs)

pub whole_keyless : {E : Type 0} (c : E → Gv) (name : ℕ × ℕ) (log : List (ℕ × E)) → Keyless (whole_owns c name log)
unfolding whole_owns top_owns base.Growing.latest
whole_keyless c name log = (tt, λ cs. (roster_keyless name.1 0 cs, λ _. tt))

pub hand_keyless : (name : ℕ × ℕ) (k n : ℕ) → Keyless (hand_owns name k n)
unfolding hand_owns
hand_keyless name k n = entry_keyless halved name.1 k _
