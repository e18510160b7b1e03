-- The answers of all workers: the first error of all, or the changes of all.
use Rattle.std.proofs.Common.{◌≡◌, ◌∙◌, ◌⊎◌, inl, inr, ◌<◌, ◌≤◌, ◌+◌, ℕ, zero, suc, Bool, true, false, cond}
use Rattle.std.proofs.Common.{List, [], ◌∷◌, ◌++◌, length, map, Option, Some, None, Result, Ok, Err}
use Rattle.std.proofs.Common.{nat_lt, slice_index_or, refl, ap, sym, subst, arith}
use Rattle.std.proofs.lemmas.Bool.Decides.{nat_tests}
use Rattle.std.proofs.lemmas.Option.{none-some}
use Rattle.std.proofs.str.Laws.{order}
use Rattle.std.proofs.lemmas.Map.Keys.{IsDistinct-head, IsDistinct-tail, IsDistinct-cons}
use Rattle.std.specs.List.{AllByRecursion, IsDistinct}
use Rattle.std.specs.Map.{lookup, keys_of}
use Rattle.cs_model.specs.declared.row_key.RowKey.{RowKey}
use Rattle.cs_model.specs.declared.value.Value.{Value}
use Rattle.cs_apply.specs.declared.conflict.ApplyError.{ApplyError}
use Rattle.cs_apply.specs.declared.conflict.ApplyError.TheVariants.{Conflict, Memory}
use Rattle.cs_apply.specs.declared.conflict.Conflict.{Conflict as Conflicts}
use Rattle.cs_apply.specs.Errors.{ReportsConflict}
use Rattle.cs_apply.specs.State.{Rows}
use Rattle.cs_apply.proofs.rows_by_key.Keys.{same_key, laws}
use Rattle.par_apply.specs.RowChanges.{RowChanges, overlaid}
use Rattle.par_apply.specs.Splitting.{AreOfShard, SplitsInto, joined_parts, list_at}
use Rattle.par_apply.specs.Workers.{AreReal, AreShardChanges, ReportsPart, WorkerAnswer, changes_answered}
use Rattle.par_apply.specs.Workers.{earlier_conflict, first_error, first_error_from}
use Rattle.par_apply.proofs.shards.GatheringLaws.{each_in_own, first_of_shards, gathers, joined_are_all, none_after}

-- ---- the first error

-- no conflict here comes before this one, and memory did not run out
abbrev IsNoEarlier : Conflicts → WorkerAnswer → Type 0
IsNoEarlier c (Ok plan) = Unit {0}
IsNoEarlier c (Err Memory) = ⊥
IsNoEarlier c (Err (Conflict d)) = c.position ≤ d.position

abbrev IsNoEarlierBest : Conflicts → Option ApplyError → Type 0
IsNoEarlierBest c None = Unit {0}
IsNoEarlierBest c (Some Memory) = ⊥
IsNoEarlierBest c (Some (Conflict b)) = c.position ≤ b.position

before_neither : (a b c : Conflicts) → c.position ≤ (earlier_conflict a b).position
    → (c.position ≤ a.position) × (c.position ≤ b.position)
before_neither a b c low = by (nat_lt b.position a.position) refl low
  where
    by : (t : Bool) → nat_lt b.position a.position ≡ t → c.position ≤ (cond t b a).position
        → (c.position ≤ a.position) × (c.position ≤ b.position)
    by true e low = let lt : b.position < a.position = grind (arith, nat_tests) in (omega arith, low)
    by false e low = let ge : a.position ≤ b.position = grind (arith, nat_tests) in (low, omega arith)

before_none : (c : Conflicts) (best : Option ApplyError) (r : WorkerAnswer) → IsNoEarlierBest c (first_error best r)
    → IsNoEarlierBest c best × IsNoEarlier c r
before_none c best (Ok plan) h = (h, tt)
before_none c None (Err Memory) h = absurd h
before_none c None (Err (Conflict d)) h = (tt, h)
before_none c (Some Memory) (Err e) h = absurd h
before_none c (Some (Conflict a)) (Err Memory) h = absurd h
before_none c (Some (Conflict a)) (Err (Conflict b)) h = before_neither a b c h

either_is : (a b c : Conflicts) → earlier_conflict a b ≡ c → (a ≡ c) ⊎ (b ≡ c)
either_is a b c = by (nat_lt b.position a.position)
  where
    by : (t : Bool) → cond t b a ≡ c → (a ≡ c) ⊎ (b ≡ c)
    by true e = inr e
    by false e = inl e

conflict_in : (a b : Conflicts) → ◌≡◌ {A = Option ApplyError} (Some (Conflict a)) (Some (Conflict b)) → a ≡ b
conflict_in a b e = cc

error_from : (c : Conflicts) (best : Option ApplyError) (r : WorkerAnswer) → first_error best r ≡ Some (Conflict c)
    → (best ≡ Some (Conflict c)) ⊎ (r ≡ Err (Conflict c))
error_from c best (Ok plan) e = inl e
error_from c None (Err error) e =
    let is : error ≡ Conflict c = cc e in inr (ap (λ (x : ApplyError). Err x) is)
error_from c (Some Memory) (Err error) e = absurd cc
error_from c (Some (Conflict a)) (Err Memory) e = absurd cc
error_from c (Some (Conflict a)) (Err (Conflict b)) e = by (either_is a b c (conflict_in (earlier_conflict a b) c e))
  where
    by : (a ≡ c) ⊎ (b ≡ c) → (◌≡◌ {A = Option ApplyError} (Some (Conflict a)) (Some (Conflict c)))
        ⊎ (◌≡◌ {A = WorkerAnswer} (Err (Conflict b)) (Err (Conflict c)))
    by (inl is) = inl (ap (λ (x : Conflicts). Some (Conflict x)) is)
    by (inr is) = inr (ap (λ (x : Conflicts). Err (Conflict x)) is)

-- one of the answers, whatever stands for those that aren't there
abbrev IsThereAnswer : List WorkerAnswer → Conflicts → Type 0
IsThereAnswer rs c = (i : ℕ) × (i < length rs) × ((d : WorkerAnswer) → slice_index_or rs i d ≡ Err (Conflict c))

pub record IsFirstError (c : Conflicts) (best : Option ApplyError) (rs : List WorkerAnswer) : Type 0 where
  pub before : IsNoEarlierBest c best
  pub each : (i : ℕ) (d : WorkerAnswer) → i < length rs → IsNoEarlier c (slice_index_or rs i d)
  pub found : (best ≡ Some (Conflict c)) ⊎ IsThereAnswer rs c

first_error_is : (rs : List WorkerAnswer) (best : Option ApplyError) (c : Conflicts)
    → first_error_from best rs ≡ Some (Conflict c) → IsFirstError c best rs
first_error_is [] best c e = record {
  before = subst (IsNoEarlierBest c) (sym e) (omega arith);
  each = λ i d lt. absurd (omega arith);
  found = inl e;
}
first_error_is (r ∷ rs) best c e =
    let rest = first_error_is rs (first_error best r) c e in
    let two = before_none c best r rest.before in record {
      before = two.0;
      each = each two.1 rest.each;
      found = found (error_from c best r) rest.found;
    }
  where
    each : IsNoEarlier c r → ((i : ℕ) (d : WorkerAnswer) → i < length rs → IsNoEarlier c (slice_index_or rs i d))
        → (i : ℕ) (d : WorkerAnswer) → i < length (r ∷ rs) → IsNoEarlier c (slice_index_or (r ∷ rs) i d)
    each here more zero d lt = here
    each here more (suc i) d lt = more i d (omega arith)

    found : (first_error best r ≡ Some (Conflict c) → (best ≡ Some (Conflict c)) ⊎ (r ≡ Err (Conflict c)))
        → (first_error best r ≡ Some (Conflict c)) ⊎ IsThereAnswer rs c
        → (best ≡ Some (Conflict c)) ⊎ IsThereAnswer (r ∷ rs) c
    found from (inr (i, lt, at)) = inr (suc i, omega arith, at)
    found from (inl is) = by (from is)
      where
        by : (best ≡ Some (Conflict c)) ⊎ (r ≡ Err (Conflict c)) → (best ≡ Some (Conflict c)) ⊎ IsThereAnswer (r ∷ rs) c
        by (inl is) = inl is
        by (inr is) = inr (0, omega arith, λ d. is)

-- ---- no error

abbrev IsOkAnswer : WorkerAnswer → Type 0
IsOkAnswer (Ok plan) = Unit {0}
IsOkAnswer (Err error) = ⊥

error_stays : (rs : List WorkerAnswer) (error : ApplyError) → first_error_from (Some error) rs ≡ None → ⊥
error_stays [] error e = none-some error (sym e)
error_stays (Ok plan ∷ rs) error e = error_stays rs error e
error_stays (Err other ∷ rs) Memory e = error_stays rs Memory e
error_stays (Err Memory ∷ rs) (Conflict a) e = error_stays rs Memory e
error_stays (Err (Conflict b) ∷ rs) (Conflict a) e = error_stays rs (Conflict (earlier_conflict a b)) e

each_is_ok : (rs : List WorkerAnswer) → first_error_from None rs ≡ None → (i : ℕ) (d : WorkerAnswer) → i < length rs
    → IsOkAnswer (slice_index_or rs i d)
each_is_ok [] e i d lt = absurd (omega arith)
each_is_ok (Ok plan ∷ rs) e zero d lt = tt
each_is_ok (Ok plan ∷ rs) e (suc i) d lt = each_is_ok rs e i d (omega arith)
each_is_ok (Err error ∷ rs) e i d lt = absurd (error_stays rs error e)

-- ---- the changes of all, as lists

abbrev pub changes_of_answer : WorkerAnswer → RowChanges
changes_of_answer (Ok plan) = plan.changes.items
changes_of_answer (Err error) = []

abbrev pub answer_lists : List WorkerAnswer → List RowChanges
answer_lists rs = map changes_of_answer rs

pub answered_joined : (rs : List WorkerAnswer) → changes_answered rs ≡ joined_parts (answer_lists rs)
answered_joined [] = refl
answered_joined (Ok plan ∷ rs) = ap (λ (l : RowChanges). plan.changes.items ++ l) (answered_joined rs)
answered_joined (Err error ∷ rs) = answered_joined rs

list_at_answer : (rs : List WorkerAnswer) (i : ℕ) (d : WorkerAnswer) → i < length rs
    → list_at (answer_lists rs) i ≡ changes_of_answer (slice_index_or rs i d)
list_at_answer [] i d lt = absurd (omega arith)
list_at_answer (r ∷ rs) zero d lt = refl
list_at_answer (r ∷ rs) (suc i) d lt = list_at_answer rs i d (omega arith)

list_at_past : (rs : List WorkerAnswer) (i : ℕ) → length rs ≤ i → list_at (answer_lists rs) i ≡ []
list_at_past [] i past = refl
list_at_past (r ∷ rs) zero past = absurd (omega arith)
list_at_past (r ∷ rs) (suc i) past = list_at_past rs i (omega arith)

-- ---- distinct keys in lists of different shards

keys_apart : (q : RowKey) (ys : RowChanges) → lookup (same_key q) ys ≡ None
    → AllByRecursion (λ y. same_key q y ≡ false) (keys_of ys)
keys_apart q [] none = tt
keys_apart q (y ∷ ys) none = by (same_key q y.0) refl none (keys_apart q ys)
  where
    by : (b : Bool) → same_key q y.0 ≡ b → cond b (Some y.1) (lookup (same_key q) ys) ≡ None
        → (lookup (same_key q) ys ≡ None → AllByRecursion (λ k. same_key q k ≡ false) (keys_of ys))
        → AllByRecursion (λ k. same_key q k ≡ false) (keys_of (y ∷ ys))
    by true e none rest = absurd (none-some y.1 (sym none))
    by false e none rest = (e, rest none)

apart_both : (q : RowKey) (xs ys : RowChanges) → AllByRecursion (λ k. same_key q k ≡ false) (keys_of xs)
    → AllByRecursion (λ k. same_key q k ≡ false) (keys_of ys)
    → AllByRecursion (λ k. same_key q k ≡ false) (keys_of (xs ++ ys))
apart_both q [] ys one other = other
apart_both q (x ∷ xs) ys one other = (one.0, apart_both q xs ys one.1 other)

distinct_both : (xs ys : RowChanges) → IsDistinct same_key (keys_of xs) → IsDistinct same_key (keys_of ys)
    → ((q : RowKey) (row : Option (List Value)) → lookup (same_key q) xs ≡ Some row → lookup (same_key q) ys ≡ None)
    → (refl_key : (q : RowKey) → same_key q q ≡ true) → IsDistinct same_key (keys_of (xs ++ ys))
distinct_both [] ys one other apart refl_key = other
distinct_both (x ∷ xs) ys one other apart refl_key =
    IsDistinct-cons same_key x.0 (keys_of (xs ++ ys))
    (apart_both x.0 xs ys (IsDistinct-head same_key x.0 (keys_of xs) one)
    (keys_apart x.0 ys (apart x.0 x.1 (ap (λ b. cond b (Some x.1) (lookup (same_key x.0) xs)) (refl_key x.0)))))
    (distinct_both xs ys (IsDistinct-tail same_key x.0 (keys_of xs) one) other
    (λ q row found. by q (same_key q x.0) row found (apart q)) refl_key)
  where
    by : (q : RowKey) (b : Bool) (row : Option (List Value)) → lookup (same_key q) xs ≡ Some row
        → ((there : Option (List Value)) → cond b (Some x.1) (lookup (same_key q) xs) ≡ Some there
        → lookup (same_key q) ys ≡ None) → lookup (same_key q) ys ≡ None
    by q true row found apart = apart x.1 refl
    by q false row found apart = apart row found

joined_distinct : (shard : RowKey → ℕ) (lists : List RowChanges) (start : ℕ)
    → ((i : ℕ) → AreOfShard shard (start + i) (list_at lists i))
    → ((i : ℕ) → IsDistinct same_key (keys_of (list_at lists i)))
    → ((q : RowKey) → same_key q q ≡ true) → IsDistinct same_key (keys_of (joined_parts lists))
joined_distinct shard [] start own one refl_key = one 0
joined_distinct shard (xs ∷ lists) start own one refl_key =
    distinct_both xs (joined_parts lists) (one 0)
    (joined_distinct shard lists (suc start)
    (λ i. let next : start + suc i ≡ suc start + i = omega arith in
    subst (λ k. AreOfShard shard k (list_at lists i)) next (own (suc i)))
    (λ i. one (suc i)) refl_key)
    (λ q row found.
    let here = own 0 q row found in
    none_after (shard q) q lists (suc start) (omega arith)
    (each_in_own (shard q) q lists (suc start) (λ i other e. let h = own (suc i) q other e in omega arith)))
    refl_key

-- ---- all workers

none_distinct : IsDistinct same_key (keys_of {X = Option (List Value)} [])
unfolding IsDistinct
none_distinct = tt

same_self : (q : RowKey) → same_key q q ≡ true
same_self q = laws.refl q

module _ (shard : RowKey → ℕ) (answers : ℕ → Result Rows Conflicts) (whole : Result Rows Conflicts) (rows : Rows)
    (n : ℕ) (splits : SplitsInto shard answers whole) (within : (key : RowKey) → shard key < n) where
  abbrev pub EachReports : List WorkerAnswer → Type 0
  EachReports rs = (i : ℕ) (d : WorkerAnswer) → i < n
      → ReportsPart shard i rows (slice_index_or rs i d) (answers i)

  least_error : (i : ℕ) (r : WorkerAnswer) (c d : Conflicts) → ReportsPart shard i rows r (answers i)
      → IsNoEarlier c r → answers i ≡ Err d → c.position ≤ d.position
  least_error i (Ok plan) c d says later e = absurd (let no = sym says.applied ∙ e in cc)
  least_error i (Err Memory) c d says later e = absurd later
  least_error i (Err (Conflict f)) c d says later e =
      let both = sym says ∙ e in
      let is : f ≡ d = cc in subst (λ (x : Conflicts). c.position ≤ x.position) is later

  -- the first error is that of the whole
  pub all_refused : (rs : List WorkerAnswer) (e : ApplyError) → length rs ≡ n → EachReports rs
      → (e ≡ Memory) ⊎ (first_error_from None rs ≡ Some e) → ReportsConflict e whole
  all_refused rs Memory long each h = tt
  all_refused rs (Conflict c) long each (inl e) = absurd cc
  all_refused rs (Conflict c) long each (inr e) = by (first_error_is rs None c e)
    where
      by : IsFirstError c None rs → whole ≡ Err c
      by first = at first.found
        where
          at : (None ≡ Some (Conflict c)) ⊎ IsThereAnswer rs c → whole ≡ Err c
          at (inl none) = absurd (none-some (Conflict c) none)
          at (inr (i, lt, is)) =
              first_of_shards shard answers whole i c splits
              (subst (λ r. ReportsPart shard i rows r (answers i)) (is (Err Memory))
              (each i (Err Memory) (omega arith)))
              (λ key other e. least_error (shard key) (slice_index_or rs (shard key) (Err Memory)) c other
              (each (shard key) (Err Memory) (within key))
              (first.each (shard key) (Err Memory) (let low = within key in omega arith)) e)

  -- each list is what its worker planned
  worker_planned : (i : ℕ) (r : WorkerAnswer) → IsOkAnswer r → ReportsPart shard i rows r (answers i)
      → AreShardChanges shard i rows (changes_of_answer r) (answers i)
  worker_planned i (Ok plan) ok says = says
  worker_planned i (Err error) ok says = absurd ok

  list_planned : (rs : List WorkerAnswer) → length rs ≡ n → EachReports rs → first_error_from None rs ≡ None
      → (i : ℕ) → i < n → AreShardChanges shard i rows (list_at (answer_lists rs) i) (answers i)
  list_planned rs long each ok i lt =
      subst (λ (l : RowChanges). AreShardChanges shard i rows l (answers i))
      (sym (list_at_answer rs i (Err Memory) (omega arith)))
      (worker_planned i (slice_index_or rs i (Err Memory)) (each_is_ok rs ok i (Err Memory) (omega arith))
      (each i (Err Memory) lt))

  list_own : (rs : List WorkerAnswer) → length rs ≡ n → EachReports rs → first_error_from None rs ≡ None
      → (i : ℕ) → AreOfShard shard i (list_at (answer_lists rs) i)
  list_own rs long each ok i = by (order i n)
    where
      by : (i < n) ⊎ (n ≤ i) → AreOfShard shard i (list_at (answer_lists rs) i)
      by (inl lt) = (list_planned rs long each ok i lt).own
      by (inr past) = subst (λ (l : RowChanges). AreOfShard shard i l)
          (sym (list_at_past rs i (omega arith))) (λ key row found. absurd (none-some row found))

  list_distinct : (rs : List WorkerAnswer) → length rs ≡ n → EachReports rs → first_error_from None rs ≡ None
      → (i : ℕ) → IsDistinct same_key (keys_of (list_at (answer_lists rs) i))
  list_distinct rs long each ok i = by (order i n)
    where
      by : (i < n) ⊎ (n ≤ i) → IsDistinct same_key (keys_of (list_at (answer_lists rs) i))
      by (inl lt) = (list_planned rs long each ok i lt).distinct
      by (inr past) = subst (λ (l : RowChanges). IsDistinct same_key (keys_of l))
          (sym (list_at_past rs i (omega arith))) none_distinct

  -- the joined changes are those of the whole, each of another key, and each makes a difference
  pub record AllPlanned (changes : RowChanges) : Type 0 where
    pub applied : whole ≡ Ok (overlaid rows changes)
    pub distinct : IsDistinct same_key (keys_of changes)
    pub real : AreReal rows changes

  pub all_planned : (rs : List WorkerAnswer) → length rs ≡ n → EachReports rs → first_error_from None rs ≡ None
      → AllPlanned (joined_parts (answer_lists rs))
  all_planned rs long each ok =
      let own = list_own rs long each ok in
      let all = joined_are_all shard (answer_lists rs) own in record {
        applied = gathers shard answers whole rows (list_at (answer_lists rs)) (joined_parts (answer_lists rs)) splits
            (λ key. (list_planned rs long each ok (shard key) (within key)).applied) all;
        distinct = joined_distinct shard (answer_lists rs) 0
            (λ i. let nought : i ≡ 0 + i = omega arith in
            subst (λ k. AreOfShard shard k (list_at (answer_lists rs) i)) nought (own i))
            (list_distinct rs long each ok) same_self;
        real = λ key row found. (list_planned rs long each ok (shard key) (within key)).real key row
            (sym (all key) ∙ found);
      }
