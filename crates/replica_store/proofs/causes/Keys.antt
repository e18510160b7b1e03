-- No two rows of a replica have one key.
use Rattle.std.proofs.Common.{◌≡◌, ◌⊎◌, inl, inr, ℕ, ℤ, pos, Bool, true, false, cond, not, ◌&&◌, List, [], ◌∷◌, ◌++◌}
use Rattle.std.proofs.Common.{refl, sym, ap, subst, subst₂, ◌∙◌, int_eq, is_eq}
use Rattle.std.proofs.lemmas.Bool.{and_parts, and_from, both_ways, cases_Bool, false_from_ne_true, not-true}
use Rattle.std.proofs.lemmas.Cmp.{int_eq_equiv, tied_itself}
use Rattle.sqlite_value.specs.Keys.{first_key, plain}
use Rattle.sqlite_value.proofs.OrderLemmas.{value_cmp_total}
use Rattle.sqlite_schema.specs.declared.schema.Constraint.TheVariants.{Unique}
use Rattle.sqlite_schema.specs.Rules.{Keeps, agree, clashes, differ}
use Rattle.sqlite_sql.specs.declared.ops.CompareOp.TheVariants.{Eq, Ne}
use Rattle.sqlite_typed.specs.Tests.{bytes_cmp}
use Rattle.sqlite_typed.proofs.TestLemmas.{at_ints, at_blobs, then_term, last_term, same_bytes, bytes_eq_refl}
use Rattle.sqlite_keyed.proofs.KeyedLemmas.{same_int}
use Rattle.sqlite_rules.specs.Lists.{Has}
use Rattle.sqlite_rules.proofs.ListLemmas.{all_from, all_has, some_from, some_has}
use Rattle.sqlite.specs.Order.{Row}
use Rattle.sqlite.specs.Tree.{Trees, IsTable, rowid}
use Rattle.cs_model.specs.declared.row_key.RowKey.{RowKey}
use Rattle.replica_store.specs.Layout.{replica_schema}
use Rattle.replica_store.specs.Picture.{row_record}
use Rattle.replica_store.specs.Reading.{AreRowRecords}
use Rattle.replica_store.proofs.statements.FoundRows.{shown_of}
use Rattle.replica_store.proofs.statements.KeyRows.{key_of_parts}

-- two rows with one key have one id
abbrev pub HasKeysOnce : List Row → Type 0
HasKeysOnce rows = (i j : ℤ) (key : RowKey) (b c : List ℕ) → Has rows (row_record i key b)
    → Has rows (row_record j key c) → i ≡ j

agree_when : (i j : ℤ) (k q : RowKey) (b c : List ℕ)
    → agree plain (1 ∷ 2 ∷ []) (row_record i k b) (1 ∷ 2 ∷ []) (row_record j q c)
    ≡ (int_eq (pos k.table) (pos q.table) && is_eq (bytes_cmp k.bytes q.bytes))
unfolding first_key
agree_when i j k q b c =
    then_term (at_ints false Eq (pos k.table) (pos q.table)) (last_term (at_blobs false Eq k.bytes q.bytes))

agree_same_key : (i j : ℤ) (k q : RowKey) (b c : List ℕ)
    → agree plain (1 ∷ 2 ∷ []) (row_record i k b) (1 ∷ 2 ∷ []) (row_record j q c) ≡ true → k ≡ q
agree_same_key i j k q b c h =
    let both = and_parts _ _ (sym (agree_when i j k q b c) ∙ h) in
    let same = same_int (pos k.table) (pos q.table) both.0 in
    let table : k.table ≡ q.table = cc in
    key_of_parts k q table (same_bytes k.bytes q.bytes both.1)

same_key_agrees : (i j : ℤ) (k : RowKey) (b c : List ℕ)
    → agree plain (1 ∷ 2 ∷ []) (row_record i k b) (1 ∷ 2 ∷ []) (row_record j k c) ≡ true
same_key_agrees i j k b c =
    agree_when i j k k b c ∙ rw (int_eq_equiv.refl (pos k.table), bytes_eq_refl k.bytes) refl

differ_when : (i j : ℤ) (k q : RowKey) (b c : List ℕ)
    → differ (rowid (row_record i k b)) (rowid (row_record j q c)) ≡ not (int_eq i j)
differ_when i j k q b c = at_ints false Ne i j

-- the schema's rule says so
pub once_by_rule : (db : Trees) → Keeps Unique replica_schema db → HasKeysOnce (db 0)
once_by_rule db keeps i j key b c first second = elim (cases_Bool (int_eq i j)) [
  | inl same ↦ same_int i j same
  | inr other ↦
      let r = row_record j key c in
      let passes = all_has _ (db 0) r keeps.0 second in
      let none : clashes plain (1 ∷ 2 ∷ []) (db 0) r ≡ false = not-true _ (and_parts _ _ passes).0 in
      absurd (both_ways _ none (some_from
      (λ x. agree plain (1 ∷ 2 ∷ []) x (1 ∷ 2 ∷ []) r && differ (rowid x) (rowid r)) (db 0)
      (row_record i key b) first
      (and_from _ _ (same_key_agrees i j key b c) (differ_when i j key key b c ∙ ap not other))))
]

-- and so the rule is kept
pub rule_by_once : (db : Trees) → AreRowRecords (db 0) → HasKeysOnce (db 0) → Keeps Unique replica_schema db
rule_by_once db are once = (
  all_from _ (db 0) (λ r there. and_from _ _ (ap not (none r there)) refl),
  (
    all_from _ (db 2) (λ r there. refl),
    tt,
  ),
)
  where
    none : (r : Row) → Has (db 0) r → clashes plain (1 ∷ 2 ∷ []) (db 0) r ≡ false
    none r there = false_from_ne_true _ (λ clash.
        let x = some_has _ (db 0) clash in
        let one = are r there in
        let other = are x.0 x.1 in
        let both = and_parts _ _ (subst₂ (λ (y z : Row). (agree plain (1 ∷ 2 ∷ []) y (1 ∷ 2 ∷ []) z
        && differ (rowid y) (rowid z)) ≡ true) other.3 one.3 x.2) in
        let key : other.1 ≡ one.1 = agree_same_key other.0 one.0 other.1 one.1 other.2 one.2 both.0 in
        let id : other.0 ≡ one.0 = once other.0 one.0 one.1 other.2 one.2
        (subst (Has (db 0)) (other.3 ∙ ap (λ k. row_record other.0 k other.2) key) x.1)
        (subst (Has (db 0)) one.3 there) in
        both_ways _ (ap (λ i. not (int_eq i one.0)) id ∙ ap not (int_eq_equiv.refl one.0))
        (sym (differ_when other.0 one.0 other.1 one.1 other.2 one.2) ∙ both.1))

-- ---- of rows with one id at most one is found

module _ {Y : Type 0} (test : Row → Bool) (show : Row → Y) where
  pub one_shown : (rows : List Row) → IsTable rows
      → ((r s : Row) → Has rows r → Has rows s → test r ≡ true → test s ≡ true → rowid r ≡ rowid s)
      → (shown_of test show rows ≡ [])
      ⊎ ((r : Row) × Has rows r × (test r ≡ true) × (shown_of test show rows ≡ show r ∷ []))
  one_shown [] up same = inl refl
  one_shown (x ∷ rows) up same = by (test x) refl (one_shown rows up.1 (λ r s a b. same r s (inr a) (inr b)))
    where
      by : (b : Bool) → test x ≡ b
          → (shown_of test show rows ≡ [])
          ⊎ ((r : Row) × Has rows r × (test r ≡ true) × (shown_of test show rows ≡ show r ∷ []))
          → (cond b (show x ∷ []) [] ++ shown_of test show rows ≡ [])
          ⊎ ((r : Row) × Has (x ∷ rows) r × (test r ≡ true)
          × (cond b (show x ∷ []) [] ++ shown_of test show rows ≡ show r ∷ []))
      by true is (inl none) = inr (x, inl refl, is, ap (λ (l : List Y). show x ∷ l) none)
      by true is (inr one) =
          let above = all_has _ rows one.0 up.0 one.1 in
          let id : rowid x ≡ rowid one.0 = same x one.0 (inl refl) (inr one.1) is one.2 in
          let tie = tied_itself value_cmp_total (rowid one.0) in
          absurd (let e = rw id at above in cc)
      by false is (inl none) = inl none
      by false is (inr one) = inr (one.0, inr one.1, one.2, one.3)
