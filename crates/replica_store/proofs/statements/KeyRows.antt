-- Which rows have a key, and which are left without them.
use Rattle.std.proofs.Common.{◌≡◌, inl, inr, ℕ, ℤ, pos, List, [], ◌∷◌, Bool, true, false, ◌&&◌, not, refl, sym, ap}
use Rattle.std.proofs.Common.{subst, ◌∙◌, true≢false, is_eq, int_eq}
use Rattle.std.specs.List.{list_all}
use Rattle.std.proofs.lemmas.Bool.{and_parts, not-true}
use Rattle.std.proofs.lemmas.Cmp.{tied_itself, int_eq_equiv}
use Rattle.sqlite_value.specs.declared.value.Value.TheVariants.{Int, Blob}
use Rattle.sqlite_value.specs.declared.keys.Collation.TheVariants.{Binary}
use Rattle.sqlite_value.specs.Order.{Row}
use Rattle.sqlite_value.proofs.OrderLemmas.{value_cmp_total}
use Rattle.sqlite_trees.specs.Tree.{rowid, IsTable, has_rowid, without_rowid}
use Rattle.sqlite_sql.specs.declared.ops.CompareOp.TheVariants.{Eq}
use Rattle.sqlite_sql.specs.declared.ops.BinaryOp.TheVariants.{Compare}
use Rattle.sqlite_sql.specs.declared.ops.UnaryOp.TheVariants.{ToNumeric}
use Rattle.sqlite_sql.specs.Ops.{unary, binary, is_true}
use Rattle.sqlite_sql.specs.Term.{holds}
use Rattle.sqlite_keyed.proofs.KeyedLemmas.{same_int}
use Rattle.sqlite_keyed.proofs.ListLemmas.{ascending-filter}
use Rattle.sqlite_typed.specs.Tests.{bytes_cmp}
use Rattle.sqlite_typed.proofs.TestLemmas.{at_ints, at_blobs, then_term, last_term, same_bytes, bytes_eq_refl}
use Rattle.sqlite_rules.specs.Lists.{Has}
use Rattle.sqlite_rules.specs.Calls.{ids_of}
use Rattle.sqlite_rules.specs.Edit.{id_in, row_at, without_all}
use Rattle.sqlite_rules.specs.Probe.{AreFound}
use Rattle.sqlite_rules.proofs.ListLemmas.{has_filtered}
use Rattle.sqlite_rules.proofs.ProbeLemmas.{has_mapped, mapped_has}
use Rattle.sqlite_rules.proofs.PlaceLemmas.{left_or_taken, row_at_is}
use Rattle.sqlite_rules.proofs.TableLemmas.{without_all_has}
use Rattle.cs_model.specs.declared.row_key.RowKey.{RowKey}
use Rattle.replica_store.specs.Picture.{StoredRows, row_record}
use Rattle.replica_store.proofs.statements.Texts.{key_tests}

-- a row stands under this key
abbrev pub HasRowOf : RowKey → StoredRows → Type 0
HasRowOf key rows = (body : List ℕ) × rows key body

-- the parameters of a deletion
abbrev pub key_params : RowKey → Row
key_params key = Int (pos key.table) ∷ Blob key.bytes ∷ []

abbrev pub is_of_key : RowKey → Row → Bool
is_of_key key r = list_all (holds (key_params key ∷ r ∷ [])) key_tests

numeric_int : (n : ℤ) → unary ToNumeric (Int n) ≡ Int n
unfolding unary
numeric_int n = refl

is_of_key_when : (id : ℤ) (key k : RowKey) (body : List ℕ)
    → is_of_key key (row_record id k body) ≡
    (int_eq (pos k.table) (pos key.table) && is_eq (bytes_cmp k.bytes key.bytes))
is_of_key_when id key k body =
    then_term (ap (λ v. is_true (binary (Compare Eq Binary) (Int (pos k.table)) v)) (numeric_int (pos key.table))
    ∙ at_ints false Eq (pos k.table) (pos key.table))
    (last_term (at_blobs false Eq k.bytes key.bytes))

pub key_of_parts : (a b : RowKey) → a.table ≡ b.table → a.bytes ≡ b.bytes → a ≡ b
key_of_parts a b table bytes = λ i. record { table = table i; bytes = bytes i }

pub has_that_key : (id : ℤ) (key k : RowKey) (body : List ℕ) → is_of_key key (row_record id k body) ≡ true → k ≡ key
has_that_key id key k body h =
    let both = and_parts _ _ (sym (is_of_key_when id key k body) ∙ h) in
    let same = same_int (pos k.table) (pos key.table) both.0 in
    let table : k.table ≡ key.table = cc in
    key_of_parts k key table (same_bytes k.bytes key.bytes both.1)

pub is_found : (id : ℤ) (key : RowKey) (body : List ℕ) → is_of_key key (row_record id key body) ≡ true
is_found id key body = is_of_key_when id key key body ∙ rw (int_eq_equiv.refl (pos key.table), bytes_eq_refl key.bytes) refl

at_its_rowid : (id : ℤ) (key : RowKey) (body : List ℕ) → has_rowid id (row_record id key body) ≡ true
at_its_rowid id key body = ap is_eq (tied_itself value_cmp_total (Int id))

pub no_rowid_left : (ids : List ℤ) (rows : List Row) (x : Row) (id : ℤ) → Has (without_all rows ids) x → Has ids id
    → has_rowid id x ≡ false
no_rowid_left [] rows x id h there = absurd there
no_rowid_left (i ∷ ids) rows x id h (inl same) =
    rw same (not-true _ (has_filtered (λ r. not (has_rowid i r)) rows x
    (without_all_has ids (without_rowid i rows) x h)).1)
no_rowid_left (i ∷ ids) rows x id h (inr more) = no_rowid_left ids (without_rowid i rows) x id h more

pub still_rising : (ids : List ℤ) (rows : List Row) → IsTable rows → IsTable (without_all rows ids)
still_rising [] rows up = up
still_rising (id ∷ ids) rows up =
    still_rising ids (without_rowid id rows) (ascending-filter _ (λ r. not (has_rowid id r)) rows up)

module _ (rows found : List Row) (key : RowKey) (up : IsTable rows)
    (all : (r : Row) → Has rows r → (id : ℤ) × (k : RowKey) × (b : List ℕ) × (r ≡ row_record id k b))
    (a : AreFound key_tests rows (key_params key) found) where
  pub row_left : (id : ℤ) (k : RowKey) (body : List ℕ) → (k ≡ key → ⊥) → Has rows (row_record id k body)
      → Has (without_all rows (ids_of found)) (row_record id k body)
  row_left id k body other h = elim (left_or_taken rows (ids_of found) (row_record id k body) up h) [
    | inl still ↦ still
    | inr taken ↦ absurd (
        let i = has_mapped (row_at rows) (ids_of found) _ taken in
        let x = has_mapped (λ r. id_in (rowid r)) found i.0 i.1 in
        let r = a.sound x.0 x.1 in
        let is = all r.0 r.1 in
        let id_is : i.0 ≡ is.0 = x.2 ∙ ap (λ y. id_in (rowid y)) (r.3 ∙ ap (λ y. rowid y ∷ []) is.3) in
        let at : has_rowid i.0 r.0 ≡ true =
        subst (λ n. has_rowid n r.0 ≡ true) (sym id_is)
        (subst (λ y. has_rowid is.0 y ≡ true) (sym is.3) (at_its_rowid is.0 is.1 is.2)) in
        let it : row_record id k body ≡ r.0 = i.2 ∙ row_at_is rows i.0 r.0 up r.1 at in
        other (has_that_key id key k body (ap (is_of_key key) it ∙ r.2)))
  ]

  pub row_was : (id : ℤ) (k : RowKey) (body : List ℕ)
      → Has (without_all rows (ids_of found)) (row_record id k body) → Has rows (row_record id k body)
      × (k ≡ key → ⊥)
  row_was id k body h =
      let old = without_all_has (ids_of found) rows _ h in (
        old,
        λ same.
            let there = a.complete (row_record id k body) old (rw same (is_found id key body)) in
            let gone = mapped_has (λ r. id_in (rowid r)) found (Int id ∷ []) there in
            true≢false (sym (at_its_rowid id k body) ∙ no_rowid_left (ids_of found) rows _ id h gone),
      )
