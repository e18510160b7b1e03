-- Why a statement that makes a table stops: it doesn't.
use Rattle.std.proofs.Common.{◌≡◌, inl, inr, ℕ, ◌+◌, ◌*◌, ◌<◌, ◌≤◌, ◌^◌, true, false, List, [], length, codes}
use Rattle.std.proofs.Common.{Option, Some, None, Ok, Err, IsUtf8, refl, sym, ap, subst, ◌∙◌, arith}
use Rattle.std.proofs.lemmas.Bool.{both_ways}
use Rattle.sqlite_value.specs.declared.value.Value.TheVariants.{Text}
use Rattle.sqlite_schema.specs.declared.schema.Schema.{Schema}
use Rattle.sqlite_schema.specs.declared.schema.Table.{Table}
use Rattle.sqlite_schema.specs.declared.schema.Index.{Index}
use Rattle.sqlite_schema.specs.Names.{same_name}
use Rattle.sqlite_schema.specs.Rules.{index_reals, table_reals}
use Rattle.sqlite_trees.specs.Sound.{begins, fits_kind, is_free_name}
use Rattle.sqlite_trees.specs.Sound as sound
use Rattle.sqlite_value.specs.Order.{value_cmp}
use Rattle.sqlite_catalog.specs.declared.error.Refusal.{Refusal}
use Rattle.sqlite_catalog.specs.declared.error.Refusal.TheVariants.{Invalid, NameTaken, BadName, TooBig, BadKey}
use Rattle.sqlite_catalog.specs.declared.error.Refusal.TheVariants.{BadText, Violates}
use Rattle.sqlite_catalog.specs.Calls.{RefusesTable}
use Rattle.sqlite_catalog.specs.Listing.{is_fit, is_formed}
use Rattle.sqlite_rules.specs.Lists.{Has}
use Rattle.sqlite.specs.Change.{automatics, created, is_reserved, is_used, next_tree}
use Rattle.sqlite.specs.Command.TheVariants.{CreateTable}
use Rattle.sqlite.specs.Compile.{table_defined_by}
use Rattle.sqlite.specs.Does.{Does, MakesTable, lacks_sequence}
use Rattle.sqlite.specs.Effect.{Database}
use Rattle.sqlite.specs.State.{State, mode_of}
use Rattle.sqlite.specs.declared.error.Error.{Error}
use Rattle.replica_store.specs.Layout.{empty_schema, rows_schema, rb_row, rb_mark}
use Rattle.replica_store.proofs.causes.Stops.{stopped_or}
use Rattle.replica_store.proofs.statements.Texts.{create_mark_text, create_row_text, makes_mark_table}
use Rattle.replica_store.proofs.statements.Texts.{makes_row_table, unplaced_mark}

-- nothing speaks against the table of this text
pub record IsMakeable (schema : Schema) (text : List ℕ) (table : Table) : Type 0 where
  pub defined : table_defined_by text ≡ Ok table
  pub utf8 : IsUtf8 text
  pub named : IsUtf8 table.name
  pub own : is_reserved table.name ≡ false
  pub free : is_used schema table.name ≡ false
  pub free_indexes : (index : Index) → Has (automatics table 0 0 table.uniques) index
      → is_used schema index.name ≡ false
  pub low : next_tree schema + length table.uniques < 65536
  pub reals : table_reals table ≡ 0
  pub key_reals : (key : List ℕ) → Has table.uniques key → index_reals 0 key ≡ 0
  pub formed : is_formed table ≡ true
  pub fits : is_fit (Text (codes "table")) (Text table.name) (Text table.name) (Text text) ≡ true
  pub short : 2 * length table.name + length text + 200 < 10 ^ 9
  pub uncounted : lacks_sequence (created schema table) ≡ false

same_table : (text : List ℕ) (a b : Table) → table_defined_by text ≡ Ok a → table_defined_by text ≡ Ok b → a ≡ b
same_table text a b one other = cc

never_refused : (schema : Schema) (text : List ℕ) (table : Table) (why : Refusal) → IsMakeable schema text table
    → RefusesTable schema text why → ⊥
never_refused schema text table (Invalid e) m h = let d = m.defined in cc
never_refused schema text table NameTaken m h =
    let same : h.0 ≡ table = same_table text h.0 table h.1 m.defined in
    elim h.2 [
      | inl used ↦ both_ways _ m.free (subst (λ (t : Table). is_used schema t.name ≡ true) same used)
      | inr index ↦ both_ways _ (m.free_indexes index.0
          (subst (λ (t : Table). Has (automatics t 0 0 t.uniques) index.0) same index.1)) index.2
    ]
never_refused schema text table BadName m h =
    let same : h.0 ≡ table = same_table text h.0 table h.1 m.defined in
    elim h.2 [
      | inl bad ↦ bad (subst (λ (t : Table). IsUtf8 t.name) (sym same) m.named)
      | inr reserved ↦ both_ways _ m.own (subst (λ (t : Table). is_reserved t.name ≡ true) same reserved.0)
    ]
never_refused schema text table TooBig m h =
    let same : h.0 ≡ table = same_table text h.0 table h.1 m.defined in
    elim h.2 [
      | inl many ↦
          let far : 65536 ≤ next_tree schema + length table.uniques =
          subst (λ (t : Table). 65536 ≤ next_tree schema + length t.uniques) same many in
          omega (arith, far, m.low)
      | inr other ↦ elim other [
        | inl reals ↦
            let far : 2 ^ 64 ≤ table_reals table = subst (λ (t : Table). 2 ^ 64 ≤ table_reals t) same reals in
            omega (arith, far, m.reals)
        | inr key ↦
            let there : Has table.uniques key.0 = subst (λ (t : Table). Has t.uniques key.0) same key.1 in
            let far : 2 ^ 64 ≤ index_reals (table_reals table) key.0 =
            subst (λ (t : Table). 2 ^ 64 ≤ index_reals (table_reals t) key.0) same key.2 in
            let none : index_reals (table_reals table) key.0 ≡ 0 =
            ap (λ n. index_reals n key.0) m.reals ∙ m.key_reals key.0 there in
            omega (arith, far, none)
      ]
    ]
never_refused schema text table BadKey m h =
    let same : h.0 ≡ table = same_table text h.0 table h.1 m.defined in
    both_ways _ (subst (λ (t : Table). is_formed t ≡ false) same h.2) m.formed
never_refused schema text table BadText m h =
    let same : h.0 ≡ table = same_table text h.0 table h.1 m.defined in
    both_ways _ (subst (λ (t : Table). is_fit (Text (codes "table")) (Text t.name) (Text t.name) (Text text) ≡ false)
    same h.2) m.fits
never_refused schema text table (Violates rule) m h = h

never_stopped : (schema : Schema) (text : List ℕ) (table : Table) (d : Database) (stop : Option Error)
    → IsMakeable schema text table → d.schema ≡ schema → MakesTable text d (Err stop) → ⊥
never_stopped schema text table d None m is h =
    let same : h.0 ≡ table = same_table text h.0 table h.1 m.defined in
    let long : 10 ^ 9 ≤ 2 * length table.name + length text + 200 =
    subst (λ (t : Table). 10 ^ 9 ≤ 2 * length t.name + length text + 200) same h.2 in
    omega (arith, long, m.short)
never_stopped schema text table d (Some e) m is (inl bad) = bad.0 m.utf8
never_stopped schema text table d (Some e) m is (inr refused) =
    never_refused schema text table refused.0 m (subst (λ s. RefusesTable s text refused.0) is refused.1)

pub table_never_stopped : (old : State) (schema : Schema) (text : List ℕ) (table : Table) (stop : Option Error)
    → IsMakeable schema text table
    → Does old.step_limit (mode_of old) [] (record old.now { schema = schema }) text None CreateTable (Err stop) → ⊥
table_never_stopped old schema text table stop m h = elim (stopped_or h) [
  | inl makes ↦ elim (stopped_or makes) [
    | inl made ↦ never_stopped schema text table (record old.now { schema = schema }) stop m refl made
    | inr sequence ↦
        let made = sequence.1 in
        let same : made.table ≡ table = same_table text made.table table made.defined m.defined in
        let is : sequence.0.schema ≡ created schema table = made.is ∙ ap (created schema) same in
        let plain : lacks_sequence sequence.0.schema ≡ false = ap lacks_sequence is ∙ m.uncounted in
        let e = rw plain at sequence.2 in cc
  ]
  | inr gives ↦ let e = gives.2 in cc
]

pub row_table_makeable : IsMakeable empty_schema create_row_text rb_row
unfolding same_name fits_kind begins is_free_name sound.same_name value_cmp lib.Ieee.is_nan lib.Ieee.lt lib.Utf8.encode
row_table_makeable = record {
  defined = makes_row_table.defines;
  utf8 = (create_row_text, (refl, refl));
  named = (rb_row.name, (refl, refl));
  own = refl;
  free = refl;
  free_indexes = λ index there. refl;
  low = omega arith;
  reals = refl;
  key_reals = λ key there. elim there [ inl is ↦ rw is refl | inr none ↦ absurd none ];
  formed = refl;
  fits = refl;
  short = omega arith;
  uncounted = refl;
}

pub mark_table_makeable : IsMakeable rows_schema create_mark_text unplaced_mark
unfolding same_name fits_kind begins is_free_name sound.same_name value_cmp lib.Ieee.is_nan lib.Ieee.lt lib.Utf8.encode
mark_table_makeable = record {
  defined = makes_mark_table.defines;
  utf8 = (create_mark_text, (refl, refl));
  named = (rb_mark.name, (refl, refl));
  own = refl;
  free = refl;
  free_indexes = λ index there. absurd there;
  low = omega arith;
  reals = refl;
  key_reals = λ key there. absurd there;
  formed = refl;
  fits = refl;
  short = omega arith;
  uncounted = refl;
}
