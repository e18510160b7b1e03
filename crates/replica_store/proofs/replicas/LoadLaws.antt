-- Tables that get one row of an answer after another.
use Rattle.std.proofs.Common.{◌≡◌, ◌⊎◌, inl, inr, ℕ, pos, Bool, true, false, cond, List, [], ◌∷◌, ◌++◌, Option}
use Rattle.std.proofs.Common.{Some, None, option_map, length, replicate, refl, sym, ap, subst, ◌∙◌}
use Rattle.std.proofs.Common.{◌+◌, ◌<◌, get_or, take}
use Rattle.std.specs.FinMap as map
use Rattle.std.proofs.lemmas.List.{take_more}
use Rattle.sqlite.specs.Order.{Row}
use Rattle.sqlite_value.specs.declared.value.Value.TheVariants.{Int, Blob}
use Rattle.sqlite_rules.specs.Lists.{Has}
use Rattle.sqlite_rules.proofs.ListLemmas.{has_left, has_right}
use Rattle.cs_model.specs.declared.row_key.RowKey.{RowKey}
use Rattle.cs_model.specs.declared.shape.Shape.{Shape}
use Rattle.cs_model.specs.declared.value.Value.{Value}
use Rattle.cs_model.specs.Key.{row_key_cmp}
use Rattle.cs_apply.specs.SameKey.{same_key}
use Rattle.cs_apply.specs.State.{Rows, TableState}
use Rattle.cs_apply.proofs.stored.Filled.{get_put}
use Rattle.cs_apply.proofs.rows_by_key.Keys.{exact, laws}
use Rattle.replica_store.specs.Changes.{row_body}
use Rattle.replica_store.specs.Loading.{IsSchemaRow, AreSchemaRows, ShowsBody, ShownBodies, AllShow, body_at, LoadsRows}
use Rattle.replica_store.specs.Loading.{PutsBody, AddsShown, CannotAdd}
use Rattle.replica_store.proofs.statements.KeyRows.{key_of_parts}

body_of_cond : (b : Bool) (row : List Value) (r : Option (List Value))
    → option_map row_body (cond b (Some row) r) ≡ cond b (Some (row_body row)) (option_map row_body r)
body_of_cond true row r = refl
body_of_cond false row r = refl

pub puts_new_row : (old new : TableState) (key : RowKey) (row : List Value) → map.get old.rows key ≡ None
    → new ≡ record old { rows = map.insert old.rows key row }
    → PutsBody key (row_body row) old new
puts_new_row old new key row none is = record {
  same_schema = ap (λ (t : TableState). t.schema) is;
  same_kept = ap (λ (t : TableState). t.kept) is;
  was = λ other h. absurd (let e = sym (ap (option_map row_body) none) ∙ h in cc);
  now = λ q. ap (λ (t : TableState). body_at t.rows q) is
      ∙ ap (option_map row_body) (get_put old.rows key q (Some row))
      ∙ body_of_cond (same_key q key) row (map.get old.rows q);
}

-- the rows up to an item's place, and the item
pub next_taken : (all : List Row) (at : ℕ) (item : Row) → at < length all → item ≡ get_or all at item
    → take (at + 1) all ≡ take at all ++ item ∷ []
next_taken all at item inside is = take_more all at item inside ∙ ap (λ x. take at all ++ x ∷ []) (sym is)

some_body : {a b : List ℕ} → ◌≡◌ {A = Option (List ℕ)} (Some a) (Some b) → a ≡ b
some_body e = cc

pub puts_again : (tables : TableState) (key : RowKey) (body : List ℕ) → body_at tables.rows key ≡ Some body
    → PutsBody key body tables tables
puts_again tables key body has = record {
  same_schema = refl;
  same_kept = refl;
  was = λ other h. some_body (sym h ∙ has);
  now = λ q. by q (same_key q key) refl;
}
  where
    by : (q : RowKey) (b : Bool) → same_key q key ≡ b
        → body_at tables.rows q ≡ cond b (Some body) (body_at tables.rows q)
    by q true same = ap (body_at tables.rows) (exact q key same) ∙ has
    by q false other = refl

has_either_part : (done : List Row) (x y : Row) → Has (done ++ x ∷ []) y → Has done y ⊎ (y ≡ x)
has_either_part [] x y (inl same) = inr same
has_either_part [] x y (inr none) = absurd none
has_either_part (z ∷ done) x y (inl same) = inl (inl same)
has_either_part (z ∷ done) x y (inr later) =
    elim (has_either_part done x y later) [ inl there ↦ inl (inr there) | inr last ↦ inr last ]

-- a row of an answer shows one key and one body
pub shows_one : (shown : Row) (key k : RowKey) (body b : List ℕ) → ShowsBody shown key body → ShowsBody shown k b
    → (k ≡ key) × (b ≡ body)
shows_one shown key k body b one two =
    let tables : Int (pos k.table) ≡ Int (pos key.table) = sym two.table ∙ one.table in
    let keys : Blob k.bytes ≡ Blob key.bytes = sym two.bytes ∙ one.bytes in
    let bodies : Blob b ≡ Blob body = sym two.is ∙ one.is in
    let table : k.table ≡ key.table = cc in
    let bytes : k.bytes ≡ key.bytes = cc in
    (key_of_parts k key table bytes, cc)

pub loads_none : (schema : List Shape) (tables : TableState) → tables.schema ≡ schema
    → tables.kept ≡ replicate (length schema) true → tables.rows ≡ map.empty
    → LoadsRows schema (ShownBodies []) tables
loads_none schema tables same kept none = record {
  schema_is = same;
  keeps_all = kept;
  rows_are = λ key body. (
    λ s. absurd s.1,
    λ h. absurd (let e = sym (ap (λ (rows : Rows). body_at rows key) none
        ∙ ap (option_map row_body) (map.get-empty row_key_cmp key)) ∙ h in cc),
  );
}

pub loads_one_more : (schema : List Shape) (done : List Row) (x : Row) (old new : TableState)
    → LoadsRows schema (ShownBodies done) old → AddsShown x old new
    → LoadsRows schema (ShownBodies (done ++ x ∷ [])) new
loads_one_more schema done x old new l a = record {
  schema_is = a.puts.same_schema ∙ l.schema_is;
  keeps_all = a.puts.same_kept ∙ l.keeps_all;
  rows_are = λ key body. (
    λ s. elim (has_either_part done x s.0 s.1) [
      | inl there ↦ earlier key body ((l.rows_are key body).0 (s.0, there, s.2))
      | inr last ↦ newest key body (subst (λ y. ShowsBody y key body) last s.2)
    ],
    λ h. back key body (same_key key a.key) refl (sym (a.puts.now key) ∙ h),
  );
}
  where
    earlier : (key : RowKey) (body : List ℕ) → body_at old.rows key ≡ Some body → body_at new.rows key ≡ Some body
    earlier key body h = a.puts.now key ∙ by (same_key key a.key) refl
      where
        by : (b : Bool) → same_key key a.key ≡ b → cond b (Some (row_body a.row)) (body_at old.rows key) ≡ Some body
        by true same = ap (λ v. Some v) (sym (a.puts.was body (ap (body_at old.rows) (sym (exact key a.key same)) ∙ h)))
        by false other = h

    newest : (key : RowKey) (body : List ℕ) → ShowsBody x key body → body_at new.rows key ≡ Some body
    newest key body s =
        let one = shows_one x a.key key (row_body a.row) body a.shows s in
        a.puts.now key ∙ (rw one.0 (ap (λ b. cond b (Some (row_body a.row)) (body_at old.rows a.key)) (laws.refl a.key)))
        ∙ ap (λ v. Some v) (sym one.1)

    back : (key : RowKey) (body : List ℕ) (b : Bool) → same_key key a.key ≡ b
        → cond b (Some (row_body a.row)) (body_at old.rows key) ≡ Some body
        → (shown : Row) × Has (done ++ x ∷ []) shown × ShowsBody shown key body
    back key body true same h = (
      x,
      has_right done (x ∷ []) x (inl refl),
      subst (λ v. ShowsBody x key v) (some_body h)
          (subst (λ k. ShowsBody x k (row_body a.row)) (sym (exact key a.key same)) a.shows),
    )
    back key body false other h = let s = (l.rows_are key body).1 h in (s.0, has_left done (x ∷ []) s.0 s.1, s.2)

pub none_are_rows : (schema : List Shape) → AreSchemaRows schema (ShownBodies [])
none_are_rows schema = record { each = λ key body s. absurd s.1; once = λ key first second s t. absurd s.1 }

pub rows_one_more : (schema : List Shape) (done : List Row) (x : Row) (old new : TableState)
    → LoadsRows schema (ShownBodies done) old → AreSchemaRows schema (ShownBodies done) → AddsShown x old new
    → AreSchemaRows schema (ShownBodies (done ++ x ∷ []))
rows_one_more schema done x old new l are a = record {
  each = λ key body s. elim (has_either_part done x s.0 s.1) [
    | inl there ↦ are.each key body (s.0, there, s.2)
    | inr last ↦ newest key body (subst (λ y. ShowsBody y key body) last s.2)
  ];
  once = λ key first second one two. some_body (sym ((more.rows_are key first).0 one) ∙ (more.rows_are key second).0 two);
}
  where
    more : LoadsRows schema (ShownBodies (done ++ x ∷ [])) new
    more = loads_one_more schema done x old new l a

    newest : (key : RowKey) (body : List ℕ) → ShowsBody x key body
        → (row : List Value) × (body ≡ row_body row) × IsSchemaRow schema key row
    newest key body s =
        let one = shows_one x a.key key (row_body a.row) body a.shows s in (
          a.row,
          one.1,
          subst (λ k. IsSchemaRow schema k a.row) (sym one.0)
              (subst (λ (t : List Shape). IsSchemaRow t a.key a.row) l.schema_is a.fits),
        )

-- a row that can't be added shows that the answer is not rows of the schema
pub never_rows : (schema : List Shape) (done all : List Row) (x : Row) (tables : TableState)
    → LoadsRows schema (ShownBodies done) tables → CannotAdd x tables
    → ((y : Row) → Has done y → Has all y) → Has all x → AllShow all → AreSchemaRows schema (ShownBodies all) → ⊥
never_rows schema done all x tables l cannot fewer there show are =
    let s = show x there in
    let it = are.each s.0 s.1 (x, there, s.2) in
    let other = cannot s.0 it.0 (subst (λ b. ShowsBody x s.0 b) it.1 s.2)
    (subst (λ (t : List Shape). IsSchemaRow t s.0 it.0) (sym l.schema_is) it.2) in
    let was = (l.rows_are s.0 other.there).1 other.has in
    other.differs (are.once s.0 other.there (row_body it.0) (was.0, fewer was.0 was.1, was.2)
    (subst (λ b. ShownBodies all s.0 b) it.1 (x, there, s.2)))
