-- Changes of stored rows, and the same changes of tables.
use Rattle.std.proofs.Common.{◌≡◌, inl, inr, ℕ, Bool, true, false, cond, List, [], ◌∷◌, Option, Some}
use Rattle.std.proofs.Common.{option_map, refl, sym, ap, subst, ◌∙◌}
use Rattle.std.specs.List.{AllByRecursion, IsDistinct}
use Rattle.std.specs.Map.{keys_of}
use Rattle.std.proofs.lemmas.Bool.{true≢false}
use Rattle.std.proofs.lemmas.Map.Keys.{IsDistinct-head, IsDistinct-tail}
use Rattle.sqlite.specs.Tree.{Trees}
use Rattle.cs_model.specs.declared.row_key.RowKey.{RowKey}
use Rattle.cs_model.specs.declared.value.Value.{Value}
use Rattle.cs_apply.specs.SameKey.{same_key}
use Rattle.cs_apply.specs.State.{Rows}
use Rattle.cs_apply.specs.Steps.{put}
use Rattle.cs_apply.proofs.stored.Filled.{get_put}
use Rattle.cs_apply.proofs.rows_by_key.Keys.{exact, laws}
use Rattle.par_apply.specs.RowChanges.{RowChanges, overlaid}
use Rattle.replica_store.specs.Changes.{row_body, AfterChange, AfterChanges, Commits}
use Rattle.replica_store.specs.Loading.{body_at, TableBodies}
use Rattle.replica_store.specs.Picture.{StoredRows, Stores, AreSameRows}

bodies_of_cond : (b : Bool) (x y : Option (List Value)) → option_map row_body (cond b x y)
    ≡ cond b (option_map row_body x) (option_map row_body y)
bodies_of_cond true x y = refl
bodies_of_cond false x y = refl

body_put : (rows : Rows) (key q : RowKey) (row : Option (List Value)) → body_at (put rows key row) q
    ≡ cond (same_key q key) (option_map row_body row) (body_at rows q)
body_put rows key q row =
    ap (option_map row_body) (get_put rows key q row) ∙ bodies_of_cond (same_key q key) row _

swapped : (a b : Bool) (x y z : Option (List ℕ)) → (a ≡ true → b ≡ true → ⊥)
    → cond a x (cond b y z) ≡ cond b y (cond a x z)
swapped true true x y z never = absurd (never refl refl)
swapped true false x y z never = refl
swapped false true x y z never = refl
swapped false false x y z never = refl

never_both_keys : (q a b : RowKey) → same_key a b ≡ false → same_key q b ≡ true → same_key q a ≡ true → ⊥
never_both_keys q a b differ is_b is_a =
    true≢false (sym (subst (λ k. same_key k b ≡ true) (exact q a is_a) is_b) ∙ differ)

-- what is put below changes of other keys is as if it were put above them
put_below : (rows : Rows) (cs : RowChanges) (k : RowKey) (row : Option (List Value)) (q : RowKey)
    → AllByRecursion (λ y. same_key k y ≡ false) (keys_of cs)
    → body_at (overlaid (put rows k row) cs) q
    ≡ cond (same_key q k) (option_map row_body row) (body_at (overlaid rows cs) q)
put_below rows [] k row q none = body_put rows k q row
put_below rows (c ∷ cs) k row q others =
    let below = overlaid rows cs in
    body_put (overlaid (put rows k row) cs) c.0 q c.1
    ∙ ap (cond (same_key q c.0) (option_map row_body c.1)) (put_below rows cs k row q others.1)
    ∙ swapped (same_key q c.0) (same_key q k) (option_map row_body c.1) (option_map row_body row) (body_at below q)
    (never_both_keys q k c.0 others.0)
    ∙ ap (cond (same_key q k) (option_map row_body row)) (sym (body_put below c.0 q c.1))

one_follows : (c : RowKey × Option (List Value)) (rows : Rows) (stored : StoredRows)
    → AreSameRows stored (TableBodies rows)
    → AreSameRows (AfterChange c stored) (TableBodies (put rows c.0 c.1))
one_follows c rows stored same key body = (
  λ s. body_put rows c.0 key c.1 ∙ there (same_key key c.0) refl s,
  λ h. back (same_key key c.0) refl (sym (body_put rows c.0 key c.1) ∙ h),
)
  where
    there : (b : Bool) → same_key key c.0 ≡ b → AfterChange c stored key body
        → cond b (option_map row_body c.1) (body_at rows key) ≡ Some body
    there true is (inl this) = this.1
    there true is (inr other) = absurd (other.0 (exact key c.0 is))
    there false is (inl this) = absurd (true≢false (sym (laws.refl key) ∙ ap (same_key key) this.0 ∙ is))
    there false is (inr other) = (same key body).0 other.1

    back : (b : Bool) → same_key key c.0 ≡ b → cond b (option_map row_body c.1) (body_at rows key) ≡ Some body
        → AfterChange c stored key body
    back true is h = inl (exact key c.0 is, h)
    back false is h = inr (λ e. true≢false (sym (laws.refl key) ∙ ap (same_key key) e ∙ is), (same key body).1 h)

all_follow : (cs : RowChanges) (rows : Rows) (stored : StoredRows) → IsDistinct same_key (keys_of cs)
    → AreSameRows stored (TableBodies rows)
    → AreSameRows (AfterChanges cs stored) (TableBodies (overlaid rows cs))
all_follow [] rows stored distinct same = same
all_follow (c ∷ cs) rows stored distinct same = λ key body.
    let step = one_follows c rows stored same in
    let others = IsDistinct-tail same_key c.0 (keys_of cs) distinct in
    let rest = all_follow cs (put rows c.0 c.1) (AfterChange c stored) others step key body in
    let moved : body_at (overlaid (put rows c.0 c.1) cs) key ≡ body_at (overlaid rows (c ∷ cs)) key =
    put_below rows cs c.0 c.1 key (IsDistinct-head same_key c.0 (keys_of cs) distinct)
    ∙ sym (body_put (overlaid rows cs) c.0 key c.1) in
    (λ s. sym moved ∙ rest.0 s, λ h. rest.1 (moved ∙ h))

pub tables_follow_commits : (cs : RowChanges) (cursor : ℕ) (rows : Rows) (old new : Trees)
    → IsDistinct same_key (keys_of cs) → Commits cs cursor old new → AreSameRows (Stores old) (TableBodies rows)
    → AreSameRows (Stores new) (TableBodies (overlaid rows cs))
tables_follow_commits cs cursor rows old new distinct commits same = λ key body.
    let first = commits.rows key body in
    let then = all_follow cs rows (Stores old) distinct same key body in
    (λ s. then.0 (first.0 s), λ h. first.1 (then.1 h))
