-- One change after another, and then the cursor.
use Rattle.std.proofs.Common.{◌≡◌, inl, inr, ℕ, List, [], ◌∷◌, ◌++◌, Option, Some, None, refl, sym, subst, ◌∙◌}
use Rattle.sqlite.specs.Tree.{Trees}
use Rattle.sqlite.specs.State.{State}
use Rattle.sqlite_rules.specs.Lists.{Has}
use Rattle.cs_model.specs.declared.row_key.RowKey.{RowKey}
use Rattle.cs_model.specs.declared.value.Value.{Value}
use Rattle.par_apply.specs.RowChanges.{RowChanges}
use Rattle.replica_store.specs.Changes.{row_body, AfterChange, AfterChanges, Commits}
use Rattle.replica_store.specs.Inside.{WithoutRow, WithBody, IsInside, ChangesRows, SetsCursor}
use Rattle.replica_store.specs.Picture.{StoredRows, Stores, AreSameRows, row_record}

pub changed_to_none : (c : RowKey × Option (List Value)) (old new : State) → c.1 ≡ None
    → ChangesRows (WithoutRow c.0) old new → ChangesRows (AfterChange c) old new
changed_to_none c old new is a = record {
  inside = a.inside;
  mark = a.mark;
  rows = λ k v. (
    λ s. inr ((a.rows k v).0 s),
    λ q. elim q [ inl this ↦ absurd (let e = rw is at this.1 in cc) | inr other ↦ (a.rows k v).1 other ],
  );
}

pub changed_to_row : (c : RowKey × Option (List Value)) (row : List Value) (old new : State) → c.1 ≡ Some row
    → ChangesRows (WithBody c.0 (row_body row)) old new → ChangesRows (AfterChange c) old new
changed_to_row c row old new is a = record {
  inside = a.inside;
  mark = a.mark;
  rows = λ k v. (
    λ s. elim ((a.rows k v).0 s) [ inl this ↦ inl (this.0, rw (is, this.1) refl) | inr other ↦ inr other ],
    λ q. elim q [
      | inl this ↦ (a.rows k v).1 (inl (this.0, (let e = rw is at this.1 in cc)))
      | inr other ↦ (a.rows k v).1 (inr other)
    ],
  );
}

same_after_change : (c : RowKey × Option (List Value)) (a b : StoredRows) → AreSameRows a b
    → AreSameRows (AfterChange c a) (AfterChange c b)
same_after_change c a b same k v = (
  λ s. elim s [ inl this ↦ inl this | inr other ↦ inr (other.0, (same k v).0 other.1) ],
  λ s. elim s [ inl this ↦ inl this | inr other ↦ inr (other.0, (same k v).1 other.1) ],
)

after_one_more : (cs : RowChanges) (c : RowKey × Option (List Value)) (rows : StoredRows)
    → AfterChanges (cs ++ c ∷ []) rows ≡ AfterChange c (AfterChanges cs rows)
after_one_more [] c rows = refl
after_one_more (d ∷ cs) c rows = after_one_more cs c (AfterChange d rows)

pub changed_by_none : (s : State) → IsInside s → ChangesRows (AfterChanges []) s s
changed_by_none s i = record { inside = i; mark = refl; rows = λ k v. (λ h. h, λ h. h) }

pub changed_by_one_more : (cs : RowChanges) (c : RowKey × Option (List Value)) (old mid new : State)
    → ChangesRows (AfterChanges cs) old mid → ChangesRows (AfterChange c) mid new
    → ChangesRows (AfterChanges (cs ++ c ∷ [])) old new
changed_by_one_more cs c old mid new a b = record {
  inside = b.inside;
  mark = b.mark ∙ a.mark;
  rows = subst (AreSameRows (Stores new.now.trees)) (sym (after_one_more cs c (Stores old.now.trees))) (λ k v.
      let first = b.rows k v in
      let then = same_after_change c (Stores mid.now.trees) (AfterChanges cs (Stores old.now.trees)) a.rows k v in
      (λ s. then.0 (first.0 s), λ s. first.1 (then.1 s)));
}

pub changes_commit : (changes : RowChanges) (cursor : ℕ) (from : Trees) (begun mid last : State)
    → begun.now.trees ≡ from → ChangesRows (AfterChanges changes) begun mid → SetsCursor cursor mid last
    → Commits changes cursor from last.now.trees
changes_commit changes cursor from begun mid last same a m = record {
  replica = m.inside.replica;
  rows = λ k v.
      let first = subst (λ (d : Trees). AreSameRows (Stores mid.now.trees)
      (AfterChanges changes (Stores d))) same a.rows k v in (
        λ s. first.0 (s.0, subst (λ l. Has l (row_record s.0 k v)) m.rows s.1),
        λ q. let s = first.1 q in (s.0, subst (λ l. Has l (row_record s.0 k v)) (sym m.rows) s.1),
      );
  cursor = m.mark;
}
