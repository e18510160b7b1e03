-- What the queries of a replica's tables answer.
use Rattle.std.proofs.Common.{◌≡◌, inl, inr, ℕ, suc, pos, negsuc, List, [], ◌∷◌, length, map, codes, false, None, Ok}
use Rattle.std.proofs.Common.{Err, Result, IfOk, OnOk, refl, sym, ap, subst, ◌∙◌}
use Rattle.std.proofs.Common.{flat_map, IsPermutation, arith}
use Rattle.std.specs.Global.{Vec}
use Rattle.std.proofs.lemmas.List.{length-map}
use Rattle.std.proofs.lemmas.Result.{IfOk-weaker}
use Rattle.std.proofs.lemmas.List.Sorted.{IsPermutation-sym, length_permutation}
use Rattle.sqlite_trees.proofs.ListLemmas.{all-permutation}
use Rattle.sqlite_value.specs.declared.value.Value.TheVariants.{Null, Int}
use Rattle.sqlite_sql.specs.Term.{Term, lit, col, eval_all}
use Rattle.sqlite_sql.specs.Query.{Query, inner, end, IsAnswer, Output, output}
use Rattle.sqlite_sql.specs.Program.{overlay}
use Rattle.sqlite.specs.Order.{Row}
use Rattle.sqlite.specs.Tree.{Trees}
use Rattle.sqlite_schema.specs.declared.schema.Schema.{Schema}
use Rattle.sqlite.specs.Command.TheVariants.{Select}
use Rattle.sqlite.specs.Listing.{understood, reads_listing}
use Rattle.sqlite.specs.State.{State, Shown, IsUnchanged, Survives, CommitsShowing, HasCleanDisk}
use Rattle.sqlite.proofs.Callers.{IsPlain, command_of, reads_as, never_commits}
use Rattle.sqlite.proofs.StateLemmas.{survives_weaker}
use Rattle.sqlite_tied.specs.Compute.{everything}
use Rattle.sqlite_rules.specs.Lists.{Has}
use Rattle.sqlite_rules.proofs.ListLemmas.{all_has, all_from}
use Rattle.sqlite_rules.proofs.ProbeLemmas.{has_mapped, mapped_has}
use Rattle.replica_store.specs.Layout.{replica_schema}
use Rattle.replica_store.specs.Reading.{ListsRows}
use Rattle.replica_store.specs.Steps.{ListsTree}
use Rattle.replica_store.proofs.statements.Parts.{was_clean}

-- the query of these terms of each row of a tree
abbrev pub query_of_all : ℕ → List Term → Query
query_of_all tree project = record {
  from = inner tree end;
  filter = [];
  group = None;
  project = project;
  distinct = false;
  collations = [];
  order = [];
  limit = lit (Int (negsuc 0));
  offset = lit (Int (pos 0));
}

-- the text asks for these terms of each row of a tree, under these names
pub record Asks (text : List ℕ) (tree : ℕ) (terms : List Term) (names : List (List ℕ)) : Type 0 where
  pub command : command_of (understood replica_schema text)
      ≡ Select (record { lets = []; body = query_of_all tree terms }) names
  pub unlisted : reads_listing replica_schema text ≡ false
  pub plain : IsPlain (understood replica_schema text)

abbrev pub rows_query_text : List ℕ
rows_query_text = codes "SELECT tab, rowkey, body FROM rb_row"

abbrev pub rows_terms : List Term
rows_terms = col 1 1 ∷ col 1 2 ∷ col 1 3 ∷ []

pub asks_rows : Asks rows_query_text 0 rows_terms (codes "tab" ∷ codes "rowkey" ∷ codes "body" ∷ [])
unfolding understood everything
asks_rows = record { command = refl; unlisted = refl; plain = (refl, refl) }

abbrev pub marks_query_text : List ℕ
marks_query_text = codes "SELECT id, place FROM rb_mark"

abbrev pub marks_terms : List Term
marks_terms = col 1 0 ∷ col 1 2 ∷ []

pub asks_marks : Asks marks_query_text 2 marks_terms (codes "id" ∷ codes "place" ∷ [])
unfolding understood everything
asks_marks = record { command = refl; unlisted = refl; plain = (refl, refl) }

has_in_singles : {X Y : Type 0} (f : X → Y) (xs : List X) (y : Y) → Has (flat_map (λ x. f x ∷ []) xs) y → (x : X)
    × Has xs x × (y ≡ f x)
has_in_singles f [] y h = absurd h
has_in_singles f (x ∷ xs) y (inl same) = (x, inl refl, same)
has_in_singles f (x ∷ xs) y (inr later) = let r = has_in_singles f xs y later in (r.0, inr r.1, r.2)

singles_have : {X Y : Type 0} (f : X → Y) (xs : List X) (x : X) → Has xs x → Has (flat_map (λ z. f z ∷ []) xs) (f x)
singles_have f [] x h = absurd h
singles_have f (z ∷ xs) x (inl same) = inl (ap f same)
singles_have f (z ∷ xs) x (inr later) = inr (singles_have f xs x later)

length_of_singles : {X Y : Type 0} (f : X → Y) (xs : List X) → length (flat_map (λ z. f z ∷ []) xs) ≡ length xs
length_of_singles f [] = refl
length_of_singles f (x ∷ xs) = ap (λ n. suc n) (length_of_singles f xs)

has_in_permuted : {X : Type 0} (xs ys : List X) (x : X) → IsPermutation xs ys → Has ys x → Has xs x
has_in_permuted xs ys x same = all_has (Has xs) ys x
    (all-permutation (Has xs) xs ys same (all_from (Has xs) xs (λ e h. h)))

all_listed : (tree : ℕ) (project : List Term) (db : Trees) (answer : List Row)
    → IsAnswer (query_of_all tree project) db [] answer
    → ListsRows (λ r. eval_all project ([] ∷ r ∷ [])) (db tree) answer
all_listed tree project db answer a =
    let q = query_of_all tree project in
    let envs = flat_map (λ (r : Row). ([] ∷ r ∷ []) ∷ []) (db tree) in
    let kept : a.kept ≡ map (output q) envs = a.distinct ∙ ap (map (output q)) a.grouped in
    record {
      sound = λ x h.
          let o = has_mapped (λ (k : Output). k.1) a.ordered x (subst (λ l. Has l x) a.shown h) in
          let e = has_mapped (output q) envs o.0
          (subst (λ l. Has l o.0) kept (has_in_permuted a.kept a.ordered o.0 a.same o.1)) in
          let r = has_in_singles (λ (r : Row). [] ∷ r ∷ []) (db tree) e.0 e.1 in
          (r.0, r.1, o.2 ∙ ap (λ (k : Output). k.1) (e.2 ∙ ap (output q) r.2));
      complete = λ r h.
          let o = output q ([] ∷ r ∷ []) in
          let there = subst (λ l. Has l o) (sym kept)
          (mapped_has (output q) envs ([] ∷ r ∷ [])
          (singles_have (λ (r : Row). [] ∷ r ∷ []) (db tree) r h)) in
          subst (λ l. Has l (eval_all project ([] ∷ r ∷ []))) (sym a.shown)
          (mapped_has (λ (k : Output). k.1) a.ordered o
          (has_in_permuted a.ordered a.kept o (IsPermutation-sym _ _ a.same) there));
      count = ap length a.shown ∙ length-map a.ordered (λ (k : Output). k.1)
          ∙ length_permutation a.kept a.ordered a.same ∙ ap length kept ∙ length-map envs (output q)
          ∙ length_of_singles (λ (r : Row). [] ∷ r ∷ []) (db tree);
    }

-- what such a query shows is the terms of each row
rows_listed : (text : List ℕ) (tree : ℕ) (terms : List Term) (names : List (List ℕ)) → Asks text tree terms names
    → (old new : State) (rows : List Row) → old.now.schema ≡ replica_schema → Shown text [] old new rows
    → ListsRows (λ r. eval_all terms ([] ∷ r ∷ [])) (overlay old.now.trees [] tree) rows
rows_listed text tree terms names asks old new rows has h =
    let read = reads_as text [] old new replica_schema has _ asks.command asks.plain asks.unlisted rows h in
    all_listed tree terms (overlay old.now.trees []) rows (read.answer Null)

-- a query that shows its rows changes nothing
shown_changes_nothing : (text : List ℕ) (old new : State) (rows : List Row) → old.now.schema ≡ replica_schema
    → IsPlain (understood replica_schema text) → Shown text [] old new rows → IsUnchanged old new
unfolding Shown
shown_changes_nothing text old new rows has plain h =
    let known = sym h.1.is ∙ ap (λ s. understood s text) has in
    let bare = subst IsPlain (sym known) plain in
    (rw bare.0 at h.2).3

query_commits_nothing : (text : List ℕ) (old new : State)
    → (HasCleanDisk old → old.now.schema ≡ replica_schema) → IsPlain (understood replica_schema text)
    → Survives old new (CommitsShowing text [] old) → Survives old new (λ _. ⊥)
query_commits_nothing text old new has plain s =
    survives_weaker old new _ _ (λ clean db. never_commits text [] old db
    (subst (λ (d : Schema). IsPlain (understood d text)) (sym (has (omega (arith, s.clean)))) plain)) s

pub on_ok_if : {T E : Type 0} (r : Result T E) (Q : T → Type 0) (P : Type 0) → ((x : T) → Q x → P) → IfOk r Q → OnOk r P
on_ok_if (Ok x) Q P f h = f x h
on_ok_if (Err e) Q P f h = tt

-- a call that runs such a query lists the tree, and changes nothing
pub tree_listed : {E : Type 0} (text : List ℕ) (tree : ℕ) (terms : List Term) (names : List (List ℕ))
    → Asks text tree terms names → ((db : Trees) → overlay db [] tree ≡ db tree)
    → (r : Result (Vec Row) E) (old new : State)
    → (HasCleanDisk old → old.now.schema ≡ replica_schema)
    → (HasCleanDisk new → IfOk r (λ rows. Shown text [] old new rows.items))
    → Survives old new (CommitsShowing text [] old) → ListsTree (λ r. eval_all terms ([] ∷ r ∷ [])) tree r old new
tree_listed text tree terms names asks own r old new has shown survives =
    let had : HasCleanDisk new → old.now.schema ≡ replica_schema =
    λ clean. has (was_clean old new _ survives clean) in (
      λ clean. IfOk-weaker r _ _
          (λ rows h. subst (λ rs. ListsRows (λ r. eval_all terms ([] ∷ r ∷ [])) rs rows.items) (own old.now.trees)
          (rows_listed text tree terms names asks old new rows.items (had clean) h)) (shown clean),
      λ clean. on_ok_if r _ _
          (λ rows. shown_changes_nothing text old new rows.items (had clean) asks.plain) (shown clean),
      query_commits_nothing text old new has asks.plain survives,
    )
