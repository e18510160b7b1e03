-- Groups with one more section.
use Rattle.std.proofs.Common.{◌≡◌, ℕ, zero, suc, ◌<◌, Bool, true, false, cond, inl, inr, List, [], ◌∷◌, ◌++◌, length, append_assoc}
use Rattle.std.proofs.Common.{get_or, Option, Some, None, slice_get, is_some, refl, sym, ap, subst, ◌∙◌, arith}
use Rattle.std.specs.Global.{Vec}
use Rattle.std.specs.Map.{keys_of, values_of, lookup}
use Rattle.std.proofs.lemmas.Bool.{cases_Bool, false≢true, or_from, or_left, or_right}
use Rattle.std.proofs.lemmas.List.{append-nil}
use Rattle.std.proofs.lemmas.List.Elements.{filter-append}
use Rattle.indexmap.specs.IndexMap.{set_value_at}
use Rattle.cs_model.specs.declared.shape.Shape.{Shape}
use Rattle.cs_model.specs.Section.{Section}
use Rattle.cs_model.specs.Schema.{same_shape, has_shape}
use Rattle.cs_write.specs.Canon.{Group, with_shape, by_shape}
use Rattle.cs_write.specs.Groups.{added}
use Rattle.cs_write.specs.Seen.{seen}
use Rattle.cs_write.proofs.forms.Shapes.{shape_is, flip}

-- ---- in the map

pub added_at : (es : List (Shape × Vec Section)) (i : ℕ) (s : Section) (d : Shape)
    (old new : Vec Section) → i < length es → same_shape s.shape (get_or (keys_of es) i d) ≡ true
    → ((k : ℕ) → k < i → same_shape s.shape (get_or (keys_of es) k d) ≡ false) → slice_get (values_of es) i
    ≡ Some old → new.items ≡ old.items ++ s ∷ []
    → seen (set_value_at es i new) ≡ added (seen es) s
added_at [] i s d old new lt hit before at is = absurd (omega (arith, lt))
added_at (e ∷ es) zero s d old new lt hit before at is =
    let same : e.1 ≡ old = cc in
    let items : new.items ≡ e.1.items ++ s ∷ [] = is ∙ ap (λ (v : Vec Section). v.items ++ s ∷ []) (sym same) in
    ap (λ (g : List Section). (e.0, g) ∷ seen es) items
    ∙ ap (λ b. cond b ((e.0, e.1.items ++ s ∷ []) ∷ seen es)
    ((e.0, e.1.items) ∷ added (seen es) s)) (sym hit)
added_at (e ∷ es) (suc i) s d old new lt hit before at is =
    let rest = added_at es i s d old new (omega arith) hit (λ k less. before (suc k) (omega arith)) at is in
    let first : same_shape s.shape e.0 ≡ false = before 0 (omega arith) in
    ap (λ gs. (e.0, e.1.items) ∷ gs) rest
    ∙ ap (λ b. cond b ((e.0, e.1.items ++ s ∷ []) ∷ seen es)
    ((e.0, e.1.items) ∷ added (seen es) s)) (sym first)

-- a group that keeps its sections
pub group_kept : (es : List (Shape × Vec Section)) (i : ℕ) (old new : Vec Section)
    → slice_get (values_of es) i ≡ Some old → new.items ≡ old.items → seen (set_value_at es i new) ≡ seen es
group_kept [] i old new at is = refl
group_kept (e ∷ es) zero old new at is =
    let same : e.1 ≡ old = cc in
    ap (λ (g : List Section). (e.0, g) ∷ seen es) (is ∙ ap (λ (v : Vec Section). v.items) (sym same))
group_kept (e ∷ es) (suc i) old new at is = ap (λ gs. (e.0, e.1.items) ∷ gs) (group_kept es i old new at is)

pub added_new : (es : List (Shape × Vec Section)) (s : Section) (new : Vec Section)
    → lookup (same_shape s.shape) es ≡ None → new.items ≡ s ∷ []
    → seen (es ++ (s.shape, new) ∷ []) ≡ added (seen es) s
added_new [] s new none is = ap (λ (v : List Section). (s.shape, v) ∷ []) is
added_new (e ∷ es) s new none is =
    elim (cases_Bool (same_shape s.shape e.0)) [
      | inl hit ↦
          let found : lookup (same_shape s.shape) (e ∷ es) ≡ Some e.1 =
          ap (λ b. cond b (Some e.1) (lookup (same_shape s.shape) es)) hit in
          absurd cc
      | inr other ↦
          let left : lookup (same_shape s.shape) es ≡ None =
          ap (λ b. cond b (Some e.1) (lookup (same_shape s.shape) es)) (sym other) ∙ none in
          ap (λ gs. (e.0, e.1.items) ∷ gs) (added_new es s new left is)
          ∙ ap (λ b. cond b ((e.0, e.1.items ++ s ∷ []) ∷ seen es)
          ((e.0, e.1.items) ∷ added (seen es) s)) (sym other)
    ]

-- a look-up that finds nothing
pub unfound : {X : Type 0} (r : Option X) → is_some r ≡ false → r ≡ None
unfound None h = refl
unfound (Some x) h = absurd (false≢true (sym h))

-- ---- in the list

group_with_more : (shape : Shape) (sections : List Section) (x : Section) → same_shape x.shape shape ≡ true
    → with_shape shape (sections ++ x ∷ []) ≡ with_shape shape sections ++ x ∷ []
group_with_more shape sections x hit = filter-append (λ s. same_shape s.shape shape) sections (x ∷ [])
    ∙ ap (λ b. with_shape shape sections ++ cond b (x ∷ []) []) hit

with_same : (shape : Shape) (sections : List Section) (x : Section) → same_shape x.shape shape ≡ false
    → with_shape shape (sections ++ x ∷ []) ≡ with_shape shape sections
with_same shape sections x other = filter-append (λ s. same_shape s.shape shape) sections (x ∷ [])
    ∙ ap (λ b. with_shape shape sections ++ cond b (x ∷ []) []) other ∙ append-nil (with_shape shape sections)

-- how the list begins
abbrev pub group_begun : Bool → List Shape → Section → List Section → List Group
group_begun b earlier s ss =
    cond b (by_shape earlier ss) ((s.shape, s ∷ with_shape s.shape ss) ∷ by_shape (s.shape ∷ earlier) ss)

pub by_shape-cons : (earlier : List Shape) (s : Section) (ss : List Section) (b : Bool) → has_shape earlier s.shape ≡ b
    → by_shape earlier (s ∷ ss) ≡ group_begun b earlier s ss
unfolding by_shape
by_shape-cons earlier s ss b h = ap (λ w. group_begun w earlier s ss) h

-- a section whose shape stood earlier adds nothing
by_shape-old : (earlier : List Shape) (ss : List Section) (x : Section) → has_shape earlier x.shape ≡ true
    → by_shape earlier (ss ++ x ∷ []) ≡ by_shape earlier ss
by_shape-old earlier [] x h = by_shape-cons earlier x [] true h
by_shape-old earlier (s ∷ ss) x h =
    elim (cases_Bool (has_shape earlier s.shape)) [
      | inl old ↦ by_shape-cons earlier s (ss ++ x ∷ []) true old ∙ by_shape-old earlier ss x h
          ∙ sym (by_shape-cons earlier s ss true old)
      | inr fresh ↦
          let other : same_shape x.shape s.shape ≡ false = elim (cases_Bool (same_shape x.shape s.shape)) [
            | inl hit ↦ absurd
                (false≢true (sym fresh ∙ subst (λ w. has_shape earlier w ≡ true) (shape_is x.shape s.shape hit) h))
            | inr o ↦ o
          ] in
          by_shape-cons earlier s (ss ++ x ∷ []) false fresh
          ∙ (λ i. (s.shape, s ∷ with_same s.shape ss x other i)
          ∷ by_shape-old (s.shape ∷ earlier) ss x
          (or_right (same_shape s.shape x.shape) (has_shape earlier x.shape) h) i)
          ∙ sym (by_shape-cons earlier s ss false fresh)
    ]

abbrev group_joins : Bool → Group → List Group → Section → List Group
group_joins b group groups x = cond b ((group.0, group.1 ++ x ∷ []) ∷ groups) (group ∷ added groups x)

only : (earlier : List Shape) (x : Section) → group_begun false earlier x [] ≡ added (by_shape earlier []) x
unfolding by_shape
only earlier x = refl

-- another section joins its group, or begins one
pub by_shape-more : (earlier : List Shape) (ss : List Section) (x : Section) → has_shape earlier x.shape ≡ false
    → by_shape earlier (ss ++ x ∷ []) ≡ added (by_shape earlier ss) x
by_shape-more earlier [] x h = by_shape-cons earlier x [] false h ∙ only earlier x
by_shape-more earlier (s ∷ ss) x h =
    elim (cases_Bool (has_shape earlier s.shape)) [
      | inl old ↦ by_shape-cons earlier s (ss ++ x ∷ []) true old ∙ by_shape-more earlier ss x h
          ∙ ap (λ g. added g x) (sym (by_shape-cons earlier s ss true old))
      | inr fresh ↦ elim (cases_Bool (same_shape x.shape s.shape)) [
        | inl hit ↦
            by_shape-cons earlier s (ss ++ x ∷ []) false fresh
            ∙ (λ i. (s.shape, s ∷ group_with_more s.shape ss x hit i)
            ∷ by_shape-old (s.shape ∷ earlier) ss x
            (or_left (same_shape s.shape x.shape) (has_shape earlier x.shape) (flip x.shape s.shape true hit)) i)
            ∙ ap (λ b. group_joins b (s.shape, s ∷ with_shape s.shape ss) (by_shape (s.shape ∷ earlier) ss) x) (sym hit)
            ∙ ap (λ g. added g x) (sym (by_shape-cons earlier s ss false fresh))
        | inr other ↦
            by_shape-cons earlier s (ss ++ x ∷ []) false fresh
            ∙ (λ i. (s.shape, s ∷ with_same s.shape ss x other i)
            ∷ by_shape-more (s.shape ∷ earlier) ss x
            (or_from (same_shape s.shape x.shape) (has_shape earlier x.shape) (flip x.shape s.shape false other) h)
            i)
            ∙ ap (λ b. group_joins b (s.shape, s ∷ with_shape s.shape ss) (by_shape (s.shape ∷ earlier) ss) x)
            (sym other)
            ∙ ap (λ g. added g x) (sym (by_shape-cons earlier s ss false fresh))
      ]
    ]

pub none_grouped : [] ≡ by_shape [] []
unfolding by_shape
none_grouped = refl

-- ---- grouping one section after another

-- the groups of the sections before these
pub record GroupsSoFar (groups : List Group) (rest all : List Section) : Type 0 where
  pub done : List Section
  pub parts : done ++ rest ≡ all
  pub same : groups ≡ by_shape [] done

pub grouping_begins : (groups : List Group) (rest all : List Section) → groups ≡ [] → rest ≡ all
    → GroupsSoFar groups rest all
grouping_begins groups rest all none is = record { done = []; parts = is; same = none ∙ none_grouped }

pub grouping_goes_on : (groups next : List Group) (section : Section) (before rest all : List Section)
    → next ≡ added groups section → before ≡ section ∷ rest → GroupsSoFar groups before all
    → GroupsSoFar next rest all
grouping_goes_on groups next section before rest all is step so =
    record {
      done = so.done ++ section ∷ [];
      parts = append_assoc so.done (section ∷ []) rest ∙ ap (λ ss. so.done ++ ss) (sym step) ∙ so.parts;
      same = is ∙ ap (λ g. added g section) so.same ∙ sym (by_shape-more [] so.done section refl);
    }

pub grouping_ends : (groups : List Group) (rest all : List Section) → rest ≡ [] → GroupsSoFar groups rest all
    → groups ≡ by_shape [] all
grouping_ends groups rest all none so =
    so.same ∙ ap (by_shape []) (sym (append-nil so.done) ∙ ap (λ ss. so.done ++ ss) (sym none) ∙ so.parts)
