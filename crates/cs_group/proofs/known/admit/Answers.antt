use Rattle.std.proofs.Common.{◌≡◌, ◌∙◌, ◌∷◌, ◌++◌, [], List, ℕ, None, length, take, sym, ap, subst}
use Rattle.std.proofs.Math.Seq.{take-append_seam}
use Rattle.std.specs.Map.{lookup}
use Rattle.indexmap.proofs.CallerLemmas.{insert_entry-new}
use Rattle.indexmap.specs.IndexMap.{IndexMap, insert_entry}
use Rattle.cs_model.specs.declared.shape.Shape.{Shape}
use Rattle.cs_model.specs.Schema.{same_bytes}
use Rattle.cs_group.specs.Adding.{Knows, known_as}
use Rattle.cs_group.proofs.schemas.Knowing.{knows_old, knows_new}
use Rattle.cs_group.proofs.known.admit.Goals as goal

-- a new table goes last
pushed_last : {S : Type 0} (tables : IndexMap (List ℕ) Shape S) (new : List (List ℕ × Shape)) (name : List ℕ)
    (shape : Shape) → lookup (same_bytes shape.name) tables.entries ≡ None → name ≡ shape.name
    → new ≡ insert_entry same_bytes tables.entries name shape
    → new ≡ tables.entries ++ (shape.name, shape) ∷ []
pushed_last tables new name shape none same inserted =
    inserted ∙ insert_entry-new same_bytes tables name shape
    (subst (λ n. lookup (same_bytes n) tables.entries ≡ None) (sym same) none)
    ∙ ap (λ n. tables.entries ++ (n, shape) ∷ []) same

pub returns-in-Some-clause-knows : goal.returns-in-Some-clause-knows
returns-in-Some-clause-knows c = λ earlier section is knows fits.
    let tables = c.args.tables.now.entries in
    let name = c.in_place-name.ensures ∙ ap (λ (s : Shape). s.name) c.shape.view_is in
    knows_old earlier section tables c.in-Some.known.now
    (ap (λ s. known_as tables s.name) is ∙ ap (known_as tables) (sym name) ∙ sym c.in-Some.ensures.value) knows fits

pub returns-clause-knows : goal.returns-clause-knows
returns-clause-knows c = λ earlier section is knows fits.
    let tables = c.args.tables.now in
    let shape = c.args.shape in
    let name = c.in_place-name.ensures ∙ ap (λ (s : Shape). s.name) c.shape.view_is in
    let none : lookup (same_bytes shape.name) tables.entries ≡ None =
    ap (λ n. lookup (same_bytes n) tables.entries) (sym name) ∙ sym c.in_default.ensures.value in
    subst (Knows (earlier ++ section ∷ []))
    (sym (pushed_last tables c.insert.new.self.entries _ shape none name c.in_ok-insert.ensures.entries
    ∙ ap (λ n. tables.entries ++ (n, shape) ∷ []) (ap (λ s. s.name) (sym is))))
    (knows_new earlier section tables.entries shape is
    (ap (λ s. lookup (same_bytes s.name) tables.entries) is ∙ none) knows)

pub returns-clause-kept : goal.returns-clause-kept
returns-clause-kept c =
    let tables = c.args.tables.now in
    let shape = c.args.shape in
    let name = c.in_place-name.ensures ∙ ap (λ (s : Shape). s.name) c.shape.view_is in
    let none : lookup (same_bytes shape.name) tables.entries ≡ None =
    ap (λ n. lookup (same_bytes n) tables.entries) (sym name) ∙ sym c.in_default.ensures.value in
    ap (take (length tables.entries))
    (pushed_last tables c.insert.new.self.entries _ shape none name c.in_ok-insert.ensures.entries)
    ∙ take-append_seam tables.entries ((shape.name, shape) ∷ [])
