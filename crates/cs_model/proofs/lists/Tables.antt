-- Lists of tables, extended by one table at a time.
use Rattle.std.proofs.Common.{◌≡◌, List, [], ◌∷◌, ◌++◌, Option, Some, None, refl, sym, ap, ◌∙◌, append_assoc}
use Rattle.std.specs.Option.{option_or}
use Rattle.std.proofs.lemmas.List.{append-nil}
use Rattle.cs_model.specs.declared.shape.Shape.{Shape}
use Rattle.cs_model.specs.declared.schema.TableFault.{TableFault}
use Rattle.cs_model.specs.Schema.{table_refusal, tables_refusal, IsSchema}

or_assoc : {A : Type 0} (a b c : Option A) → option_or (option_or a b) c ≡ option_or a (option_or b c)
or_assoc None b c = refl
or_assoc (Some x) b c = refl

or_none : {A : Type 0} (a : Option A) → option_or a None ≡ a
or_none None = refl
or_none (Some x) = refl

pub tables_refusal-append : (earlier xs ys : List Shape) → tables_refusal earlier (xs ++ ys)
    ≡ option_or (tables_refusal earlier xs) (tables_refusal (earlier ++ xs) ys)
tables_refusal-append earlier [] ys = ap (λ (e : List Shape). tables_refusal e ys) (sym (append-nil earlier))
tables_refusal-append earlier (x ∷ xs) ys =
    ap (option_or (table_refusal earlier x))
    (tables_refusal-append (earlier ++ x ∷ []) xs ys
    ∙ ap (λ (e : List Shape). option_or (tables_refusal (earlier ++ x ∷ []) xs) (tables_refusal e ys))
    (append_assoc earlier (x ∷ []) xs))
    ∙ sym (or_assoc (table_refusal earlier x) (tables_refusal (earlier ++ x ∷ []) xs)
    (tables_refusal (earlier ++ (x ∷ xs)) ys))

-- a schema and a table that isn't refused behind it are a schema
pub IsSchema-push : (tables : List Shape) (table : Shape) → IsSchema tables → table_refusal tables table ≡ None
    → IsSchema (tables ++ table ∷ [])
IsSchema-push tables table good new =
    tables_refusal-append [] tables (table ∷ [])
    ∙ ap (λ (o : Option TableFault). option_or o (option_or (table_refusal tables table) None)) good
    ∙ or_none (table_refusal tables table) ∙ new
