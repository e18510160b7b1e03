-- What may come before the first bad line has a bound, so that an endless input is not read on and on.
use Rattle.std.proofs.Common.{◌≡◌, ℕ, ◌+◌, ◌*◌, ◌<◌, ◌≤◌, suc, Bool, true, false, cond, ltb, List, [], ◌∷◌, ◌++◌}
use Rattle.std.proofs.Common.{length, Some, None, refl, sym, ap, arith, length-append}
use Rattle.std.specs.Prelude.{◌&&◌}
use Rattle.std.specs.List.{AllByRecursion}
use Rattle.std.proofs.lemmas.Bool.{ltb-true}
use Rattle.std.proofs.lemmas.Option.{none-some}
use Rattle.cs_model.specs.declared.schema.TableFault.TheVariants.{DuplicateTable, BadShape}
use Rattle.cs_model.specs.declared.shape.Shape.{Shape}
use Rattle.cs_model.specs.Schema.{has_name, has_valid_shape, table_refusal, tables_refusal}
use Rattle.rb_script.specs.Script.{ended_lines}
use Rattle.rb_drive.specs.declared.input.Given.{Given}
use Rattle.rb_drive.specs.declared.input.Reading.{Reading}
use Rattle.rb_drive.specs.Input.{IsInput}
use Rattle.rb_drive.specs.Reading.{IsReadUpTo}
use Rattle.rb_drive.proofs.inputs.InputLaws.{IsShort, all_short, changesets_counted, lines_counted, or_first, or_second}
use Rattle.rb_drive.proofs.inputs.ReadLaws.{are_read}

ended_lines_short : (lines : List (List ℕ)) → AllByRecursion IsShort lines
    → length (ended_lines lines) ≤ 65537 * length lines
ended_lines_short [] short = omega arith
ended_lines_short (line ∷ lines) short =
    omega (arith, short.0, ended_lines_short lines short.1, length-append line (10 ∷ ended_lines lines))

table_early : (earlier : List Shape) (shape : Shape) → table_refusal earlier shape ≡ None → length earlier < 1024
table_early earlier shape is =
    by (has_name earlier shape.name) (has_valid_shape shape) (ltb (length earlier) 1024) refl is
  where
    by : (named valid few : Bool) → ltb (length earlier) 1024 ≡ few
        → cond named (Some (DuplicateTable (length earlier)))
        (cond (valid && few) None (Some (BadShape (length earlier)))) ≡ None → length earlier < 1024
    by true valid few test none = absurd (none-some (DuplicateTable (length earlier)) (sym none))
    by false false few test none = absurd (none-some (BadShape (length earlier)) (sym none))
    by false true false test none = absurd (none-some (BadShape (length earlier)) (sym none))
    by false true true test none = ltb-true (length earlier) 1024 test

tables_few : (earlier tables : List Shape) → tables_refusal earlier tables ≡ None → length earlier ≤ 1024
    → length earlier + length tables ≤ 1024
tables_few earlier [] none few = omega (arith, few)
tables_few earlier (shape ∷ shapes) none few =
    let next : List Shape = earlier ++ shape ∷ [] in
    let first = table_early earlier shape
    (or_first (table_refusal earlier shape) (tables_refusal next shapes) none) in
    let longer = length-append earlier (shape ∷ []) in
    let later = tables_few next shapes (or_second (table_refusal earlier shape) (tables_refusal next shapes) none)
    (omega (arith, first, longer)) in
    omega (arith, longer, later)

lines_few : (lines : List (List ℕ)) (tables : List Shape) (givens : List Given) → IsInput lines tables givens
    → length lines ≤ 66560
lines_few lines tables givens is =
    omega (
      arith,
      lines_counted lines tables givens is,
      tables_few [] tables is.schema (omega arith),
      is.few,
      changesets_counted (suc (length is.front)) is.back givens is.changesets,
    )

-- 66,560 lines with their ends, and the beginning of one more
pub bytes_few : (bytes : List ℕ) (reading : Reading) → IsReadUpTo bytes reading → length bytes ≤ 4362208256
bytes_few bytes reading r =
    let whole : length bytes ≡ length (ended_lines r.front ++ reading.line.items) =
    ap (λ (t : List ℕ). length t) r.parts in
    omega (
      arith,
      whole,
      r.short,
      length-append (ended_lines r.front) reading.line.items,
      ended_lines_short r.front (all_short r.front (are_read reading bytes r)),
      lines_few r.front reading.input.schema reading.input.givens.items r.input,
    )
