-- An input and one more line: it is an input again, or no input begins so.
use Rattle.std.proofs.Common.{◌≡◌, ℕ, ◌+◌, ◌<◌, ◌≤◌, suc, Bool, true, false, cond, ltb, List, [], ◌∷◌, ◌++◌}
use Rattle.std.proofs.Common.{Option, Some, None, refl, sym, ap, subst, ◌∙◌, append_assoc, arith, length, length-append}
use Rattle.std.specs.List.{AllByRecursion}
use Rattle.std.specs.Option.{option_or}
use Rattle.std.proofs.Math.Dec.{eqb-suc-zero}
use Rattle.std.proofs.lemmas.Bool.{lt-ltb, ltb-true}
use Rattle.std.proofs.lemmas.List.{append-nil}
use Rattle.std.proofs.lemmas.Option.{none-some}
use Rattle.cs_model.specs.declared.schema.TableFault.{TableFault}
use Rattle.cs_model.specs.declared.shape.Shape.{Shape}
use Rattle.cs_model.specs.Schema.{table_refusal, tables_refusal}
use Rattle.cs_model.proofs.CallerLemmas.{all_append}
use Rattle.cs_model.proofs.lists.Tables.{IsSchema-push}
use Rattle.rb_script.specs.Lines.{most_of_line}
use Rattle.rb_drive.specs.declared.entries.LineEntry.{LineEntry}
use Rattle.rb_drive.specs.declared.entries.LineEntry.TheVariants.{Table, Changeset}
use Rattle.rb_drive.specs.declared.input.Given.{Given}
use Rattle.rb_drive.specs.Input.{SpellsTable, SpellsChangeset, SpellTables, SpellChangesets, IsInput, AreInput}
use Rattle.rb_drive.specs.Input.{NoneFollows}
use Rattle.rb_drive.specs.Reading.{Collected, entry_spelled, given_at, with_table, with_entry, with_line}
use Rattle.rb_drive.proofs.inputs.EntryLaws.{table_said, changeset_said, table_spelled, changeset_spelled}

abbrev pub some_collected : List Shape → List Given → Option Collected
some_collected tables givens = Some (tables, givens)

-- ---- what lines give, one after another

abbrev after_line : Option Collected → List ℕ → Option Collected
after_line None line = None
after_line (Some g) line = with_line g.0 g.1 line

abbrev after_lines : Option Collected → List (List ℕ) → Option Collected
after_lines g [] = g
after_lines g (line ∷ lines) = after_lines (after_line g line) lines

after_lines-append : (g : Option Collected) (xs ys : List (List ℕ)) → after_lines g (xs ++ ys)
    ≡ after_lines (after_lines g xs) ys
after_lines-append g [] ys = refl
after_lines-append g (x ∷ xs) ys = after_lines-append (after_line g x) xs ys

pub or_first : (a b : Option TableFault) → option_or a b ≡ None → a ≡ None
or_first None b h = refl
or_first (Some x) b h = absurd (none-some x (sym h))

pub or_second : (a b : Option TableFault) → option_or a b ≡ None → b ≡ None
or_second None b h = h
or_second (Some x) b h = absurd (none-some x (sym h))

table_taken : (tables : List Shape) (line : List ℕ) (shape : Shape) → SpellsTable line shape
    → table_refusal tables shape ≡ None → with_line tables [] line ≡ some_collected (tables ++ shape ∷ []) []
table_taken tables line shape s new =
    ap (with_entry tables []) (table_said line shape s) ∙ ap (with_table tables [] shape) new

changeset_taken : (tables : List Shape) (done : List Given) (line : List ℕ) (given : Given)
    → SpellsChangeset line given → given.line ≡ length tables + length done + 1 → length done < 65536
    → with_line tables done line ≡ some_collected tables (done ++ given ∷ [])
changeset_taken tables done line given s is few =
    ap (with_entry tables done) (changeset_said line given s)
    ∙ ap (λ (t : Bool). cond t (some_collected tables
    (done ++ given_at (length tables + length done + 1) given.publisher given.text ∷ [])) None)
    (lt-ltb (length done) 65536 few)
    ∙ ap (λ (n : ℕ). some_collected tables (done ++ given_at n given.publisher given.text ∷ [])) (sym is)

tables_taken : (earlier : List Shape) (lines : List (List ℕ)) (tables : List Shape) → SpellTables lines tables
    → tables_refusal earlier tables ≡ None
    → after_lines (some_collected earlier []) lines ≡ some_collected (earlier ++ tables) []
tables_taken earlier [] [] s new = ap (λ (t : List Shape). some_collected t []) (sym (append-nil earlier))
tables_taken earlier [] (shape ∷ shapes) s new = absurd s
tables_taken earlier (line ∷ lines) [] s new = absurd s
tables_taken earlier (line ∷ lines) (shape ∷ shapes) s new =
    let next : List Shape = earlier ++ shape ∷ [] in
    let here = or_first (table_refusal earlier shape) (tables_refusal next shapes) new in
    let later = or_second (table_refusal earlier shape) (tables_refusal next shapes) new in
    ap (λ (g : Option Collected). after_lines g lines) (table_taken earlier line shape s.0 here)
    ∙ tables_taken next lines shapes s.1 later
    ∙ ap (λ (t : List Shape). some_collected t []) (append_assoc earlier (shape ∷ []) shapes)

changesets_taken : (tables : List Shape) (done : List Given) (n : ℕ) (lines : List (List ℕ)) (givens : List Given)
    → SpellChangesets n lines givens → n ≡ length tables + length done + 1
    → length done + length lines ≤ 65536
    → after_lines (some_collected tables done) lines ≡ some_collected tables (done ++ givens)
changesets_taken tables done n [] [] s is few = ap (some_collected tables) (sym (append-nil done))
changesets_taken tables done n [] (given ∷ givens) s is few = absurd s
changesets_taken tables done n (line ∷ lines) [] s is few = absurd s
changesets_taken tables done n (line ∷ lines) (given ∷ givens) s is few =
    let longer = length-append done (given ∷ []) in
    ap (λ (g : Option Collected). after_lines g lines)
    (changeset_taken tables done line given s.0 (s.1 ∙ is) (omega (arith, few)))
    ∙ changesets_taken tables (done ++ given ∷ []) (suc n) lines givens s.2 (omega (arith, is, longer))
    (omega (arith, few, longer))
    ∙ ap (some_collected tables) (append_assoc done (given ∷ []) givens)

-- ---- how many lines

tables_counted : (lines : List (List ℕ)) (tables : List Shape) → SpellTables lines tables
    → length lines ≡ length tables
tables_counted [] [] s = refl
tables_counted [] (shape ∷ shapes) s = absurd s
tables_counted (line ∷ lines) [] s = absurd s
tables_counted (line ∷ lines) (shape ∷ shapes) s = ap suc (tables_counted lines shapes s.1)

pub changesets_counted : (n : ℕ) (lines : List (List ℕ)) (givens : List Given) → SpellChangesets n lines givens
    → length lines ≡ length givens
changesets_counted n [] [] s = refl
changesets_counted n [] (given ∷ givens) s = absurd s
changesets_counted n (line ∷ lines) [] s = absurd s
changesets_counted n (line ∷ lines) (given ∷ givens) s = ap suc (changesets_counted (suc n) lines givens s.2)

pub lines_counted : (lines : List (List ℕ)) (tables : List Shape) (givens : List Given)
    → IsInput lines tables givens → length lines ≡ length tables + length givens
lines_counted lines tables givens is =
    ap (λ (l : List (List ℕ)). length l) is.parts
    ∙ omega (
      arith,
      length-append is.front is.back,
      tables_counted is.front tables is.spelled,
      changesets_counted (suc (length is.front)) is.back givens is.changesets,
    )

-- ---- what the lines of an input give is that input

all_taken : (lines : List (List ℕ)) (tables : List Shape) (givens : List Given) → IsInput lines tables givens
    → after_lines (some_collected [] []) lines ≡ some_collected tables givens
all_taken lines tables givens is =
    let count : suc (length is.front) ≡ length tables + 0 + 1 =
    omega (arith, tables_counted is.front tables is.spelled) in
    let few : 0 + length is.back ≤ 65536 = omega (arith, is.few) in
    ap (after_lines (some_collected [] [])) is.parts
    ∙ after_lines-append (some_collected [] []) is.front is.back
    ∙ ap (λ (g : Option Collected). after_lines g is.back) (tables_taken [] is.front tables is.spelled is.schema)
    ∙ changesets_taken tables [] (suc (length is.front)) is.back givens is.changesets count few

-- a bad line can't follow
pub bad_line : (front : List (List ℕ)) (tables : List Shape) (givens : List Given) (line : List ℕ)
    → IsInput front tables givens → with_line tables givens line ≡ None → AreInput (front ++ line ∷ []) → ⊥
bad_line front tables givens line is bad more =
    let given : Collected = (more.0, more.1) in
    none-some given
    (sym bad ∙ ap (λ (g : Option Collected). after_line g line) (sym (all_taken front tables givens is))
    ∙ sym (after_lines-append (some_collected [] []) front (line ∷ []))
    ∙ all_taken (front ++ line ∷ []) more.0 more.1 more.2)

-- ---- lines of an input aren't too long

abbrev pub IsShort : List ℕ → Type 0
IsShort line = length line ≤ most_of_line

tables_short : (lines : List (List ℕ)) (tables : List Shape) → SpellTables lines tables → AllByRecursion IsShort lines
tables_short [] [] s = tt
tables_short [] (shape ∷ shapes) s = absurd s
tables_short (line ∷ lines) [] s = absurd s
tables_short (line ∷ lines) (shape ∷ shapes) s = (s.0.short, tables_short lines shapes s.1)

changesets_short : (n : ℕ) (lines : List (List ℕ)) (givens : List Given) → SpellChangesets n lines givens
    → AllByRecursion IsShort lines
changesets_short n [] [] s = tt
changesets_short n [] (given ∷ givens) s = absurd s
changesets_short n (line ∷ lines) [] s = absurd s
changesets_short n (line ∷ lines) (given ∷ givens) s = (s.0.short, changesets_short (suc n) lines givens s.2)

pub all_short : (lines : List (List ℕ)) → AreInput lines → AllByRecursion IsShort lines
all_short lines h =
    let is : IsInput lines h.0 h.1 = h.2 in
    subst (AllByRecursion IsShort) (sym is.parts)
    (all_append IsShort is.front is.back (tables_short is.front h.0 is.spelled)
    (changesets_short (suc (length is.front)) is.back h.1 is.changesets))

last_short : (lines : List (List ℕ)) (line : List ℕ) → AllByRecursion IsShort (lines ++ line ∷ []) → IsShort line
last_short [] line h = h.0
last_short (x ∷ xs) line h = last_short xs line h.1

pub long_line_is_bad : (front : List (List ℕ)) (line : List ℕ) → most_of_line < length line → NoneFollows front line
long_line_is_bad front line long more are =
    let all : List ℕ = line ++ more in
    let short : length all ≤ most_of_line = last_short front all (all_short (front ++ all ∷ []) are) in
    omega (arith, long, short, length-append line more)

-- ---- a good line

one_more_table : (lines : List (List ℕ)) (tables : List Shape) (line : List ℕ) (shape : Shape)
    → SpellTables lines tables → SpellsTable line shape → SpellTables (lines ++ line ∷ []) (tables ++ shape ∷ [])
one_more_table [] [] line shape s new = (new, tt)
one_more_table [] (x ∷ xs) line shape s new = absurd s
one_more_table (l ∷ ls) [] line shape s new = absurd s
one_more_table (l ∷ ls) (x ∷ xs) line shape s new = (s.0, one_more_table ls xs line shape s.1 new)

changesets_more : (n : ℕ) (lines : List (List ℕ)) (givens : List Given) (line : List ℕ) (given : Given)
    → SpellChangesets n lines givens → SpellsChangeset line given → given.line ≡ n + length lines
    → SpellChangesets n (lines ++ line ∷ []) (givens ++ given ∷ [])
changesets_more n [] [] line given s new is = (new, is ∙ omega arith, tt)
changesets_more n [] (x ∷ xs) line given s new is = absurd s
changesets_more n (l ∷ ls) [] line given s new is = absurd s
changesets_more n (l ∷ ls) (x ∷ xs) line given s new is = (
  s.0,
  s.1,
  changesets_more (suc n) ls xs line given s.2 new (is ∙ omega arith),
)

no_changesets : (n : ℕ) (lines : List (List ℕ)) → SpellChangesets n lines [] → lines ≡ []
no_changesets n [] s = refl
no_changesets n (line ∷ lines) s = absurd s

abbrev IsInputOf : List (List ℕ) → Option Collected → Type 0
IsInputOf lines None = Unit {0}
IsInputOf lines (Some g) = IsInput lines g.0 g.1

first_table_fits : (front : List (List ℕ)) (tables : List Shape) (line : List ℕ) (shape : Shape)
    → SpellsTable line shape → IsInput front tables [] → table_refusal tables shape ≡ None
    → IsInput (front ++ line ∷ []) (tables ++ shape ∷ []) []
first_table_fits front tables line shape new is fits =
    let none : is.back ≡ [] = no_changesets (suc (length is.front)) is.back is.changesets in
    let whole : front ≡ is.front = is.parts ∙ ap (λ (b : List (List ℕ)). is.front ++ b) none ∙ append-nil is.front in
    record {
      front = is.front ++ line ∷ [];
      back = [];
      parts = ap (λ (l : List (List ℕ)). l ++ line ∷ []) whole ∙ sym (append-nil (is.front ++ line ∷ []));
      spelled = one_more_table is.front tables line shape is.spelled new;
      schema = IsSchema-push tables shape is.schema fits;
      changesets = tt;
      few = omega arith;
    }

table_follows : (front : List (List ℕ)) (tables : List Shape) (givens : List Given) (after : Option Collected)
    (line : List ℕ) (shape : Shape) → SpellsTable line shape → IsInput front tables givens
    → with_entry tables givens (Some (Table shape)) ≡ after → IsInputOf (front ++ line ∷ []) after
table_follows front tables [] after line shape new is next = by (table_refusal tables shape) refl next
  where
    by : (refusal : Option TableFault) → table_refusal tables shape ≡ refusal
        → with_table tables [] shape refusal ≡ after → IsInputOf (front ++ line ∷ []) after
    by None fits said = subst (IsInputOf (front ++ line ∷ [])) said (first_table_fits front tables line shape new is fits)
    by (Some fault) fits said = subst (IsInputOf (front ++ line ∷ [])) said tt
table_follows front tables (given ∷ givens) after line shape new is next =
    subst (IsInputOf (front ++ line ∷ []))
    (sym (ap (λ (t : Bool). cond t (with_table tables (given ∷ givens) shape (table_refusal tables shape)) None)
    (eqb-suc-zero (length givens))) ∙ next) tt

changeset_follows : (front : List (List ℕ)) (tables : List Shape) (givens : List Given) (after : Option Collected)
    (line : List ℕ) (publisher : ℕ) (text : List ℕ)
    → SpellsChangeset line (given_at (length tables + length givens + 1) publisher text)
    → IsInput front tables givens → with_entry tables givens (Some (Changeset publisher text)) ≡ after
    → IsInputOf (front ++ line ∷ []) after
changeset_follows front tables givens after line publisher text new is next =
    by (ltb (length givens) 65536) refl next
  where
    given : Given
    given = given_at (length tables + length givens + 1) publisher text

    by : (t : Bool) → ltb (length givens) 65536 ≡ t
        → cond t (some_collected tables (givens ++ given ∷ [])) None ≡ after → IsInputOf (front ++ line ∷ []) after
    by false few said = subst (IsInputOf (front ++ line ∷ [])) said tt
    by true few said =
        let same = changesets_counted (suc (length is.front)) is.back givens is.changesets in
        let count = tables_counted is.front tables is.spelled in
        subst (IsInputOf (front ++ line ∷ [])) said (record {
          front = is.front;
          back = is.back ++ line ∷ [];
          parts = ap (λ (l : List (List ℕ)). l ++ line ∷ []) is.parts ∙ append_assoc is.front is.back (line ∷ []);
          spelled = is.spelled;
          schema = is.schema;
          changesets = changesets_more (suc (length is.front)) is.back givens line given is.changesets new
              (omega (arith, same, count));
          few = omega (arith, same, ltb-true (length givens) 65536 few, length-append is.back (line ∷ []));
        })

line_follows : (front : List (List ℕ)) (tables : List Shape) (givens : List Given) (after : Option Collected)
    (line : List ℕ) → length line ≤ most_of_line → IsInput front tables givens
    → with_line tables givens line ≡ after → IsInputOf (front ++ line ∷ []) after
line_follows front tables givens after line short is next = by (entry_spelled line) refl next
  where
    by : (e : Option LineEntry) → entry_spelled line ≡ e → with_entry tables givens e ≡ after
        → IsInputOf (front ++ line ∷ []) after
    by None said then = subst (IsInputOf (front ++ line ∷ [])) then tt
    by (Some (Table shape)) said then =
        table_follows front tables givens after line shape (table_spelled line shape short said) is then
    by (Some (Changeset publisher text)) said then =
        changeset_follows front tables givens after line publisher text
        (changeset_spelled line (length tables + length givens + 1) publisher text short said) is then

pub good_line : (front : List (List ℕ)) (tables tables' : List Shape) (givens givens' : List Given) (line : List ℕ)
    → length line ≤ most_of_line → IsInput front tables givens
    → with_line tables givens line ≡ some_collected tables' givens' → IsInput (front ++ line ∷ []) tables' givens'
good_line front tables tables' givens givens' line short is next =
    line_follows front tables givens (some_collected tables' givens') line short is next

-- ---- publishers' numbers are below 64

changesets_few : (n : ℕ) (lines : List (List ℕ)) (givens : List Given) → SpellChangesets n lines givens
    → AllByRecursion (λ given. given.publisher < 64) givens
changesets_few n [] [] s = tt
changesets_few n [] (given ∷ givens) s = absurd s
changesets_few n (line ∷ lines) [] s = absurd s
changesets_few n (line ∷ lines) (given ∷ givens) s = (s.0.few, changesets_few (suc n) lines givens s.2)

pub publishers_few : (lines : List (List ℕ)) (tables : List Shape) (givens : List Given) → IsInput lines tables givens
    → AllByRecursion (λ given. given.publisher < 64) givens
publishers_few lines tables givens is = changesets_few (suc (length is.front)) is.back givens is.changesets
