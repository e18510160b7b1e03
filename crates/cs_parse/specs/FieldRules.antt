-- The rules of the reader, as rules of the model.
use Rattle.std.specs.Prelude.{ℕ, ◌==◌, if◌then◌else◌}
use Rattle.cs_model.specs.declared.value.Value.TheVariants.{Null}
use Rattle.cs_model.specs.declared.value.Field.TheVariants.{Undefined, Is}
use Rattle.cs_model.specs.Rule.{Rule, Key, Given, Open, Blank, PairedWith}
use Rattle.cs_parse.specs.declared.rule.FieldRule.{FieldRule}
use Rattle.cs_parse.specs.declared.rule.FieldRule.TheVariants as reader

-- NULL stands for any value of the old record, because only its presence matters.
abbrev pub rule_of : FieldRule → Rule
rule_of reader.Key = Key
rule_of reader.Given = Given
rule_of reader.Open = Open
rule_of reader.Blank = Blank
rule_of reader.Both = PairedWith (Is Null)
rule_of reader.Neither = PairedWith Undefined

-- a column's rule by its key flag; `outside` is the rule of a column outside the key
abbrev pub column_rule : Rule → ℕ → Rule
column_rule outside flag = if flag == 0 then outside else Key
