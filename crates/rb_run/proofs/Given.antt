-- Words of options, and commands with a version.
use Rattle.std.proofs.Common.{◌≡◌, ◌∙◌, ◌||◌, ℕ, List, ap, ap₂, sym, option_map, Option, Some, None, true, Result}
use Rattle.std.proofs.Common.{refl, subst}
use Rattle.std.specs.Option.{option_and_then}
use Rattle.std.proofs.lemmas.Option.{none-some}
use Rattle.clap.specs.Matches.{first_value}
use Rattle.clap.specs.Built.{AddsArg}
use Rattle.clap.specs.Simple.{App, HasMatchesOf, Shape, is_simple, subcommand_of, subcommand_rows_of, with_rule}
use Rattle.clap.specs.declared.builder.arg.Arg.{Arg}
use Rattle.clap.specs.declared.builder.command.Command.{Command}
use Rattle.clap.specs.Faults.{fault_of, is_simple_and_free}
use Rattle.clap.specs.Kinds.{FailsBy}
use Rattle.clap.specs.declared.error.Error.{Error}
use Rattle.clap.specs.declared.parser.matches.ArgMatches.{ArgMatches}
use Rattle.rb_run.specs.Program.{IsCommand, IsOption, program, wrong_in}
use Rattle.clap.specs.Walk.{Row, Rule, Text, first_of, rows_of}
use Rattle.clap.specs.declared.parser.matches.Found.{Found}
use Rattle.clap.proofs.WalkLemmas.{first_value-rows}
use Rattle.rb_run.specs.Options.{given_by}

-- the word of an option, as the parser gives it
pub given_value : (given : Option (Text × List Row)) (found : Found) (name : List ℕ)
    → option_map (λ (p : Text × List Row). p.1) given ≡ Some (rows_of found)
    → given_by given name ≡ first_value found name
given_value None found name same = absurd (none-some _ same)
given_value (Some given) found name same =
    ap (option_and_then (first_of name)) same ∙ sym (first_value-rows found name)

-- a command that has a version
abbrev pub versioned : App → App
versioned a = record a { top = record a.top { has_version = true } }

-- a command that needs a subcommand
abbrev pub asking : App → App
asking a = record a { top = record a.top { subcommand_required = true } }

-- the command itself
abbrev pub top_of : App → Shape
top_of a = a.top

-- one option more
pub with_option : (old new : Command) (arg : Arg) (app : App) (rule : Rule) → AddsArg old arg new → IsCommand old app
    → IsOption arg rule → IsCommand new (with_rule app rule)
with_option old new arg app rule adds was is =
    (adds.shape is.1 ∙ ap₂ with_rule was.0 is.0, adds.globals ∙ ap₂ (λ a b. a || b) was.1 is.1)

-- ---- the program's words

program_is_simple : is_simple program ≡ true
program_is_simple = refl

program_is_free : is_simple_and_free program ≡ true
program_is_free = refl

pub program_matches : (a : App) (words : List Text) (found : ArgMatches) → a ≡ program → HasMatchesOf a words found
    → subcommand_rows_of found ≡ subcommand_of program words
program_matches a words found is h = (subst (λ (b : App). HasMatchesOf b words found) is h program_is_simple).1

pub program_fails : {T : Type 0} (a : App) (words : List Text) (result : Result T Error) → a ≡ program
    → (is_simple_and_free a ≡ true → FailsBy (fault_of a words) result) → FailsBy (wrong_in words) result
program_fails a words result is h =
    subst (λ (b : App). is_simple_and_free b ≡ true → FailsBy (fault_of b words) result) is h program_is_free
