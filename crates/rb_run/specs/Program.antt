-- The command line: which words the program takes, what they ask for, and how the program ends that
-- does this.
use Rattle.std.specs.Prelude.{◌≡◌, ◌⊎◌, ◌++◌, ℕ, Bool, true, false, List, [], ◌∷◌, Option, Some}
use Rattle.std.specs.Prelude.{Result}
use Rattle.std.specs.Prelude.{Ok, Err, codes, option_map}
use Rattle.std.specs.Io.KnownBytes.{Keeps}
use Rattle.clap.specs.Faults.{fault_of}
use Rattle.clap.specs.Kinds.{Kinds, HasKind}
use Rattle.clap.specs.Simple.{App, Shape, app_of, new_rule, new_shape, subcommand_of, with_rule}
use Rattle.clap.specs.Walk.{Rule, Text, rule_of}
use Rattle.clap.specs.declared.builder.arg.Arg.{Arg}
use Rattle.clap.specs.declared.builder.command.Command.{Command}
use Rattle.clap.specs.declared.builder.command.Command.TheViews.{out-Command}
use Rattle.clap.specs.declared.builder.action.ArgAction.{ArgAction}
use Rattle.clap.specs.declared.builder.action.ArgAction.TheVariants.{Set, SetTrue}
use Rattle.clap.specs.Values.{kind_of}
use Rattle.clap.specs.declared.error.Error.{Error}
use Rattle.clap.specs.declared.error.kind.ErrorKind.{ErrorKind}
use Rattle.clap.specs.declared.error.kind.ErrorKind.TheVariants.{OutOfMemory}
use Rattle.clap.specs.declared.error.kind.ErrorKind.TheVariants.{DisplayHelp, DisplayVersion}
use Rattle.rb_desk.specs.Limits.{Limits}
use Rattle.rb_desk.specs.declared.config.ConfigFault.{ConfigFault}
use Rattle.rb_run.specs.declared.ending.Ending.{Ending}
use Rattle.rb_run.specs.declared.ending.Ending.TheVariants.{Done, Stopped, Misused, OutOfRange}
use Rattle.rb_run.specs.declared.job.Job.{Job}
use Rattle.rb_run.specs.declared.job.Job.TheVariants as job
use Rattle.rb_drive.specs.Run.{DriveEnds}
use Rattle.rb_drive.specs.declared.fault.DriveError.{DriveError}
use Rattle.rb_run.specs.Endings.{ending_of, ending_of_drive, ending_of_show}
use Rattle.rb_run.specs.Options.{answering_by, config_by, drive_by, form_by, is_subcommand}
use Rattle.rb_run.specs.Options.{replica_by, watched_by}
use Rattle.rb_run.specs.declared.options.RangeFault.{RangeFault}
use Rattle.rb_run.specs.declared.options.RangeFault.TheVariants.{Limit}
use Rattle.rb_script.specs.declared.answering.Answering.{Answering}
use Rattle.rb_script.specs.declared.fault.ScriptError.{ScriptError}
use Rattle.rb_script.specs.declared.fault.ScriptError.TheVariants.{Memory, Write}
use Rattle.rb_show.specs.declared.row_form.RowForm.{RowForm}
use Rattle.rb_show.specs.declared.show_fault.ShowError.{ShowError}
use Rattle.rb_script.specs.Ends.{ScriptEnds}
use Rattle.rb_show.specs.Showing.{ShowEnds}

-- an option with this name after two dashes
abbrev pub long_option : Text → ArgAction → Rule
long_option name action = record (new_rule name) { long = Some name; action = Some action }

-- an option that takes a number, with its usual number
abbrev pub limit_option : Text → Text → Rule
limit_option name usual =
    record (long_option name Set) { value_names = 1; defaults = usual ∷ [] }

-- an option that takes a path, and has none if it isn't given
abbrev pub path_option : Text → Rule
path_option name = record (long_option name Set) { value_names = 1 }

-- an option that is set or not
abbrev pub flag_option : Text → Rule
flag_option name = long_option name SetTrue

-- the limits of a broker, each with its usual number
abbrev pub limit_options : List Rule
limit_options =
    limit_option (codes "batch") (codes "16") ∷ limit_option (codes "window") (codes "4")
    ∷ limit_option (codes "timeout") (codes "10") ∷ limit_option (codes "capacity") (codes "65536")
    ∷ limit_option (codes "intake") (codes "64") ∷ []

-- a command with these options after its own, one after another
abbrev pub with_rules : App → List Rule → App
with_rules app [] = app
with_rules app (rule ∷ rules) = with_rules (with_rule app rule) rules

-- a command without subcommands
abbrev pub lone_command : Shape → App
lone_command top = record { top = top; subs = [] }

-- a subcommand that has a version, and no options yet
abbrev pub new_subcommand : Text → App
new_subcommand name = lone_command (record (new_shape name) { has_version = true })

-- `script`, with its options
abbrev pub script_command : Shape
script_command = record (new_shape (codes "script")) {
  has_version = true;
  rules = limit_options ++ flag_option (codes "numbers") ∷ flag_option (codes "strict") ∷ [];
}

-- `drive`, with its options
abbrev pub drive_command : Shape
drive_command = record (new_shape (codes "drive")) {
  has_version = true;
  rules = limit_options ++ limit_option (codes "subscribers") (codes "1")
      ∷ limit_option (codes "appliers") (codes "1") ∷ path_option (codes "replica")
      ∷ flag_option (codes "progress") ∷ [];
}

-- `show`, with its option
abbrev pub show_command : Shape
show_command = record (new_shape (codes "show")) {
  has_version = true;
  rules = flag_option (codes "json") ∷ [];
}

-- `rb_run`, which has a version and takes a subcommand
abbrev pub program : App
program = record {
  top = record (new_shape (codes "rb_run")) {
    is_leaf = false;
    has_version = true;
    subcommand_required = true;
  };
  subs = script_command ∷ drive_command ∷ show_command ∷ [];
}

-- an argument that was built is this option, and isn't global
abbrev pub IsOption : Arg → Rule → Type 0
IsOption arg rule = (rule_of arg ≡ rule) × (arg.global ≡ false)

-- a command that was built is this one, and has no global option
abbrev pub IsCommand : Command → App → Type 0
IsCommand command app = (app_of command ≡ app) × ((out-Command command).has_globals ≡ false)

-- the limits that the words ask for, or the first option whose word isn't a number in its range
abbrev pub config_in : List Text → Result Limits ConfigFault
config_in words = config_by (subcommand_of program words)

-- how the words ask for a script to be answered
abbrev pub answering_in : List Text → Answering
answering_in words = answering_by (subcommand_of program words)

-- the limits and the number of subscribers of a drive that the words ask for, or the first option
-- whose word isn't a number in its range
abbrev pub drive_in : List Text → Result (Limits × ℕ) RangeFault
drive_in words = drive_by (subcommand_of program words)

-- the path of the first subscriber's database, if the words have one
abbrev pub replica_in : List Text → Option Text
replica_in words = replica_by (subcommand_of program words)

-- whether the words call `show`, and how they ask for rows to be shown
abbrev pub calls_show : List Text → Bool
calls_show words = is_subcommand (subcommand_of program words) (codes "show")

-- whether they call `drive`
abbrev pub calls_drive : List Text → Bool
calls_drive words = is_subcommand (subcommand_of program words) (codes "drive")

-- whether they ask to be shown how far a drive is
abbrev pub watched_in : List Text → Bool
watched_in words = watched_by (subcommand_of program words)

abbrev pub form_in : List Text → RowForm
form_in words = form_by (subcommand_of program words)

-- what is wrong with the words, or the request for help or the version; [] if nothing is
abbrev pub wrong_in : List Text → Kinds
wrong_in words = fault_of program words

-- The program takes the words, and they call `show`, or `drive`, or another subcommand.
abbrev pub AreTaken : Bool → Bool → List Text → Type 0
AreTaken shows drives words = (wrong_in words ≡ []) × (calls_show words ≡ shows)
    × (calls_drive words ≡ drives)

-- What the words ask for. If the program takes them, a script under their limits and in their way,
-- or a drive under their limits with their number of subscribers and their database, shown exactly
-- if they ask for it, or a message about an option, or rows in their form; else a text to print,
-- also if memory ran out.
abbrev pub AsksFor : Job → List Text → Type 0
AsksFor (job.Script limits how) words = AreTaken false false words
    × (config_in words ≡ Ok limits) × (how ≡ answering_in words)
AsksFor (job.Drive limits n path shows) words = AreTaken false true words
    × (drive_in words ≡ Ok (limits, n)) × (option_map (λ p. p.now) path ≡ replica_in words)
    × (shows ≡ watched_in words)
AsksFor (job.OutOfRange fault) words = (AreTaken false true words × (drive_in words ≡ Err fault))
    ⊎ ((limit : ConfigFault) × AreTaken false false words × (config_in words ≡ Err limit)
    × (fault ≡ Limit limit))
AsksFor (job.Show form) words = (wrong_in words ≡ []) × (calls_show words ≡ true)
    × (form ≡ form_in words)
AsksFor (job.Print e) words = HasKind (wrong_in words) e

-- A script is answered under these limits and in this way: there is a result that it ends with, and
-- the program ends as that says. The reader had r0 left and has r; the writer held w0 and holds w.
abbrev pub HasAnswered : Answering → Limits → Ending → Option (List ℕ) → Option (List ℕ)
    → Option (List ℕ) → Option (List ℕ) → Type 0
HasAnswered how limits ending r0 r w0 w = (script : Result (Unit {0}) ScriptError)
    × ScriptEnds how limits script r0 r w0 w × (ending ≡ ending_of script)

-- A drive is run under these limits, with n subscribers: there is a result that it ends with, and
-- the program ends as that says.
abbrev pub HasDriven : Limits → ℕ → Ending → Option (List ℕ) → Option (List ℕ)
    → Option (List ℕ) → Option (List ℕ) → Type 0
HasDriven limits n ending r0 r w0 w = (driven : Result ℕ DriveError)
    × DriveEnds limits n driven r0 r w0 w × (ending ≡ ending_of_drive driven)

-- The same of rows that are shown in this form.
abbrev pub HasShown : RowForm → Ending → Option (List ℕ) → Option (List ℕ) → Option (List ℕ)
    → Option (List ℕ) → Type 0
HasShown form ending r0 r w0 w = (shown : Result (Unit {0}) ShowError)
    × ShowEnds form shown r0 r w0 w × (ending ≡ ending_of_show shown)

-- the program is done, or the writer failed
abbrev pub HasPrinted : Ending → Type 0
HasPrinted Done = Unit {0}
HasPrinted (Stopped (Write why)) = Unit {0}
HasPrinted ending = ⊥

-- How the program ends that has such a text. Out of memory stops it, and help and the version are
-- printed. Any other text means that the words are wrong, and nothing is written.
abbrev pub EndsShown : ErrorKind → Error → Ending → Option (List ℕ) → Option (List ℕ) → Type 0
EndsShown OutOfMemory text ending w0 w = (ending ≡ Stopped Memory) × Keeps w0 w
EndsShown DisplayHelp text ending w0 w = HasPrinted ending
EndsShown DisplayVersion text ending w0 w = HasPrinted ending
EndsShown kind text ending w0 w = (ending ≡ Misused text) × Keeps w0 w

-- What the program that does this reads and writes, and how it ends. Only for a script, a drive and
-- rows is anything read. In which database a drive's first subscriber keeps its rows, and whether
-- the drive shows how far it is, makes no difference here.
abbrev pub EndsFor : Job → Ending → Option (List ℕ) → Option (List ℕ) → Option (List ℕ)
    → Option (List ℕ) → Type 0
EndsFor (job.Script limits how) ending r0 r w0 w = HasAnswered how limits ending r0 r w0 w
EndsFor (job.Drive limits n path shows) ending r0 r w0 w = HasDriven limits n ending r0 r w0 w
EndsFor (job.OutOfRange fault) ending r0 r w0 w =
    (ending ≡ OutOfRange fault) × Keeps r0 r × Keeps w0 w
EndsFor (job.Show form) ending r0 r w0 w = HasShown form ending r0 r w0 w
EndsFor (job.Print text) ending r0 r w0 w = EndsShown (kind_of text) text ending w0 w × Keeps r0 r

-- the program does what the words ask for, and ends so
abbrev pub EndsAsAsked : List Text → Ending → Option (List ℕ) → Option (List ℕ) → Option (List ℕ)
    → Option (List ℕ) → Type 0
EndsAsAsked words ending r0 r w0 w =
    (todo : Job) × AsksFor todo words × EndsFor todo ending r0 r w0 w
