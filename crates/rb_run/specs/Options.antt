-- The limits, how many subscribers a drive has, where the first one keeps its rows, whether it is
-- shown how far the drive is, how a script is answered, and how rows are shown, from the options of
-- a command line.
use Rattle.std.specs.Prelude.{ℕ, Bool, false, List, [], Option, Some, None, Result, Ok, Err, codes}
use Rattle.std.specs.Prelude.{if◌then◌else◌, ◌&&◌, nat_le}
use Rattle.std.specs.Option.{option_and_then}
use Rattle.clap.specs.Walk.{Row, Text, first_of}
use Rattle.rb_desk.specs.Limits.{Limits, six_limits, first_out_of_range}
use Rattle.rb_desk.specs.declared.config.ConfigFault.{ConfigFault}
use Rattle.rb_desk.specs.declared.config.ConfigFault.TheVariants.{Batch, Window, Timeout, Capacity}
use Rattle.rb_desk.specs.declared.config.ConfigFault.TheVariants.{Intake, Appliers}
use Rattle.cs_model.specs.Schema.{same_bytes}
use Rattle.rb_run.specs.declared.options.RangeFault.{RangeFault}
use Rattle.rb_run.specs.declared.options.RangeFault.TheVariants.{Limit, Subscribers}
use Rattle.rb_script.specs.declared.answering.Answering.{Answering}
use Rattle.rb_show.specs.declared.row_form.RowForm.{RowForm}
use Rattle.rb_show.specs.declared.row_form.RowForm.TheVariants.{Sql, Json}
use Rattle.rb_script.specs.Words.{number_in_word}

-- the number that an option's word spells, or 0, which is in no range
abbrev pub number_or_zero : Option ℕ → ℕ
number_or_zero None = 0
number_or_zero (Some n) = n

abbrev pub value_of : List ℕ → ℕ
value_of word = number_or_zero (number_in_word word)

-- the limits with these numbers, or the first number that is out of its range
abbrev pub limits_or : Option ConfigFault → Limits → Result Limits ConfigFault
limits_or None limits = Ok limits
limits_or (Some fault) limits = Err fault

abbrev pub limits_of : ℕ → ℕ → ℕ → ℕ → ℕ → ℕ → Result Limits ConfigFault
limits_of batch window timeout capacity intake appliers =
    limits_or (first_out_of_range batch window timeout capacity intake appliers)
    (six_limits batch window timeout capacity intake appliers)

-- the limits from the options' words and a number of appliers, or the first option whose word isn't
-- a number in its range
abbrev pub config_of : List ℕ → List ℕ → List ℕ → List ℕ → List ℕ → ℕ
    → Result Limits ConfigFault
config_of batch window timeout capacity intake appliers =
    limits_of (value_of batch) (value_of window) (value_of timeout) (value_of capacity)
    (value_of intake) appliers

-- the message about an option, with its range
abbrev pub range_text : ConfigFault → List ℕ
range_text Batch = codes "--batch takes a number from 1 to 256"
range_text Window = codes "--window takes a number from 1 to 64"
range_text Timeout = codes "--timeout takes a number from 1 to 1000000000"
range_text Capacity = codes "--capacity takes a number from 1 to 16777216"
range_text Intake = codes "--intake takes a number from 1 to 4096"
range_text Appliers = codes "--appliers takes a number from 1 to 16"

abbrev pub fault_text : RangeFault → List ℕ
fault_text (Limit fault) = range_text fault
fault_text Subscribers = codes "--subscribers takes a number from 1 to 16"

-- the word of an option, among what a subcommand was given, if there is one
abbrev pub given_by : Option (Text × List Row) → Text → Option Text
given_by found name = option_and_then (λ given. first_of name given.1) found

-- the same, and the empty word if there is none
abbrev pub word_or_none : Option (List ℕ) → List ℕ
word_or_none None = []
word_or_none (Some word) = word

abbrev pub word_of : Option (Text × List Row) → Text → List ℕ
word_of found name = word_or_none (given_by found name)

-- the same, for what a subcommand was given
abbrev pub config_with : Option (Text × List Row) → ℕ → Result Limits ConfigFault
config_with found appliers = config_of (word_of found (codes "batch"))
    (word_of found (codes "window")) (word_of found (codes "timeout"))
    (word_of found (codes "capacity")) (word_of found (codes "intake")) appliers

-- the limits of a script, which has one applier
abbrev pub config_by : Option (Text × List Row) → Result Limits ConfigFault
config_by found = config_with found 1

-- the limits of a drive
abbrev pub drive_config_by : Option (Text × List Row) → Result Limits ConfigFault
drive_config_by found = config_with found (value_of (word_of found (codes "appliers")))

-- whether an option that takes no word is set
abbrev pub is_set : Option (Text × List Row) → Text → Bool
is_set found name = same_bytes (word_of found name) (codes "true")

-- how many subscribers a drive has, if the option's word spells a number from 1 to 16
abbrev pub subscribers_in_range : ℕ → Option ℕ
subscribers_in_range n = if nat_le 1 n && nat_le n 16 then Some n else None

abbrev pub subscribers_by : Option (Text × List Row) → Option ℕ
subscribers_by found = subscribers_in_range (value_of (word_of found (codes "subscribers")))

-- the limits and the number of subscribers of a drive, or the first option whose word isn't a
-- number in its range
abbrev pub with_subscribers : Limits → Option ℕ → Result (Limits × ℕ) RangeFault
with_subscribers limits None = Err Subscribers
with_subscribers limits (Some n) = Ok (limits, n)

abbrev pub drive_from : Result Limits ConfigFault → Option ℕ → Result (Limits × ℕ) RangeFault
drive_from (Err fault) n = Err (Limit fault)
drive_from (Ok limits) n = with_subscribers limits n

abbrev pub drive_by : Option (Text × List Row) → Result (Limits × ℕ) RangeFault
drive_by found = drive_from (drive_config_by found) (subscribers_by found)

-- the path of the database in which the first subscriber of a drive keeps its rows, if it is given
abbrev pub replica_by : Option (Text × List Row) → Option Text
replica_by found = given_by found (codes "replica")

-- whether it is shown how far a drive is
abbrev pub watched_by : Option (Text × List Row) → Bool
watched_by found = is_set found (codes "progress")

-- how the script is answered
abbrev pub answering_by : Option (Text × List Row) → Answering
answering_by found =
    record { numbers = is_set found (codes "numbers"); strict = is_set found (codes "strict") }

-- how rows are shown
abbrev pub form_by : Option (Text × List Row) → RowForm
form_by found = if is_set found (codes "json") then Json else Sql

-- whether the subcommand has this name
abbrev pub is_subcommand : Option (Text × List Row) → Text → Bool
is_subcommand None name = false
is_subcommand (Some given) name = same_bytes given.0 name
