-- The text of a report.
use Rattle.std.specs.Prelude.{ℕ, suc, List, [], ◌∷◌, ◌++◌, codes, length}
use Rattle.std.specs.FinMap as map
use Rattle.std.specs.Fmt.{decimal}
use Rattle.std.specs.List.{flat_map}
use Rattle.cs_apply.specs.Conflict.{code_of}
use Rattle.cs_model.specs.declared.row_key.RowKey.{RowKey}
use Rattle.cs_model.specs.declared.schema.SectionFault.{SectionFault}
use Rattle.cs_model.specs.declared.schema.SectionFault.TheVariants.{UnknownTable, ShapeDiffers}
use Rattle.cs_model.specs.declared.value.Value.{Value}
use Rattle.cs_parse.specs.declared.end.EndError.{EndError}
use Rattle.cs_parse.specs.declared.end.EndError.TheVariants.{Fault, Refused}
use Rattle.rb_script.specs.Replies.{kind_name}
use Rattle.rb_script.specs.Texts.{row_text}
use Rattle.rb_subscriber.specs.Subscription.{cursor_of}
use Rattle.rb_drive.specs.declared.ending.SubscriberEnd.{SubscriberEnd}
use Rattle.rb_drive.specs.declared.ending.SubscriberEnd.TheVariants.{Drained, Conflict, Stopped}
use Rattle.rb_drive.specs.declared.publishing.FaultyLine.{FaultyLine}
use Rattle.rb_drive.specs.Outcome.{DriveOutcome, DrivenSubscriber}

-- `placed N`, `left N` and `unsent N`
abbrev pub counts_text : ℕ → ℕ → ℕ → List ℕ
counts_text placed left unsent = codes "placed " ++ (decimal placed
    ++ (codes "\nleft " ++ (decimal left ++ (codes "\nunsent " ++ (decimal unsent ++ 10 ∷ [])))))

-- what is wrong with a line, as a script says it
abbrev pub refused_section_text : SectionFault → List ℕ
refused_section_text (UnknownTable i) = codes "refused UnknownTable " ++ decimal i
refused_section_text (ShapeDiffers i) = codes "refused ShapeDiffers " ++ decimal i

abbrev pub end_error_text : EndError → List ℕ
end_error_text (Fault fault) =
    codes "fault " ++ (decimal fault.at ++ (codes " " ++ kind_name fault.kind))
end_error_text (Refused fault) = refused_section_text fault

-- `publisher P line L`, and what is wrong with it
abbrev pub faulty_text : FaultyLine → List ℕ
faulty_text one = (codes "publisher " ++ (decimal one.publisher ++ (codes " line "
    ++ (decimal one.line ++ codes " ")))) ++ end_error_text one.why ++ 10 ∷ []

-- how a subscriber ended
abbrev pub ending_text : SubscriberEnd → List ℕ
ending_text Drained = codes "drained"
ending_text (Conflict conflict shown) = codes "conflict "
    ++ (decimal conflict.position ++ (codes " " ++ decimal (code_of conflict.kind)))
ending_text Stopped = codes "stopped"

-- `subscriber S cursor N`, and how it ended
abbrev pub cursor_text : ℕ → ℕ → SubscriberEnd → List ℕ
cursor_text number cursor ending = (codes "subscriber " ++ (decimal number ++ (codes " cursor "
    ++ (decimal cursor ++ codes " ")))) ++ ending_text ending ++ 10 ∷ []

-- `rows COUNT`, then each row, as in a script
abbrev pub row_count_text : ℕ → List ℕ
row_count_text n = codes "rows " ++ (decimal n ++ 10 ∷ [])

abbrev pub all_rows_text : List (RowKey × List Value) → List ℕ
all_rows_text rows = row_count_text (length rows) ++ flat_map row_text rows

-- a subscriber's line, and its rows
abbrev pub subscriber_text : ℕ → DrivenSubscriber → List ℕ
subscriber_text number one = cursor_text number (cursor_of one.subscription) one.ending
    ++ all_rows_text (map.entries one.subscription.tables.rows)

-- subscribers, the first with this number
abbrev pub subscribers_text : ℕ → List DrivenSubscriber → List ℕ
subscribers_text number [] = []
subscribers_text number (one ∷ rest) =
    subscriber_text number one ++ subscribers_text (suc number) rest

-- the counts, the faulty lines, and each subscriber with its rows
abbrev pub report_text : DriveOutcome → List ℕ
report_text outcome = (counts_text outcome.placed outcome.left outcome.unsent
    ++ flat_map faulty_text outcome.faulty) ++ subscribers_text 0 outcome.subscribers
