-- The result of `PieceParser::end`: the changeset, if a schema admits it.
use Rattle.std.specs.Prelude.{List, Option, Some, None, Result, Ok, Err}
use Rattle.cs_model.specs.Section.{Section}
use Rattle.cs_model.specs.declared.shape.Shape.{Shape}
use Rattle.cs_model.specs.declared.schema.SectionFault.{SectionFault}
use Rattle.cs_model.specs.Schema.{refusal_of}
use Rattle.cs_parse.specs.declared.fault.ParseFault.{ParseFault}
use Rattle.cs_parse.specs.declared.end.EndError.{EndError}
use Rattle.cs_parse.specs.declared.end.EndError.TheVariants.{Fault, Refused}
use Rattle.cs_parse.specs.Progress.{Progress, nothing}

-- a changeset, unless one of its sections is refused
abbrev pub admitted : List Section → Option SectionFault → Result (List Section) EndError
admitted changeset None = Ok changeset
admitted changeset (Some fault) = Err (Refused fault)

-- The changeset, if the text encodes one and the schema admits it. Otherwise the text's fault, or
-- the first section that is refused.
abbrev pub admitted_answer : List Shape → Result (List Section) ParseFault
    → Result (List Section) EndError
admitted_answer schema (Ok changeset) = admitted changeset (refusal_of schema changeset)
admitted_answer schema (Err fault) = Err (Fault fault)

-- the progress after the call: that of a new parser after `Ok`, the old one after `Err`
abbrev pub left_by : Result (List Section) EndError → Progress → Progress
left_by (Ok changeset) old = nothing
left_by (Err error) old = old
