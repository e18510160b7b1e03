-- Feeding the bytes of a line to a publisher's empty stream, for private clauses.
use Rattle.std.specs.Prelude.{◌≡◌, ℕ, List, Err}
use Rattle.cs_parse.specs.declared.fault.ParseError.{ParseError}
use Rattle.cs_parse.specs.declared.fault.ParseError.TheVariants.{Fault, Memory}
use Rattle.cs_parse.specs.Reading.{answer_of}

-- why feeding stops: the bytes have this fault, or memory runs out
abbrev pub FeedStops : List ℕ → ParseError → Type 0
FeedStops text (Fault fault) = answer_of text ≡ Err fault
FeedStops text Memory = Unit {0}
