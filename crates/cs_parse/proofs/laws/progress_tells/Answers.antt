use Rattle.cs_parse.proofs.joining.ProgressAnswers.{progress_ended, progress_fault, progress_offset}
use Rattle.cs_parse.proofs.laws.progress_tells.Goals as goal

pub returns : goal.returns
returns c = record { answer = progress_ended; fault = progress_fault; offset = progress_offset }
