use Rattle.cs_parse.proofs.joining.ProgressLaws.{progress_begins, progress_more}
use Rattle.cs_parse.proofs.laws.progress_goes_on.Goals as goal

pub returns : goal.returns
returns c = record { begins = progress_begins; goes = progress_more }
