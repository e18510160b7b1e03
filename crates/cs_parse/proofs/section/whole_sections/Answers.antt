use Rattle.std.proofs.Common.{List, [], ap, sym, ◌∙◌}
use Rattle.std.proofs.lemmas.Bool.{eqb-true}
use Rattle.cs_parse.specs.Front.{prefixed}
use Rattle.cs_parse.specs.Progress.{read_on}
use Rattle.cs_parse.proofs.feeding.SectionFronts.{along_ends}
use Rattle.cs_parse.proofs.section.whole_sections.Goals as goal

pub returns-then-is_empty : goal.returns-then-is_empty
returns-then-is_empty c =
    along_ends c.in_ok-front.front.0 c.rest-rest.result.now (read_on [] c.args.bytes.now)
    (eqb-true _ 0 (sym c.is_empty.ensures ∙ c.if-is_empty.true))
    (ap (λ (w : List _). prefixed c.in_ok-front.front.0 (read_on [] w)) c.rest-rest.ensures ∙ c.in_ok-front.ensures)
