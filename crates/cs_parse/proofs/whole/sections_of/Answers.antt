use Rattle.std.proofs.Common.{sym, ◌∙◌}
use Rattle.cs_model.specs.Changeset.{most_bytes}
use Rattle.cs_parse.proofs.reading.TextLaws.{front_long, answer_cut}
use Rattle.cs_parse.proofs.whole.sections_of.Goals as goal

pub slice_bounds-cut_of-end : goal.slice_bounds-cut_of-end
slice_bounds-cut_of-end c = front_long most_bytes c.args.text.now c.if-text-gt-MOST_BYTES.true

pub returns-then-text-gt-MOST_BYTES-clause-err : goal.returns-then-text-gt-MOST_BYTES-clause-err
returns-then-text-gt-MOST_BYTES-clause-err c =
    sym (answer_cut c.args.text.now c.if-text-gt-MOST_BYTES.true) ∙ c.cut_of.ensures
