use Rattle.std.proofs.Common.{take, ap, ◌∙◌}
use Rattle.cs_model.proofs.texts.LastLaws.{parts_in}
use Rattle.cs_model.proofs.sections.flags_at.Goals as goal

pub returns : goal.returns
returns c = λ section ends. c.split_at-3.ensures.front
    ∙ (ap (take c.args.at.now.columns) c.split_at-2.ensures.back
    ∙ (parts_in c.args.at.now c.args.text.now c.split_at.result.1.now section ends c.split_at.ensures.back).2)
