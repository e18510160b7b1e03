use Rattle.cs_model.proofs.texts.SectionLaws.{cut_valid, cut_section, cut_rest, cut_flags_long}
use Rattle.cs_model.proofs.section_ref.section_of.Goals as goal

pub invariant_of-section : goal.invariant_of-section
invariant_of-section c = cut_valid c.args.at.now c.args.text.now _ _ _ _ _ _ c.requires c.split_at.ensures.back
    c.split_at-2.ensures.front c.split_at-2.ensures.back c.split_at-3.ensures.back c.split_at-4.ensures.back
    c.split_at-5.ensures.front

pub returns-clause-section : goal.returns-clause-section
returns-clause-section c = cut_section c.args.at.now c.args.text.now _ _ _ _ _ _ _ c.split_at.ensures.back
    c.split_at-2.ensures.front c.split_at-2.ensures.back c.split_at-3.ensures.front c.split_at-3.ensures.back
    c.split_at-4.ensures.back c.split_at-5.ensures.front
    (cut_flags_long c.args.at.now c.args.text.now _ _ c.requires c.split_at.ensures.back c.split_at-2.ensures.front)

pub returns-clause-rest : goal.returns-clause-rest
returns-clause-rest c = cut_rest c.args.at.now c.args.text.now _ _ _ _ _ c.split_at.ensures.back
    c.split_at-2.ensures.back c.split_at-3.ensures.back c.split_at-4.ensures.back c.split_at-5.ensures.back
