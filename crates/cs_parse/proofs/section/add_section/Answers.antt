use Rattle.std.proofs.Common.{[], ◌∷◌, ◌++◌, length, ap, sym, ◌∙◌, arith}
use Rattle.cs_model.specs.declared.shape.Shape.{Shape}
use Rattle.cs_parse.specs.Front.{changes_front}
use Rattle.cs_parse.proofs.counting.Fronts.{Says, says, left_shorter}
use Rattle.cs_parse.proofs.section.add_section.Goals as goal
use Rattle.cs_parse.proofs.section.add_section.Goals.{After-spelled_is_said}

pub overflow_sub-bytes : goal.overflow_sub-bytes
overflow_sub-bytes c = left_shorter c.shape.inside.flags.now c.args.bytes.now c.whole_changes-count.result.1.now
    (λ i. omega (arith, c.type_inv.bytes i)) c.whole_changes-count.ensures.rest

-- what the text in front says
front_says : (c : After-spelled_is_said) → Says c.shape.inside.flags.now c.args.bytes.now
    c.whole_changes-count.result.0 c.whole_changes-count.result.1.now c.whole_changes-count.result.2
    (length c.args.shape.now.flags) c.split_at.result.0.now
front_says c =
    let w = c.whole_changes-count in
    says c.changes_fit.ensures c.spelled_is_said.ensures c.shape.inside.flags.now c.args.bytes.now w.result.0
    w.result.1.now w.result.2 (length c.args.shape.now.flags) c.split_at.result.0.now
    (λ i. omega (arith, c.type_inv.bytes i)) (ap (λ (s : Shape). length s.flags) (sym c.shape.view_is))
    c.split_at.ensures.front w.ensures.count w.ensures.rest w.ensures.canonical

pub push_section-requires : goal.push_section-requires
push_section-requires c =
    let s = front_says (goal.at.push_section-requires c).After-spelled_is_said in
    record { fit = s.fit; count = s.many; canonical = s.packs }

pub returns-clause-added : goal.returns-clause-added
returns-clause-added c =
    let said = (front_says (goal.at.returns-clause-added c).After-spelled_is_said).said
    ∙ ap (λ (s : Shape). (changes_front s.flags c.args.bytes.now).items) c.shape.view_is in
    c.in_ok-push_section.ensures ∙ (λ i. c.args.sections.now ++ record {
      shape = c.args.shape.now;
      changes = said i;
    } ∷ [])
