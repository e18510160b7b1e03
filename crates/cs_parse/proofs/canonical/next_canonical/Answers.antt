use Rattle.std.proofs.Common.{◌≡◌, ◌++◌, List, Option, Some, None, false, length, drop, append_assoc, refl, ap, subst, sym, ◌∙◌, arith}
use Rattle.std.specs.Prelude.{is_some}
use Rattle.cs_model.specs.Bytes.{AreBytes}
use Rattle.cs_model.specs.declared.shape.Shape.{Shape}
use Rattle.cs_model.specs.PackedChanges.{unpacked_changes}
use Rattle.cs_model.specs.SectionText.{header_text}
use Rattle.cs_parse.specs.Front.{NextSection, changes_front}
use Rattle.cs_parse.proofs.counting.Fronts.{Says, behind_cut, says}
use Rattle.cs_parse.proofs.feeding.FrontLaws.{changes_spelled}
use Rattle.cs_parse.proofs.feeding.SectionFronts.{behind_shape_fits, next_read}
use Rattle.cs_parse.proofs.canonical.next_canonical.Goals as goal
use Rattle.cs_parse.proofs.canonical.next_canonical.Goals.{After-spelled_is_said}

behind_fits : (c : After-spelled_is_said) → AreBytes c.in-Ok.behind.now
behind_fits c = behind_shape_fits c.args.bytes.now c.in-Ok.behind.now c.in-Ok.shape (λ i. omega (arith, c.type_inv.bytes i)) c.in-Ok.ensures

none_of : {X : Type 0} (o : Option X) → is_some o ≡ false → o ≡ None
none_of None is = refl
none_of (Some x) is = absurd cc

-- what the changes' bytes say
whole_says : (c : After-spelled_is_said) → Says c.shape.inside.flags.now c.in-Ok.behind.now
    c.whole_changes-count.result.0 c.whole_changes-count.result.1.now c.whole_changes-count.result.2
    (length c.in-Ok.shape.flags) c.split_at-2.result.0.now
whole_says c =
    let w = c.whole_changes-count in
    says c.changes_fit.ensures c.spelled_is_said.ensures c.shape.inside.flags.now c.in-Ok.behind.now w.result.0
    w.result.1.now w.result.2 (length c.in-Ok.shape.flags) c.split_at-2.result.0.now (behind_fits c)
    (ap (λ (s : Shape). length s.flags) (sym c.shape.view_is)) c.split_at-2.ensures.front w.ensures.count
    w.ensures.rest w.ensures.canonical

-- what is left behind the section
rest_of_section : (c : After-spelled_is_said) → drop (length c.split_at.result.0.now) c.args.bytes.now
    ≡ c.whole_changes-count.result.1.now
rest_of_section c =
    let w = c.whole_changes-count in
    let header = header_text c.in-Ok.shape in
    let t = changes_spelled c.shape.inside.flags.now c.in-Ok.behind.now (behind_fits c) in
    let parts : c.args.bytes.now ≡ (header ++ t.text) ++ w.result.1.now =
    c.has_canonical_header.ensures (c.both.ensures.second c.if-not-both.false)
    ∙ ap (λ b. header ++ b) (t.parts ∙ ap (λ b. t.text ++ b) (sym w.ensures.rest))
    ∙ sym (append_assoc header t.text w.result.1.now) in
    behind_cut c.args.bytes.now (header ++ t.text) c.split_at.result.0.now w.result.1.now parts
    c.split_at.ensures.front

pub push-requires-clause-canonical : goal.push-requires-clause-canonical
push-requires-clause-canonical c =
    (whole_says (goal.at.push-requires-clause-canonical c).After-spelled_is_said).packs (c.both.ensures.first c.if-not-both.false)

pub push-requires-clause-count : goal.push-requires-clause-count
push-requires-clause-count c = (whole_says (goal.at.push-requires-clause-count c).After-spelled_is_said).many

pub returns : goal.returns
returns c =
    let d = (goal.at.returns c).After-spelled_is_said in
    let told = c.whole_changes-count.ensures in
    let behind = c.in-Ok.behind.now in
    let same : c.push.new.self.1 ≡ c.whole_changes-count.result.1.now = ap (λ x. x.1) c.in_ok-push.ensures.ok
    ∙ ap (drop (length c.split_at.result.0.now)) (sym c.requires) ∙ rest_of_section d in
    subst (λ (w : List _). NextSection c.args.front.now.0 c.push.new.self.0 w c.push.new.self.1 None) c.requires
    (next_read c.args.front.now.0 c.push.new.self.0 c.args.bytes.now behind c.push.new.self.1 c.in-Ok.shape
    (unpacked_changes (length c.in-Ok.shape.flags) c.split_at-2.result.0.now) None
    (λ i. omega (arith, c.type_inv.bytes i)) c.in-Ok.ensures
    ((whole_says d).said ∙ ap (λ (s : Shape). (changes_front s.flags behind).items) c.shape.view_is)
    (same ∙ told.rest ∙ ap (λ (s : Shape). (changes_front s.flags behind).rest) c.shape.view_is)
    (sym (none_of c.whole_changes-count.result.3 (sym c.is_some.ensures ∙ c.if-is_some.false)) ∙ told.why
    ∙ ap (λ (s : Shape). (changes_front s.flags behind).why) c.shape.view_is) (ap (λ x. x.0) c.in_ok-push.ensures.ok))
