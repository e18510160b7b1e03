use Rattle.std.proofs.Common.{◌≡◌, ◌∷◌, ◌∙◌, Some, slice_get, ap, refl, arith, sym}
use Rattle.std.proofs.lemmas.Option.{get_or_from_slice_get}
use Rattle.cs_model.specs.declared.field_ref.FieldRef.{FieldRef}
use Rattle.cs_model.specs.Seen.{field_seen, fields_seen}
use Rattle.cs_group.specs.Merge.{field_or}
use Rattle.cs_group.proofs.cut_down.InPlace.{none_done, set_done, cut_done, columns_all_done}
use Rattle.cs_group.proofs.cut_down.InPlace.{by_no_value, put_one, one_by, put_all, to_no_field}
use Rattle.cs_group.proofs.merge.put_values.Goals.{then-all, else-all}
use Rattle.cs_group.proofs.merge.put_values.Goals as goal

pub loop-i-init : goal.loop-i-init
loop-i-init c = none_done c.args.fields.now.items _ _ _
    (ap (λ vs. put_all c.args.all vs (fields_seen c.args.fields.now.items)) c.fields-values.ensures) refl

pub returns-in_default : goal.returns-in_default
returns-in_default c =
    ap fields_seen c.truncate.ensures.items
    ∙ cut_done c.loop-i.fields.items c.loop-i.i _ _ _ c.loop-i.invariant
    (λ back. ap (λ vs. put_all c.args.all vs back) c.in_default.ensures.steps.0 ∙ by_no_value c.args.all back)

pub loop-i-preserved : goal.loop-i-preserved
loop-i-preserved c =
    let items = c.loop-i.fields.items in
    let i = c.loop-i.i in
    let all = c.args.all in
    let value = c.in-Some.value in
    let made : (first : FieldRef) → slice_get items i ≡ Some first
    → put_one all (field_seen value) (field_seen first) ≡ field_seen c.if-all.field =
    λ first is. elim c.if-all.branch [
      | then-all w ↦
          ap (λ b. put_one b (field_seen value) (field_seen first)) w.if-all.true
          ∙ ap (λ f. field_or (field_seen value) (field_seen f))
          (sym (w.index.ensures ∙ get_or_from_slice_get items i first w.index.result.now is))
          ∙ sym w.field_or-field.ensures ∙ ap field_seen (sym w.field-is)
      | else-all w ↦
          ap (λ b. put_one b (field_seen value) (field_seen first)) w.if-all.false
          ∙ ap (λ f. field_or (field_seen f) (field_seen value))
          (sym (w.index-else-all.ensures ∙ get_or_from_slice_get items i first w.index-else-all.result.now is))
          ∙ sym w.field_or-field-else-all.ensures ∙ ap field_seen (sym w.field-is)
    ] in
    set_done items i (put_all all c.loop-i.values) (put_all all c.next.new.self) _ _ c.if-all.field
    c.loop-i.invariant (omega (arith, c.loop-i-test.true, c.len-i-end.ensures))
    (λ first others is. ap (λ vs. put_all all vs (field_seen first ∷ others)) c.in-Some.ensures.steps
    ∙ one_by all (field_seen value) (field_seen first) c.next.new.self others
    ∙ ap (λ f. f ∷ put_all all c.next.new.self others) (made first is))

pub returns : goal.returns
returns c = columns_all_done c.loop-i.fields.items c.loop-i.i _ _ _ c.loop-i.invariant
    (omega (arith, c.loop-i-test.false, c.len-i-end.ensures)) (to_no_field c.args.all c.loop-i.values)
