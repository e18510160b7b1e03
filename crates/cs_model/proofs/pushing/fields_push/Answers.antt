use Rattle.std.proofs.Common.{◌≡◌, length, take}
use Rattle.std.proofs.lemmas.Grind.{common_steps}
use Rattle.std.proofs.Common.{arith}
use Rattle.cs_model.proofs.lists.Fronts.{front_of_more}
use Rattle.cs_model.proofs.pushing.fields_push.Goals as goal
use Rattle.cs_model.proofs.pushing.fields_push.Goals.{in-Ok, in-Err}

pub returns-then-is_err-clause-err : goal.returns-then-is_err-clause-err
returns-then-is_err-clause-err c =
    let old = c.args.out.now.items in
    let marked = c.extend_from_slice.new.self.items in
    let first = c.add_fields.new.out.items in
    let front : take (length old) c.match-add_fields.out.items ≡ old =
    elim c.match-add_fields.branch as (λ w. take (length old) c.match-add_fields.out.items ≡ old) [
      | in-Ok w ↦ rw w.out-is (front_of_more old marked _ _ c.in_ok-extend_from_slice.ensures.items
          (front_of_more marked first _ _ w.in-Ok.ensures.ok w.add_fields-pushed.ensures.adds))
      | in-Err w ↦ rw w.out-is
          (front_of_more old marked _ _ c.in_ok-extend_from_slice.ensures.items c.add_fields.ensures.adds)
    ] in
    grind (arith, common_steps, front)
