use Rattle.std.proofs.Common.{◌≡◌, pos, w64, to_z, of_z, to_z-of_z, sym, subst, arith}
use Rattle.cs_parse.specs.Count.{changes_in}
use Rattle.changeset_c.specs.Says.{IsFaultAt}
use Rattle.changeset_c.proofs.Laws.{check_only, check_fault}
use Rattle.changeset_c.proofs.exports.changeset_check.Goals as goal

pub returns-clause-only : goal.returns-clause-only
returns-clause-only c =
    let same : to_z w64 (of_z w64 c.check.result) ≡ c.check.result = grind (arith, to_z-of_z) in
    λ changeset s. subst (λ answer. answer ≡ pos (changes_in changeset)) (sym same)
    (check_only c.check.result c.check.new.fault_at c.check.new.fault_kind c.args.text.now
    (c.every_text.ensures c.args.text.now (λ i. omega (arith, c.type_inv.text i))) c.check.ensures.says changeset s)

pub returns-clause-the_fault : goal.returns-clause-the_fault
returns-clause-the_fault c =
    let same : to_z w64 (of_z w64 c.check.result) ≡ c.check.result = grind (arith, to_z-of_z) in
    λ fault h. subst (λ answer. IsFaultAt answer c.check.new.fault_at c.check.new.fault_kind fault) (sym same)
    (check_fault c.check.result c.check.new.fault_at c.check.new.fault_kind c.args.text.now
    (c.every_text.ensures c.args.text.now (λ i. omega (arith, c.type_inv.text i))) c.check.ensures.says fault h)
