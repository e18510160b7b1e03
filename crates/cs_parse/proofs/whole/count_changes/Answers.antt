use Rattle.std.proofs.Common.{arith}
use Rattle.cs_parse.proofs.counting.CountLaws.{count_found, count_only, count_faulty, count_fault, count_bounded}
use Rattle.cs_parse.proofs.whole.count_changes.Goals as goal

pub returns-clause-found : goal.returns-clause-found
returns-clause-found c = count_found c.args.text.now c.counted.result (λ i. omega (arith, c.type_inv.text i))
    c.counted.ensures

pub returns-clause-only : goal.returns-clause-only
returns-clause-only c = count_only c.args.text.now c.counted.result c.counted.ensures

pub returns-clause-faulty : goal.returns-clause-faulty
returns-clause-faulty c = count_faulty c.args.text.now c.counted.result (λ i. omega (arith, c.type_inv.text i))
    c.counted.ensures

pub returns-clause-the_fault : goal.returns-clause-the_fault
returns-clause-the_fault c = count_fault c.args.text.now c.counted.result (λ i. omega (arith, c.type_inv.text i))
    c.counted.ensures

pub returns-clause-bounded : goal.returns-clause-bounded
returns-clause-bounded c = count_bounded c.args.text.now c.counted.result (λ i. omega (arith, c.type_inv.text i))
    c.counted.ensures
