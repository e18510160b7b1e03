use Rattle.std.proofs.Common.{ap, sym, subst, ◌∙◌, arith}
use Rattle.cs_parse.specs.Front.{Heads, fault_by}
use Rattle.cs_parse.proofs.feeding.Unread.{unread_brings, unread_wrong, unread_right}
use Rattle.cs_parse.proofs.grow.unread.Goals as goal

pub returns-in-Some : goal.returns-in-Some
returns-in-Some c = λ others same.
    let w = c.head_of-stopped.result in
    unread_wrong others c.args.bytes.now _ c.args.taken c.in-Some.fault
    (ap (λ o. fault_by c.args.taken o) (sym c.end_of.ensures) ∙ (sym c.wrong_in.ensures ∙ c.in-Some.is))
    (unread_brings c.changes_fit.ensures c.spelled_is_said.ensures others c.args.bytes.now w.0 w.1.now w.2 w.3
    (λ i. omega (arith, c.type_inv.bytes i))
    (subst (λ o. Heads o c.args.bytes.now w.0 w.1.now w.2 w.3) (sym same) c.head_of-stopped.ensures))

pub returns-in-None : goal.returns-in-None
returns-in-None c = λ others same.
    let w = c.head_of-stopped.result in
    unread_right others c.args.bytes.now _ c.args.taken
    (ap (λ o. fault_by c.args.taken o) (sym c.end_of.ensures) ∙ (sym c.wrong_in.ensures ∙ c.in-None.is))
    (unread_brings c.changes_fit.ensures c.spelled_is_said.ensures others c.args.bytes.now w.0 w.1.now w.2 w.3
    (λ i. omega (arith, c.type_inv.bytes i))
    (subst (λ o. Heads o c.args.bytes.now w.0 w.1.now w.2 w.3) (sym same) c.head_of-stopped.ensures))
