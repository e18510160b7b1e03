use Rattle.std.proofs.Common.{◌==◌, sym, subst, ◌∙◌}
use Rattle.std.specs.Prelude.{IfSome}
use Rattle.rb_core.specs.State.{IsOf}
use Rattle.rb_core.proofs.invariants.Written.{find_all}
use Rattle.rb_core.proofs.parts.Parts.known.Goals as goal

pub returns-clause-of : goal.returns-clause-of
returns-clause-of c =
    let found = c.copied.ensures ∙ c.delivery.ensures in
    subst (λ o. IfSome o (IsOf c.args.self.now.endpoints c.args.self.now.sequence)) (sym found)
    (find_all (IsOf c.args.self.now.endpoints c.args.self.now.sequence) (λ x. x.number == c.args.number)
    c.args.self.now.deliveries c.requires.are_of)
