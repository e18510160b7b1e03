use Rattle.std.proofs.Common.{ℕ, Option, ap, sym, ◌∙◌}
use Rattle.link_lists.specs.Nodes.{on_lane, link_set, with_ends}
use Rattle.link_lists.specs.Linking.{beside_set}
use Rattle.link_lists.proofs.LinkingLemmas.{link_written, ends_written}
use Rattle.link_lists.proofs.nodes.Nodes.set_beside.Goals as goal

pub returns-in-Some : goal.returns-in-Some
returns-in-Some g c =
    let a = c.args in
    c.set_link.ensures
    ∙ ap (λ link. on_lane a.lane (link_set c.in-Some.key link) a.self.now) c.beside-link.ensures
    ∙ link_written a.lane a.self.now a.list a.side c.in-Some.key a.other c.link.result c.link.ensures
    ∙ ap (λ (k : Option ℕ). on_lane a.lane (beside_set a.side a.list k a.other) a.self.now) (sym c.in-Some.is)

pub returns-in-None : goal.returns-in-None
returns-in-None g c =
    let a = c.args in
    c.set_ends.ensures
    ∙ ap (λ ends. on_lane a.lane (with_ends a.list ends) a.self.now) c.beside-ends.ensures
    ∙ ends_written a.lane a.self.now a.list a.side a.other c.ends.result c.ends.ensures
    ∙ ap (λ (k : Option ℕ). on_lane a.lane (beside_set a.side a.list k a.other) a.self.now) (sym c.in-None.is)
