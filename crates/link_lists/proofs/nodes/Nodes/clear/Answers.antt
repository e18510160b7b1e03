use Rattle.std.proofs.Common.{◌≤◌, ◌∙◌, arith, sym}
use Rattle.std.proofs.lemmas.Simd.{splat_is_map}
use Rattle.slab.specs.Slab.{slab_len}
use Rattle.link_lists.specs.Nodes.{no_ends}
use Rattle.link_lists.proofs.NodeLemmas.{none_left}
use Rattle.link_lists.proofs.nodes.Nodes.clear.Goals as goal

pub returns : goal.returns
returns g c =
    let slab = c.self.inside.nodes in
    let first = c.self.inside.first in
    let second = c.self.inside.second in
    let within : slab_len slab ≤ slab.capacity =
    omega (arith, c.capacity-capacity.ensures.value, c.capacity-capacity.ensures.holds_all) in
    rw (← c.self.view_is)
    (none_left slab c.clear.new.self first.items second.items _ _ c.clear.ensures.empty c.clear.ensures.capacity within
    (c.fill.ensures.items (λ y is. is) ∙ splat_is_map first.items first.len no_ends (sym first.ok.0))
    (c.fill-2.ensures.items (λ y is. is) ∙ splat_is_map second.items second.len no_ends (sym second.ok.0)))
