use Rattle.std.proofs.Common.{ℕ, sym, ap, ◌∙◌}
use Rattle.rb_core.specs.State.{with_mark}
use Rattle.rb_core.proofs.invariants.Marks.{mark_end}
use Rattle.rb_core.proofs.withdrawing.add_mark.Goals as goal

pub returns-clause-ok : goal.returns-clause-ok
returns-clause-ok c =
    let filled = c.fill.new.marks.items in
    c.push_reserved.ensures.items ∙ sym (mark_end filled) ∙ ap (λ (k : ℕ). with_mark k filled) c.fill.ensures.len
    ∙ c.fill.ensures.same
    ∙ ap (with_mark c.args.place) c.reserve.ensures.items
