use Rattle.std.proofs.Common.{◌≡◌, ◌∙◌, ap, arith, length, sym}
use Rattle.rb_deliveries.specs.Taken.{nth_list}
use Rattle.rb_deliveries.proofs.lists.KeyLaws.{keys_but}
use Rattle.rb_deliveries.proofs.lists.StandLaws.{out_stand, standing, step_unlinked}
use Rattle.rb_deliveries.proofs.lists.OnceLaws.{fewer_out, same_many}
use Rattle.rb_deliveries.proofs.steps.without.Goals as goal

pub returns-then-is_out-clause-flying : goal.returns-then-is_out-clause-flying
returns-then-is_out-clause-flying c =
    let lanes = c.args.records.now in
    let fewer = fewer_out lanes c.requires.lists.0 c.args.key c.requires.there
    (sym c.is_out_at-is_out.ensures ∙ c.if-is_out.true) in
    let left : length (nth_list 1 c.unlink.new.self.first) ≡ length (keys_but c.args.key (nth_list 1 lanes.first)) =
    ap length (out_stand (step_unlinked (standing lanes c.requires.lists.0) c.args.key c.unlink.ensures)) in
    omega (arith, fewer, left, c.requires.lists.1)

pub returns-else-is_out-clause-flying : goal.returns-else-is_out-clause-flying
returns-else-is_out-clause-flying c =
    let lanes = c.args.records.now in
    c.requires.lists.1
    ∙ same_many lanes c.requires.lists.0 c.args.key c.requires.there
    (sym c.is_out_at-is_out.ensures ∙ c.if-is_out.false)
    ∙ sym (ap length (out_stand (step_unlinked (standing lanes c.requires.lists.0) c.args.key c.unlink.ensures)))
