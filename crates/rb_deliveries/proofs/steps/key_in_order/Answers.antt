use Rattle.std.proofs.Common.{◌∙◌, sym, subst, MatchOption}
use Rattle.rb_deliveries.specs.Taken.{IsKeyOf, NoSpanBegins, held_in, nth_list}
use Rattle.rb_deliveries.proofs.lists.WalkLaws.{walk_ends, walk_goes, walk_has}
use Rattle.rb_deliveries.proofs.lists.FindLaws.{NonePass, none_pass_more}
use Rattle.rb_deliveries.proofs.lists.OnceLaws.{all_there}
use Rattle.rb_deliveries.proofs.lists.StandLaws.{second_there}
use Rattle.rb_deliveries.proofs.lists.BeginLaws.{begins_there, begins_key, absent_begins}
use Rattle.rb_deliveries.proofs.steps.key_in_order.Goals as goal

pub returns-in_err-key : goal.returns-in_err-key
returns-in_err-key c =
    let lanes = c.args.records.now in
    let none = absent_begins lanes c.args.first
    (walk_ends (NonePass (begins_key lanes.slots c.args.first)) (nth_list 0 lanes.second) c.loop.counter c.loop.at
    c.loop.invariant c.in_err-key.was) in
    subst (λ r. MatchOption r (NoSpanBegins c.args.first (held_in lanes)) (IsKeyOf lanes c.args.first))
    (sym c.from_residual.ensures) none

pub loop-preserved : goal.loop-preserved
loop-preserved c =
    let lanes = c.args.records.now in
    let all = nth_list 0 lanes.second in
    let test = begins_key lanes.slots c.args.first in
    let key = c.in_ok-key.key in
    let some = all_there lanes c.valid.ensures c.requires.lists key
    (walk_has (NonePass test) all c.loop.counter c.loop.at key c.loop.invariant c.in_ok-key.was) in
    walk_goes (NonePass test) all c.loop.counter (NonePass test) lanes.second 0 c.loop.at c.next-at.result key
    (second_there lanes c.requires.lists) c.loop.invariant c.in_ok-key.was c.next-at.ensures
    (none_pass_more test key
    (sym (begins_there lanes.slots c.args.first key c.begins_at.result some c.begins_at.ensures)
    ∙ c.if-begins_at.false))
