use Rattle.std.proofs.Common.{ℕ, List, ◌≡◌, ◌≤◌, ◌∙◌, map, get_or, None, sym, length, arith}
use Rattle.rb_deliveries.specs.Taken.{held_under, nth_list}
use Rattle.rb_deliveries.specs.Waiting as waiting
use Rattle.rb_deliveries.proofs.lists.ListedLaws.{if_some_held, out_some}
use Rattle.rb_deliveries.proofs.lists.WalkLaws.{walk_goes, walk_has, walk_over}
use Rattle.rb_deliveries.proofs.lists.StandLaws.{out_there}
use Rattle.rb_deliveries.proofs.lists.SoonLaws.{earliest_is, earliest_more}
use Rattle.rb_deliveries.proofs.records.earliest.Goals as goal

pub loop-preserved : goal.loop-preserved
loop-preserved c =
    let lanes = c.args.records.now in
    let out = nth_list 1 lanes.first in
    let key = c.in-Some.key in
    let P = λ (before : List ℕ). c.loop.first ≡ waiting.earliest (map (held_under lanes.slots) before) in
    let Q = λ (before : List ℕ). c.first_rank-first.result ≡ waiting.earliest (map (held_under lanes.slots) before) in
    let some = out_some lanes.slots (nth_list 0 lanes.first) out (nth_list 0 lanes.second) c.requires.0.listed key
    (walk_has P out c.loop.counter c.loop.at key c.loop.invariant c.in-Some.is) in
    let moment = if_some_held (λ h. c.moment_at.result ≡ waiting.moment_of h.span.status)
    (get_or lanes.slots key None) some c.moment_at.ensures in
    walk_goes P out c.loop.counter Q lanes.first 1 c.loop.at c.next-at.result key (out_there lanes c.requires.0)
    c.loop.invariant c.in-Some.is c.next-at.ensures (λ before so_far.
    c.first_rank-first.ensures ∙ (λ i. waiting.first_rank (so_far i) (moment i))
    ∙ sym (earliest_more lanes.slots before key))

pub returns : goal.returns
returns c =
    let lanes = c.args.records.now in
    let out = nth_list 1 lanes.first in
    let many : length out ≤ c.loop.counter = omega (arith, c.loop-test.false, c.requires.1) in
    walk_over (λ before. c.loop.first ≡ waiting.earliest (map (held_under lanes.slots) before)) out c.loop.counter
    c.loop.at c.loop.invariant many
    ∙ earliest_is lanes c.valid.ensures c.requires.0
