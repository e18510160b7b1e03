use Rattle.std.proofs.Common.{◌∙◌, ap, length, sym}
use Rattle.link_lists.specs.Lanes.{Lanes}
use Rattle.rb_deliveries.specs.declared.rank.Held.{Held}
use Rattle.rb_deliveries.specs.Taken.{held_in, nth_list}
use Rattle.rb_deliveries.proofs.lists.MoveLaws.{free_first, free_second, left_held, left_records, left_same}
use Rattle.rb_deliveries.proofs.lists.RestateLaws.{begins_one, without_absent, without_keys}
use Rattle.rb_deliveries.proofs.steps.remove.Goals as goal

pub returns-in_default-clause-spans : goal.returns-in_default-clause-spans
returns-in_default-clause-spans c =
    sym (without_absent c.args.first (held_in c.args.records.now) c.in_default.ensures)

pub remove-held-requires-clause-free_first : goal.remove-held-requires-clause-free_first
remove-held-requires-clause-free_first c =
    free_first c.args.records.now c.without-rest.new.records c.unlink.new.self c.in-Some.key c.without-rest.ensures.lane
    c.unlink.ensures

pub remove-held-requires-clause-free_second : goal.remove-held-requires-clause-free_second
remove-held-requires-clause-free_second c =
    free_second c.args.records.now c.without-rest.new.records c.unlink.new.self c.in-Some.key
    c.without-rest.ensures.lane c.unlink.ensures

pub returns-clause-lists : goal.returns-clause-lists
returns-clause-lists c =
    let left = c.remove-held.ensures in (
      left_records c.args.records.now c.without-rest.new.records c.unlink.new.self c.remove-held.new.self c.in-Some.key
          c.requires.lists.0 c.without-rest.ensures.lane c.unlink.ensures left.rest left.slots,
      c.without-rest.ensures.flying
          ∙ sym (ap (λ (l : Lanes Held). length (nth_list 1 l.first)) left.rest
          ∙ ap (λ (l : Lanes Held). length (nth_list 1 l.first)) c.unlink.ensures),
    )

pub returns-clause-spans : goal.returns-clause-spans
returns-clause-spans c =
    let lanes = c.args.records.now in
    let new = c.remove-held.new.self in
    let left = c.remove-held.ensures in
    left_held lanes c.without-rest.new.records c.unlink.new.self new c.in-Some.key c.requires.lists.0
    c.without-rest.ensures.lane c.unlink.ensures left.rest left.slots
    ∙ without_keys lanes.slots new.slots c.args.first c.in-Some.key (nth_list 0 lanes.second)
    (begins_one lanes c.args.first c.in-Some.key c.in-Some.ensures c.requires.rising)
    (left_same lanes c.without-rest.new.records c.unlink.new.self new c.in-Some.key c.requires.lists.0
    c.without-rest.ensures.lane c.unlink.ensures left.rest left.slots)
