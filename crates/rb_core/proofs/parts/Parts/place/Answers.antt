use Rattle.std.proofs.Common.{arith}
use Rattle.rb_core.proofs.whole_placings.Calls.{reset_after, seen_past, seen_there}
use Rattle.rb_core.proofs.parts.Parts.place.Goals as goal

pub returns-then-publisher-len : goal.returns-then-publisher-len
returns-then-publisher-len c =
    rw c.refused.ensures (seen_past c.args.publisher c.args.text.now c.self.view_is
    (omega (arith, c.len.ensures, c.if-publisher-len.true, c.self.inside.publishers.ok.0)))

pub whole_item-requires-clause-there : goal.whole_item-requires-clause-there
whole_item-requires-clause-there c =
    seen_there c.args.publisher c.self.view_is
    (omega (arith, c.len.ensures, c.if-publisher-len.false, c.self.inside.publishers.ok.0))

pub returns-in-Err-Refused : goal.returns-in-Err-Refused
returns-in-Err-Refused c =
    reset_after c.args.self.now c.args.publisher c.args.text.now c.in-Err-Refused.field-0 c.in-Err-Refused.why
    c.in-Err-Refused.ensures c.in-Err-Refused.field-0-is c.reset.ensures
