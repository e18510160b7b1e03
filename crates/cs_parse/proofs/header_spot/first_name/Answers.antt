use Rattle.cs_parse.proofs.feeding.NameLaws.{shape_none, before_short, name_shorter, name_begins, begins_short}
use Rattle.cs_parse.proofs.header_spot.first_name.Goals as goal

pub returns-in_default : goal.returns-in_default
returns-in_default c = begins_short c.args.bytes.now (shape_none c.args.bytes.now c.in_default.ensures.cases)

pub overflow_sub-bytes : goal.overflow_sub-bytes
overflow_sub-bytes c = name_shorter c.args.bytes.now c.in-Some.field-0-0.now c.in-Some.rest.now c.in-Ok.field-0-0.now
    c.in-Ok.name.now c.in-Some.ensures.cases.0 c.in-Ok.ensures

pub name_spot-requires : goal.name_spot-requires
name_spot-requires c = name_begins c.args.bytes.now c.in-Some.field-0-0.now c.in-Some.rest.now c.in-Ok.field-0-0.now
    c.in-Ok.name.now c.in-Some.ensures.cases.0 c.if-byte-ne84.false c.in-Ok.ensures

pub returns-in-Err-Short : goal.returns-in-Err-Short
returns-in-Err-Short c = begins_short c.args.bytes.now
    (before_short c.args.bytes.now c.in-Some.field-0-0.now c.in-Some.rest.now c.in-Err-Short.field-0
    c.in-Some.ensures.cases.0 c.if-byte-ne84.false c.in-Err-Short.ensures c.in-Err-Short.field-0-is)
