use Rattle.cs_model.proofs.packing.PackedChangeLaws.{changes_none, changes_short, changes_first, packed_change_begins_change}
use Rattle.cs_model.proofs.packing.PackedChangeLaws.{rest_packs}
use Rattle.cs_model.proofs.change_ref.first_of.Goals as goal

pub returns-in_default-clause-first : goal.returns-in_default-clause-first
returns-in_default-clause-first c = changes_none c.args.columns c.args.bytes.now (c.in_default.ensures).cases

pub returns-in_default-split_first-clause-first : goal.returns-in_default-split_first-clause-first
returns-in_default-split_first-clause-first c =
    changes_short c.args.columns c.args.bytes.now c.in-Some.field-0-0.now c.in-Some.marked.now c.in-Some.ensures.cases.0
    (c.in_default-split_first.ensures).cases

pub returns-clause-first : goal.returns-clause-first
returns-clause-first c =
    changes_first c.args.columns c.args.bytes.now c.in-Some.marked.now c.in-Some.field-0-0.now
    c.in-Some-split_first.field-0-0.now c.in-Some-split_first.rest.now _ c.records_of.result.1.now
    c.in-Some.ensures.cases.0 c.in-Some-split_first.ensures.cases.0
    (rw c.op_of.ensures at c.records_of.ensures.change) (rw c.op_of.ensures at c.records_of.ensures.rest)

pub records_of-requires : goal.records_of-requires
records_of-requires c = packed_change_begins_change c.args.columns c.args.bytes.now c.in-Some.marked.now
    c.in-Some-split_first.rest.now c.in-Some.field-0-0.now c.in-Some-split_first.field-0-0.now c.op_of.result c.requires
    c.in-Some.ensures.cases.0 c.in-Some-split_first.ensures.cases.0 c.op_of.ensures

pub returns-clause-rest : goal.returns-clause-rest
returns-clause-rest c = rest_packs c.args.columns c.args.bytes.now c.in-Some.marked.now c.in-Some-split_first.rest.now
    c.in-Some.field-0-0.now c.in-Some-split_first.field-0-0.now c.op_of.result _ c.records_of.result.1.now c.requires
    c.in-Some.ensures.cases.0 c.in-Some-split_first.ensures.cases.0 c.op_of.ensures c.records_of.ensures.rest
