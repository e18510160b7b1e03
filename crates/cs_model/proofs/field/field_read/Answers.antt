use Rattle.std.proofs.Common.{arith, rules}
use Rattle.cs_model.specs.declared.value.Value.TheVariants.{Null}
use Rattle.cs_model.specs.declared.value.Field.TheVariants.{Undefined, Is}
use Rattle.cs_model.proofs.packing.PackedLaws.{none_back, null_back}
use Rattle.cs_model.proofs.spelling.FieldReads.{only_typed, only_text, only_blob, integer_typed, same_field_number}
use Rattle.cs_model.proofs.spelling.FieldReads.{found_integer, no_field_read, no_counted_field}
use Rattle.cs_model.proofs.field.field_read.Goals as goal

pub returns-in_err-number-in-1-clause-only : goal.returns-in_err-number-in-1-clause-only
returns-in_err-number-in-1-clause-only c = λ field len valid within spells.
    let first = c.in_ok-kind in
    absurd (no_field_read c.args.bytes.now first.rest.now _ len field first.ensures.cases.0 (λ is. omega arith)
    (λ is. c.in_err-number-in-1.ensures.cases) (λ low high. absurd (omega arith)) (λ is. omega arith) valid within spells)

pub returns-in_err-text-in-3-clause-only : goal.returns-in_err-text-in-3-clause-only
returns-in_err-text-in-3-clause-only c = λ field len valid within spells.
    absurd (no_counted_field c.args.bytes.now c.in_ok-kind.rest.now _ len field c.in_ok-kind.ensures.cases.0
    (omega arith) (omega arith) (λ text n few inside s. cc (c.in_err-text-in-3.ensures.only text n few inside s))
    valid within spells)

pub returns-in_err-blob-in-4-clause-only : goal.returns-in_err-blob-in-4-clause-only
returns-in_err-blob-in-4-clause-only c = λ field len valid within spells.
    absurd (no_counted_field c.args.bytes.now c.in_ok-kind.rest.now _ len field c.in_ok-kind.ensures.cases.0
    (omega arith) (omega arith) (λ text n few inside s. cc (c.in_err-blob-in-4.ensures.only text n few inside s))
    valid within spells)

pub returns-in_default-clause-only : goal.returns-in_default-clause-only
returns-in_default-clause-only c = λ field len valid within spells.
    let first = c.in_ok-kind in
    absurd (no_field_read c.args.bytes.now first.rest.now _ len field first.ensures.cases.0 (λ is. omega arith)
    (λ is. absurd (omega arith)) (λ low high. absurd (omega arith)) (λ is. omega arith) valid within spells)

pub returns-in-0-clause-only : goal.returns-in-0-clause-only
returns-in-0-clause-only c =
    let first = c.in_ok-kind in
    only_typed c.args.bytes.now first.rest.now _ 0 0 Undefined first.ensures.cases.0 c.in-0.is (omega arith)
    (none_back first.rest.now)

pub returns-in-5-clause-only : goal.returns-in-5-clause-only
returns-in-5-clause-only c =
    let first = c.in_ok-kind in
    only_typed c.args.bytes.now first.rest.now _ 5 0 (Is Null) first.ensures.cases.0 c.in-5.is (omega arith)
    (null_back first.rest.now)

pub returns-in_ok-text-in-3-clause-only : goal.returns-in_ok-text-in-3-clause-only
returns-in_ok-text-in-3-clause-only c =
    only_text c.args.bytes.now c.in_ok-kind.rest.now _ _ _ c.in_ok-kind.ensures.cases.0 c.in-3.is
    c.in_ok-text-in-3.ensures.found

pub returns-in_ok-blob-in-4-clause-only : goal.returns-in_ok-blob-in-4-clause-only
returns-in_ok-blob-in-4-clause-only c =
    only_blob c.args.bytes.now c.in_ok-kind.rest.now _ _ _ c.in_ok-kind.ensures.cases.0 c.in-4.is
    c.in_ok-blob-in-4.ensures.found

pub returns-in_ok-number-in-1-clause-found : goal.returns-in_ok-number-in-1-clause-found
returns-in_ok-number-in-1-clause-found c =
    let first = c.in_ok-kind in
    let chunk = c.in_ok-number-in-1.ensures.cases in
    found_integer c.args.bytes.now first.rest.now _ _ first.ensures.cases.0 c.in-1.is chunk.enough
    (λ i. omega (arith, c.type_inv.bytes i))
    (same_field_number c.from_be_bytes.result _ first.rest.now (search rules) c.from_be_bytes.ensures chunk.same)

pub returns-in_ok-number-in-1-clause-only : goal.returns-in_ok-number-in-1-clause-only
returns-in_ok-number-in-1-clause-only c =
    let first = c.in_ok-kind in
    let chunk = c.in_ok-number-in-1.ensures.cases in
    only_typed c.args.bytes.now first.rest.now _ 1 8 _ first.ensures.cases.0 c.in-1.is chunk.enough
    (integer_typed first.rest.now _ chunk.enough
    (same_field_number c.from_be_bytes.result _ first.rest.now (search rules) c.from_be_bytes.ensures chunk.same))
