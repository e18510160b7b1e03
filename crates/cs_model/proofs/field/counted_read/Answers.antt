use Rattle.std.proofs.Common.{arith}
use Rattle.std.proofs.lemmas.List.{take_rest}
use Rattle.cs_model.proofs.spelling.FieldReads.{counted_none, field_counted_short, field_counted_long, counted_found, counted_only}
use Rattle.cs_model.proofs.field.counted_read.Goals as goal

pub returns-in_err-count-clause-only : goal.returns-in_err-count-clause-only
returns-in_err-count-clause-only c = λ text len few within s.
    absurd (counted_none c.args.bytes.now text len c.in_err-count.ensures.only within s)

pub returns-then-count-gt-MOST_BYTES-clause-only : goal.returns-then-count-gt-MOST_BYTES-clause-only
returns-then-count-gt-MOST_BYTES-clause-only c = λ text len few within s.
    absurd (field_counted_long c.args.bytes.now text len _ _ _ c.in_ok-count.ensures.only (omega arith) few within s)

pub returns-then-rest-count-clause-only : goal.returns-then-rest-count-clause-only
returns-then-rest-count-clause-only c = λ text len few within s.
    let bytes = c.args.bytes.now in
    absurd (field_counted_short bytes _ text len _ _ c.in_ok-count.ensures.only (take_rest bytes c.in_ok-count.read)
    (omega arith) within s)

pub returns-clause-found : goal.returns-clause-found
returns-clause-found c =
    let bytes = c.args.bytes.now in
    let found = c.in_ok-count.ensures.found in
    counted_found bytes _ _ _ found.0 found.1 (take_rest bytes c.in_ok-count.read) (omega arith)

pub returns-clause-only : goal.returns-clause-only
returns-clause-only c = λ text len few within s.
    let bytes = c.args.bytes.now in
    counted_only bytes _ text len _ _ c.in_ok-count.ensures.only (take_rest bytes c.in_ok-count.read) within s
