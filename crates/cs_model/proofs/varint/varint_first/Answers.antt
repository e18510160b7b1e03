use Rattle.std.proofs.Common.{◌≡◌, ◌<◌, get_or, length, drop, [], arith}
use Rattle.std.proofs.lemmas.List.{drop_all}
use Rattle.cs_model.proofs.spelling.VarintLemmas.{turn_last, turn_ends, value_below}
use Rattle.cs_model.proofs.varint.varint_first.Goals as goal

pub returns-then-read-eq8-clause-reads : goal.returns-then-read-eq8-clause-reads
returns-then-read-eq8-clause-reads c =
    let s = c.loop-byte in
    let within : s.read < length c.args.bytes.now = omega arith in
    let turn = turn_last c.args.bytes.now s.value s.read c.if-read-eq8.true within in
    let same : c.from.result ≡ get_or c.args.bytes.now s.read 0 = cc in
    cc

pub overflow_mul-result-then-byte-lt128 : goal.overflow_mul-result-then-byte-lt128
overflow_mul-result-then-byte-lt128 c =
    omega (arith, value_below c.loop-byte.value c.loop-byte.read c.loop-byte.invariant.few c.loop-byte.invariant.below)

pub overflow_add-result-then-byte-lt128 : goal.overflow_add-result-then-byte-lt128
overflow_add-result-then-byte-lt128 c =
    omega (arith, value_below c.loop-byte.value c.loop-byte.read c.loop-byte.invariant.few c.loop-byte.invariant.below)

pub returns-then-byte-lt128-clause-reads : goal.returns-then-byte-lt128-clause-reads
returns-then-byte-lt128-clause-reads c =
    let s = c.loop-byte in
    let within : s.read < length c.args.bytes.now = omega arith in
    let same : c.from-then-byte-lt128.result ≡ get_or c.args.bytes.now s.read 0 = cc in
    let turn = turn_ends c.args.bytes.now s.value s.read (omega arith) within (omega arith) in
    cc

pub overflow_add-value : goal.overflow_add-value
overflow_add-value c = omega
    (arith, value_below c.loop-byte.value c.loop-byte.read c.loop-byte.invariant.few c.loop-byte.invariant.below)

pub returns-clause-reads : goal.returns-clause-reads
returns-clause-reads c =
    let s = c.loop-byte in
    let ended : drop s.read c.args.bytes.now ≡ [] = drop_all s.read c.args.bytes.now (omega arith) in
    (let reads = s.invariant.reads in rw ended at reads)
