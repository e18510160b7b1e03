use Rattle.std.proofs.Common.{◌≡◌, ◌<◌, ◌*◌, ◌-◌, ◌+◌, ℕ, suc, List, ◌∷◌, get_or, subst, inl, inr, arith}
use Rattle.cs_parse.specs.Reading.{Reads, number_at}
use Rattle.cs_parse.specs.Place.{factor}
use Rattle.cs_parse.proofs.reading.Numbers.{turn_short, numbers_turn_ends, turn_bad, turn_goes, numbers_turn_last}
use Rattle.cs_parse.proofs.reading.Numbers.{shift_is, low_on}
use Rattle.cs_parse.proofs.number.number_of.Goals.{then-read-eq7, else-read-eq7}
use Rattle.cs_parse.proofs.number.number_of.Goals as goal

pub returns-in_default : goal.returns-in_default
returns-in_default c = turn_short c.args.least c.args.most c.args.kind (8 - c.loop-read.read) c.loop-read.high
    c.loop-read.rest.now (number_at c.args.least c.args.most c.args.kind 8 0 c.args.bytes.now)
    (c.in_default.ensures).cases c.loop-read.invariant.reads

pub returns-then-byte-lt128 : goal.returns-then-byte-lt128
returns-then-byte-lt128 c =
    subst (λ read. Reads (λ x. (x.0, x.1.now)) c.limited.result read)
    (numbers_turn_ends c.args.least c.args.most c.args.kind c.loop-read.read c.loop-read.high c.loop-read.rest.now
    c.in-Some.field-0-0.now c.from.result c.in-Some.after.now
    (number_at c.args.least c.args.most c.args.kind 8 0 c.args.bytes.now) c.loop-read-test.true
    c.in-Some.ensures.cases.0 c.if-byte-lt128.true c.from.ensures c.loop-read.invariant.reads)
    c.limited.ensures

-- the first of bytes that fit
first_fits : (bytes : List ℕ) (byte : ℕ) (rest : List ℕ) → bytes ≡ byte ∷ rest → ((i : ℕ) → get_or bytes i 0 < 256)
    → byte < 256
first_fits bytes byte rest e fits = subst (λ w. get_or w 0 0 < 256) e (fits 0)

number_of_rest_fits : (bytes : List ℕ) (byte : ℕ) (rest : List ℕ) → bytes ≡ byte ∷ rest
    → ((i : ℕ) → get_or bytes i 0 < 256) → (i : ℕ) → get_or rest i 0 < 256
number_of_rest_fits bytes byte rest e fits i = subst (λ w. get_or w (suc i) 0 < 256) e (fits (suc i))

pub overflow_add-high-in-loop-read : goal.overflow_add-high-in-loop-read
overflow_add-high-in-loop-read c =
    omega (
      arith,
      c.loop-read.invariant.low,
      c.requires,
      c.from-in-loop-read.ensures,
      first_fits c.loop-read.rest.now c.in-Some.field-0-0.now c.in-Some.after.now c.in-Some.ensures.cases.0
          c.loop-read.invariant.fits,
    )

pub overflow_mul-shift : goal.overflow_mul-shift
overflow_mul-shift c =
    let byte = first_fits c.loop-read.rest.now c.in-Some.field-0-0.now c.in-Some.after.now c.in-Some.ensures.cases.0
    c.loop-read.invariant.fits in
    elim c.if-read-eq7.branch [
      | then-read-eq7 w ↦ rw w.shift-is
          (omega (arith, c.loop-read.invariant.low, c.requires, c.from-in-loop-read.ensures, byte))
      | else-read-eq7 w ↦ rw w.shift-is
          (omega (arith, c.loop-read.invariant.low, c.requires, c.from-in-loop-read.ensures, byte))
    ]

pub returns-then-most-shift : goal.returns-then-most-shift
returns-then-most-shift c =
    let shift : c.if-read-eq7.shift ≡ factor (7 - c.loop-read.read) =
    shift_is c.loop-read.read c.if-read-eq7.shift c.loop-read-test.true (elim c.if-read-eq7.branch [
      | then-read-eq7 w ↦ inl (w.if-read-eq7.true, w.shift-is)
      | else-read-eq7 w ↦ inr (w.if-read-eq7.false, w.shift-is)
    ]) in
    turn_bad c.args.least c.args.most c.args.kind c.loop-read.read c.loop-read.high c.loop-read.rest.now
    c.in-Some.field-0-0.now c.from-in-loop-read.result c.if-read-eq7.shift c.in-Some.after.now
    (number_at c.args.least c.args.most c.args.kind 8 0 c.args.bytes.now) c.loop-read-test.true
    c.in-Some.ensures.cases.0 c.if-byte-lt128.false c.from-in-loop-read.ensures shift c.if-most-shift.true
    c.loop-read.invariant.reads

pub loop-read-preserved : goal.loop-read-preserved
loop-read-preserved c =
    let shift : c.if-read-eq7.shift ≡ factor (7 - c.loop-read.read) =
    shift_is c.loop-read.read c.if-read-eq7.shift c.loop-read-test.true (elim c.if-read-eq7.branch [
      | then-read-eq7 w ↦ inl (w.if-read-eq7.true, w.shift-is)
      | else-read-eq7 w ↦ inr (w.if-read-eq7.false, w.shift-is)
    ]) in
    record {
      fits = number_of_rest_fits c.loop-read.rest.now c.in-Some.field-0-0.now c.in-Some.after.now
          c.in-Some.ensures.cases.0 c.loop-read.invariant.fits;
      low = low_on c.if-read-eq7.shift (128 * c.loop-read.high + c.from-in-loop-read.result) c.args.most
          (7 - c.loop-read.read) shift c.if-most-shift.false;
      reads = turn_goes c.args.least c.args.most c.args.kind c.loop-read.read c.loop-read.high c.loop-read.rest.now
          c.in-Some.field-0-0.now c.from-in-loop-read.result c.if-read-eq7.shift c.in-Some.after.now
          (number_at c.args.least c.args.most c.args.kind 8 0 c.args.bytes.now) c.loop-read-test.true
          c.in-Some.ensures.cases.0 c.if-byte-lt128.false c.from-in-loop-read.ensures shift c.if-most-shift.false
          c.loop-read.invariant.reads;
    }

pub returns-in_default-split_first : goal.returns-in_default-split_first
returns-in_default-split_first c =
    turn_short c.args.least c.args.most c.args.kind (8 - c.loop-read.read) c.loop-read.high c.loop-read.rest.now
    (number_at c.args.least c.args.most c.args.kind 8 0 c.args.bytes.now) (c.in_default-split_first.ensures).cases
    c.loop-read.invariant.reads

pub overflow_add-high-2 : goal.overflow_add-high-2
overflow_add-high-2 c = omega (
  arith,
  c.loop-read.invariant.low,
  c.requires,
  c.from-2.ensures,
  first_fits c.loop-read.rest.now c.in-Some-split_first.field-0-0.now c.in-Some-split_first.after.now
      c.in-Some-split_first.ensures.cases.0 c.loop-read.invariant.fits,
)

pub returns : goal.returns
returns c =
    subst (λ read. Reads (λ x. (x.0, x.1.now)) c.limited-2.result read)
    (numbers_turn_last c.args.least c.args.most c.args.kind c.loop-read.read c.loop-read.high c.loop-read.rest.now
    c.in-Some-split_first.field-0-0.now c.from-2.result c.in-Some-split_first.after.now
    (number_at c.args.least c.args.most c.args.kind 8 0 c.args.bytes.now) c.loop-read-test.false
    c.in-Some-split_first.ensures.cases.0 c.from-2.ensures c.loop-read.invariant.reads)
    c.limited-2.ensures
