use Rattle.std.proofs.Common.{◌≡◌, ◌≤◌, ◌++◌, length, drop}
use Rattle.cs_model.specs.Varint.{varint}
use Rattle.cs_model.proofs.spelling.VarintLemmas.{unfilled}
use Rattle.cs_model.proofs.varint.varint_of.Given as goal

abbrev pub invariant-loop-start : goal.invariant-loop-start
invariant-loop-start l = record {
  nine : length l.text ≡ 9;
  within : l.start ≤ 8;
  filled : unfilled l.whole l.start l.rest ++ drop l.start l.text ≡ varint l.value;
}

-- proposed from the loop's first test
abbrev pub decreases-loop-start : goal.decreases-loop-start
decreases-loop-start l = l.start
