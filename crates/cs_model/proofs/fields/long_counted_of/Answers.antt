use Rattle.std.proofs.Common.{List, ℕ, arith, sym, ap, ◌∙◌}
use Rattle.cs_model.proofs.packing.PackedLaws.{counted_two}
use Rattle.cs_model.proofs.spelling.VarintLemmas.{two_first}
use Rattle.cs_model.proofs.fields.long_counted_of.Goals as goal

pub returns-then-low-lt128 : goal.returns-then-low-lt128
returns-then-low-lt128 c =
    let bytes = c.args.bytes.now in
    let read = counted_two bytes _ _ _ _ (two_first bytes c.in-len2-up.len_at_least) c.if-high-ge128.true
    c.if-low-lt128.true (omega (arith, c.from.ensures, c.from-then-low-lt128.ensures)) in
    record {
      bytes = c.so_many.ensures.front ∙ sym (ap (λ (p : List ℕ × List ℕ). p.0) read);
      rest = c.so_many.ensures.rest ∙ sym (ap (λ (p : List ℕ × List ℕ). p.1) read);
    }
