use Rattle.std.proofs.Common.{ℕ, List, sym, ap, ◌∙◌}
use Rattle.cs_model.proofs.packing.PackedLaws.{counted_one}
use Rattle.cs_model.proofs.fields.counted_of.Goals as goal

pub returns-then-len-lt128 : goal.returns-then-len-lt128
returns-then-len-lt128 c =
    let read = counted_one c.args.bytes.now c.in-Some.field-0-0.now c.from.result c.in-Some.behind.now
    c.in-Some.ensures.cases.0 c.if-len-lt128.true c.from.ensures in
    record {
      bytes = c.so_many.ensures.front ∙ sym (ap (λ (p : List ℕ × List ℕ). p.0) read);
      rest = c.so_many.ensures.rest ∙ sym (ap (λ (p : List ℕ × List ℕ). p.1) read);
    }
