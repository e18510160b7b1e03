use Rattle.std.specs.Prelude.{ℕ, ◌≤◌, ◌-◌, ◌/◌, ◌%◌}
use Rattle.std.proofs.Common.{arith, sym, subst, ◌∙◌}
use Rattle.std.proofs.Math.Nat.{div-add-mod, mod-lt}
use Rattle.rb_sequence.specs.Segments.{IsLocated}
use Rattle.rb_sequence.proofs.laws.one_number_is_one_cell.Goals as goal

-- each number from 1 stands somewhere
located : (n : ℕ) → 1 ≤ n → IsLocated n ((n - 1) / 65536) ((n - 1) % 65536)
located n some = (mod-lt (n - 1) (omega arith), omega (arith, some, div-add-mod (n - 1) 65536))

pub returns : goal.returns
returns c = λ cells token other one two numbers.
    let k = (token.number - 1) / 65536 in
    let j = (token.number - 1) % 65536 in
    let at = located token.number one.has.0 in (
      numbers,
      one.segment k j at ∙ sym (two.segment k j (subst (λ (n : ℕ). IsLocated n k j) numbers at)),
    )
