use Rattle.std.proofs.Common.{arith}
use Rattle.changeset_c.proofs.reading.text_is_read_so.Goals as goal

pub returns : goal.returns
returns c = record {
  spelled = λ changeset s. (c.reading_is_spelling.ensures c.args.text.now changeset
      (λ i. omega (arith, c.type_inv.text i))).1 s;
  refused = λ fault t. (c.refusing_is_fault.ensures c.args.text.now fault
      (λ i. omega (arith, c.type_inv.text i))).1 t;
}
