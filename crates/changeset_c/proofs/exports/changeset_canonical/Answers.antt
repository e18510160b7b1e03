use Rattle.std.proofs.Common.{to_z-of_z, arith}
use Rattle.cs_write.specs.Text.{text_of}
use Rattle.changeset_c.proofs.Laws.{written_for_c}
use Rattle.changeset_c.proofs.exports.changeset_canonical.Goals as goal

pub returns : goal.returns
returns c =
    let told = written_for_c text_of c.canonical.result c.args.out.now c.canonical.new.out c.args.text.now
    (grind (arith, to_z-of_z)) c.every_text.ensures c.type_inv.text c.canonical.ensures in
    record { says = told.0; only = told.1; the_fault = told.2 }
