use Rattle.std.proofs.Common.{ap, subst, sym}
use Rattle.std.specs.Option.{option_copied}
use Rattle.cs_parse.specs.Front.{Heads, HeadsTable}
use Rattle.cs_parse.proofs.grow.head_of.Goals as goal

pub returns-in-Some : goal.returns-in-Some
returns-in-Some c =
    let w = c.whole_changes in
    let e = w.ensures in
    let bytes = c.args.bytes.now in
    let heads : HeadsTable c.in-Some.flags.now bytes w.result.0 w.result.1.now w.result.2 w.result.3 =
    record { many = e.count; left = e.rest; own = e.canonical; reason = e.why } in
    subst (λ o. Heads o bytes w.result.0 w.result.1.now w.result.2 w.result.3) (ap option_copied (sym c.in-Some.is)) heads
