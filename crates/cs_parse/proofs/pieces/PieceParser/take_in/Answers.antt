use Rattle.std.proofs.Common.{sym, ap, subst, ◌∙◌, ◌+◌, length, arith}
use Rattle.std.specs.Option.{option_copied}
use Rattle.cs_model.specs.Bytes.{AreBytes}
use Rattle.cs_parse.specs.Front.{KeepsSpot}
use Rattle.cs_parse.specs.Lack.{WaitsFor}
use Rattle.cs_parse.specs.Progress.{last_flags}
use Rattle.cs_parse.proofs.feeding.RestLaws.{out_short, out_grown}
use Rattle.cs_parse.proofs.feeding.WaitLaws.{waits_less, waits_now, keeps_start, paused, keeps_as}
use Rattle.cs_parse.proofs.pieces.PieceParser.take_in.Goals as goal

pub invariant_of-self-then-lacking-gt0 : goal.invariant_of-self-then-lacking-gt0
invariant_of-self-then-lacking-gt0 c =
    let text = c.extend.new.self in
    let w = c.still_waits-lacking in
    let header = w.result.1 in
    let lacks = subst (λ b. WaitsFor text.0 b header w.result.0) c.waiting.ensures
    (w.ensures.lacks text.0 (sym c.last_flags.ensures.flags)) in
    let least = c.min-self-inside.result in (
      omega (arith, c.min-self-inside.ensures, c.requires.within, ap (λ p. p.offset) c.self.view_is),
      keeps_as (option_copied c.last_flags.result) (last_flags text.0) c.waiting.result.now text.1 w.new.spot
          c.last_flags.ensures.flags c.waiting.ensures (w.ensures.spot c.if-lacking-gt0.true),
      paused c.self.inside.fault text.0 text.1 header least (ap (λ p. p.fault) c.self.view_is ∙ c.requires.none)
          (waits_less text.0 text.1 header w.result.0 least (omega (arith, c.min-self-inside.ensures)) lacks),
      out_short text.0 text.1 (waits_now text.0 text.1 header w.result.0 lacks c.if-lacking-gt0.true),
    )

pub invariant_of-self-in-Ok : goal.invariant_of-self-in-Ok
invariant_of-self-in-Ok c =
    let text = c.grow.new.text in
    let old = c.extend.new.self in
    let fits : AreBytes old.1 = subst (λ w. AreBytes w) c.waiting-2.ensures c.are_bytes.ensures in (
      omega (arith, c.requires.within, ap (λ p. p.offset) c.self.view_is),
      subst (λ spot. KeepsSpot (last_flags text.0) text.1 spot) (sym c.start-self-inside.ensures)
          (keeps_start (last_flags text.0) text.1),
      paused c.self.inside.fault text.0 text.1 c.self.inside.header 0
          (ap (λ p. p.fault) c.self.view_is ∙ c.requires.none) (λ more less none. absurd (omega (arith, less))),
      out_grown (c.self.inside.offset + length c.args.bytes.now) old text fits c.in-Ok.ensures,
    )
