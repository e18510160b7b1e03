use Rattle.std.proofs.Common.{true, length, inl, inr, ◌≡◌, ◌-◌, ◌+◌, ◌⊎◌, sym, ap, ◌∙◌, arith}
use Rattle.cs_parse.specs.Front.{changes_front}
use Rattle.cs_parse.specs.Reading.{ends_section, change_at}
use Rattle.cs_parse.proofs.counting.Skims.{behind_value, behind_refused}
use Rattle.cs_parse.proofs.feeding.WholeLaws.{whole_changes_end, whole_changes_stop, whole_changes_go}
use Rattle.cs_parse.proofs.change.whole_changes.Goals.{else-loop-test, then-loop-test+then-is_over}
use Rattle.cs_parse.proofs.change.whole_changes.Goals as goal

pub returns-in-Err : goal.returns-in-Err
returns-in-Err c =
    let f =
    whole_changes_stop c.args.flags.now c.args.bytes.now c.loop.rest.now c.loop.count (length c.args.bytes.now)
    c.loop.counter c.loop.canonical c.in-Err.why (changes_front c.args.flags.now c.args.bytes.now) c.loop-test.true
    (sym c.is_over.ensures ∙ c.if-is_over.false)
    (behind_refused (change_at c.args.flags.now c.loop.rest.now) c.in-Err.why c.in-Err.ensures.read)
    c.loop.invariant.so_far in
    record { count = f.many; rest = f.behind; canonical = f.packs; why = f.reason }

pub loop-preserved : goal.loop-preserved
loop-preserved c =
    let after = c.in-Ok.skipped.0.now in
    let first = behind_value (change_at c.args.flags.now c.loop.rest.now) after c.in-Ok.ensures.read in
    let more = sym c.is_over.ensures ∙ c.if-is_over.false in
    record {
      each_one = ap (λ k. k + 1) c.loop.invariant.each_one;
      so_far = whole_changes_go c.args.flags.now c.args.bytes.now c.loop.rest.now after c.loop.count
          (length c.args.bytes.now) c.loop.counter c.loop.canonical c.both-canonical.result first.0
          (changes_front c.args.flags.now c.args.bytes.now) c.loop-test.true more first.1
          (λ is. c.both-canonical.ensures.first is)
          (λ is. c.in-Ok.ensures.canonical (c.both-canonical.ensures.second is) (first.0, after) first.1)
          c.loop.invariant.so_far;
    }

pub returns : goal.returns
returns c =
    let ended : (ends_section c.loop.rest.now ≡ true) ⊎ (length c.args.bytes.now - c.loop.counter ≡ 0) =
    elim c.loop-test.branch [
      | else-loop-test w ↦ inr (omega (arith, w.loop-test.false))
      | then-loop-test+then-is_over w ↦ inl (sym w.is_over.ensures ∙ w.if-is_over.true)
    ] in
    let f = whole_changes_end c.args.flags.now c.args.bytes.now c.loop.rest.now c.loop.count
    (length c.args.bytes.now) c.loop.counter c.loop.canonical (changes_front c.args.flags.now c.args.bytes.now) ended
    c.loop.invariant.so_far in
    record { count = f.many; rest = f.behind; canonical = f.packs; why = f.reason }
