use Rattle.std.proofs.Common.{◌≡◌, ◌∙◌, ◌++◌, drop, sym, ap, subst, length, arith}
use Rattle.std.proofs.Math.Seq.{drop-append_seam}
use Rattle.std.proofs.lemmas.Result.{on_ok_weaker}
use Rattle.cs_group.specs.Adding.{Knows}
use Rattle.cs_group.proofs.group.take_in.Goals as goal

pub returns-clause-knows : goal.returns-clause-knows
returns-clause-knows c = on_ok_weaker c.admit_all.result (λ ok. λ knows.
    let added = c.args.added.now.items in
    let held : c.len-held.result ≡ length added = omega (arith, c.len-held.ensures) in
    let more : c.split_at.result.1.now ≡ c.args.sections =
    c.split_at.ensures.back ∙ ap (drop c.len-held.result) (c.deref.ensures.value ∙ c.in_ok-push_all.ensures.ok)
    ∙ ap (λ n. drop n (added ++ c.args.sections)) held ∙ drop-append_seam added c.args.sections in
    subst (λ all. Knows all c.admit_all.new.tables.entries)
    (ap (λ ss. added ++ ss) more ∙ sym c.in_ok-push_all.ensures.ok) (ok added knows)) c.admit_all.ensures.ok
