use Rattle.std.proofs.Common.{◌≡◌, ◌+◌, ◌∷◌, [], ◌++◌, length, sym, ap, ◌∙◌, subst, arith, Some, None}
use Rattle.std.specs.Prelude.{OnOk, IfErr}
use Rattle.std.proofs.lemmas.List.{length-append}
use Rattle.cs_model.specs.Schema.{refusal_of}
use Rattle.rb_sequence.specs.Entry.{Entry}
use Rattle.rb_subscriber.specs.AcceptShown.{IsFirstOutside, outside_after}
use Rattle.rb_sequence.specs.Cells.{AreInCells}
use Rattle.rb_subscriber.proofs.accepting.TokenLaws.{one_more_shown, outside_one}
use Rattle.rb_subscriber.proofs.look.look.Goals as goal

pub loop-past-preserved : goal.loop-past-preserved
loop-past-preserved c =
    let cells = c.args.sequence.now in
    let schema = c.args.schema.now in
    let inv = c.loop-past.invariant in
    let seen = c.loop-past.sight.tokens in
    let t = c.in-Some.told in
    let first = c.first-in-loop-past.ensures in
    let at : t.number ≡ c.first-in-loop-past.result + c.loop-past.past = c.in-Some.ensures.1 in
    let number : t.number ≡ c.args.delivery.now.first + length seen = omega (arith, at, first, inv.1) in
    let body = c.body-body.ensures.body ∙ ap (λ (e : Entry). e.item.body) c.get_told.ensures in
    let ok = subst (λ b. OnOk c.admits.result (refusal_of schema b ≡ None)) body c.admits.ensures.ok in
    let refused = subst (λ b. IfErr c.admits.result (λ fault. refusal_of schema b ≡ Some fault)) body
    c.admits.ensures.refused in
    let more : c.with-sight.result.tokens ≡ seen ++ t ∷ [] = c.with-sight.ensures in (
      subst (λ ts. AreInCells cells c.args.delivery.now.first ts) (sym more)
          (one_more_shown cells c.args.delivery.now.first seen t inv.0 c.in-Some.ensures.0 number),
      omega (arith, ap length more, length-append seen (t ∷ []), inv.1),
      subst (λ ts. IsFirstOutside schema ts c.after-outside.result) (sym more)
          (subst (IsFirstOutside schema (seen ++ t ∷ []))
          (sym (c.after-outside.ensures ∙ ap (λ b. outside_after c.loop-past.outside b (c.first-in-loop-past.result + c.loop-past.past)) c.is_err.ensures.value))
          (outside_one schema seen t c.loop-past.outside c.admits.result
          (c.first-in-loop-past.result + c.loop-past.past)
          (c.in-Some.ensures.0.numbered ∙ at) ok refused inv.2)),
    )
