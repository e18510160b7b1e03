use Rattle.std.proofs.Common.{◌≡◌, ◌≤◌, ◌+◌, ◌++◌, length, [], ◌∷◌, ◌∙◌, drop, arith}
use Rattle.std.proofs.lemmas.Grind.{common_steps}
use Rattle.cs_write.specs.Buffer.{given}
use Rattle.cs_write.proofs.buffers.Laying.{two, laid_first}
use Rattle.broker_c.proofs.messages.put_ended.Goals as goal

pub returns : goal.returns
returns c =
    let words = c.args.words.now in
    let out = c.args.out.now in
    let text = words ++ 0 ∷ [] in
    let asked = c.requires in
    let room : 0 + length words ≤ length out = grind (arith, common_steps) in
    let rest : text ++ drop (length text) out ≡ given text out = grind (arith, common_steps, asked) in
    two 0 c.put_bytes-end.result words (0 ∷ []) out c.put_bytes-end.new.out c.put_bytes.new.out room
    c.put_bytes-end.ensures.end c.put_bytes-end.ensures.bytes c.put_bytes.ensures.bytes ∙ (laid_first text out ∙ rest)
