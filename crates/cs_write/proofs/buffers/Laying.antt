-- Writing texts one after another is the same as writing the joined text.
use Rattle.std.proofs.Common.{◌≡◌, ℕ, ◌+◌, ◌≤◌, List, ◌++◌, length, take, drop, sym, ap, ◌∙◌, append_assoc}
use Rattle.std.proofs.Common.{arith}
use Rattle.std.proofs.lemmas.List.{length-append, length-take-le, take_at, drop_at, drop-drop}
use Rattle.std.proofs.lemmas.Grind.{common_steps}
use Rattle.cs_write.specs.Buffer.{laid}

pub laid_first : (text out : List ℕ) → laid 0 text out ≡ text ++ drop (length text) out
unfolding laid
laid_first text out = grind (arith, common_steps)

laid_more : (at : ℕ) (a b out : List ℕ) → at + length a ≤ length out → laid (at + length a) b (laid at a out)
    ≡ laid at (a ++ b) out
unfolding laid
laid_more at a b out room =
    let front = take at out in
    let n : ℕ = at + length a in
    let behind = drop n out in
    let all = front ++ (a ++ behind) in
    let parts : all ≡ (front ++ a) ++ behind = simp append_assoc in
    let long : length (front ++ a) ≡ n = length-append front a
    ∙ ap (λ k. k + length a) (length-take-le at out (omega (arith, room))) in
    let took : take n all ≡ front ++ a = ap (take n) parts ∙ take_at (front ++ a) behind n long in
    let left : drop n all ≡ behind = ap (drop n) parts ∙ drop_at (front ++ a) behind n long in
    let rest : drop (n + length b) all ≡ drop (at + length (a ++ b)) out = sym (drop-drop (length b) n all)
    ∙ ap (drop (length b)) left ∙ drop-drop (length b) n out
    ∙ ap (λ k. drop k out) (omega (arith, length-append a b)) in
    (λ i. took i ++ (b ++ rest i)) ∙ simp append_assoc

-- the same, of what two calls gave
pub two : (at next : ℕ) (a b out between after : List ℕ) → at + length a ≤ length out → next ≡ at + length a → between
    ≡ laid at a out → after ≡ laid next b between → after ≡ laid at (a ++ b) out
two at next a b out between after room is_next is_between is_after = is_after ∙ (λ i. laid (is_next i) b (is_between i))
    ∙ laid_more at a b out room
