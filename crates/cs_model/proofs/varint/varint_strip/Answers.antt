use Rattle.std.proofs.Common.{◌≡◌, ℕ, List, ◌-◌, ◌++◌, IfSome, take, drop, length, ap, subst, ◌∙◌, sym, rules}
use Rattle.std.proofs.lemmas.List.{take_rest}
use Rattle.cs_model.specs.Varint.{varint}
use Rattle.cs_model.proofs.spelling.VarintLemmas.{only_strip, stripped}
use Rattle.cs_model.proofs.varint.varint_strip.Goals as goal

-- the end of nine bytes, as it is sliced
end_of : (text end : List ℕ) (start : ℕ) → length text ≡ 9 → drop start text ≡ end → take (9 - start) (drop start text) ≡ end
end_of text end start nine is = ap (λ (n : ℕ). take (n - start) (drop start text)) (sym nine)
    ∙ (take_rest text start ∙ is)

pub returns-clause-found : goal.returns-clause-found
returns-clause-found c =
    subst (λ (w : List ℕ). IfSome c.strip_prefix.result (λ rest. c.args.bytes.now ≡ w ++ rest.now))
    (end_of c.varint_of-start.result.0 _ c.varint_of-start.result.1 (search rules) c.varint_of-start.ensures.text)
    (stripped c.strip_prefix.result c.args.bytes.now _ c.strip_prefix.ensures.cases)

pub returns-clause-only : goal.returns-clause-only
returns-clause-only c =
    let same = end_of c.varint_of-start.result.0 (varint c.args.value) c.varint_of-start.result.1 (search rules)
    c.varint_of-start.ensures.text in
    λ rest whole. only_strip c.strip_prefix.result c.args.bytes.now _ rest c.strip_prefix.ensures.cases
    (whole ∙ ap (λ (w : List ℕ). w ++ rest) (sym same))
