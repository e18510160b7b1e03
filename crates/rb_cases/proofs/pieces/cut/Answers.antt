use Rattle.std.proofs.Common.{◌≡◌, ◌-◌, ℕ, List, ◌∙◌, ap, length, rules, sym, take}
use Rattle.std.proofs.lemmas.List.Folds.{flat_map-map}
use Rattle.std.specs.List.{flat_map}
use Rattle.rb_cases.specs.Pieces.{but_last, fed_parts, line_text}
use Rattle.rb_script.specs.Script.{lines_of}
use Rattle.rb_cases.proofs.pieces.cut.Goals as goal

pub returns : goal.returns
returns c =
    let h : List ℕ → List ℕ = λ line. line_text line (fed_parts line) c.args.most in
    let all = c.in_ok-all.all.items in
    let whole : all ≡ flat_map h (lines_of c.args.script.now) =
    c.in_ok-all.ensures ∙ ap (flat_map (λ line. h line.now)) c.deref.ensures.value
    ∙ sym (flat_map-map h (λ line. line.now) c.in_ok-lines.lines.items)
    ∙ ap (flat_map h) c.in_ok-lines.ensures in
    let many : c.in_ok-all.all.len ≡ length all = search rules in
    c.pop.ensures.rest ∙ ap (λ n. take (n - 1) all) many ∙ ap but_last whole
