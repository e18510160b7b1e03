use Rattle.std.proofs.Common.{◌++◌, ◌∙◌, ap, sym, List, ℕ, Bor, map, Some}
use Rattle.std.proofs.lemmas.List.{drop_all}
use Rattle.rb_show.proofs.shown.ShowLaws.{map_cut, word_added, word_missing, words_added}
use Rattle.rb_show.proofs.tables.insert_text.Goals as goal

pub returns-in_default : goal.returns-in_default
returns-in_default c =
    word_missing c.loop-word.text.items _ _ _ _
    (map_cut (λ (w : Bor (List ℕ)). w.now) c.args.hex.now c.loop-word.word-index _ c.loop-word-test.true)
    (sym c.in_default.is ∙ c.in_ok-bytes.ensures) c.loop-word.invariant

pub loop-word-preserved : goal.loop-word-preserved
loop-word-preserved c =
    let given = c.in_ok-extend_from_slice-2.ensures.items in
    word_added c.loop-word.text.items c.extend_from_slice-in-loop-word.new.self.items c.in-Some.bytes _ _ _ _
    (map_cut (λ (w : Bor (List ℕ)). w.now) c.args.hex.now c.loop-word.word-index _ c.loop-word-test.true)
    (sym c.in-Some.is ∙ c.in_ok-bytes.ensures)
    (given ∙ ap (λ (t : List ℕ). c.loop-word.text.items ++ t) c.deref.ensures) c.loop-word.invariant

pub returns : goal.returns
returns c = ap Some c.from_vec.ensures ∙ words_added c.loop-word.text.items _ _
    (ap (map (λ (w : Bor (List ℕ)). w.now)) (drop_all c.loop-word.word-index c.args.hex.now c.loop-word-test.false))
    c.loop-word.invariant
