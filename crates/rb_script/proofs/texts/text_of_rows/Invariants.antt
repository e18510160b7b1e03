use Rattle.std.proofs.Common.{◌≡◌, ◌++◌, ◌∷◌, [], codes, take, length, map}
use Rattle.std.specs.List.{flat_map}
use Rattle.std.specs.Fmt.{decimal}
use Rattle.rb_script.specs.Texts.{row_text}
use Rattle.rb_script.proofs.texts.text_of_rows.Given as goal

abbrev pub invariant-loop-key : goal.invariant-loop-key
invariant-loop-key l = l.text.items ≡ codes "rows " ++ decimal (length l.rows) ++ 10 ∷ []
    ++ flat_map row_text (map (λ p. (p.0.now, p.1.now)) (take l.key-index l.rows))
