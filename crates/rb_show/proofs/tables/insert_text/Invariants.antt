use Rattle.std.proofs.Common.{◌≡◌, ◌++◌, ◌∷◌, [], ℕ, List, Bor, map, drop}
use Rattle.rb_show.specs.Shown.{bytes_with_front, bytes_of_words}
use Rattle.rb_show.proofs.tables.insert_text.Given as goal

-- the text so far, and the bytes of the words that are left, are the text of all
abbrev pub invariant-loop-word : goal.invariant-loop-word
invariant-loop-word l =
    bytes_with_front l.text.items
    (bytes_of_words (map {A = Bor (List ℕ)} {B = List ℕ} (λ word. word.now) (drop l.word-index l.hex)))
    ≡ bytes_with_front (l.header ++ 18 ∷ 0 ∷ [])
    (bytes_of_words (map {A = Bor (List ℕ)} {B = List ℕ} (λ word. word.now) l.hex))
