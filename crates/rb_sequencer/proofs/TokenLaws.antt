-- One more token after those of what is placed.
use Rattle.std.proofs.Common.{◌≡◌, ℕ, suc, ◌+◌, List, [], ◌∷◌, ◌++◌, length, Option, Some, None, sym, ap}
use Rattle.std.proofs.Common.{◌∙◌, subst, arith}
use Rattle.std.proofs.lemmas.List.{append-nil, map-append}
use Rattle.rb_sequence.specs.Item.{Item}
use Rattle.rb_sequence.specs.Cells.{AreInCells, Cells, CellToken, IsTokenOf}
use Rattle.rb_broker.specs.Placing.{ShowsEntry}
use Rattle.rb_sequencer.specs.Turns.{items_placed, in_hand}

in_cells_more : (cells : Cells) (n : ℕ) (tokens : List CellToken) (t : CellToken) → AreInCells cells n tokens
    → IsTokenOf cells t → t.number ≡ n + length tokens → AreInCells cells n (tokens ++ t ∷ [])
in_cells_more cells n [] t all told number = (told, omega (arith, number), tt)
in_cells_more cells n (first ∷ tokens) t all told number =
    (all.0, all.1, in_cells_more cells (suc n) tokens t all.2 told (omega (arith, number)))

-- what was pulled is what is placed, then the hand: before and after the item in hand is placed
pub placed_one : (cells : Cells) (pulled : List Item) (tokens grown : List CellToken) (hand after : Option Item)
    (item : Item) (t : CellToken) (n : ℕ) → pulled ≡ items_placed tokens ++ in_hand hand → AreInCells cells 1 tokens
    → hand ≡ Some item → after ≡ None → grown ≡ tokens ++ t ∷ []
    → ShowsEntry cells t (record { number = n; item = item })
    → n ≡ length tokens + 1
    → (pulled ≡ items_placed grown ++ in_hand after) × AreInCells cells 1 grown
placed_one cells pulled tokens grown hand after item t n flows cells_are holds empty more shows is =
    let moved : items_placed tokens ++ item ∷ [] ≡ items_placed (tokens ++ t ∷ []) ++ [] =
    ap (λ (x : Item). items_placed tokens ++ x ∷ []) (sym (ap (λ e. e.item) shows.entry))
    ∙ sym (map-append (λ (s : CellToken). s.entry.item) tokens (t ∷ []))
    ∙ sym (append-nil (items_placed (tokens ++ t ∷ []))) in
    let number = shows.number in (
      flows ∙ ap (λ h. items_placed tokens ++ in_hand h) holds ∙ moved
          ∙ (λ i. items_placed (sym more i) ++ in_hand (sym empty i)),
      subst (λ xs. AreInCells cells 1 xs) (sym more)
          (in_cells_more cells 1 tokens t cells_are shows.here (omega (arith, number, is))),
    )
