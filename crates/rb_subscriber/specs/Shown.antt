-- The entries that tokens show, and the tokens that the cells show of a delivery.
use Rattle.std.specs.Prelude.{◌≡◌, ℕ, suc, List, length, ◌+◌, ◌-◌, ◌<◌, ◌≤◌, map, slice_index_or}
use Rattle.rb_desk.specs.declared.delivery.Delivery.{Delivery}
use Rattle.rb_sequence.specs.Cells.{AreInCells, Cells, CellToken, IsTokenOf}
use Rattle.rb_sequence.specs.Entry.{Entry}
use Rattle.rb_subscriber.specs.declared.shown.Shown.{Shown}
use Rattle.rb_subscriber.specs.declared.shown.Shown.TheVariants.{Held, Seen}

-- the entries that tokens show, in order
abbrev pub entries_told : List CellToken → List Entry
entries_told tokens = map (λ token. token.entry) tokens

-- all are tokens of this sequence
abbrev pub AreTokens : Cells → List CellToken → Type 0
AreTokens cells tokens = (i : ℕ) (d : CellToken) → i < length tokens
    → IsTokenOf cells (slice_index_or tokens i d)

-- the cells show a delivery: these are tokens of its numbers, first to last
abbrev pub ShowDelivery : Cells → Delivery → List CellToken → Type 0
ShowDelivery cells delivery shown = AreInCells cells delivery.first shown
    × (length shown ≡ suc delivery.last - delivery.first)

-- These are tokens of the first numbers of a delivery, up to the one before this number, which is
-- its own, too.
abbrev pub ShowBefore : Cells → Delivery → ℕ → List CellToken → Type 0
ShowBefore cells delivery number shown = AreInCells cells delivery.first shown
    × (delivery.first + length shown ≡ number) × (number ≤ delivery.last)

-- the tokens of what the cells showed, whether there was memory for them or not
abbrev pub tokens_shown : Shown → List CellToken
tokens_shown (Held told) = told.items
tokens_shown (Seen sight) = sight.tokens
