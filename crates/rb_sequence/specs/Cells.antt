-- The cells of a sequence, and the tokens that show what is in one.
use Rattle.std.specs.Prelude.{◌≡◌, ℕ, suc, ◌≤◌, List, [], ◌∷◌}
use Rattle.std.specs.declared.alloc.AllocFailed.{AllocFailed}
use Rattle.rb_sequence.specs.Entry.{Entry}
use Rattle.rb_sequence.specs.Segments.{IsLocated, id_at}

-- A sequence: its capacity, and the names of its segments' slots and of its closing cell. What is
-- in the cells isn't part of it: that is shown by tokens.
pub record Cells : Type 0 where
  pub capacity : ℕ
  pub segments : List ℕ
  pub closing : ℕ

-- no sequence's
abbrev pub no_cells : Cells
no_cells = record { capacity = 0; segments = []; closing = 0 }

-- What a token shows for good: the cell of this number holds this entry. The cell is named by the
-- slot of its segment, and by its own name.
pub record CellToken : Type 0 where
  pub number : ℕ
  pub entry : Entry
  pub segment : ℕ
  pub cell : ℕ

-- What a token of a closing cell shows for good: the sequence is closed after this number.
pub record LastToken : Type 0 where
  pub last : ℕ
  pub cell : ℕ

-- An entry that is ready for its cell, with the slot of the cell's segment.
pub record ReadyEntry : Type 0 where
  pub entry : Entry
  pub segment : ℕ

-- a sequence has a cell for this number
abbrev pub HasCell : Cells → ℕ → Type 0
HasCell s n = (1 ≤ n) × (n ≤ s.capacity)

-- the slot is that of the segment with the cell of this number
abbrev pub IsSegmentOf : Cells → ℕ → ℕ → Type 0
IsSegmentOf s n slot = (k j : ℕ) → IsLocated n k j → slot ≡ id_at s.segments k

-- the token is of a cell of this sequence, and its entry has the cell's number
pub record IsTokenOf (s : Cells) (t : CellToken) : Type 0 where
  pub has : HasCell s t.number
  pub numbered : t.entry.number ≡ t.number
  pub segment : IsSegmentOf s t.number t.segment

-- the token is of a cell of this sequence; its entry may have any number
pub record IsOccupantOf (s : Cells) (t : CellToken) : Type 0 where
  pub has : HasCell s t.number
  pub segment : IsSegmentOf s t.number t.segment

-- two tokens of one number, whose segments are one
abbrev pub AreOfOneCell : CellToken → CellToken → Type 0
AreOfOneCell t u = (t.number ≡ u.number) × (t.segment ≡ u.segment)

-- the token is of this sequence's closing cell
abbrev pub IsLastToken : Cells → LastToken → Type 0
IsLastToken s t = t.cell ≡ s.closing

-- the entry is ready for a cell of this sequence
abbrev pub IsReadyFor : Cells → ReadyEntry → Type 0
IsReadyFor s r = HasCell s r.entry.number × IsSegmentOf s r.entry.number r.segment

-- each token is of this sequence, and shows the entry of the next number, from n
abbrev pub AreInCells : Cells → ℕ → List CellToken → Type 0
AreInCells cells n [] = Unit {0}
AreInCells cells n (t ∷ rest) = IsTokenOf cells t × (t.number ≡ n) × AreInCells cells (suc n) rest

-- the entry comes back
abbrev pub HandsBack : Entry → AllocFailed Entry → Type 0
HandsBack entry failed = failed.value ≡ entry
