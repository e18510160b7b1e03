-- Entries of the sequence as values.
use Rattle.std.specs.Prelude.{ℕ}
use Rattle.rb_sequence.specs.Item.{Item}

-- An entry: an item with its number in the sequence, from 1.
pub record Entry : Type 0 where
  pub number : ℕ
  pub item : Item
