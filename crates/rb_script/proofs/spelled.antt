-- The bytes of numbers, hexadecimal texts and rows.
pub mod Numbers
pub mod HexTexts
pub mod RowTexts
