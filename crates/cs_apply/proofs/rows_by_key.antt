-- Rows and records column by column, and rows by their keys.
pub mod Columns
pub mod Lengths
pub mod Keys
pub mod Orders
