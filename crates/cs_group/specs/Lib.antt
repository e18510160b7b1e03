pub mod Merge
pub mod Group
pub mod Rows
pub mod Slots
pub mod Table
pub mod Adding
pub mod Key
pub mod TableRows
