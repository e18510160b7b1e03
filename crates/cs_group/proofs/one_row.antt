-- The law of one row: what changes come to has the effect that they have one after another.
pub mod Valid
pub mod Merging
pub mod Between
pub mod Turning
pub mod Effects
pub mod RowLaw
pub mod Through
pub mod OneRow
