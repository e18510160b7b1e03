-- Counting changes, scanning them in place, and making them canonical in place.
pub mod Skims
pub mod Counts
pub mod CanonicalLaws
pub mod CanonicalHeaders
pub mod Fronts
pub mod CountLaws
