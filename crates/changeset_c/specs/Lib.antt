pub mod Combining
pub mod Says
