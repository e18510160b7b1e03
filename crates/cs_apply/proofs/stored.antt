-- Places and the log: what a look-up finds, and what undoing restores.
pub mod Filled
pub mod Log
pub mod PlaceLaws
pub mod Copied
pub mod SameLaws
pub mod ChangedLaws
