-- The combining law: a group applies where its changesets do, and leaves the same tables.
pub mod Lists
pub mod Keyed
pub mod Together
pub mod Tables
pub mod Fitting
pub mod Law
