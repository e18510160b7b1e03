-- The inverse of a changeset is a changeset of the same length, and its inverse is the changeset.
pub mod AsLong
pub mod Inverting
pub mod Twice
