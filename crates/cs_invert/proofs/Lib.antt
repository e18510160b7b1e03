-- The inverse of a changeset is a changeset of the same length, and its inverse is the changeset.
pub mod inverses
-- An inverse is written to a buffer part by part.
pub mod layings
-- The law of withdrawals: a withdrawal takes back its changeset and leaves what others did.
pub mod withdrawals
