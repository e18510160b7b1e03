-- Accepting is a step: what is accepted, kept, or lost when the store fails.
pub mod accepting
-- What is accepted is one contiguous run; where the group conflicts, so do the single bodies.
pub mod runs
-- What the lock shows an owner of the history.
pub mod HistoryLaws
-- What a value of no bytes is at run time.
pub mod NoBytes
