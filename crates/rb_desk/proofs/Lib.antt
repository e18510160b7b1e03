-- Each call returns what its definition says, and the desk shows the picture after it.
pub mod calls
-- Every call preserves the invariant of a picture; no number is issued twice; the front and the floors rise.
pub mod pictures
-- What each call changes in the outline.
pub mod outlines
-- The journal leads to the picture, and how many steps it has of a kind.
pub mod journals
-- No number is lost: the journal accounts for each.
pub mod history
-- Spans are a partition: the full picture and the picture go together, and answer alike.
pub mod full
-- Settled numbers are those that were acknowledged under the subscription's link.
pub mod acks
