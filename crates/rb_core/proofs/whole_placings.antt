-- Placing a whole changeset: the events of a placing, one after another.
pub mod PlaceSteps
pub mod Whole
pub mod Placed
pub mod Calls
pub mod Kept
pub mod PlaceRuns
