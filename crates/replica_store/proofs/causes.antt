-- Why a statement of a replica stops.
pub mod Stops
pub mod Refusals
pub mod Sizes
pub mod Keys
pub mod Ids
pub mod RowStops
pub mod MarkStops
pub mod TableStops
pub mod Reported
