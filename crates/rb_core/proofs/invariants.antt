-- Each event preserves the invariant of a world.
pub mod Numbers
pub mod Marks
pub mod Written
pub mod DeskLaws
pub mod Worlds
pub mod WorldDeliveries
pub mod WorldEvents
