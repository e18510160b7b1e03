-- What each call changes in the outline.
pub mod Outlines
pub mod OutlineCalls
