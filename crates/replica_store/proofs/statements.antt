-- What each statement means, and what it does to a replica's trees.
pub mod Parts
pub mod Texts
pub mod Did
pub mod Inserts
pub mod KeyRows
pub mod Deletes
pub mod Puts
pub mod FoundRows
pub mod Updates
pub mod CursorLaws
pub mod BodyLaws
