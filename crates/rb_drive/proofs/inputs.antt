-- What an input spells, line by line, and where reading ends.
pub mod ListLaws
pub mod ReadLaws
pub mod EntryLaws
pub mod LineListLaws
pub mod StagingLaws
pub mod InputLaws
pub mod BoundLaws
pub mod EndLaws
