-- Rows given to keys one by one, and the places that staging makes.
pub mod CommitLaws
pub mod StageLaws
