-- What changes and sections do to the rows.
pub mod RowEffect
pub mod Sections
pub mod OneByOne
