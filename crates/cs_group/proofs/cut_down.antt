-- An UPDATE cut down where it stands to the columns that it changes.
pub mod KeyPlace
pub mod InPlace
pub mod InPlaceTwo
