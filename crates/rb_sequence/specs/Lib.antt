pub mod Segments
pub mod Item
pub mod Entry
pub mod Items
pub mod Cells
pub mod Filling
