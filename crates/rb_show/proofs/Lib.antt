-- Lines that are shown one after another, and the lines of rows.
pub mod shown
