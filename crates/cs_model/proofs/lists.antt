-- Lists of tables, keys and fronts.
pub mod Tables
pub mod Keys
pub mod Fronts
pub mod KeyRuns
pub mod Refusals
