pub mod Lanes
pub mod Linking
pub mod Nodes
pub mod SlotLends
pub mod Spelling
pub mod ValueLends
