pub mod Canon
pub mod Own
pub mod Text
pub mod Groups
pub mod Seen
pub mod Buffer
pub mod Pieces
