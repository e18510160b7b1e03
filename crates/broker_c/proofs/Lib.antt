pub mod Steps
pub mod Boxes
pub mod AsBox
pub mod Passing
pub mod Moving
