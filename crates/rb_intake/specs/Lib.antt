pub mod Joined
pub mod Rule
pub mod Passes
pub mod Draining
