pub mod Meeting
pub mod Finishing
pub mod Headline
