-- What an event and its reply report: a course of moves.
pub mod Counting
pub mod Telling
pub mod TellPublishers
pub mod TellSequence
pub mod TellWithdrawals
pub mod TellSubscriptions
pub mod TellDeliveries
pub mod TellFalls
