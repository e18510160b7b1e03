-- The headline: what a subscription accepted, and what publishers sent, move by move.
pub mod Moving
pub mod Gapless
pub mod Closing
pub mod Withdrawn
pub mod Sendings
pub mod Bodies
pub mod Singly
pub mod Batched
