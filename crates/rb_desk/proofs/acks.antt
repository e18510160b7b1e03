-- Settled numbers are those that were acknowledged under the subscription's link.
pub mod SettledNumbers
pub mod LastCalls
pub mod CallAcks
pub mod AckedNumbers
