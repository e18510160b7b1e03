-- What is stored of subscriptions agrees with the front, the turns and the deliveries, and still does after a call.
pub mod KnownLaws
pub mod ExpiredLaws
pub mod OpenedKnown
