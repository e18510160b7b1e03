-- The spans of one subscription: how numbers are cut, and what a call changes.
pub mod spans
-- The orders computed from ranks, and the tournaments that find the first in them at once.
pub mod orders
-- What is stored of subscriptions agrees with the front, the turns and the deliveries, and still does after a call.
pub mod subs
-- The lists of keys in which the spans of a subscription stand.
pub mod lists
-- The picture after each call, computed from what is stored after it.
pub mod pictures
