-- What the streaming parser keeps, and how far it scanned the incomplete item.
pub mod FrontLaws
pub mod WholeLaws
pub mod FrontParts
pub mod FrontCounts
pub mod SectionFronts
pub mod Batches
pub mod Unread
pub mod GrowingLaws
pub mod NameLaws
pub mod SpotLaws
pub mod LackLaws
pub mod StayLaws
pub mod WaitLaws
pub mod RestLaws
