-- The way a text is cut into pieces does not change the result.
pub mod SectionLists
pub mod PartLaws
pub mod PartMore
pub mod PartsAnswer
pub mod PieceLaws
pub mod ProgressLaws
pub mod ProgressAnswers
pub mod FaultPlaces
pub mod FeedLaws
