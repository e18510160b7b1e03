pub mod MeetLaws
pub mod FinishLaws
pub mod HeadlineLaws
pub mod DrainedLaws
