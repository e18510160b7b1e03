-- The spans of one subscription: how numbers are cut, and what a call changes.
pub mod CutLaws
pub mod JoinLaws
pub mod QueueLaws
pub mod RisingLaws
pub mod ChangeLaws
pub mod QueueChanges
pub mod FirstLaws
pub mod FoundLaws
pub mod ManyLaws
pub mod OpenedLaws
pub mod OpenedSpans
