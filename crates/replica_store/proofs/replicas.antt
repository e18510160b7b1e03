-- What a database shows as a replica, and what a commit leaves.
pub mod CreateLaws
pub mod OpenLaws
pub mod ReadLaws
pub mod LoadLaws
pub mod ShownLaws
pub mod FollowLaws
pub mod ChangeLaws
pub mod DurableLaws
pub mod UndoneLaws
