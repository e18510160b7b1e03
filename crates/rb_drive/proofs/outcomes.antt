-- How a drive ends: what was published, accepted and kept, and the report.
pub mod PublishedLaws
pub mod OwnerLaws
pub mod KeptLaws
pub mod ConflictLaws
pub mod StatusLaws
pub mod ReportLaws
pub mod DriveLaws
pub mod RunLaws
pub mod RestartLaws
