-- Laws of whole runs, from the courses that they report.
pub mod Pairs
pub mod RunLaws
pub mod TellRuns
pub mod ToldLaws
pub mod RunCuts
pub mod ByText
pub mod AcceptedCursor
pub mod ConflictRuns
pub mod DeskReplays
pub mod BareRuns
pub mod BaseRuns
