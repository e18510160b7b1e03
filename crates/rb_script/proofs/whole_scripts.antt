-- The answers to a script are those to its lines, and a script is a run.
pub mod LineLaws
pub mod FeedLaws
pub mod FedLaws
pub mod WholeLaws
pub mod ScriptLaws
pub mod RunLaws
pub mod BeginLaws
