-- The headline: what a subscription accepted, and what publishers sent, move by move.
pub mod headline
-- Each event preserves the invariant of a world.
pub mod invariants
-- What an event and its reply report: a course of moves.
pub mod reports
-- Laws of whole runs, from the courses that they report.
pub mod whole_runs
-- Placing a whole changeset in one call.
pub mod whole_placings
