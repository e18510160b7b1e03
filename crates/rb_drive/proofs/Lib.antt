-- What an input spells, line by line, and where reading ends.
pub mod inputs
-- How a drive ends: what was published, accepted and kept, and the report.
pub mod outcomes
