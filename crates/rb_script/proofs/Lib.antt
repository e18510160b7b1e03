-- The answers to a script are those to its lines, and a script is a run.
pub mod whole_scripts
-- What is read and written by the end of a script.
pub mod endings
-- The bytes of numbers, hexadecimal texts and rows.
pub mod spelled
-- Pieces of a text, written in hexadecimal.
pub mod sinks
