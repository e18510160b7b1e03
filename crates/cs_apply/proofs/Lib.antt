-- Rows and records column by column, and rows by their keys.
pub mod rows_by_key
-- Places and the log: what a look-up finds, and what undoing restores.
pub mod stored
-- What changes and sections do to the rows.
pub mod effects
