-- The canonical form is a changeset: sections grouped by their shapes.
pub mod forms
-- The canonical text encodes the canonical form, and is no longer than the text that was parsed.
pub mod texts
-- Lengths before a text is written, and texts written one after another.
pub mod buffers
