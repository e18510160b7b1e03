-- The law of one row: what changes come to has the effect that they have one after another.
pub mod one_row
-- The combining law: a group applies where its changesets do, and leaves the same tables.
pub mod all_tables
-- One change more: the slots hold what all changes come to.
pub mod one_more
-- An UPDATE cut down where it stands to the columns that it changes.
pub mod cut_down
-- Tables known by name, and sections that one schema admits.
pub mod schemas
