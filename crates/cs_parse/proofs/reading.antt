-- Reading is exact: it returns what the text encodes, and reads every text that encodes a changeset.
pub mod Steps
pub mod Loops
pub mod Letters
pub mod FirstZero
pub mod Numbers
pub mod NumberLaws
pub mod FieldLaws
pub mod ManyLaws
pub mod HeaderLaws
pub mod ChangeLaws
pub mod TextLaws
