-- The canonical text encodes the canonical form, and is no longer than the text that was parsed.
pub mod TextLaws
pub mod SpellLaws
pub mod NoLonger
pub mod Cutting
