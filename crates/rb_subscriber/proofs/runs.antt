-- What is accepted is one contiguous run; where the group conflicts, so do the single bodies.
pub mod ApplyLaws
pub mod BatchLaws
pub mod ConflictLaws
pub mod RunLaws
