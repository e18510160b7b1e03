-- What the workers answer: the first error of all, or the changes of all.
pub mod workers
-- The splitting law: the shards' rows and changes are those of the whole.
pub mod shards
-- Rows given to keys one by one, and the places that staging makes.
pub mod commits
