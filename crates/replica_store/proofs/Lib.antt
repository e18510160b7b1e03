-- What each statement means, and what it does to a replica's trees.
pub mod statements
-- What a database shows as a replica, and what a commit leaves.
pub mod replicas
-- Why a statement of a replica stops.
pub mod causes
