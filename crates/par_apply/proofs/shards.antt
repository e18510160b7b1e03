-- The splitting law: the shards' rows and changes are those of the whole.
pub mod KeySumLaws
pub mod ShardLaws
pub mod SiftLaws
pub mod GatheringLaws
pub mod SplittingLaws
