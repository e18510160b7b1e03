-- The picture after each call, computed from what is stored after it.
pub mod OutLaws
pub mod EarlierLaws
pub mod OpenLaws
pub mod SearchLaws
pub mod HandLaws
pub mod CuttingLaws
pub mod PlaceLaws
pub mod ExpireLaws
pub mod ExpireShown
pub mod StoredLaws
pub mod CallLaws
