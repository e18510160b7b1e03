-- The orders computed from ranks, and the tournaments that find the first in them at once.
pub mod Line
pub mod OrderLaws
pub mod CandidateLaws
pub mod NodeLaws
pub mod TreeLaws
pub mod WaitingLaws
pub mod MomentLaws
pub mod DueLaws
pub mod ExpireLines
pub mod ExpireOrder
pub mod OpenedOrder
