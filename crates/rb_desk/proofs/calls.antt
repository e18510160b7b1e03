-- Each call returns what its definition says, and the desk shows the picture after it.
pub mod CallCases
pub mod CallLaws
pub mod AnyLaws
pub mod TakeLaws
pub mod BoardLaws
