pub mod CombineLaws
pub mod Laws
pub mod Outcomes
