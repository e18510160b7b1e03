pub mod ItemLaws
pub mod Views
pub mod RuleLaws
pub mod PopLaws
pub mod DrainLaws
