-- What the workers answer: the first error of all, or the changes of all.
pub mod PartLaws
pub mod PositionLaws
pub mod ListLaws
pub mod OwnRowLaws
pub mod PlanLaws
pub mod AnswerLaws
