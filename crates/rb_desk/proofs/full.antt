-- Spans are a partition: the full picture and the picture go together, and answer alike.
pub mod FullUnsettled
pub mod FullParts
pub mod FullTakes
pub mod FullShows
pub mod FullKeeps
pub mod FullReplays
pub mod FullSettled
pub mod FullAnswers
