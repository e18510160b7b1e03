-- Pieces of a text, written in hexadecimal.
pub mod GainLaws
pub mod SinkLaws
pub mod CutLaws
pub mod PutLaws
pub mod NumberLaws
