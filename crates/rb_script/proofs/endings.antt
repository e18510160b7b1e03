-- What is read and written by the end of a script.
pub mod StreamLaws
pub mod OutputLaws
pub mod PlainLaws
pub mod RefusalLaws
pub mod EndLaws
