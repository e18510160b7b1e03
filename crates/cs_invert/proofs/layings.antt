-- A text is written to a buffer part by part.
pub mod Laying
pub mod Parts
pub mod Given
