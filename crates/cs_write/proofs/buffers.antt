-- Texts written one after another.
pub mod Laying
