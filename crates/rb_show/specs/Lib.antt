pub mod Shown
pub mod ShownTexts
pub mod Showing
