-- The canonical form is a changeset: sections grouped by their shapes.
pub mod Shapes
pub mod GroupLaws
pub mod FormLaws
pub mod Giving
pub mod OwnForm
