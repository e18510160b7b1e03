-- The error of reading is the text's fault.
pub mod Exact
pub mod ExactNumbers
pub mod ExactValues
pub mod ExactFields
pub mod ExactFlags
pub mod ExactNames
pub mod ExactHeader
pub mod ExactChanges
pub mod ExactMany
pub mod ExactSections
pub mod ExactText
pub mod FaultLaws
