-- One change more: the slots hold what all changes come to.
pub mod StepLaw
pub mod Slots
pub mod Seen
pub mod Holding
pub mod SlotSteps
