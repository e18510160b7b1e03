-- Accepting is a step: what is accepted, kept, or lost when the store fails.
pub mod TokenLaws
pub mod AcceptLaws
pub mod ShownLaws
pub mod KeptLaws
pub mod FallLaws
pub mod LostLaws
