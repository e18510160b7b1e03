pub mod HoldLaws
pub mod PlaceLaws
pub mod ResumeLaws
pub mod SchemaLaws
pub mod SeenLaws
pub mod StepLaws
pub mod WhyLaws
