-- Sections in one text: each reads back, and the text grows by changes and by sections.
pub mod SectionLaws
pub mod GrowthLaws
pub mod FrontLaws
pub mod LastLaws
pub mod LastOne
