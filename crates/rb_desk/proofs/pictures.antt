-- Every call preserves the invariant of a picture; no number is issued twice; the front and the floors rise.
pub mod PictureLaws
pub mod RiseLaws
pub mod StandLaws
pub mod OutSpans
pub mod KeepHand
pub mod KeepSettle
pub mod OpenedLaws
pub mod KeepOpen
pub mod KeepCut
pub mod KeepPlace
pub mod KeepExpire
pub mod CallRises
pub mod Replays
