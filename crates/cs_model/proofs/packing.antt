-- Records, rows and changes as bytes: the bytes of each decode to it.
pub mod PackedLaws
pub mod PackedOne
pub mod PackedChangeLaws
pub mod RowLaws
pub mod PartLaws
pub mod CutLaws
pub mod FitLaws
pub mod CountLaws
