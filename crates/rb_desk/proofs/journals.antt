-- The journal leads to the picture after each step; how many steps of a kind it has.
pub mod KeepLaws
