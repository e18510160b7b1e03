pub mod CallerLemmas
-- Records, rows and changes as bytes: the bytes of each decode to it.
pub mod packing
-- What bytes encode: varints, fields and changes, and the scan for canonical ones.
pub mod spelling
-- Sections in one text: each reads back, and the text grows by changes and by sections.
pub mod texts
-- Lists of tables, keys and fronts.
pub mod lists
