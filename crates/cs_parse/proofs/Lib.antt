-- Reading is exact: it returns what the text encodes, and reads every text that encodes a changeset.
pub mod reading
-- The error of reading is the text's fault.
pub mod refusing
-- The way a text is cut into pieces does not change the result.
pub mod joining
-- What the streaming parser keeps, and how far it scanned the incomplete item.
pub mod feeding
-- Counting changes, scanning them in place, and making them canonical in place.
pub mod counting
