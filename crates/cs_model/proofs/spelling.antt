-- What bytes encode: varints, fields and changes.
pub mod VarintLemmas
pub mod EightBytes
pub mod FieldReads
pub mod SaidLaws
