-- The numbers of the kinds of faults, for C.
use Rattle.std.specs.Prelude.{ℕ}
use Rattle.cs_parse.specs.declared.fault.FaultKind.{FaultKind}
use Rattle.cs_parse.specs.declared.fault.FaultKind.TheVariants.{BadMarker, Patchset, Columns, NoKey}
use Rattle.cs_parse.specs.declared.fault.FaultKind.TheVariants.{EmptyName, NameTooLong}
use Rattle.cs_parse.specs.declared.fault.FaultKind.TheVariants.{BadOperation, BadType, Real}
use Rattle.cs_parse.specs.declared.fault.FaultKind.TheVariants.{UndefinedField, KeyMissing}
use Rattle.cs_parse.specs.declared.fault.FaultKind.TheVariants.{KeyChanged, OneSided, ValueTooLong}
use Rattle.cs_parse.specs.declared.fault.FaultKind.TheVariants.{TooLong, Truncated}

-- the number of a fault's kind
abbrev pub kind_number : FaultKind → ℕ
kind_number BadMarker = 1
kind_number Patchset = 2
kind_number Columns = 3
kind_number NoKey = 4
kind_number EmptyName = 5
kind_number NameTooLong = 6
kind_number BadOperation = 7
kind_number BadType = 8
kind_number Real = 9
kind_number UndefinedField = 10
kind_number KeyMissing = 11
kind_number KeyChanged = 12
kind_number OneSided = 13
kind_number ValueTooLong = 14
kind_number TooLong = 15
kind_number Truncated = 16
