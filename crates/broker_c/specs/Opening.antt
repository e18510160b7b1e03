-- What `broker_open` does.
use denote.RawPtr.{InBlock}
use Rattle.std.specs.Prelude.{◌≡◌, ℕ, ℤ, pos, negsuc, zero, suc, true, List, [], map}
use Rattle.std.specs.Prelude.{Option, Some, None}
use Rattle.cs_model.specs.Schema.{tables_refusal}
use Rattle.cs_model.specs.declared.schema.TableFault.{TableFault}
use Rattle.cs_model.specs.declared.schema.TableFault.TheVariants.{DuplicateTable, BadShape}
use Rattle.cs_model.specs.declared.shape.Shape.{Shape}
use Rattle.rb_core.specs.State.{empty_world}
use Rattle.rb_desk.specs.Limits as desk
use Rattle.rb_desk.specs.Limits.{first_out_of_range}
use Rattle.rb_desk.specs.declared.config.ConfigFault.{ConfigFault}
use Rattle.rb_desk.specs.declared.config.ConfigFault.TheVariants.{Batch, Window, Timeout, Capacity}
use Rattle.rb_desk.specs.declared.config.ConfigFault.TheVariants.{Intake, Appliers}
use Rattle.broker_c.specs.Codes.{numbers}
use Rattle.broker_c.specs.Handle.{HoldsWorld, IsBusy, IsShut}
use Rattle.broker_c.specs.declared.codes.Why.{Why}
use Rattle.broker_c.specs.declared.handle.Handle.{Handle}
use Rattle.broker_c.specs.declared.limits.Limits.{Limits}
use Rattle.broker_c.specs.declared.limits.TableSpec.{TableSpec}
use Rattle.broker_c.specs.declared.opening.OpenError.{OpenError}
use Rattle.broker_c.specs.declared.opening.OpenError.TheVariants.{BadLimit, BadTable, Memory}
use Rattle.broker_c.specs.declared.slot.HandleSlot.{HandleSlot}

-- ---- the limits

-- the limits that C passes
abbrev pub desk_limits : Limits → desk.Limits
desk_limits c = desk.six_limits c.batch c.window c.timeout c.capacity c.intake c.appliers

-- the first limit that is out of its range
abbrev pub limits_refusal : Limits → Option ConfigFault
limits_refusal c =
    first_out_of_range c.batch c.window c.timeout c.capacity c.intake c.appliers

-- its place, from 0
abbrev pub limit_place : ConfigFault → ℕ
limit_place Batch = 0
limit_place Window = 1
limit_place Timeout = 2
limit_place Capacity = 3
limit_place Intake = 4
limit_place Appliers = 5

-- ---- the tables

abbrev pub table_shape : TableSpec → Shape
table_shape table = record { name = table.name.now; flags = table.key.now }

abbrev pub table_shapes : List TableSpec → List Shape
table_shapes tables = map table_shape tables

-- the numbers of a refused table: its place, from 0, and 0 for its shape or 1 for its name
abbrev pub table_why : TableFault → Why
table_why (BadShape place) = numbers place 0
table_why (DuplicateTable place) = numbers place 1

-- ---- the steps

-- a handle over an empty world with these limits and tables, whose numbers are 0
pub record IsBegun (limits : desk.Limits) (schema : List Shape) (b : Handle) : Type 0 where
  pub world : HoldsWorld b (empty_world limits schema)
  pub why : b.why ≡ numbers 0 0

-- The limits are in their ranges, the tables fit, and the handle's world is empty, with these
-- limits and tables.
pub record IsOpened (limits : Limits) (tables : List TableSpec) (b : Handle) : Type 0 where
  pub in_range : limits_refusal limits ≡ None
  pub fit : tables_refusal [] (table_shapes tables) ≡ None
  pub begun : IsBegun (desk_limits limits) (table_shapes tables) b

abbrev pub RefusesSchema : OpenError → List TableSpec → Type 0
RefusesSchema (BadLimit fault) tables = ⊥
RefusesSchema (BadTable fault) tables = tables_refusal [] (table_shapes tables) ≡ Some fault
RefusesSchema Memory tables = Unit {0}

abbrev pub RefusesOpening : OpenError → Limits → List TableSpec → Type 0
RefusesOpening (BadLimit fault) limits tables = limits_refusal limits ≡ Some fault
RefusesOpening (BadTable fault) limits tables = (limits_refusal limits ≡ None)
    × (tables_refusal [] (table_shapes tables) ≡ Some fault)
RefusesOpening Memory limits tables = limits_refusal limits ≡ None

-- ---- the results

-- a limit is out of its range, and these are its numbers
pub record HasBadLimit (limits : Limits) (is : Why) : Type 0 where
  pub fault : ConfigFault
  pub refused : limits_refusal limits ≡ Some fault
  pub why : is ≡ numbers (limit_place fault) 0

-- the limits are in their ranges, a table is refused, and these are its numbers
pub record HasBadTable (limits : Limits) (tables : List TableSpec) (is : Why) : Type 0 where
  pub in_range : limits_refusal limits ≡ None
  pub fault : TableFault
  pub refused : tables_refusal [] (table_shapes tables) ≡ Some fault
  pub why : is ≡ table_why fault

-- What the result of `broker_open` says: 0, -2 if memory ran out, -4 for the first bad limit, or -5
-- for the first bad table. A negative one leaves the slot as it was. Only -4 and -5 set the
-- numbers.
abbrev pub Opens : ℤ → Limits → List TableSpec → HandleSlot → HandleSlot → Why → Why → Type 0
Opens (pos n) limits tables before after was is = (n ≡ 0) × (after.full ≡ true)
    × IsOpened limits tables after.held × (is ≡ was)
Opens (negsuc zero) limits tables before after was is = ⊥
Opens (negsuc (suc zero)) limits tables before after was is =
    (limits_refusal limits ≡ None) × (after ≡ before) × (is ≡ was)
Opens (negsuc (suc (suc zero))) limits tables before after was is = ⊥
Opens (negsuc (suc (suc (suc zero)))) limits tables before after was is =
    HasBadLimit limits is × (after ≡ before)
Opens (negsuc (suc (suc (suc (suc zero))))) limits tables before after was is =
    HasBadTable limits tables is × (after ≡ before)
Opens (negsuc (suc (suc (suc (suc (suc n)))))) limits tables before after was is = ⊥

-- What the result of `broker_why` says: 0 and the handle's numbers, -1 for a handle that is shut,
-- or -6 for one that another call is in.
abbrev pub TellsWhy : ℤ → Handle → Why → Why → Type 0
TellsWhy (pos n) b was is = (n ≡ 0) × (b.seal.full ≡ true) × (is ≡ b.why)
TellsWhy (negsuc zero) b was is = IsShut b × (is ≡ was)
TellsWhy (negsuc (suc (suc (suc (suc (suc zero)))))) b was is = IsBusy b × (is ≡ was)
TellsWhy (negsuc n) b was is = ⊥

-- What C hands to `broker_free`: a null pointer, or a handle that `broker_open` gave out and that
-- nothing has freed. So a pointer that isn't null has a handle.
abbrev pub IsHandleOrNull : HandleSlot → Type 0
IsHandleOrNull slot = InBlock slot.pointer → slot.full ≡ true
