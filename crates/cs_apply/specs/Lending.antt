-- Tables that lend their places to be changed.
use Rattle.std.specs.Borrow.{Lends, MutBor, Fml}
use Rattle.cs_apply.specs.State.{TableState}
use Rattle.cs_apply.specs.Held.{HeldState}
use Rattle.cs_apply.specs.contracts.tables.Tables as tables
use Rattle.cs_apply.specs.contracts.held.HeldTables as held

-- the tables end with the state that the lent places end with
abbrev pub LendsPlaces : MutBor TableState → MutBor HeldState → Fml
LendsPlaces lender lent = Lends tables.the_row held.the_row lender lent (λ last. last.state)
