-- The numbers of replies and refusals. -1 is `negsuc 0`.
use Rattle.std.specs.Prelude.{ℕ, ℤ, pos, negsuc, Result, Ok, Err}
use Rattle.cs_apply.specs.Conflict.{code_of}
use Rattle.cs_parse.specs.FaultNumber.{kind_number}
use Rattle.cs_parse.specs.declared.fault.ParseFault.{ParseFault}
use Rattle.rb_core.specs.declared.placing.PlacingRefusal.{PlacingRefusal}
use Rattle.rb_core.specs.declared.placing.PlacingRefusal.TheVariants as place
use Rattle.rb_core.specs.declared.reply.BrokerRefusal.{BrokerRefusal}
use Rattle.rb_core.specs.declared.reply.BrokerRefusal.TheVariants as refusal
use Rattle.rb_core.specs.declared.reply.Reply.{Reply}
use Rattle.rb_core.specs.declared.reply.Reply.TheVariants as reply
use Rattle.rb_desk.specs.declared.refusal.DeskRefusal.{DeskRefusal}
use Rattle.rb_desk.specs.declared.refusal.DeskRefusal.TheVariants as desk
use Rattle.rb_subscriber.specs.declared.refusal.AcceptRefusal.{AcceptRefusal}
use Rattle.rb_subscriber.specs.declared.refusal.AcceptRefusal.TheVariants as accept
use Rattle.broker_c.specs.declared.codes.Why.{Why}

-- ---- codes

-- The code of a refusal. What means the same in two layers has one code.
abbrev pub refusal_code : BrokerRefusal → ℤ
refusal_code refusal.NoPublisher = negsuc 9
refusal_code refusal.TooMany = negsuc 10
refusal_code (refusal.Desk desk.TooMany) = negsuc 10
refusal_code refusal.Holding = negsuc 11
refusal_code refusal.NothingStaged = negsuc 12
refusal_code refusal.Closed = negsuc 13
refusal_code (refusal.Desk desk.Closed) = negsuc 13
refusal_code (refusal.Accept accept.Closed) = negsuc 13
refusal_code refusal.Full = negsuc 14
refusal_code refusal.NotPlaced = negsuc 15
refusal_code refusal.NotYours = negsuc 16
refusal_code refusal.AlreadyWithdrawn = negsuc 17
refusal_code (refusal.Desk desk.SequenceFull) = negsuc 18
refusal_code (refusal.UnknownTable section) = negsuc 19
refusal_code (refusal.ShapeDiffers section) = negsuc 20
refusal_code (refusal.Desk desk.JournalFull) = negsuc 21
refusal_code (refusal.Desk desk.NoSuch) = negsuc 29
refusal_code (refusal.Desk desk.StaleLink) = negsuc 30
refusal_code (refusal.Accept accept.StaleLink) = negsuc 30
refusal_code (refusal.Desk desk.WindowFull) = negsuc 31
refusal_code refusal.NoDelivery = negsuc 32
refusal_code (refusal.Desk desk.NotInFlight) = negsuc 33
refusal_code (refusal.Accept accept.Seen) = negsuc 34
refusal_code (refusal.Desk (desk.Drained last)) = negsuc 35
refusal_code (refusal.Desk (desk.Empty front)) = negsuc 36
refusal_code (refusal.Desk (desk.NotAccepted cursor)) = negsuc 37
refusal_code (refusal.Desk (desk.BadCursor floor offered)) = negsuc 38
refusal_code (refusal.Desk (desk.StartAhead front)) = negsuc 39
refusal_code (refusal.Accept (accept.Gap expected)) = negsuc 40
refusal_code (refusal.Accept (accept.Shape number)) = negsuc 41
refusal_code (refusal.Accept (accept.Conflict conflict)) = negsuc 42
refusal_code refusal.NotFallen = negsuc 43
refusal_code (refusal.Accept accept.Store) = negsuc 44

-- The code of a reply: 0, or 1 for `Idle`, -3 for a fault, and -10 or less for a refusal.
abbrev pub code : Reply → ℤ
code reply.Idle = pos 1
code (reply.Fault fault) = negsuc 2
code (reply.Refused why) = refusal_code why
code other = pos 0

-- ---- the two numbers of a fault or a refusal, 0 for each that it doesn't have

abbrev pub numbers : ℕ → ℕ → Why
numbers first second = record { first = first; second = second }

-- of a fault: its place, and the number of its kind
abbrev pub fault_why : ParseFault → Why
fault_why fault = numbers fault.at (kind_number fault.kind)

abbrev pub desk_why : DeskRefusal → Why
desk_why (desk.Drained last) = numbers last 0
desk_why (desk.Empty front) = numbers front 0
desk_why (desk.NotAccepted cursor) = numbers cursor 0
desk_why (desk.BadCursor floor offered) = numbers floor offered
desk_why (desk.StartAhead front) = numbers front 0
desk_why other = numbers 0 0

-- of a conflict: the change's place, and SQLite's number of the kind
abbrev pub accept_why : AcceptRefusal → Why
accept_why (accept.Gap expected) = numbers expected 0
accept_why (accept.Shape number) = numbers number 0
accept_why (accept.Conflict conflict) = numbers conflict.position (code_of conflict.kind)
accept_why other = numbers 0 0

abbrev pub refusal_why : BrokerRefusal → Why
refusal_why (refusal.UnknownTable section) = numbers section 0
refusal_why (refusal.ShapeDiffers section) = numbers section 0
refusal_why (refusal.Desk why) = desk_why why
refusal_why (refusal.Accept why) = accept_why why
refusal_why other = numbers 0 0

abbrev pub reply_numbers : Reply → Why
reply_numbers (reply.Fault fault) = fault_why fault
reply_numbers (reply.Refused why) = refusal_why why
reply_numbers other = numbers 0 0

-- a handle's numbers after a reply: those of a fault or a refusal, else those from before
abbrev pub numbers_after : Reply → Why → Why
numbers_after (reply.Fault fault) before = reply_numbers (reply.Fault fault)
numbers_after (reply.Refused why) before = reply_numbers (reply.Refused why)
numbers_after other before = before

-- ---- placings

-- the code and the numbers of a placing that places nothing
abbrev pub placing_code : PlacingRefusal → ℤ
placing_code (place.Waiting count) = negsuc 22
placing_code (place.Fault fault) = negsuc 2
placing_code (place.Refused why) = refusal_code why

abbrev pub placing_why : PlacingRefusal → Why
placing_why (place.Waiting count) = numbers count 0
placing_why (place.Fault fault) = fault_why fault
placing_why (place.Refused why) = refusal_why why

-- the code of any placing, and a handle's numbers after it
abbrev pub code_by : Result ℕ PlacingRefusal → ℤ
code_by (Ok number) = pos 0
code_by (Err why) = placing_code why

abbrev pub numbers_by : Result ℕ PlacingRefusal → Why → Why
numbers_by (Ok number) before = before
numbers_by (Err why) before = placing_why why
