-- Replies as text, each without a line end. A refusal is its name, followed by its values.
use Rattle.std.specs.Prelude.{ℕ, List, ◌++◌, codes}
use Rattle.std.specs.Fmt.{decimal}
use Rattle.cs_apply.specs.Conflict.{code_of}
use Rattle.cs_parse.specs.declared.fault.FaultKind.{FaultKind}
use Rattle.cs_parse.specs.declared.fault.FaultKind.TheVariants as kind
use Rattle.rb_desk.specs.declared.delivery.Delivery.{Delivery}
use Rattle.rb_desk.specs.declared.refusal.DeskRefusal.{DeskRefusal}
use Rattle.rb_desk.specs.declared.refusal.DeskRefusal.TheVariants as desk
use Rattle.rb_subscriber.specs.declared.refusal.AcceptRefusal.{AcceptRefusal}
use Rattle.rb_subscriber.specs.declared.refusal.AcceptRefusal.TheVariants as end
use Rattle.rb_core.specs.declared.reply.Reply.{Reply}
use Rattle.rb_core.specs.declared.reply.Reply.TheVariants as reply
use Rattle.rb_core.specs.declared.reply.BrokerRefusal.{BrokerRefusal}
use Rattle.rb_core.specs.declared.reply.BrokerRefusal.TheVariants as refusal

-- the name of a fault's kind
abbrev pub kind_name : FaultKind → List ℕ
kind_name kind.BadMarker = codes "BadMarker"
kind_name kind.Patchset = codes "Patchset"
kind_name kind.Columns = codes "Columns"
kind_name kind.NoKey = codes "NoKey"
kind_name kind.EmptyName = codes "EmptyName"
kind_name kind.NameTooLong = codes "NameTooLong"
kind_name kind.BadOperation = codes "BadOperation"
kind_name kind.BadType = codes "BadType"
kind_name kind.Real = codes "Real"
kind_name kind.UndefinedField = codes "UndefinedField"
kind_name kind.KeyMissing = codes "KeyMissing"
kind_name kind.KeyChanged = codes "KeyChanged"
kind_name kind.OneSided = codes "OneSided"
kind_name kind.ValueTooLong = codes "ValueTooLong"
kind_name kind.TooLong = codes "TooLong"
kind_name kind.Truncated = codes "Truncated"

-- why the desk refuses
abbrev pub desk_refusal_text : DeskRefusal → List ℕ
desk_refusal_text desk.NoSuch = codes "refused NoSuch"
desk_refusal_text desk.StaleLink = codes "refused StaleLink"
desk_refusal_text desk.Closed = codes "refused Closed"
desk_refusal_text desk.WindowFull = codes "refused WindowFull"
desk_refusal_text (desk.Drained last) = codes "refused Drained " ++ decimal last
desk_refusal_text (desk.Empty front) = codes "refused Empty " ++ decimal front
desk_refusal_text desk.NotInFlight = codes "refused NotInFlight"
desk_refusal_text (desk.NotAccepted cursor) = codes "refused NotAccepted " ++ decimal cursor
desk_refusal_text (desk.BadCursor floor offered) = codes "refused BadCursor "
    ++ (decimal floor ++ (codes " " ++ decimal offered))
desk_refusal_text (desk.StartAhead front) = codes "refused StartAhead " ++ decimal front
desk_refusal_text desk.TooMany = codes "refused TooMany"
desk_refusal_text desk.JournalFull = codes "refused JournalFull"
desk_refusal_text desk.SequenceFull = codes "refused SequenceFull"

-- why a subscription's endpoint refuses
abbrev pub end_refusal_text : AcceptRefusal → List ℕ
end_refusal_text end.Store = codes "refused Store"
end_refusal_text end.Closed = codes "refused Closed"
end_refusal_text end.StaleLink = codes "refused StaleLink"
end_refusal_text end.Seen = codes "refused Seen"
end_refusal_text (end.Gap expected) = codes "refused Gap " ++ decimal expected
end_refusal_text (end.Shape number) = codes "refused Shape " ++ decimal number
end_refusal_text (end.Conflict c) = codes "refused Conflict "
    ++ (decimal c.position ++ (codes " " ++ decimal (code_of c.kind)))

-- why the world refuses
abbrev pub refusal_text : BrokerRefusal → List ℕ
refusal_text refusal.NoPublisher = codes "refused NoPublisher"
refusal_text refusal.NoDelivery = codes "refused NoDelivery"
refusal_text refusal.TooMany = codes "refused TooMany"
refusal_text refusal.Holding = codes "refused Holding"
refusal_text refusal.NothingStaged = codes "refused NothingStaged"
refusal_text refusal.Closed = codes "refused Closed"
refusal_text refusal.Full = codes "refused Full"
refusal_text refusal.NotPlaced = codes "refused NotPlaced"
refusal_text refusal.NotYours = codes "refused NotYours"
refusal_text refusal.AlreadyWithdrawn = codes "refused AlreadyWithdrawn"
refusal_text refusal.NotFallen = codes "refused NotFallen"
refusal_text (refusal.UnknownTable i) = codes "refused UnknownTable " ++ decimal i
refusal_text (refusal.ShapeDiffers i) = codes "refused ShapeDiffers " ++ decimal i
refusal_text (refusal.Desk why) = desk_refusal_text why
refusal_text (refusal.Accept why) = end_refusal_text why

-- a delivery: its number, its subscription, and the first and the last number that it delivers
abbrev pub delivery_text : Delivery → List ℕ
delivery_text d =
    codes "delivery "
    ++ (decimal d.number
    ++ (codes " "
    ++ (decimal d.sub ++ (codes " " ++ (decimal d.first ++ (codes " " ++ decimal d.last))))))

-- a reply
abbrev pub reply_text : Reply → List ℕ
reply_text (reply.Publisher p) = codes "publisher " ++ decimal p
reply_text reply.Fed = codes "ok"
reply_text reply.Reset = codes "ok"
reply_text reply.Staged = codes "staged"
reply_text (reply.Sent own) = codes "sent " ++ decimal own
reply_text (reply.Placed n) = codes "placed " ++ decimal n
reply_text reply.Idle = codes "idle"
reply_text (reply.Closed last) = codes "closed " ++ decimal last
reply_text (reply.Subscriber s link) = codes "subscriber "
    ++ (decimal s ++ (codes " link " ++ decimal link))
reply_text (reply.Delivery delivery) = delivery_text delivery
reply_text (reply.Accepted s cursor) = codes "accepted " ++ decimal cursor
reply_text (reply.Crashed s cursor) = codes "crashed " ++ decimal cursor
reply_text (reply.Floor floor) = codes "floor " ++ decimal floor
reply_text reply.Returned = codes "ok"
reply_text (reply.Opened count) = codes "opened " ++ decimal count
reply_text (reply.Expired count) = codes "expired " ++ decimal count
reply_text (reply.Link link) = codes "link " ++ decimal link
reply_text reply.Unsubscribed = codes "ok"
reply_text (reply.Fault fault) = codes "fault "
    ++ (decimal fault.at ++ (codes " " ++ kind_name fault.kind))
reply_text (reply.Refused why) = refusal_text why
