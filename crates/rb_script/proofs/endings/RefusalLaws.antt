-- An answer begins with `refused` or `fault` exactly where its line is refused or faulty.
use Rattle.std.proofs.Common.{◌≡◌, ℕ, Bool, true, false, cond, List, [], ◌∷◌, Option, Some, None, refl, codes}
use Rattle.std.specs.Prelude.{is_some, not, nat_lt, length, option_map, slice_get}
use Rattle.std.specs.FinMap as map
use Rattle.cs_model.specs.declared.shape.Shape.{Shape}
use Rattle.cs_model.specs.declared.row_key.RowKey.{RowKey}
use Rattle.cs_model.specs.declared.schema.TableFault.{TableFault}
use Rattle.cs_model.specs.declared.schema.TableFault.TheVariants.{DuplicateTable, BadShape}
use Rattle.cs_model.specs.declared.value.Value.{Value}
use Rattle.cs_model.specs.Schema.{table_refusal}
use Rattle.cs_model.specs.Section.{Section}
use Rattle.cs_parse.specs.Reading.{answer_of}
use Rattle.rb_desk.specs.Limits.{Limits}
use Rattle.rb_desk.specs.declared.refusal.DeskRefusal.{DeskRefusal}
use Rattle.rb_desk.specs.declared.refusal.DeskRefusal.TheVariants as desk
use Rattle.rb_subscriber.specs.declared.refusal.AcceptRefusal.{AcceptRefusal}
use Rattle.rb_subscriber.specs.declared.refusal.AcceptRefusal.TheVariants as end
use Rattle.rb_sequence.specs.Entry.{Entry}
use Rattle.rb_core.specs.declared.reply.Reply.{Reply}
use Rattle.rb_core.specs.declared.reply.Reply.TheVariants as reply
use Rattle.rb_core.specs.declared.reply.BrokerRefusal.{BrokerRefusal}
use Rattle.rb_core.specs.declared.reply.BrokerRefusal.TheVariants as refusal
use Rattle.rb_core.specs.Combined.{combined_of}
use Rattle.rb_core.specs.Outcome.{outcome, entry_of}
use Rattle.rb_script.specs.declared.forms.Form.{Form}
use Rattle.rb_script.specs.declared.forms.Form.TheVariants as form
use Rattle.rb_script.specs.declared.lines.Stage.{Stage}
use Rattle.rb_script.specs.declared.lines.Stage.TheVariants.{Tables, Running}
use Rattle.rb_script.specs.Answering.{is_refusal}
use Rattle.rb_script.specs.Forms.{form_of}
use Rattle.rb_script.specs.Lines.{form_answer, found_changeset, found_entry, found_rows, header_of_answer}
use Rattle.rb_script.specs.Lines.{line_answer, line_of, most_of_line, table_added, table_answer, table_read, world_of}
use Rattle.rb_script.specs.Refusing.{form_refused, line_refused, reply_refuses, shape_refused, table_refused}
use Rattle.rb_script.specs.Replies.{desk_refusal_text, end_refusal_text, refusal_text, reply_text}

desk_text : (why : DeskRefusal) → is_refusal (line_of (desk_refusal_text why)) ≡ true
desk_text desk.NoSuch = refl
desk_text desk.StaleLink = refl
desk_text desk.Closed = refl
desk_text desk.WindowFull = refl
desk_text (desk.Drained last) = refl
desk_text (desk.Empty front) = refl
desk_text desk.NotInFlight = refl
desk_text (desk.NotAccepted cursor) = refl
desk_text (desk.BadCursor floor offered) = refl
desk_text (desk.StartAhead front) = refl
desk_text desk.TooMany = refl
desk_text desk.JournalFull = refl
desk_text desk.SequenceFull = refl

end_text : (why : AcceptRefusal) → is_refusal (line_of (end_refusal_text why)) ≡ true
end_text end.Store = refl
end_text end.Closed = refl
end_text end.StaleLink = refl
end_text end.Seen = refl
end_text (end.Gap expected) = refl
end_text (end.Shape number) = refl
end_text (end.Conflict conflict) = refl

broker_text : (why : BrokerRefusal) → is_refusal (line_of (refusal_text why)) ≡ true
broker_text refusal.NoPublisher = refl
broker_text refusal.NoDelivery = refl
broker_text refusal.TooMany = refl
broker_text refusal.Holding = refl
broker_text refusal.NothingStaged = refl
broker_text refusal.Closed = refl
broker_text refusal.Full = refl
broker_text refusal.NotPlaced = refl
broker_text refusal.NotYours = refl
broker_text refusal.AlreadyWithdrawn = refl
broker_text refusal.NotFallen = refl
broker_text (refusal.UnknownTable i) = refl
broker_text (refusal.ShapeDiffers i) = refl
broker_text (refusal.Desk why) = desk_text why
broker_text (refusal.Accept why) = end_text why

text_refuses : (said : Reply) → is_refusal (line_of (reply_text said)) ≡ reply_refuses said
text_refuses (reply.Publisher p) = refl
text_refuses reply.Fed = refl
text_refuses reply.Reset = refl
text_refuses reply.Staged = refl
text_refuses (reply.Sent own) = refl
text_refuses (reply.Placed n) = refl
text_refuses reply.Idle = refl
text_refuses (reply.Closed last) = refl
text_refuses (reply.Subscriber s link) = refl
text_refuses (reply.Delivery delivery) = refl
text_refuses (reply.Accepted s cursor) = refl
text_refuses (reply.Crashed s cursor) = refl
text_refuses (reply.Floor floor) = refl
text_refuses reply.Returned = refl
text_refuses (reply.Opened count) = refl
text_refuses (reply.Expired count) = refl
text_refuses (reply.Link link) = refl
text_refuses reply.Unsubscribed = refl
text_refuses (reply.Fault fault) = refl
text_refuses (reply.Refused why) = broker_text why

added_refuses : (tables : List Shape) (shape : Shape) (fault : Option TableFault)
    → is_refusal (line_of (table_added tables shape fault).0) ≡ is_some fault
added_refuses tables shape None = refl
added_refuses tables shape (Some (DuplicateTable i)) = refl
added_refuses tables shape (Some (BadShape i)) = refl

read_refuses : (tables : List Shape) (shape : Option Shape)
    → is_refusal (line_of (table_read tables shape).0) ≡ shape_refused tables shape
read_refuses tables None = refl
read_refuses tables (Some shape) = added_refuses tables shape (table_refusal tables shape)

table_refuses : (stage : Stage) (bytes : List ℕ)
    → is_refusal (line_of (table_answer stage bytes).0) ≡ table_refused stage bytes
table_refuses (Tables tables) bytes = read_refuses tables (header_of_answer (answer_of bytes))
table_refuses (Running world) bytes = refl

entry_refuses : (entry : Option Entry) → is_refusal (line_of (found_entry entry)) ≡ not (is_some entry)
entry_refuses None = refl
entry_refuses (Some entry) = refl

text_of_refuses : (sections : Option (List Section)) → is_refusal (line_of (found_changeset sections))
    ≡ not (is_some sections)
text_of_refuses None = refl
text_of_refuses (Some sections) = refl

rows_refuse : {A : Type 0} (see : A → List (RowKey × List Value)) (end : Option A)
    → is_refusal (found_rows (option_map see end)) ≡ not (is_some end)
rows_refuse see None = refl
rows_refuse see (Some end) = refl

form_refuses : (config : Limits) (stage : Stage) (form : Option Form) → is_refusal (form_answer config stage form).0
    ≡ form_refused config stage form
form_refuses config stage None = refl
form_refuses config stage (Some (form.Table bytes)) = table_refuses stage bytes
form_refuses config stage (Some (form.Happens event)) = text_refuses (outcome (world_of config stage) event).0
form_refuses config stage (Some (form.Entry n)) = entry_refuses (entry_of (world_of config stage) n)
form_refuses config stage (Some (form.Combine first last)) =
    text_of_refuses (combined_of (world_of config stage) first last)
form_refuses config stage (Some (form.Rows s)) =
    rows_refuse (λ end. map.entries end.tables.rows) (slice_get (world_of config stage).endpoints s)
form_refuses config stage (Some form.Left) = refl

pub line_refuses : (config : Limits) (stage : Stage) (line : List ℕ) → is_refusal (line_answer config stage line).0
    ≡ line_refused config stage line
line_refuses config stage [] = refl
line_refuses config stage (b ∷ bs) = by (nat_lt most_of_line (length (b ∷ bs)))
  where
    by : (t : Bool) → is_refusal (cond t (line_of (codes "refused LineTooLong"), stage)
        (form_answer config stage (form_of (b ∷ bs)))).0 ≡ cond t true (form_refused config stage (form_of (b ∷ bs)))
    by true = refl
    by false = form_refuses config stage (form_of (b ∷ bs))
