use Rattle.std.proofs.Common.{◌∙◌, ap, Err}
use Rattle.rb_desk.specs.declared.refusal.DeskRefusal.{DeskRefusal}
use Rattle.rb_broker.proofs.PlaceLaws.{full_else, refused_closed}
use Rattle.rb_broker.proofs.locked.Locked.place_refusal.Goals as goal

-- the sequence is closed
pub closed-requires : goal.closed-requires
closed-requires g c = refused_closed c.args.self.now.desk (c.requires ∙ ap (λ (w : DeskRefusal). Err w) c.in-Closed.is)

-- it is full
pub returns-in_default : goal.returns-in_default
returns-in_default g c =
    full_else c.args.self.now.desk c.args.why c.requires c.in_default.not-JournalFull c.in_default.not-Closed
