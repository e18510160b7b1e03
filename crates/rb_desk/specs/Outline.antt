-- The outline of a picture, without spans and clock, and what calls change in it. It has the front,
-- the closing number and the next numbers. Of each subscription, it has the start, the link and
-- whether it is closed.
use Rattle.std.specs.Prelude.{◌≡◌, ℕ, suc, ◌<◌, ◌≤◌, Bool, true, false, List, [], ◌∷◌, ◌++◌, length}
use Rattle.std.specs.Prelude.{map, Option, Some, None, slice_get, slice_set}
use Rattle.rb_desk.specs.declared.delivery.Delivery.{Delivery}
use Rattle.rb_desk.specs.Picture.{Picture}
use Rattle.rb_deliveries.specs.Picture.{Subscription}

-- a subscription without its floor, its greatest number delivered and its spans
pub record Member : Type 0 where
  pub start : ℕ
  pub link : ℕ
  pub closed : Bool

abbrev pub member_of : Subscription → Member
member_of q = record { start = q.start; link = q.link; closed = q.closed }

-- a picture without limits, clock, spans and orders
pub record Outline : Type 0 where
  pub front : ℕ
  pub closing : Option ℕ
  pub next_link : ℕ
  pub next_delivery : ℕ
  pub members : List Member

-- the outline of a picture
abbrev pub outline_of : Picture → Outline
outline_of p = record {
  front = p.front;
  closing = p.closing;
  next_link = p.next_link;
  next_delivery = p.next_delivery;
  members = map member_of p.subscriptions;
}

-- adds a subscription after a number that is placed, under a link never issued before
pub record Subscribes (old new : Outline) (start s link : ℕ) : Type 0 where
  pub placed : start ≤ old.front
  pub last : s ≡ length old.members
  pub given : link ≡ old.next_link
  pub kept : new ≡ record old {
    next_link = suc link;
    members = old.members
        ++ record { start = start; link = link; closed = false } ∷ [];
  }

-- makes a delivery, with a number never issued before, of numbers that are placed; its subscription
-- is open, began before them, and has this link
pub record Delivers (old new : Outline) (delivery : Delivery) : Type 0 where
  pub member : Member
  pub found : slice_get old.members delivery.sub ≡ Some member
  pub linked : delivery.link ≡ member.link
  pub not_closed : member.closed ≡ false
  pub given : delivery.number ≡ old.next_delivery
  pub behind : member.start < delivery.first
  pub order : delivery.first ≤ delivery.last
  pub placed : delivery.last ≤ old.front
  pub kept : new ≡ record old { next_delivery = suc delivery.number }

-- continues an open subscription under a link never issued before
pub record Reconnects (old new : Outline) (s link : ℕ) : Type 0 where
  pub member : Member
  pub found : slice_get old.members s ≡ Some member
  pub not_closed : member.closed ≡ false
  pub given : link ≡ old.next_link
  pub kept : new ≡ record old
      { next_link = suc link; members = slice_set old.members s (record member { link = link }) }

-- closes an open subscription
pub record Unsubscribes (old new : Outline) (s : ℕ) : Type 0 where
  pub member : Member
  pub found : slice_get old.members s ≡ Some member
  pub not_closed : member.closed ≡ false
  pub kept : new ≡ record old
      { members = slice_set old.members s (record member { closed = true }) }

-- places the next number; the sequence isn't closed
pub record Places (old new : Outline) (number : ℕ) : Type 0 where
  pub not_closed : old.closing ≡ None
  pub next : number ≡ suc old.front
  pub kept : new ≡ record old { front = number }

-- closes the sequence at its last number, or finds it closed there
pub record Closes (old new : Outline) (last : ℕ) : Type 0 where
  pub front : last ≡ old.front
  pub kept : new ≡ record old { closing = Some last }
