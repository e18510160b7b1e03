-- What a placing and a closing tell of the desk.
use Rattle.std.proofs.Common.{◌≡◌, ◌∙◌, ◌++◌, ◌∷◌, [], ℕ, List, Option, Some, None, Result, Ok, Err, ap, subst, sym}
use Rattle.std.proofs.lemmas.List.{append-nil}
use Rattle.std.specs.Prelude.{IfErr, IfOk}
use Rattle.rb_desk.specs.Journaled.{JournaledPicture}
use Rattle.rb_desk.specs.Calls.{close}
use Rattle.rb_desk.specs.declared.step.Step.{Step}
use Rattle.rb_desk.specs.declared.step.Step.TheVariants.{Place}
use Rattle.rb_desk.specs.Limits.{Limits}
use Rattle.rb_sequence.specs.Cells.{Cells, CellToken, LastToken}
use Rattle.rb_sequence.specs.Entry.{Entry}
use Rattle.rb_subscriber.specs.Owner.{OthersSince, Owner, desk_after, has_seen}
use Rattle.rb_broker.specs.declared.refusal.Occupied.TheVariants.{Next, Set}
use Rattle.rb_broker.specs.declared.refusal.PlaceError.{PlaceError}
use Rattle.rb_broker.specs.declared.refusal.PlaceError.TheVariants.{JournalFull}
use Rattle.rb_broker.specs.declared.refusal.PlaceError.TheVariants.{Closed, SequenceFull}
use Rattle.rb_broker.specs.declared.refusal.PlaceError.TheVariants.{Occupied, Memory}
use Rattle.rb_broker.specs.declared.refusal.RefusedItem.{RefusedItem}
use Rattle.rb_broker.specs.Holding.{own_step}
use Rattle.rb_broker.specs.Placing.{ClosesBoth, DeskCloses, DeskPlaces, DeskRefuses, PlacesEntry, RefusesPlace}
use Rattle.rb_broker.specs.Placing.{ShowsWhy, closing_step, number_to_place}

-- the desk refuses so, when the owner has seen the whole history
pub told_of_desk : (limits : Limits) (cells : Cells) (number : ℕ) (why : PlaceError) (me mine : Owner)
    (log : List (ℕ × Step)) (desk : JournaledPicture) → OthersSince me log → desk ≡ desk_after limits log
    → mine ≡ has_seen me log → RefusesPlace cells number desk why → DeskRefuses limits cells number why me mine
told_of_desk limits cells number why me mine log desk since was seen is = by why here
  where
    Told : PlaceError → Type 0
    Told w = OthersSince me mine.seen × RefusesPlace cells number (desk_after limits mine.seen) w × (mine.number ≡
        me.number)

    saw : log ≡ mine.seen
    saw = sym (ap (λ (o : Owner). o.seen) seen)

    here : Told why
    here = (
      subst (OthersSince me) saw since,
      subst (λ (d : JournaledPicture). RefusesPlace cells number d why) (was ∙ ap (desk_after limits) saw) is,
      ap (λ (o : Owner). o.number) seen,
    )

    by : (w : PlaceError) → Told w → DeskRefuses limits cells number w me mine
    by JournalFull t = t
    by (Closed told) t = t
    by SequenceFull t = t
    by (Occupied why) t = t
    by Memory t = absurd t.1

-- what a refusal shows by itself
pub refusal_shows : (cells : Cells) (number : ℕ) (desk : JournaledPicture) (why : PlaceError)
    → RefusesPlace cells number desk why → ShowsWhy cells number why
refusal_shows cells number desk JournalFull is = tt
refusal_shows cells number desk (Closed told) is = is.1.1
refusal_shows cells number desk SequenceFull is = tt
refusal_shows cells number desk (Occupied (Next other)) is = λ e. is.2.1 (sym is.2.0 ∙ e)
refusal_shows cells number desk (Occupied (Set token)) is = (is.2.0, is.2.1)
refusal_shows cells number desk Memory is = tt

pub placing_refuses : (limits : Limits) (result : Result CellToken RefusedItem) (cells : Cells) (entry : Entry)
    (me mine : Owner) (log grown : List (ℕ × Step)) (old new : JournaledPicture) → OthersSince me log
    → (old ≡ desk_after limits log) × (new ≡ desk_after limits grown) → grown ≡ log ++ own_step result me.number Place
    → mine ≡ has_seen me grown → PlacesEntry result cells entry old new
    → IfErr result (λ refused. DeskRefuses limits cells entry.number refused.why me mine)
placing_refuses limits (Ok told) cells entry me mine log grown old new since held grows seen is = tt
placing_refuses limits (Err refused) cells entry me mine log grown old new since held grows seen is =
    told_of_desk limits cells entry.number refused.why me mine log old since held.0
    (seen ∙ ap (has_seen me) (grows ∙ append-nil log)) is.1

pub placing_shows : (result : Result CellToken RefusedItem) (cells : Cells) (entry : Entry)
    (old new : JournaledPicture) → PlacesEntry result cells entry old new
    → IfErr result (λ refused. (refused.item ≡ entry.item) × ShowsWhy cells entry.number refused.why)
placing_shows (Ok told) cells entry old new is = tt
placing_shows (Err refused) cells entry old new is =
    (is.0, refusal_shows cells entry.number old refused.why is.1)

-- the desk has placed the number that the token shows
pub placing_places : (limits : Limits) (result : Result CellToken RefusedItem) (cells : Cells) (entry : Entry)
    (me mine : Owner) (log grown : List (ℕ × Step)) (old new : JournaledPicture) → OthersSince me log
    → (old ≡ desk_after limits log) × (new ≡ desk_after limits grown) → grown ≡ log ++ own_step result me.number Place
    → mine ≡ has_seen me grown → PlacesEntry result cells entry old new
    → IfOk result (λ told. DeskPlaces limits told.number me mine)
placing_places limits (Ok told) cells entry me mine log grown old new since held grows seen is = (
  since.0,
  record {
    apart = since.2;
    next = ap number_to_place (ap (desk_after limits) since.1 ∙ sym held.0) ∙ is.1 ∙ ap (λ (n : ℕ). Ok n) (sym
        is.0.number);
    seen = seen ∙ ap (has_seen me) (grows ∙ ap (λ l. l ++ (me.number, Place) ∷ []) (sym since.1));
  },
)
placing_places limits (Err refused) cells entry me mine log grown old new since held grows seen is = tt

-- the token shows the number at which the desk is closed
pub closing_told : (limits : Limits) (result : Option LastToken) (cells : Cells) (me mine : Owner)
    (log grown : List (ℕ × Step)) (old new : JournaledPicture) → OthersSince me log
    → (old ≡ desk_after limits log) × (new ≡ desk_after limits grown)
    → grown ≡ log ++ closing_step result me.number old.picture.closing → mine ≡ has_seen me grown
    → ClosesBoth result cells old new → DeskCloses limits result me mine
closing_told limits (Some told) cells me mine log grown old new since held grows seen closes =
    let was : old ≡ desk_after limits (me.seen ++ since.0) = held.0 ∙ ap (desk_after limits) (sym since.1) in (
      since.0,
      record {
        apart = since.2;
        last = closes.1 ∙ ap (λ (d : JournaledPicture). (close d.picture).0) was;
        seen = seen ∙ ap (has_seen me) (grows
            ∙ ap (λ l. l ++ closing_step (Some told) me.number old.picture.closing) (sym since.1)
            ∙ ap (λ (d : JournaledPicture). (me.seen ++ since.0) ++ closing_step (Some told) me.number
            d.picture.closing) was);
      },
    )
closing_told limits None cells me mine log grown old new since held grows seen closes = (
  subst (OthersSince me) (sym (append-nil log) ∙ sym grows ∙ sym (ap (λ (o : Owner). o.seen) seen)) since,
  ap (λ (o : Owner). o.number) seen,
)
