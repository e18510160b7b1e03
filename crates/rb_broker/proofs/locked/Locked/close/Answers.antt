use Rattle.std.proofs.Common.{◌∙◌, ◌++◌, ◌∷◌, [], ℕ, List, length, Option, Some, sym, ap, arith}
use Rattle.std.proofs.lemmas.List.{append-nil}
use Rattle.rb_desk.specs.declared.step.Step.{Step}
use Rattle.rb_desk.specs.declared.step.Step.TheVariants.{Close}
use Rattle.rb_desk.specs.Journaled.{JournaledPicture, closing_steps, counted_steps, is_own}
use Rattle.rb_desk.specs.Picture.{Picture}
use Rattle.rb_history.specs.declared.chronicle.Chronicle.{Chronicle}
use Rattle.rb_sequence.specs.Cells.{Cells, LastToken}
use Rattle.rb_subscriber.specs.Owner.{desk_after, steps_made}
use Rattle.rb_broker.proofs.HoldLaws.{GrowsBy, closing_counts, logged, named_still, none_shown, some_shown}
use Rattle.rb_broker.proofs.PlaceLaws.{closed_again, closes_at_front}
use Rattle.rb_broker.proofs.StepLaws.{as_replayed, steps_snoc}
use Rattle.rb_broker.proofs.locked.Locked.close.Goals as goal

-- it is closed already
pub returns-in-Some-clause-closed : goal.returns-in-Some-clause-closed
returns-in-Some-clause-closed g c =
    let old = c.args.self.now in
    let p = old.desk.picture in
    let shows = some_shown g.L.StepLedger.cells p.closing old.closing c.in-Some.told c.in-Some.is old.closes in
    let closed = closed_again p c.in-Some.told.last shows.0 in (
      ap (λ (t : LastToken). t.cell) c.again.ensures ∙ shows.1,
      ap (λ (t : LastToken). t.last) c.again.ensures ∙ closed.0,
      closed.1,
      sym (ap (λ (xs : List Step). old.desk.steps ++ xs) closed.2 ∙ append-nil old.desk.steps),
    )

pub invariant_of-self : goal.invariant_of-self
invariant_of-self g c = record {
  limits = c.args.self.now.limits;
  fits = c.args.self.now.fits;
  fills = c.args.self.now.fills;
  closes = c.args.self.now.closes;
  all = c.args.self.now.all;
  total = c.args.self.now.total;
  made = c.args.self.now.made;
  name = ap (λ (h : Chronicle Step). h.name) c.catch_up.ensures.same ∙ c.args.self.now.name;
  replays = c.args.self.now.replays ∙ ap (λ (h : Chronicle Step). desk_after g.L.BrokerBrand.limits h.log) (sym
      c.catch_up.ensures.same);
}

-- the closing cell shows the front, which is the closing number now
pub invariant_of-self-2 : goal.invariant_of-self-2
invariant_of-self-2 g c =
    let cells = g.L.StepLedger.cells in
    let old = c.args.self.now in
    let p = old.desk.picture in
    let new = c.close.new.self in
    let open_ = none_shown cells p.closing old.closing c.in_default.is old.closes in
    let answer = c.close.ensures.answer in
    let keeps = c.only_subscribe_and_close.ensures.close p in
    let shown = ap (λ (t : LastToken). t.last) c.again-2.ensures ∙ c.in-Ok.ensures.ok.1 ∙ c.front.ensures in
    let at_front = closes_at_front p open_ in
    let counts = closing_counts old.desk p.closing (λ desk x q. c.steps_are_counted.ensures.own desk x q) in
    let grows : GrowsBy c.catch_up.new.self.number Close old.history c.catch_up.new.all c.append.new.all =
    record { same = c.catch_up.ensures.same; named = c.append.ensures.name; log = c.append.ensures.log } in
    let steps = ap (λ (xs : List Step). counted_steps is_own xs) c.close.ensures.steps in
    record {
      limits = ap (λ (x : ℕ × Picture). x.1.limits) (sym answer) ∙ keeps.0 ∙ old.limits;
      fits = old.fits;
      fills = c.fill_closing.ensures.same ∙ old.fills;
      closes = (
        ap (λ n. Some n) (shown ∙ sym at_front.0) ∙ sym at_front.1
            ∙ ap (λ (x : ℕ × Picture). x.1.closing) answer,
        ap (λ (t : LastToken). t.cell) c.again-2.ensures ∙ c.in-Ok.ensures.ok.0 ∙ ap (λ (s : Cells). s.closing)
            old.fills,
      );
      all = old.all;
      total = omega (arith, old.total, counts, steps);
      made = old.made ∙ sym (ap (λ (x : ℕ × Picture). length x.1.subscriptions) (sym answer) ∙ keeps.1);
      name = named_still grows old.name;
      replays = as_replayed g.L.BrokerBrand.limits new c.append.new.all.log
          (c.close.ensures.steps ∙ ap (λ (o : Option ℕ). old.desk.steps ++ closing_steps o) (sym open_)
          ∙ ap (λ (d : JournaledPicture). d.steps ++ Close ∷ []) old.replays
          ∙ sym (steps_snoc old.history.log (c.catch_up.new.self.number, Close)) ∙ ap steps_made (sym (logged grows)))
          (ap (λ (x : ℕ × Picture). x.1.limits) (sym answer) ∙ keeps.0 ∙ old.limits) c.steps-closed.ensures.replay;
    }

pub returns-clause-closed : goal.returns-clause-closed
returns-clause-closed g c =
    let old = c.args.self.now in
    let p = old.desk.picture in
    let open_ = none_shown g.L.StepLedger.cells p.closing old.closing c.in_default.is old.closes in (
      c.in-Ok.ensures.ok.0 ∙ ap (λ (s : Cells). s.closing) old.fills,
      c.in-Ok.ensures.ok.1 ∙ c.front.ensures ∙ sym (closes_at_front p open_).0,
      ap (λ (x : ℕ × Picture). x.1) (sym c.close.ensures.answer),
      c.close.ensures.steps,
    )
