use Rattle.std.proofs.Common.{◌∙◌, length, sym, ap, arith}
use Rattle.rb_desk.specs.Calls.{subscribe}
use Rattle.rb_desk.specs.Journaled.{JournaledPicture, counted_steps, is_own}
use Rattle.rb_desk.specs.declared.step.Step.TheVariants.{Subscribe}
use Rattle.rb_subscriber.specs.Register.{RegisterState}
use Rattle.rb_broker.proofs.HoldLaws.{GrowsBy, answered, logged, named_still}
use Rattle.rb_broker.proofs.StepLaws.{one_step_on}
use Rattle.rb_broker.proofs.locked.Locked.subscribe.Goals as goal

-- the desk made fewer than 1,024
pub subscribe-requires-in-Ok : goal.subscribe-requires-in-Ok
subscribe-requires-in-Ok g c =
    let old = c.args.self.now in
    let ok = answered _ (subscribe old.desk.picture c.args.start).0 _ c.in-Ok.ensures.0 in
    let fits = c.only_subscribe_and_close.ensures.subscribe old.desk.picture c.args.start c.in-Ok.sub c.in-Ok.link ok in
    (omega (arith, old.made, fits.1), old.all)

-- what the lock says of the desk goes on, with one subscription more
pub invariant_of-self : goal.invariant_of-self
invariant_of-self g c =
    let old = c.args.self.now in
    let new = c.subscribe.new.self in
    let ok = answered _ (subscribe old.desk.picture c.args.start).0 _ c.in-Ok.ensures.0 in
    let fits = c.only_subscribe_and_close.ensures.subscribe old.desk.picture c.args.start c.in-Ok.sub c.in-Ok.link ok in
    let others = c.only_subscribe_and_close.ensures.subscribe_else old.desk.picture c.args.start in
    let step = c.in-Ok.ensures.1 in
    let counts = c.steps_are_counted.ensures.own old.desk (Subscribe c.args.start) (subscribe old.desk.picture
    c.args.start).1 in
    let counted = ap (λ (d : JournaledPicture). counted_steps is_own d.steps) step in
    let total = ap (λ (r : RegisterState). r.total) c.subscribe-in-Ok.ensures.made in
    let made = ap (λ (r : RegisterState). r.made) c.subscribe-in-Ok.ensures.made in
    let grows : GrowsBy c.catch_up.new.self.number (Subscribe c.args.start) old.history c.catch_up.new.all
    c.enroll-own.new.all =
    record { same = c.catch_up.ensures.same; named = c.enroll-own.ensures.name; log = c.enroll-own.ensures.log } in
    let length_is = ap (λ (d : JournaledPicture). length d.picture.subscriptions) step in
    record {
      limits = ap (λ (d : JournaledPicture). d.picture.limits) step ∙ others.0 ∙ old.limits;
      fits = old.fits;
      fills = old.fills;
      closes = (
        old.closes.0 ∙ sym others.1 ∙ sym (ap (λ (d : JournaledPicture). d.picture.closing) step),
        old.closes.1,
      );
      all = old.all;
      total = omega (arith, total, old.total, counts, counted);
      made = omega (arith, made, old.made, fits.2, length_is);
      name = named_still grows old.name;
      replays = one_step_on g.L.BrokerBrand.limits old.desk c.subscribe.new.self (Subscribe c.args.start)
          (subscribe old.desk.picture c.args.start).1 old.history.log c.enroll-own.new.all.log
          c.catch_up.new.self.number
          old.replays step others.0 c.steps-steps.ensures.replay (logged grows);
    }
