use Rattle.std.proofs.Common.{◌∙◌, ap}
use Rattle.rb_deliveries.specs.Changes.{first_of_all}
use Rattle.rb_deliveries.specs.Picture.{DeliveriesSeen}
use Rattle.rb_deliveries.proofs.pictures.SearchLaws.{first_is}
use Rattle.rb_deliveries.proofs.deliveries.Deliveries.first_of_all.Goals as goal

pub returns : goal.returns
returns c =
    let d = c.self.inside in
    c.first_to_deliver.ensures
    ∙ first_is d.batch d.subs.window d.front d.turn d.next_delivery d.subs.subs c.self.invariant.batch_is.0
    c.self.invariant.belong c.rise.ensures
    ∙ ap (λ (v : DeliveriesSeen). first_of_all v.picture) c.self.view_is
