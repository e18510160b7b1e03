use Rattle.std.proofs.Common.{◌≡◌, ◌∙◌, not, ap, refl}
use Rattle.rb_deliveries.specs.declared.span.Status.{Status}
use Rattle.rb_deliveries.specs.declared.span.Status.TheVariants.{Ready, InFlight}
use Rattle.rb_deliveries.specs.Spans.{is_out, is_ready}
use Rattle.rb_deliveries.proofs.span.Status.is_out.Goals as goal

rests_or_out : (status : Status) → not (is_ready status) ≡ is_out status
rests_or_out (Ready taken) = refl
rests_or_out (InFlight number moment) = refl

pub returns : goal.returns
returns c = ap not c.is_ready.ensures ∙ rests_or_out c.args.self
