-- A list that begins with another begins with what the other begins with.
use Rattle.std.proofs.Common.{◌≡◌, ◌∙◌, ◌++◌, List, length, take, sym, ap, arith, length-append}
use Rattle.std.proofs.Math.Seq.{take-length}
use Rattle.std.proofs.lemmas.List.{take-append-le, take-take}

pub front_of_more : {A : Type 0} (old mid more new : List A) → mid ≡ old ++ more → take (length mid) new ≡ mid
    → take (length old) new ≡ old
front_of_more old mid more new m f =
    sym (take-take (length old) (length mid) new (omega (arith, ap length m, length-append old more)))
    ∙ ap (take (length old)) (f ∙ m) ∙ take-append-le (length old) old more (omega arith) ∙ take-length old
