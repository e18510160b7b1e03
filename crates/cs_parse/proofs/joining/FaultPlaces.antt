-- The place of a fault of a text within the limit.
use Rattle.std.proofs.Common.{◌≡◌, ℕ, ◌-◌, ◌≤◌, Bool, true, false, cond, Option, Some, None, refl, sym, ap, ◌∙◌, arith}
use Rattle.std.proofs.Common.{ltb}
use Rattle.std.proofs.lemmas.Bool.{le-ltb}
use Rattle.cs_model.specs.Changeset.{most_bytes}
use Rattle.cs_parse.specs.declared.fault.FaultKind.TheVariants.{TooLong}
use Rattle.cs_parse.specs.declared.fault.ParseFault.{ParseFault}
use Rattle.cs_parse.specs.declared.stop.ParseRefusal.{ParseRefusal}
use Rattle.cs_parse.specs.declared.stop.ParseRefusal.TheVariants.{Short, Bad}
use Rattle.cs_parse.specs.Progress.{Progress, Reached, broken, stopped, arrived}

fault_place : (fault other : ParseFault) → broken fault ≡ broken other → other.at ≡ fault.at
fault_place fault other e = sym (ap (λ (p : Progress). p.offset) e)

is_whole : (b : Bool) (progress : Progress) (long fault : ParseFault) → b ≡ false → progress.fault ≡ None
    → cond b (broken long) progress ≡ broken fault → ⊥
is_whole true progress long fault e none same = absurd cc
is_whole false progress long fault e none same =
    let some : None ≡ Some fault = sym none ∙ ap (λ (p : Progress). p.fault) same in
    absurd cc

abbrev whole : ℕ → Reached → Progress
whole taken reached = record { sections = reached.sections; pending = reached.rest; offset = taken; fault = None }

abbrev too_long : ParseFault
too_long = record { at = most_bytes; kind = TooLong }

stopped_place : (taken : ℕ) (reached : Reached) (why : Option ParseRefusal) (fault : ParseFault) → taken ≤ most_bytes
    → stopped taken taken reached why ≡ broken fault → fault.at ≤ taken
stopped_place taken reached None fault few same =
    absurd (is_whole (ltb most_bytes taken) (whole taken reached) too_long fault (le-ltb most_bytes taken few) refl
    same)
stopped_place taken reached (Some Short) fault few same =
    absurd (is_whole (ltb most_bytes taken) (whole taken reached) too_long fault (le-ltb most_bytes taken few) refl
    same)
stopped_place taken reached (Some (Bad left kind)) fault few same =
    omega (arith, fault_place (record { at = taken - left; kind = kind }) fault same)

pub fault_within : (taken : ℕ) (reached : Reached) (fault : ParseFault) → taken ≤ most_bytes
    → ((len : ℕ) → arrived len taken reached ≡ broken fault) → fault.at ≤ taken
fault_within taken reached fault few told = stopped_place taken reached reached.why fault few (told taken)
