-- What known bytes gain, as an equation and as it is said elsewhere.
use Rattle.std.proofs.Common.{[], ◌≡◌, ℕ, ◌-◌, List, ◌++◌, length, take, drop, Option, Some, None, refl, sym, ap}
use Rattle.std.proofs.Common.{◌∙◌, arith, length-append, take-append-drop}
use Rattle.std.proofs.lemmas.List.{take_at}
use Rattle.std.proofs.lemmas.Option.{none-some}
use Rattle.std.specs.Io.KnownBytes.{Appends}
use Rattle.rb_script.specs.Streams.{AppendsFront}
use Rattle.rb_script.specs.Sinks.{GainsAll, GainsFront}

abbrev known : Option (List ℕ) → List ℕ
known None = []
known (Some xs) = xs

same_known : (xs ys : List ℕ) → Some ys ≡ Some xs → ys ≡ xs
same_known xs ys e = ap known e

pub appends_gains : (old new : Option (List ℕ)) (bs : List ℕ) → Appends old new bs → GainsAll old new bs
appends_gains None new bs h = tt
appends_gains (Some xs) None bs h = absurd h
appends_gains (Some xs) (Some ys) bs h = ap (λ (zs : List ℕ). Some zs) h

pub all_appended : (old new : Option (List ℕ)) (bs : List ℕ) → GainsAll old new bs → Appends old new bs
all_appended None new bs h = tt
all_appended (Some xs) None bs h = absurd (none-some (xs ++ bs) h)
all_appended (Some xs) (Some ys) bs h = same_known (xs ++ bs) ys h

-- what is left of `xs ++ front` without as many items as xs has
gained : (xs front more : List ℕ) → take (length (xs ++ front) - length xs) (front ++ more) ≡ front
gained xs front more =
    let n : length (xs ++ front) - length xs ≡ length front = omega (arith, length-append xs front) in
    ap (λ k. take k (front ++ more)) n ∙ take_at front more (length front) refl

pub front_gains : (old new : Option (List ℕ)) (bs : List ℕ) → AppendsFront old new bs → GainsFront old new bs
front_gains None new bs h = tt
front_gains (Some xs) None bs h = absurd h.3
front_gains (Some xs) (Some ys) bs h =
    ap (λ (zs : List ℕ). Some zs) (h.3 ∙ ap (λ t. xs ++ t) (sym (gained xs h.0 h.1)
    ∙ ap (λ t. take (length (xs ++ h.0) - length xs) t) (sym h.2)
    ∙ ap (λ t. take (length t - length xs) bs) (sym h.3)))

pub front_appended : (old new : Option (List ℕ)) (bs : List ℕ) → GainsFront old new bs → AppendsFront old new bs
front_appended None new bs h = ([], bs, refl, tt)
front_appended (Some xs) None bs h = absurd (none-some (xs ++ take (0 - length xs) bs) h)
front_appended (Some xs) (Some ys) bs h =
    let n = length ys - length xs in
    (take n bs, drop n bs, sym (take-append-drop n bs), same_known (xs ++ take n bs) ys h)
