-- What the lock shows an owner of the history.
use Rattle.std.proofs.Common.{◌≡◌, ℕ, ◌+◌, List, [], ◌∷◌, ◌++◌, sym, ap, ◌∙◌, arith}
use mathlib.Core.List.{IsPrefix}
use Rattle.rb_desk.specs.declared.step.Step.{Step}
use Rattle.rb_history.specs.Kept.{count_under}
use Rattle.rb_history.proofs.Lists.{count_under-append, one_added}
use Rattle.rb_subscriber.specs.Owner.{Owner, OthersSince}

-- an owner that has seen a beginning with all entries of its own
pub since_it_looked : (me : Owner) (made : ℕ) (log : List (ℕ × Step)) → IsPrefix me.seen log
    → count_under me.number me.seen ≡ made → count_under me.number log ≡ made → OthersSince me log
since_it_looked me made log begins had all =
    let sum : count_under me.number log ≡ count_under me.number me.seen + count_under me.number begins.0 =
    ap (count_under me.number) (sym begins.1) ∙ count_under-append me.number me.seen begins.0 in
    (begins.0, begins.1, omega (arith, sum, had, all))

-- one more of its own
pub counts_one : (number made more : ℕ) (seen log grown : List (ℕ × Step)) (step : Step) → seen ≡ log
    → count_under number seen ≡ made → grown ≡ log ++ (number, step) ∷ [] → more ≡ made + 1
    → count_under number grown ≡ more
counts_one number made more seen log grown step whole had grows one =
    ap (count_under number) grows ∙ one_added number log step
    ∙ ap (λ n. n + 1) (ap (count_under number) (sym whole) ∙ had) ∙ sym one
