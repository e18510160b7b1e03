-- Batches have no bytes and own nothing: they are made without a delivery.
use Rattle.std.proofs.Common.{◌≡◌, List, [], ◌∷◌, refl}
use mir.Val.{Val, vstruct, vnil}
use base.Logic.{SProp, emp}
use base.Fml.{Fml}
use types.Kit.{‵, raw, ◌⊛◌, ◌$◌, ◌∵◌, !, qed, by, keep, split, use0}
use types.Run.{no_more, and_then, returns, enter}
use types.ByLocal.{alloc_all, pass_all, free_all, look_at, get, sets}
use types.Part.{agg}
use contract.Monad.{fact, fact_i}
use contract.Running.{tables}
use denote.RattleType.{RattleType, owns}
use denote.Shadow.{makes_shadow}
use denote.Signature.{types_at}
use denote.Steps.{nothing}
use denote.Triple.Entry.{alive}
use denote.Triple.Walked.{Stays, walk_of}
use Rattle.std.proofs.raw_atomic.Walks.{proved, leaves}
use Rattle.rb_sequence.specs.Cells.{CellToken}
use Rattle.rb_subscriber.specs.contracts.batches.Batches as Batches
use Rattle.rb_subscriber.proofs.NoBytes.{no_bytes}
use Rattle.rb_subscriber.specs.contracts.batches.Batches.none.{ended, clauses}
use Rattle.rb_subscriber.specs.contracts.batches.Batches.none.Key.{name as #self}
use Rattle.rb_subscriber.proofs.batches.Batches.none.Statement.{statement}
use Rattle.rb_subscriber.proofs.batches.Batches.none.Code as code

pub none_spec : {M : Type 1} → statement M
none_spec 𝓤 𝓛 𝓜 𝓡 wired =
    let H = 𝓛.H in
    let 𝓣 = tables 𝓤 H 𝓜 𝓡 𝓡.env in
    let S : RattleType = Batches.the_row in
    let c = clauses 𝓛 𝓜.mem 𝓡.returns in
    let hs : Stays ended.signature.params ended.kept = tt in
    proved 𝓛 ended hs c 𝓜 𝓡 tt #self code.function
    (code.unfolded 𝓤 H 𝓜 𝓡 wired) (λ κs. tt) (λ κs. tt)
    (λ κs qs bounds a gh are.
    let shown : List (List CellToken) = [] in
    let r : S.Denot = record { marker = record {}; list = shown } in
    let F : Fml = S.own_val r (no_bytes ∷ []) in
    let y : (walk_of 𝓛 ended hs c).Ghost = ((κs, qs, bounds, a, tt), gh) in
    let Post : Val → SProp 𝓤 = (walk_of 𝓛 ended hs c).post y in
    qed 𝓛 ((raw (alive 𝓛 ended.signature κs qs) ⊛ ‵ (owns (types_at ended.signature.params κs) a y.0.4))
    ∷ raw ((c κs a).requires gh) ∷ []) ∵ split ! $ keep ! (0 ∷ []) $
    enter ! 𝓣.C 𝓣.Λ code.function [] Post $ alloc_all ! (λ l. pass_all ! refl tt $
    sets ! (agg ! (no_more !)) refl (tt, tt) $
    sets ! (agg ! (and_then ! (get ! refl) (no_more !))) refl (tt, (tt, tt)) $
    use0 𝓛 (raw (fact 𝓤 (shown ≡ shown))) (fact_i 𝓤 (shown ≡ shown) (emp 𝓤) refl) $
    use0 𝓛 (‵ F) (makes_shadow 𝓛 F ((λ vss. (tt, ((λ uss. (tt, tt)), tt))), tt)
    (((vstruct vnil ∷ [], tt), (refl, ((tt, (refl, tt)), tt))), tt)) $ nothing ! $
    returns ! (look_at ! 0 refl) $ free_all ! refl $ keep ! (3 ∷ 0 ∷ 1 ∷ 2 ∷ []) $
    by ! (leaves 𝓛 ended hs c y no_bytes r tt tt)))
