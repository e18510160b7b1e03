use Rattle.std.proofs.Common.{◌≡◌, ℕ, List, [], ◌∷◌, ◌++◌, refl}
use mir.Syntax.{a_type}
use mir.Val.{Val, vstruct, vcons, vnil, of_list}
use mir.MapTy.{inst_fn}
use base.Logic.{SProp, emp}
use base.Fml.{ftrue, fsep, feq}
use types.Kit.{‵, raw, ◌⊛◌, some, given, later, ◌$◌, ◌∵◌, !, qed, by, move, keep, split, fjoin, fpack, pick, learn, use0, use1, await, feq_i}
use types.Run.{no_more, and_then, returns, enter}
use types.ByLocal.{alloc_all, pass_all, free_all, look_at, get, sets}
use types.Part.{agg}
use contract.Monad.{fact, fact_i}
use contract.Running.{tables}
use denote.RattleType.{RattleType, owns, Valss}
use denote.Steps.{nothing}
use denote.Param.{param, layouts}
use denote.Triple.Walked.{walk_of}
use Rattle.atomic_table.proofs.Walks.{proved, leaves}
use Rattle.logbook.proofs.Fields.{token, Token, token_made}
use Rattle.rb_history.specs.Kept.{whole_owns, hand_owns, count_under}
use Rattle.rb_history.specs.contracts.chronicle.Chronicle as Chronicle
use Rattle.rb_history.specs.contracts.hand.Hand as Hand
use Rattle.rb_history.proofs.Steps as steps
use Rattle.rb_history.specs.contracts.chronicle.Chronicle.«open».{ended, clauses}
use Rattle.rb_history.specs.contracts.chronicle.Chronicle.«open».Key.{name as #self}
use Rattle.rb_history.proofs.chronicle.Chronicle.«open».Statement.{statement}
use Rattle.rb_history.proofs.chronicle.Chronicle.«open».Code as code

pub open_spec : {M : Type 1} → statement M
open_spec 𝓤 𝓛 𝓜 𝓡 wired T L =
    let H = 𝓛.H in let 𝓣 = tables 𝓤 H 𝓜 𝓡 𝓡.env in let R : RattleType = param 0 T in let En = ended T in let S : RattleType = Chronicle.the_row R in let F : RattleType = Hand.the_row R in
    let c = clauses T 𝓛 𝓜.mem 𝓡.returns in let inst = layouts (a_type ∷ []) (T, tt) in let fn = inst_fn inst code.function in
    proved 𝓛 En tt c 𝓜 𝓡 tt (#self inst) fn (code.unfolded 𝓤 H 𝓜 𝓡 wired (T, tt)) (λ κs. tt) (λ κs. tt) (λ κs qs bounds a gh are.
    let y : (walk_of 𝓛 En tt c).Ghost = ((κs, qs, bounds, a, tt), gh) in let Post : Val → SProp 𝓤 = (walk_of 𝓛 En tt c).post y in
    qed 𝓛 ((raw (denote.Triple.Entry.alive 𝓛 En.signature κs qs) ⊛ ‵ ftrue) ∷ raw ((c κs a).requires gh) ∷ []) ∵ split ! $ keep ! (0 ∷ []) $
    enter ! 𝓣.C 𝓣.Λ fn [] Post $ alloc_all ! (λ l. pass_all ! refl tt $
    use0 𝓛 (later (some (λ (η : ℕ × ℕ). ‵ (whole_owns T.coded.code η [])))) (steps.begins 𝓛 T.coded) $ await ! tt $ pick ! (λ η.
    use1 𝓛 (later (some (λ (k : ℕ). given (count_under {E = T.Denot} k [] ≡ 0) (‵ (whole_owns T.coded.code η []) ⊛ ‵ (hand_owns η k 0))))) (steps.enrolls 𝓛 T.coded η []) $ await ! tt $ pick ! (λ k. learn ! (λ none. split ! $
    use1 𝓛 (later (some (λ (n : ℕ). given (count_under {E = T.Denot} n [] ≡ 0) (‵ (whole_owns T.coded.code η []) ⊛ ‵ (hand_owns η n 0))))) (steps.enrolls 𝓛 T.coded η []) $ await ! tt $ pick ! (λ n. learn ! (λ none2. split ! $
    let r : S.Denot = record { marker = record {}; name = η; log = [] } in let h : F.Denot = record { marker = record {}; name = η; number = k; made = 0 } in let h2 : F.Denot = record { marker = record {}; name = η; number = n; made = 0 } in
    let v : Val = vstruct (vcons token (vcons token (vcons token vnil))) in let Rs : List RattleType = S ∷ F ∷ F ∷ [] in let Told : Type 0 = (r.log ≡ r.log) × (h.name ≡ h.name) × (h.made ≡ h.made) × (h2.name ≡ h2.name) × (h2.made ≡ h2.made) in
    sets ! (agg ! (no_more !)) refl (tt, tt) $ sets ! (agg ! (and_then ! (get ! refl) (no_more !))) refl (tt, (tt, tt)) $ sets ! (agg ! (no_more !)) refl (tt, tt) $ sets ! (agg ! (and_then ! (get ! refl) (no_more !))) refl (tt, (tt, tt)) $ sets ! (agg ! (no_more !)) refl (tt, tt) $ sets ! (agg ! (and_then ! (get ! refl) (no_more !))) refl (tt, (tt, tt)) $
    sets ! (agg ! (and_then ! (get ! refl) (and_then ! (get ! refl) (and_then ! (get ! refl) (no_more !))))) refl (tt, ((tt, tt), ((tt, tt), ((tt, tt), tt)))) $
    use0 𝓛 (‵ ((Token R).own_val (record {}, tt) (token ∷ []))) (token_made R 𝓛) $ fjoin ! $ use0 𝓛 (‵ ((Token R).own_val (record {}, tt) (token ∷ []))) (token_made R 𝓛) $ move ! (0 ∷ 2 ∷ []) $ fjoin ! $
    use0 𝓛 (‵ ((Token R).own_val (record {}, tt) (token ∷ []))) (token_made R 𝓛) $ move ! (0 ∷ 3 ∷ []) $ fjoin ! $
    nothing ! $ move ! (2 ∷ 0 ∷ []) $ fjoin ! $ move ! (1 ∷ 0 ∷ []) $ fjoin ! $ move ! (1 ∷ 0 ∷ []) $ fjoin ! $ feq_i ! (List Val) (v ∷ []) (v ∷ []) refl $ fjoin ! $
    fpack ! (Valss Rs) (λ vss. fsep (feq (List Val) (v ∷ []) (vstruct (of_list (vss.0 ++ (vss.1.0 ++ (vss.1.1.0 ++ [])))) ∷ [])) (owns Rs (r, (h, (h2, tt))) vss)) (token ∷ [], (token ∷ [], (token ∷ [], tt))) $
    use0 𝓛 (raw (fact 𝓤 Told)) (fact_i 𝓤 Told (emp 𝓤) (refl, refl, refl, refl, refl)) $ nothing ! $
    returns ! (look_at ! 0 refl) $ free_all ! refl $ keep ! (3 ∷ 0 ∷ 2 ∷ 1 ∷ []) $ by ! (leaves 𝓛 En tt c y v (r, h, h2) tt tt))))))))
