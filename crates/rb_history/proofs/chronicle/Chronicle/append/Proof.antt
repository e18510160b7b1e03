use Rattle.std.proofs.Common.{◌≡◌, ℕ, ◌+◌, List, [], ◌∷◌, ◌++◌, refl, sym}
use mir.Syntax.{a_type, named}
use mir.Val.{Val, vunit, vptr}
use mir.MapTy.{inst_fn}
use base.Logic.{SProp, emp}
use base.Fml.{ftrue, flft}
use types.Kit.{‵, raw, ◌⊛◌, given, later, ◌$◌, ◌∵◌, !, qed, by, move, keep, drop, split, join, fsplit, fsplit3, fjoin, fjoin3, learn, use0, use2, await, feq_i, rewrite}
use types.Run.{of_opd, unit_lit, returns, enter}
use types.ByLocal.{alloc_all, pass_all, free_all, look_at, sets}
use contract.Monad.{fact, fact_i}
use contract.Running.{tables}
use denote.Exit.{yes}
use denote.RattleType.{RattleType, owns}
use denote.Signature.{types_at, plain}
use denote.Builtin.{RefOf}
use denote.Ref.{mut_vals, mut_Tells, shr_vals, shr_Tells}
use denote.Steps.{nothing, heard, opens, closes}
use denote.Param.{param, layouts}
use denote.Triple.Walked.{Stays, stay_dropped, stay_ref, walk_of, Goes-dropped, Goes-ref}
use Rattle.atomic_table.proofs.Walks.{proved, leaves}
use Rattle.rb_history.specs.Kept.{whole_owns, hand_owns, count_under}
use Rattle.rb_history.specs.contracts.chronicle.Chronicle as Chronicle
use Rattle.rb_history.proofs.Steps as steps
use Rattle.rb_history.specs.contracts.hand.Hand as Hand
use Rattle.rb_history.specs.contracts.chronicle.Chronicle.append.{ended, clauses}
use Rattle.rb_history.specs.contracts.chronicle.Chronicle.append.Key.{name as #self}
use Rattle.rb_history.proofs.chronicle.Chronicle.append.Statement.{statement}
use Rattle.rb_history.proofs.chronicle.Chronicle.append.Code as code

pub append_spec : {M : Type 1} → statement M
append_spec 𝓤 𝓛 𝓜 𝓡 wired T L =
    let H = 𝓛.H in let 𝓣 = tables 𝓤 H 𝓜 𝓡 𝓡.env in let R : RattleType = param 0 T in let En = ended T in let S : RattleType = Chronicle.the_row R in let F : RattleType = Hand.the_row R in
    let inst = layouts (a_type ∷ []) (T, tt) in let fn = inst_fn inst code.function in let c = clauses T 𝓛 𝓜.mem 𝓡.returns in
    let entry = RefOf (2 ∷ []) tt (plain (λ _. R)) (λ _. tt) in let hs : Stays En.signature.params En.kept = (stay_ref (0 ∷ []) tt (plain (λ _. S)), (stay_ref (1 ∷ []) tt (plain (λ _. F)), (stay_dropped entry yes, tt))) in
    proved 𝓛 En hs c 𝓜 𝓡 (Goes-ref 𝓛 4 0 tt (plain (λ _. S)), (Goes-ref 𝓛 4 1 tt (plain (λ _. F)), (Goes-dropped 𝓛 4 entry yes (λ κs x f. refl), tt))) (#self inst) fn (code.unfolded 𝓤 H 𝓜 𝓡 wired (T, tt))
    (λ κs. (mut_vals, (mut_vals, (shr_vals, tt)))) (λ κs. (mut_Tells (named 0) κs.0 S, (mut_Tells (named 1) κs.1.0 F, (shr_Tells (named 2) κs.1.1.0 R, tt)))) (λ κs qs bounds a gh are.
    let b : ℕ = a.0.ref_ptr.0 in let o : ℕ = a.0.ref_ptr.1 in let me : S.Denot = a.0.now in let p : ℕ = a.1.0.ref_ptr.0 in let q : ℕ = a.1.0.ref_ptr.1 in let h : F.Denot = a.1.0.now in let x : T.Denot = a.1.1.0.now in let me' : S.Denot = record { marker = me.marker; name = me.name; log = me.log ++ (h.number, x) ∷ [] } in let h' : F.Denot = record { marker = h.marker; name = h.name; number = h.number; made = h.made + 1 } in
    let y : (walk_of 𝓛 En hs c).Ghost = ((κs, qs, bounds, a, (vptr b o ∷ [], (vptr p q ∷ [], (vptr a.1.1.0.ref_ptr.0 a.1.1.0.ref_ptr.1 ∷ [], tt)))), gh) in let Post : Val → SProp 𝓤 = (walk_of 𝓛 En hs c).post y in
    let Told : Type 0 = (me.name ≡ me.name) × (me'.log ≡ me'.log) × (h.name ≡ h.name) × (h.number ≡ h.number) × (h'.made ≡ h'.made) in
    qed 𝓛 (((‵ (flft κs.0 qs.0) ⊛ ‵ (flft κs.1.0 qs.1.0) ⊛ ‵ (flft κs.1.1.0 qs.1.1.0) ⊛ ‵ (flft κs.1.1.1.0 qs.1.1.1.0) ⊛ ‵ ftrue) ⊛ ‵ (owns (types_at En.signature.params κs) a y.0.4)) ∷ raw (fact 𝓤 _) ∷ raw (fact 𝓤 (h.name ≡ me.name)) ∷ []) ∵ keep ! (2 ∷ 0 ∷ []) $ heard ! (h.name ≡ me.name) (λ same. split ! $ split ! $
    move ! (1 ∷ []) $ split ! $ move ! (3 ∷ []) $ fsplit ! $ fsplit3 ! $ drop ! $ move ! (2 ∷ []) $ fsplit ! $ fsplit3 ! $ drop ! $ keep ! (3 ∷ 4 ∷ 7 ∷ 0 ∷ 1 ∷ 5 ∷ 6 ∷ []) $
    enter ! 𝓣.C 𝓣.Λ fn (vptr b o ∷ vptr p q ∷ vptr a.1.1.0.ref_ptr.0 a.1.1.0.ref_ptr.1 ∷ []) Post $ alloc_all ! (λ l. pass_all ! refl ((tt, tt), ((tt, tt), ((tt, tt), tt))) $
    opens ! tt S b o (λ cs. move ! (5 ∷ 6 ∷ 7 ∷ []) $ opens ! tt F p q (λ ds. move ! (1 ∷ []) $ fsplit ! $ move ! (7 ∷ []) $ fsplit ! $ move ! (1 ∷ 3 ∷ []) $
    rewrite ! 1 (λ (k : ℕ × ℕ). ‵ (hand_owns k h.number h.made)) same refl $
    use2 𝓛 (later (given (count_under h.number me.log ≡ h.made) (‵ (whole_owns T.coded.code me.name me'.log) ⊛ ‵ (hand_owns me.name h.number h'.made)))) (steps.adds 𝓛 T.coded me.name me.log h.number h.made x) $ await ! tt $ learn ! (λ count. split ! $
    rewrite ! 1 (λ (k : ℕ × ℕ). ‵ (hand_owns k h.number h'.made)) (sym same) refl $
    move ! (2 ∷ 0 ∷ []) $ fjoin ! $ move ! (2 ∷ 1 ∷ []) $ fjoin ! $ move ! (2 ∷ 0 ∷ 3 ∷ 4 ∷ 5 ∷ []) $ closes ! tt F h' ds p q $ move ! (4 ∷ 3 ∷ 5 ∷ 6 ∷ 7 ∷ []) $ closes ! tt S me' cs b o $
    sets ! (of_opd ! (unit_lit !)) refl (tt, tt) $ returns ! (look_at ! 0 refl) $ free_all ! refl $
    feq_i ! (List Val) (vptr b o ∷ []) (vptr b o ∷ []) refl $ fjoin3 ! $ move ! (2 ∷ 3 ∷ []) $ feq_i ! (List Val) (vptr p q ∷ []) (vptr p q ∷ []) refl $ fjoin3 ! $ nothing ! $ nothing ! $ fjoin ! $ move ! (1 ∷ 0 ∷ []) $ fjoin ! $ move ! (1 ∷ 0 ∷ []) $ fjoin ! $
    move ! (2 ∷ 3 ∷ []) $ join ! $ move ! (2 ∷ 0 ∷ []) $ join ! $ feq_i ! (List Val) (vunit ∷ []) (vunit ∷ []) refl $ use0 𝓛 (raw (fact 𝓤 Told)) (fact_i 𝓤 Told (emp 𝓤) (refl, refl, refl, refl, refl)) $
    keep ! (2 ∷ 3 ∷ 1 ∷ 0 ∷ []) $ by ! (leaves 𝓛 En hs c y vunit tt (me', (h', (tt, tt))) (tt, (tt, (tt, tt))))))))))
