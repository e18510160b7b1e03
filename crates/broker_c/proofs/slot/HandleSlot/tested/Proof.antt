-- The slot moves as it is. Its pointer may be compared with null, since it is null or a handle's box.
use Rattle.broker_c.proofs.Steps.{◌≡◌, refl, subst, List, [], ◌∷◌, ◌++◌, lit<, Bool, true, false, Val, ftrue, fsep, fact, sem}
use Rattle.broker_c.proofs.Steps.{never, fst∗, tables, WpFn, RattleType, ‵, raw, ◌⊛◌, prop, ◌$◌, ◌∵◌, !, qed, move, drop, use1}
use Rattle.broker_c.proofs.Steps.{join, split, fsplit, fjoin, feq_i, rewrite, regoal, suffices, done, whole, sub, agg, stop, fld}
use Rattle.broker_c.proofs.Steps.{lit, no_more, and_then, of_opd, returns, enter, alloc_all, pass_all, free_all, look_at, get}
use Rattle.broker_c.proofs.Steps.{get_in, sets, yes, Ptr, block_ptr, null_ptr, ptr_val, plain, heard, nothing, says, Stays}
use Rattle.broker_c.proofs.Steps.{stay_dropped, walk_of, ends_at, Goes-dropped, proved_at, Tuple, bare}
use mathlib.Core.Bool.{false≢true}
use seplogic.Ra.Ura.{Ura}
use mir.Syntax.{ptr_ne, ty_bool}
use mir.Val.{op2_val, vbool, vnull}
use base.Logic.{ent, guard_i, never_e, snd∗, via}
use contract.Monad.{fact_i, fact_mono, fact_use}
use types.ByLocal.{is}
use types.Kit.{given, learn, use2}
use types.Logic.{Logic}
use types.Run.{bin}
use denote.Builtin.{bool}
use denote.Laws.{Typed}
use denote.Memory.{lone}
use denote.RawPtr.{InBlock, Testable, tests_null}
use Rattle.core.specs.Ptr.{points_to}
use Rattle.std.specs.Global.{Global}
use Rattle.std.proofs.GlobalToken.{dealloc_token-Testable}
use Rattle.std_alloc.proofs.Pairs.{pair_Typed, pair_of, pair_val}
use Rattle.std_heap.specs.contracts.GlobalAllocator.TheImpl.{ghosts}
use Rattle.broker_c.specs.Boxed.{owns_if}
use Rattle.broker_c.specs.contracts.handle.Handle as Handle
use Rattle.broker_c.specs.contracts.slot.HandleSlot as Slot
use Rattle.broker_c.specs.contracts.slot.HandleSlot.tested as F
use Rattle.broker_c.specs.contracts.slot.HandleSlot.tested.Key.{name as #self}
use Rattle.broker_c.proofs.slot.HandleSlot.TheLaws.{lowers, the_row_laws}
use Rattle.broker_c.proofs.slot.HandleSlot.tested.Statement.{statement}
use Rattle.broker_c.proofs.slot.HandleSlot.tested.Code as code

-- whether it isn't null
abbrev is_block : Ptr → Bool
is_block (block_ptr b o) = true
is_block null_ptr = false

compared : (p : Ptr) → op2_val ptr_ne (ptr_val p) vnull ≡ vbool (is_block p)
compared (block_ptr b o) = refl
compared null_ptr = refl

-- what is owned behind a pointer that is null or a box's says that it may be compared, and what that answers
told : {M : Type 1} {𝓤 : Ura M} (𝓛 : Logic 𝓤) (row : RattleType) (full : Bool) (alloc : Global) (p : Ptr) (held : row.Denot)
    → (InBlock p → full ≡ true) → ent 𝓤 (sem 𝓛 (owns_if row full alloc p held)) (fact 𝓤 (Testable p × (is_block p ≡ full)))
told {𝓤 = 𝓤} 𝓛 row true alloc (block_ptr b o) held may =
    let p = block_ptr b o in
    let τ = bare (lone row.mir) in
    via 𝓤 (sem 𝓛 (ghosts.dealloc_token alloc τ p))
    (snd∗ 𝓤 (sem 𝓛 (points_to row p held)) (sem 𝓛 (ghosts.dealloc_token alloc τ p)))
    (via 𝓤 (fact 𝓤 (Testable p)) (dealloc_token-Testable 𝓛 alloc τ p)
    (fact_mono 𝓤 (Testable p) (Testable p × (true ≡ true)) (λ t. (t, refl))))
told {𝓤 = 𝓤} 𝓛 row true alloc null_ptr held may =
    via 𝓤 (never 𝓤) (fst∗ 𝓤 (never 𝓤) (sem 𝓛 (ghosts.dealloc_token alloc (bare (lone row.mir)) null_ptr))) (never_e 𝓤 _)
told 𝓛 row false alloc (block_ptr b o) held may = absurd (false≢true (may tt))
told {𝓤 = 𝓤} 𝓛 row false alloc null_ptr held may =
    fact_i 𝓤 (Testable null_ptr × (false ≡ false)) _ (lit< tt, refl)

abbrev stayed : Stays F.ended.signature.params F.ended.kept
stayed = (stay_dropped (plain (λ _. Slot.the_row)) yes, tt)

pub tested_spec : {M : Type 1} → statement M
tested_spec 𝓤 𝓛 𝓜 𝓡 wired =
    let c = F.clauses 𝓛 𝓜.mem 𝓡.returns in
    let 𝓣 = tables 𝓤 𝓛.H 𝓜 𝓡 𝓡.env in
    let R = Slot.the_row in
    proved_at 𝓛 F.ended stayed c 𝓜 𝓡 (Goes-dropped 𝓛 0 (plain (λ _. R)) yes (λ κs x f. refl), tt) #self
    code.function (code.unfolded 𝓤 𝓛.H 𝓜 𝓡 wired) (λ z are.
    let Post = (walk_of 𝓛 F.ended stayed c).post z in
    let s = z.0.3.0 in
    let p = s.pointer in
    let y = is_block p in
    let w : Val = lowers.lowered s in
    let owns = owns_if Handle.the_row s.full s.alloc p s.held in
    let says_so = Testable p × (y ≡ s.full) in
    let one : z.0.4.0 ≡ w ∷ [] = lowers.val_is s z.0.4.0 are.0 in
    let typed = (subst (Typed R.mir) one ((the_row_laws.lawful 𝓛).typed s z.0.4.0 are.0)).0 in
    qed 𝓛 ((‵ ftrue ⊛ ‵ (fsep (R.own_val s z.0.4.0) ftrue)) ∷ raw (fact 𝓤 (InBlock p → s.full ≡ true)) ∷ []) ∵
    split ! $ drop ! $ move ! (1 ∷ []) $ heard ! _ (λ may. fsplit ! $ fsplit ! $ move ! (1 ∷ []) $
    use1 𝓛 (given says_so (‵ owns)) (fact_use 𝓤 says_so (told 𝓛 Handle.the_row s.full s.alloc p s.held may)
    (guard_i 𝓤 says_so (sem 𝓛 owns))) $ learn ! (λ t. move ! (1 ∷ []) $ fjoin ! $ move ! (1 ∷ []) $ drop ! $
    rewrite ! 0 (λ (us : List Val). ‵ (R.own_val s us)) one refl $
    regoal ! (λ (us : List Val). prop (WpFn 𝓤 𝓛.H 𝓣.C 𝓣.Λ code.function (us ++ []) Post)) one refl $
    enter ! 𝓣.C 𝓣.Λ code.function (w ∷ []) _ $ alloc_all ! (λ ls. pass_all ! refl (typed, tt) $
    sets ! (is ! (bin ! (get_in ! (fld ! refl (stop !)) (sub ! 0 refl (whole !))) (lit ! tt) (tests_null p t.0)) (compared p))
    refl (tt, tt) $
    sets ! (of_opd ! (get ! refl)) refl typed $
    sets ! (agg ! (and_then ! (get ! refl) (and_then ! (get ! refl) (no_more !)))) refl
    (pair_Typed lowers.mir ty_bool w (vbool y) typed (tt, tt)) $
    returns ! (look_at ! 0 refl) $ free_all ! refl $
    feq_i ! (List Val) (vbool y ∷ []) (vbool y ∷ []) refl $ move ! (1 ∷ 0 ∷ []) $
    use2 𝓛 (‵ ((Tuple (R ∷ bool ∷ [])).own_val (s, y) (pair_val w (vbool y) ∷ []))) (pair_of 𝓛 R bool s y w (vbool y)) $
    suffices ! _ (ends_at 𝓛 F.ended stayed c z (pair_val w (vbool y)) (s, y) (tt, tt) (tt, tt)) $
    says ! (refl, t.1) $ nothing ! $ nothing ! $ fjoin ! $ join ! $ nothing ! $ join ! $ done !))))
