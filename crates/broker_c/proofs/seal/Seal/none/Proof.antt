-- A seal over nothing is made of the null pointer and of what the allocator owns.
use Rattle.broker_c.proofs.Steps.{refl, List, [], ◌∷◌, ◌++◌, Val, emp, id⊢, ftrue, fsep, tables, WpFn, ‵, raw, ◌⊛◌}
use Rattle.broker_c.proofs.Steps.{prop, ◌$◌, ◌∵◌, !, qed, move, drop, use1, join, split, fsplit, fjoin, fpack, feq_i}
use Rattle.broker_c.proofs.Steps.{regoal, suffices, done, agg, no_more, and_then, lit, returns, enter, alloc_all}
use Rattle.broker_c.proofs.Steps.{pass_all, free_all, look_at, get, sets, yes, type_at, nothing, says, Stays}
use Rattle.broker_c.proofs.Steps.{stay_dropped, walk_of, ends_at, Goes-dropped, proved_at, handle_tells, false}
use Rattle.broker_c.proofs.Steps.{null_ptr, ptr_val, vstruct, of_list, Valss, within, shape, fields, to, and_tt, has_ty}
use Rattle.broker_c.proofs.Steps.{α, lit<, plain}
use Rattle.rb_core.specs.State.{empty_world}
use Rattle.rb_core.specs.contracts.world.World as World
use Rattle.broker_c.proofs.AsBox.{SealBx}
use Rattle.broker_c.specs.contracts.seal.Seal as Seal
use Rattle.broker_c.specs.contracts.seal.Seal.none as F
use Rattle.broker_c.specs.contracts.seal.Seal.none.Key.{name as #self}
use Rattle.broker_c.proofs.seal.Seal.none.Statement.{statement}
use Rattle.broker_c.proofs.seal.Seal.none.Code as code

-- what the ghost of an empty seal is: any world
abbrev no_world : World.the_row.Denot
no_world = empty_world (record { batch = 1; window = 1; timeout = 1; capacity = 1; intake = 1; appliers = 1 }) []

abbrev stayed : Stays F.ended.signature.params F.ended.kept
stayed = (stay_dropped (plain (λ _. SealBx.al.row)) yes, tt)

pub none_spec : {M : Type 1} → statement M
none_spec 𝓤 𝓛 𝓜 𝓡 wired =
    let c = F.clauses 𝓛 𝓜.mem 𝓡.returns in
    let 𝓣 = tables 𝓤 𝓛.H 𝓜 𝓡 𝓡.env in
    proved_at 𝓛 F.ended stayed c 𝓜 𝓡 (Goes-dropped 𝓛 0 (plain (λ _. SealBx.al.row)) yes (λ κs x f. refl), tt) #self
    code.function (code.unfolded 𝓤 𝓛.H 𝓜 𝓡 wired) (λ z are.
    let Post = (walk_of 𝓛 F.ended stayed c).post z in
    let a = z.0.3.0 in
    let To = type_at F.signature.result tt in
    let made : To.Denot = record { pointer = null_ptr; alloc = a; full = false; held = no_world } in
    qed 𝓛 ((‵ ftrue ⊛ ‵ (fsep (SealBx.al.row.own_val a z.0.4.0) ftrue)) ∷ raw (emp 𝓤) ∷ []) ∵
    split ! $ drop ! $ fsplit ! $ move ! (1 ∷ 2 ∷ []) $ drop ! $ drop ! $
    handle_tells SealBx.al ! a z.0.4.0 (λ h is fits.
    let w : Val = vstruct (of_list (ptr_val null_ptr ∷ h ∷ [])) in
    regoal ! (λ (us : List Val). prop (WpFn 𝓤 𝓛.H 𝓣.C 𝓣.Λ code.function (us ++ []) Post)) is refl $
    enter ! 𝓣.C 𝓣.Λ code.function (h ∷ []) _ $ alloc_all ! (λ ls. pass_all ! refl (fits, tt) $
    sets ! (agg ! (and_then ! (lit ! tt) (and_then ! (get ! refl) (no_more !)))) refl
    (and_tt (has_ty (α SealBx.al) h) fits.0, (record { fits = lit< tt }, (fits.1, tt))) $
    returns ! (look_at ! 0 refl) $ free_all ! refl $
    nothing ! $ nothing ! $ move ! (2 ∷ 0 ∷ []) $ fjoin ! $
    feq_i ! (List Val) (ptr_val null_ptr ∷ []) (ptr_val null_ptr ∷ []) refl $ fjoin ! $
    feq_i ! (List Val) (w ∷ []) (w ∷ []) refl $ fjoin ! $
    fpack ! (Valss (fields Seal.the_type)) (within (shape Seal.the_type) (to Seal.the_type made) (w ∷ []))
    (ptr_val null_ptr ∷ [], (h ∷ [], tt)) $ fjoin ! $ use1 𝓛 (‵ (To.own_val made (w ∷ []))) (id⊢ 𝓤 _) $
    suffices ! _ (ends_at 𝓛 F.ended stayed c z w made (tt, tt) (tt, tt)) $ says ! refl $
    nothing ! $ nothing ! $ fjoin ! $ join ! $ nothing ! $ join ! $ done !)))
