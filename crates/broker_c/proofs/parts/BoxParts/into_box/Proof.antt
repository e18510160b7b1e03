-- The parts put together: the box owns what they owned.
use Rattle.broker_c.proofs.Steps.{◌≡◌, refl, sym, subst, ap, List, [], ◌∷◌, ◌++◌, T, Fn, Body, place, copy, assign}
use Rattle.broker_c.proofs.Steps.{rv_opd, seq, return, inst_fn, Val, vptr, has_ty, WT, id⊢, ftrue, fsep, flft, ◌⊑◌}
use Rattle.broker_c.proofs.Steps.{fact, tables, WpFn, Item, at_ret, ‵, raw, prop, ◌⊛◌, some, later, ◌$◌, ◌∵◌, !, qed}
use Rattle.broker_c.proofs.Steps.{move, drop, use1, join, split, split3, pick, rewrite, regoal, fsplit, fjoin, feq_i}
use Rattle.broker_c.proofs.Steps.{suffices, await, done, whole, sub, stop, fld, no_more, and_then, of_opd, returns}
use Rattle.broker_c.proofs.Steps.{enter, first, blocks, exec, alloc_all, pass_all, free_all, look_at, get, get_in, sets}
use Rattle.broker_c.proofs.Steps.{lands_last, env, RattleType, no, block_ptr, plain, heard, nothing, only}
use Rattle.broker_c.proofs.Steps.{calls_at_last, triple_of, framed, proved_at, says, Stays, stay_dropped, walk_of}
use Rattle.broker_c.proofs.Steps.{ends_at, token, Goes-blank, box_owns, Bx, D, R, P, B, args, box_ty, word, box_typed}
use Rattle.broker_c.proofs.Steps.{box_out, box_in}
use Rattle.std_alloc.specs.contracts.boxed.Box.from_raw as from_raw
use Rattle.std_alloc.proofs.boxed.Box.from_raw.Met.{met}
use Rattle.broker_c.specs.contracts.parts.BoxParts as parts
use Rattle.broker_c.specs.contracts.parts.BoxParts.into_box as F
use Rattle.broker_c.specs.contracts.parts.BoxParts.into_box.Key.{name as #self}
use Rattle.broker_c.proofs.parts.BoxParts.into_box.Statement.{statement}
use Rattle.broker_c.proofs.parts.BoxParts.into_box.Code as code

-- the code behind the block
abbrev rest : Body
rest = seq (assign (place 0 []) (rv_opd (copy (place 4 [])))) return

pub into_box_spec : {M : Type 1} → statement M
into_box_spec 𝓤 𝓛 𝓜 𝓡 wired X A LX LA g d drops allocator meets =
    let E : Bx = record { row = X; laws = LX; al = record { row = A; laws = LA; g = g; d = d; drops = drops } } in
    let From : RattleType = parts.the_row (R E) (P E) g in
    let Parted = plain (λ _. From) in
    let ended = F.ended X A g d drops in
    let c = F.clauses X A g d drops 𝓛 𝓜.mem 𝓡.returns in
    let stayed : Stays ended.signature.params ended.kept = (stay_dropped Parted no, tt) in
    let fn : Fn = inst_fn (args E) code.function in
    let 𝓣 = tables 𝓤 𝓛.H 𝓜 𝓡 𝓡.env in
    let G = triple_of 𝓛 (from_raw.signature X A g d drops) (from_raw.spec X A g d drops 𝓛 𝓜.mem 𝓡.returns) in
    let wires = code.calls-std_alloc::boxed::Box::from_raw 𝓡.env wired in
    let known = met 𝓤 𝓛 𝓜 𝓡 wires X A LX LA g d drops allocator meets in
    proved_at 𝓛 ended stayed c 𝓜 𝓡 (Goes-blank 𝓛 2 Parted no (λ κs x f. tt), tt) (#self (args E)) fn
    (code.unfolded 𝓤 𝓛.H 𝓜 𝓡 wired (X, (A, tt)) d drops) (λ z are.
    let κs = z.0.0 in
    let qs = z.0.1 in
    let a = z.0.3.0.alloc in
    let x = z.0.3.0.value in
    let Post = (walk_of 𝓛 ended stayed c).post z in
    let v : D E = record { ptr = z.0.3.0.pointer; alloc = a; value = x } in
    let tokens : Item 𝓤 = ‵ (flft κs.0 qs.0) ⊛ ‵ (flft κs.1.0 qs.1.0) ⊛ ‵ ftrue in
    let in_x : Item 𝓤 = raw (fact 𝓤 (κs.0 ⊑ X.lives)) in
    let in_a : Item 𝓤 = raw (fact 𝓤 (κs.1.0 ⊑ A.lives)) in
    qed 𝓛 ((tokens ⊛ ‵ (fsep ((B E).own_val v z.0.4.0) ftrue)) ∷ (in_x ⊛ in_a ⊛ ‵ ftrue) ∷ []) ∵
    split ! $ move ! (1 ∷ []) $ fsplit ! $ box_out E ! v z.0.4.0 (λ b o h e is fits. fjoin ! $
    let w = word E h b o in
    let y : G.Ghost = ((κs, qs, tt, (a, (block_ptr b o, tt)), (h ∷ [], (vptr b o ∷ [], tt))), x) in
    use1 𝓛 (‵ (box_owns (token E.al a) (R E) (block_ptr b o) x)) (id⊢ 𝓤 _) $
    regoal ! (λ (us : List Val). prop (WpFn 𝓤 𝓛.H 𝓣.C 𝓣.Λ fn (us ++ []) Post)) is refl $
    enter ! 𝓣.C 𝓣.Λ fn (w ∷ []) _ $ alloc_all ! (λ ls. pass_all ! refl (box_typed E h b o fits, tt) $
    sets ! (of_opd ! (get_in ! (fld ! refl (stop !)) (sub ! 0 refl (whole !)))) refl (tt, tt) $
    sets ! (of_opd ! (get_in ! (fld ! refl (stop !)) (sub ! 1 refl (whole !)))) refl fits $
    first ! $ blocks ! $ sets ! (of_opd ! (get ! refl)) refl fits $
    move ! (4 ∷ []) $ split3 ! $ move ! (2 ∷ []) $ drop ! $ move ! (1 ∷ 2 ∷ []) $ join ! $
    move ! (1 ∷ 0 ∷ []) $ join ! $
    -- [what is asked; the handle; nothing; the tokens]
    move ! (2 ∷ []) $ feq_i ! (List Val) (vptr b o ∷ []) (vptr b o ∷ []) refl $ fjoin ! $
    move ! (2 ∷ 0 ∷ []) $ fjoin ! $ move ! (2 ∷ 0 ∷ []) $ join ! $ join ! $ use1 𝓛 (raw (G.pre y)) (id⊢ 𝓤 _) $
    calls_at_last ! (framed 𝓤 𝓛.H 𝓜 𝓣) G known y (and_then ! (get ! refl) (and_then ! (get ! refl) (no_more !))) (λ u.
    use1 𝓛 (later (some (λ (r : D E). (tokens ⊛ ‵ ((B E).own_val r (u ∷ [])))
    ⊛ some (λ (_ : Unit {0} × (Unit {0} × Unit {0})). ‵ (fsep ftrue (fsep ftrue ftrue))
    ⊛ (raw (fact 𝓤 (r.value ≡ x)) ⊛ raw (fact 𝓤 (r.alloc ≡ a))))))) (id⊢ 𝓤 _) $
    await ! tt $ pick ! (λ r. split ! $ move ! (1 ∷ []) $
    pick ! (λ _. split3 ! $ drop ! $ heard ! (r.value ≡ x) (λ same. drop ! $ split ! $ move ! (1 ∷ []) $
    box_out E ! r (u ∷ []) (λ b' o' h' e' is' fits'. box_in E ! r b' o' r.value e' refl $
    rewrite ! 0 (λ (us : List Val). ‵ ((B E).own_val r us)) (sym is') refl $
    let typed : T (has_ty (box_ty E) u) × WT u =
    subst (λ (s : Val). T (has_ty (box_ty E) s) × WT s) (sym (ap only is')) (box_typed E h' b' o' fits') in
    lands_last ! refl typed $ exec ! 𝓣.C 𝓣.Λ (env fn.locals ls) rest (at_ret (env fn.locals ls) Post) $
    sets ! (of_opd ! (get ! refl)) refl typed $ returns ! (look_at ! 0 refl) $ free_all ! refl $
    suffices ! _ (ends_at 𝓛 ended stayed c z u r ((tt, (tt, tt)), tt) (tt, tt)) $
    says ! same $ nothing ! $ nothing ! $ fjoin ! $ join ! $ move ! (1 ∷ 0 ∷ []) $ join ! $ done !))))))))
