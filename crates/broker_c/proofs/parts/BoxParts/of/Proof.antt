-- A box taken apart: the parts own what it owned.
use Rattle.broker_c.proofs.Steps.{◌≡◌, refl, ap, ◌∙◌, List, [], ◌∷◌, ◌++◌, Fn, Args, a_type, dcons, dnil, inst_fn, bare}
use Rattle.broker_c.proofs.Steps.{Val, vstruct, of_list, id⊢, never, fst∗, ftrue, fsep, flft, ◌⊑◌, fact, tables, WpFn}
use Rattle.broker_c.proofs.Steps.{sem, Item, ‵, raw, prop, ◌⊛◌, some, later, ◌$◌, ◌∵◌, !, qed, move, drop, use1, join}
use Rattle.broker_c.proofs.Steps.{split, split3, pick, rewrite, regoal, fsplit, fjoin, fpick, feq_l, suffices, await}
use Rattle.broker_c.proofs.Steps.{done, whole, sub, agg, stop, fld, no_more, and_then, of_opd, returns, enter}
use Rattle.broker_c.proofs.Steps.{alloc_all, pass_all, free_all, look_at, get, get_in, sets, lands_as, RattleType, no}
use Rattle.broker_c.proofs.Steps.{bounded, Ptr, RawPtr, block_ptr, null_ptr, ptr_val, in_a_block, plain, heard, nothing}
use Rattle.broker_c.proofs.Steps.{only, Tuple, calls_at, triple_of, framed, proved_at, says, Stays, stay_dropped}
use Rattle.broker_c.proofs.Steps.{walk_of, ends_at, token, handle_tells, Goes-blank, box_owns, Bx, D, τ, R, P, B, word}
use Rattle.broker_c.proofs.Steps.{box_typed, box_out, box_in}
use Rattle.std_alloc.specs.contracts.boxed.Box.into_raw_with_allocator as into_raw
use Rattle.std_alloc.proofs.boxed.Box.into_raw_with_allocator.Met.{met}
use Rattle.broker_c.specs.contracts.parts.BoxParts as parts
use Rattle.broker_c.specs.contracts.parts.BoxParts.of as F
use Rattle.broker_c.specs.contracts.parts.BoxParts.of.Key.{name as #self}
use Rattle.broker_c.proofs.parts.BoxParts.of.Statement.{statement}
use Rattle.broker_c.proofs.parts.BoxParts.of.Code as code

pub of_spec : {M : Type 1} → statement M
of_spec 𝓤 𝓛 𝓜 𝓡 wired X A LX LA g d drops dx allocator meets glue =
    let E : Bx = record { row = X; laws = LX; al = record { row = A; laws = LA; g = g; d = d; drops = drops } } in
    let Box = plain (λ _. B E) in
    let ended = F.ended X A g d drops dx in
    let c = F.clauses X A g d drops dx 𝓛 𝓜.mem 𝓡.returns in
    let stayed : Stays ended.signature.params ended.kept = (stay_dropped Box no, tt) in
    let inst : Args = bounded (a_type ∷ a_type ∷ []) (X, (A, tt)) (dcons d (dcons drops (dcons dx dnil))) in
    let fn : Fn = inst_fn inst code.function in
    let 𝓣 = tables 𝓤 𝓛.H 𝓜 𝓡 𝓡.env in
    let G = triple_of 𝓛 (into_raw.signature X A g d drops dx) (into_raw.spec X A g d drops dx 𝓛 𝓜.mem 𝓡.returns) in
    let wires = code.calls-std_alloc::boxed::Box::into_raw_with_allocator 𝓡.env wired in
    let known = met 𝓤 𝓛 𝓜 𝓡 wires X A LX LA g d drops dx allocator meets glue in
    let To : RattleType = parts.the_row (R E) (P E) g in
    proved_at 𝓛 ended stayed c 𝓜 𝓡 (Goes-blank 𝓛 2 Box no (λ κs x f. tt), tt) (#self inst) fn
    (code.unfolded 𝓤 𝓛.H 𝓜 𝓡 wired (X, (A, tt)) d drops dx) (λ z are.
    let κs = z.0.0 in
    let qs = z.0.1 in
    let v = z.0.3.0 in
    let a = v.alloc in
    let Post = (walk_of 𝓛 ended stayed c).post z in
    let tokens : Item 𝓤 = ‵ (flft κs.0 qs.0) ⊛ ‵ (flft κs.1.0 qs.1.0) ⊛ ‵ ftrue in
    let alive : Item 𝓤 = raw (fact 𝓤 (κs.0 ⊑ X.lives)) ⊛ raw (fact 𝓤 (κs.1.0 ⊑ A.lives)) ⊛ ‵ ftrue in
    qed 𝓛 ((tokens ⊛ ‵ (fsep ((B E).own_val v z.0.4.0) ftrue)) ∷ alive ∷ []) ∵
    split ! $ move ! (1 ∷ []) $ fsplit ! $
    box_out E ! v z.0.4.0 (λ b o h e is fits. box_in E ! v b o v.value e refl $
    let w = word E h b o in
    let y : G.Ghost = ((κs, qs, tt, (v, tt), (w ∷ [], tt)), tt) in
    regoal ! (λ (us : List Val). prop (WpFn 𝓤 𝓛.H 𝓣.C 𝓣.Λ fn (us ++ []) Post)) is refl $
    fjoin ! $ move ! (1 ∷ 0 ∷ []) $ join ! $ join ! $ use1 𝓛 (raw (G.pre y)) (id⊢ 𝓤 _) $
    enter ! 𝓣.C 𝓣.Λ fn (w ∷ []) _ $ alloc_all ! (λ ls. pass_all ! refl (box_typed E h b o fits, tt) $
    sets ! (of_opd ! (get ! refl)) refl (box_typed E h b o fits) $
    calls_at ! (framed 𝓤 𝓛.H 𝓜 𝓣) G known y (and_then ! (get ! refl) (no_more !)) (λ u.
    use1 𝓛 (later (some (λ (r : Ptr × A.Denot). (tokens ⊛ ‵ ((Tuple (RawPtr ∷ P E ∷ [])).own_val r (u ∷ [])))
    ⊛ some (λ (_ : (Unit {0} × (Unit {0} × Unit {0})) × Unit {0}). ‵ (fsep (fsep ftrue (fsep ftrue ftrue)) ftrue)
    ⊛ (raw (fact 𝓤 (r.1 ≡ a)) ⊛ ‵ (box_owns (token E.al a) (R E) r.0 v.value)))))) (id⊢ 𝓤 _) $
    await ! tt $ pick ! (λ r. split ! $ move ! (1 ∷ []) $
    pick ! (λ _. split3 ! $ drop ! $ heard ! (r.1 ≡ a) (λ same.
    in_a_block ! r.0 (λ p. box_owns (token E.al a) (R E) p v.value)
    (fst∗ 𝓤 (never 𝓤) (sem 𝓛 (token E.al a (bare (τ E)) null_ptr))) (λ b' o' at.
    move ! (1 ∷ []) $ split ! $ move ! (1 ∷ []) $ fpick ! (λ words. fsplit ! $ feq_l ! (λ both. fsplit ! $
    feq_l ! (λ front. fsplit ! $ rewrite ! 0 (λ (s : A.Denot). ‵ (A.own_val s words.1.0)) same refl $
    handle_tells E.al ! a words.1.0 (λ h' back fits'.
    let made : To.Denot = record { pointer = block_ptr b' o'; alloc = a; value = v.value } in
    let boxed : D E = record { ptr = block_ptr b' o'; alloc = a; value = v.value } in
    lands_as ! (ap only (both ∙ (λ j.
    vstruct (of_list ((front ∙ ap (λ (p : Ptr). ptr_val p ∷ []) at) j ++ (back j ++ []))) ∷ []))) refl
    (box_typed E h' b' o' fits') $
    sets ! (of_opd ! (get_in ! (fld ! refl (stop !)) (sub ! 0 refl (whole !)))) refl (tt, tt) $
    sets ! (of_opd ! (get_in ! (fld ! refl (stop !)) (sub ! 1 refl (whole !)))) refl fits' $
    sets ! (of_opd ! (get ! refl)) refl fits' $
    sets ! (agg ! (and_then ! (get ! refl) (and_then ! (get ! refl) (no_more !)))) refl (box_typed E h' b' o' fits') $
    returns ! (look_at ! 0 refl) $ free_all ! refl $
    -- [the handle; what was asked; the tokens; what the pointer leads to]
    move ! (3 ∷ []) $ fsplit ! $ box_in E ! boxed b' o' v.value refl refl $
    use1 𝓛 (‵ (To.own_val made (word E h' b' o' ∷ []))) (id⊢ 𝓤 _) $ move ! (1 ∷ []) $ drop ! $
    suffices ! _ (ends_at 𝓛 ended stayed c z (word E h' b' o') made ((tt, (tt, tt)), tt) (tt, tt)) $
    says ! refl $ nothing ! $ nothing ! $ fjoin ! $ join ! $ move ! (1 ∷ 0 ∷ []) $ join ! $ done !))))))))))))
