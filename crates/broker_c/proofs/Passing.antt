-- A function that makes one owner of a box out of another: both fields move, and what they own goes with them.
use Rattle.broker_c.proofs.Steps.{◌≡◌, refl, List, [], ◌∷◌, ◌++◌, Fn, place, copy, assign, rv_opd, seq, return, Val, id⊢}
use Rattle.broker_c.proofs.Steps.{ftrue, fsep, fact, tables, WpFn, Item, ‵, raw, ◌⊛◌, prop, ◌$◌, ◌∵◌, !, qed, move, drop}
use Rattle.broker_c.proofs.Steps.{use1, join, split, fsplit, fjoin, regoal, rewrite, suffices, done, whole, sub, agg, stop}
use Rattle.broker_c.proofs.Steps.{fld, no_more, and_then, of_opd, returns, enter, alloc_all, pass_all, free_all, look_at}
use Rattle.broker_c.proofs.Steps.{get, get_in, sets, yes, plain, nothing, says, Stays, stay_dropped, walk_of, ends_at, α}
use Rattle.broker_c.proofs.Steps.{Goes-dropped, proved_at, sem, Bx, D, B, word, box_typed, box_out, box_in, RattleType}
use Rattle.broker_c.proofs.Steps.{Bool, true, heard}
use seplogic.Ra.Ura.{Ura}
use mir.Syntax.{Callee, Local, Sym, aggregate, field, local, tcons, tnil, ty_ptr, ty_struct, value_local}
use base.Fml.{Fml}
use base.Logic.{SProp, ent, sep}
use contract.Running.{Running}
use denote.Exit.{Last}
use denote.Triple.Clauses.{Clauses, Ended, closing}
use denote.Triple.Spec.{Meets}
use denote.Triple.Walked.{Silent}
use prog.Model.{Model}
use prog.Wp.{Closed}
use types.Logic.{Logic}

-- its code, but for the names of the two structs
abbrev pub moving : Bx → Sym → Sym → Fn
moving E to from =
    let pair : Sym → Local = λ name. local (ty_struct name (tcons ty_ptr (tcons (α E.al) tnil))) value_local in
    let pointer : Local = local ty_ptr value_local in
    record {
      lifetimes = 0;
      outlives = [];
      ty_params = [];
      givens = 0;
      params = 1;
      locals = pair to ∷ pair from ∷ pointer ∷ local (α E.al) value_local ∷ pointer ∷ [];
      body = seq (assign (place 2 []) (rv_opd (copy (place 1 (field 0 ∷ [])))))
          (seq (assign (place 3 []) (rv_opd (copy (place 1 (field 1 ∷ [])))))
          (seq (assign (place 4 []) (rv_opd (copy (place 2 []))))
          (seq (assign (place 0 []) (aggregate (copy (place 4 []) ∷ copy (place 3 []) ∷ []))) return)));
    }

module _ (From To : RattleType) where
  abbrev pub one_to_one : Ended
  one_to_one = record {
    signature = record { lifetimes = 0; outlives = []; params = plain (λ _. From) ∷ []; result = plain (λ _. To) };
    kept = (yes, tt);
  }

  -- what it asks of the one, and what it says of the other
  abbrev pub asks_gives : {M : Type 1} {𝓤 : Ura M} → (From.Denot → SProp 𝓤) → (From.Denot → To.Denot → Type 0)
      → Clauses 𝓤 one_to_one
  asks_gives {𝓤 = 𝓤} asks gives κs a = record {
    ghost = Unit {0};
    requires = λ _. asks a.0;
    ensures = λ _ r _. fact 𝓤 (gives a.0 r);
  }

  abbrev pub stayed : Stays one_to_one.signature.params one_to_one.kept
  stayed = (stay_dropped (plain (λ _. From)) yes, tt)

module _ (E : Bx) (From To : RattleType) (value : From.Denot → D E) (made : From.Denot → To.Denot) (to from : Sym)
    {M : Type 1} (𝓤 : Ura M) (𝓛 : Logic 𝓤) (𝓜 : Model 𝓤 𝓛.H) (𝓡 : Running 𝓤 𝓛.H 𝓜) (k : Callee) where
  pub passes_on : Closed 𝓤 𝓛.H (tables 𝓤 𝓛.H 𝓜 𝓡 𝓡.env).C (tables 𝓤 𝓛.H 𝓜 𝓡 𝓡.env).Λ k (moving E to from)
      → Silent 𝓛 0 (plain (λ _. From)) yes → ((s : From.Denot) → Last (From.exit yes) s)
      → (asks : From.Denot → SProp 𝓤) (gives : From.Denot → To.Denot → Type 0)
      → ((s : From.Denot) (vs : List Val)
      → ent 𝓤 (sep 𝓤 (asks s) (sem 𝓛 (From.own_val s vs))) (sem 𝓛 ((B E).own_val (value s) vs)))
      → ((s : From.Denot) (vs : List Val) → (B E).own_val (value s) vs ≡ To.own_val (made s) vs)
      → ((s : From.Denot) → gives s (made s))
      → Meets 𝓛 (one_to_one From To).signature ((tables 𝓤 𝓛.H 𝓜 𝓡 𝓡.env).C k)
      (closing 𝓛 (one_to_one From To) (asks_gives From To asks gives))
  passes_on closed silent last asks gives has is so =
      let T = one_to_one From To in
      let c : Clauses 𝓤 T = asks_gives From To asks gives in
      let hs = stayed From To in
      let 𝓣 = tables 𝓤 𝓛.H 𝓜 𝓡 𝓡.env in
      let fn = moving E to from in
      proved_at 𝓛 T hs c 𝓜 𝓡 (Goes-dropped 𝓛 0 (plain (λ _. From)) yes silent, tt) k fn closed (λ z are.
      let Post = (walk_of 𝓛 T hs c).post z in
      let s = z.0.3.0 in
      let v : D E = value s in
      qed 𝓛 ((‵ ftrue ⊛ ‵ (fsep (From.own_val s z.0.4.0) ftrue)) ∷ raw (asks s) ∷ []) ∵
      split ! $ drop ! $ fsplit ! $ move ! (2 ∷ 0 ∷ []) $ join ! $
      use1 𝓛 (‵ ((B E).own_val v z.0.4.0)) (has s z.0.4.0) $
      box_out E ! v z.0.4.0 (λ b o h e ws fits. box_in E ! v b o v.value e refl $
      move ! (1 ∷ []) $ drop ! $
      let w = word E h b o in
      rewrite ! 0 (λ (F : Fml). ‵ F) (is s (w ∷ [])) refl $
      regoal ! (λ (us : List Val). prop (WpFn 𝓤 𝓛.H 𝓣.C 𝓣.Λ fn (us ++ []) Post)) ws refl $
      enter ! 𝓣.C 𝓣.Λ fn (w ∷ []) _ $ alloc_all ! (λ ls. pass_all ! refl (box_typed E h b o fits, tt) $
      sets ! (of_opd ! (get_in ! (fld ! refl (stop !)) (sub ! 0 refl (whole !)))) refl (tt, tt) $
      sets ! (of_opd ! (get_in ! (fld ! refl (stop !)) (sub ! 1 refl (whole !)))) refl fits $
      sets ! (of_opd ! (get ! refl)) refl (tt, tt) $
      sets ! (agg ! (and_then ! (get ! refl) (and_then ! (get ! refl) (no_more !)))) refl (box_typed E h b o fits) $
      returns ! (look_at ! 0 refl) $ free_all ! refl $
      suffices ! _ (ends_at 𝓛 T hs c z w (made s) (last s, tt) (tt, tt)) $ says ! (so s) $
      nothing ! $ nothing ! $ fjoin ! $ join ! $ nothing ! $ join ! $ done !)))

-- what a full one owns
pub when_full : {M : Type 1} {𝓤 : Ura M} (𝓛 : Logic 𝓤) (F : Fml) (owns : Bool → Fml) (full : Bool)
    → ent 𝓤 (sep 𝓤 (fact 𝓤 (full ≡ true)) (sem 𝓛 (fsep F (owns full)))) (sem 𝓛 (fsep F (owns true)))
when_full {𝓤 = 𝓤} 𝓛 F owns full =
    qed 𝓛 (raw (fact 𝓤 (full ≡ true)) ∷ ‵ (fsep F (owns full)) ∷ []) ∵
    heard ! (full ≡ true) (λ is. rewrite ! 0 (λ (b : Bool). ‵ (fsep F (owns b))) is refl $ done !)
