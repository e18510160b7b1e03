-- Cutting a text into one piece after another.
use Rattle.std.proofs.Common.{◌≡◌, ℕ, zero, suc, ◌<◌, ◌≤◌, min, List, [], ◌∷◌, ◌++◌, length, take, drop, refl, sym, ap}
use Rattle.std.proofs.Common.{◌∙◌, subst, append_assoc, arith, length-append, length-take, length-drop}
use Rattle.std.proofs.Common.{take-append-drop}
use Rattle.std.proofs.lemmas.List.{append-nil}
use Rattle.cs_write.specs.Pieces.{IsCut, TakesAll, FailsAt}

-- where there is a piece the text has a byte
cut_has : (max : ℕ) (text piece : List ℕ) (more : List (List ℕ)) → 0 < max → IsCut max text (piece ∷ more) → 0
    < length text
cut_has max text piece [] some cut = omega (arith, ap length cut.0, cut.1)
cut_has max text piece (next ∷ more) some cut = omega (arith, cut.0, ap length cut.1.1, length-append piece cut.1.0)

-- What is cut off the front of a text: it is short only where nothing is left.
pub record CutOff (max : ℕ) (text piece rest : List ℕ) : Type 0 where
  pub parts : text ≡ piece ++ rest
  pub size : length piece ≡ min max (length text)
  pub some : 0 < length text

-- what an iterator over pieces of `size` bytes gives
pub cut_off : {max size size_after : ℕ} {text piece rest : List ℕ} → size ≡ max
    → (size_after ≡ size) × ((text ≡ piece ++ rest) × (length piece ≡ min size (length text)) × (0 < length text))
    → CutOff max text piece rest
cut_off {text = text} is gives =
    record { parts = gives.1.0; size = gives.1.1 ∙ ap (λ n. min n (length text)) is; some = gives.1.2 }

-- a piece, in front of what cuts the rest
pub cut_more : (max : ℕ) (text piece rest : List ℕ) (back : List (List ℕ)) → 0 < max → CutOff max text piece rest
    → IsCut max rest back → IsCut max text (piece ∷ back)
cut_more max text piece rest [] some off none = (
  off.parts ∙ ap (λ r. piece ++ r) none ∙ append-nil piece,
  omega (arith, off.size, off.some),
  omega (arith, off.size),
)
cut_more max text piece rest (next ∷ more) some off cut = (
  omega (arith, off.size, ap length off.parts, length-append piece rest, cut_has max rest next more some cut),
  (rest, off.parts, cut),
)

-- every text can be cut
cutting_cut_within : (fuel max : ℕ) (text : List ℕ) → 0 < max → length text ≤ fuel → (pieces : List (List ℕ))
    × IsCut max text pieces
cutting_cut_within fuel max [] some fits = ([], refl)
cutting_cut_within zero max (byte ∷ text) some fits = absurd (omega (arith, fits))
cutting_cut_within (suc fuel) max (byte ∷ text) some fits =
    let whole = byte ∷ text in
    let piece = take max whole in
    let rest = drop max whole in
    let more = cutting_cut_within fuel max rest some (omega (arith, fits, length-drop max whole)) in
    let off : CutOff max whole piece rest =
    record { parts = sym (take-append-drop max whole); size = length-take max whole; some = omega arith } in
    (piece ∷ more.0, cut_more max whole piece rest more.0 some off more.1)

-- The pieces in front were taken, and whatever cuts the rest cuts the whole text behind them.
pub record CuttingProgress (max : ℕ) (whole rest : List ℕ) (taken_old taken_new failed_old failed_new : List (List ℕ)) :
    Type 0 where
  pub front : List (List ℕ)
  pub taken : taken_new ≡ taken_old ++ front
  pub failed : failed_new ≡ failed_old
  pub cuts : (back : List (List ℕ)) → IsCut max rest back → IsCut max whole (front ++ back)

pub begins : {max : ℕ} {whole rest : List ℕ} {taken failed : List (List ℕ)} → rest ≡ whole
    → CuttingProgress max whole rest taken taken failed failed
begins {max} {taken = taken} is =
    record {
      front = [];
      taken = sym (append-nil taken);
      failed = refl;
      cuts = λ back cut. subst (λ t. IsCut max t back)
          is cut;
    }

-- a piece more is taken
pub cutting_goes_on : {max : ℕ} {whole text piece rest : List ℕ}
    {taken_old taken taken_new failed_old failed failed_new : List (List ℕ)} → 0 < max
    → CuttingProgress max whole text taken_old taken failed_old failed → CutOff max text piece rest
    → taken_new ≡ taken ++ piece ∷ [] → failed_new ≡ failed
    → CuttingProgress max whole rest taken_old taken_new failed_old failed_new
cutting_goes_on {max} {whole} {text} {piece} {rest} {taken_old} some h off takes same = record {
  front = h.front ++ piece ∷ [];
  taken = takes ∙ ap (λ (l : List (List ℕ)). l ++ piece ∷ []) h.taken ∙ append_assoc taken_old h.front (piece ∷ []);
  failed = same ∙ h.failed;
  cuts = λ back cut. subst (IsCut max whole) (sym (append_assoc h.front (piece ∷ []) back))
      (h.cuts (piece ∷ back) (cut_more max text piece rest back some off cut));
}

-- nothing is left
pub ends : {max : ℕ} {whole rest : List ℕ} {taken_old taken_new failed_old failed_new : List (List ℕ)}
    → CuttingProgress max whole rest taken_old taken_new failed_old failed_new → rest ≡ []
    → TakesAll max whole taken_old taken_new failed_old failed_new
ends {max} {whole} h none = record {
  pieces = h.front;
  cut = subst (IsCut max whole) (append-nil h.front) (h.cuts [] none);
  taken = h.taken;
  failed = h.failed;
}

-- a piece fails
pub stops : {max : ℕ} {whole text piece rest : List ℕ}
    {taken_old taken taken_new failed_old failed failed_new : List (List ℕ)} → 0 < max
    → CuttingProgress max whole text taken_old taken failed_old failed → CutOff max text piece rest
    → taken_new ≡ taken → failed_new ≡ failed ++ piece ∷ []
    → FailsAt max whole taken_old taken_new failed_old failed_new
stops {max} {whole} {text} {piece} {rest} some h off same fails =
    let more = cutting_cut_within (length rest) max rest some (omega arith) in
    record {
      front = h.front;
      piece = piece;
      back = more.0;
      cut = h.cuts (piece ∷ more.0) (cut_more max text piece rest more.0 some off more.1);
      taken = same ∙ h.taken;
      failed = fails ∙ ap (λ (l : List (List ℕ)). l ++ piece ∷ []) h.failed;
    }
