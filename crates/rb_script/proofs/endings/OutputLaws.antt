-- The output for lines with their answers, some after others.
use Rattle.std.proofs.Common.{◌≡◌, ℕ, ◌+◌, suc, Bool, true, false, cond, List, [], ◌∷◌, ◌++◌, length, Option, Some}
use Rattle.std.proofs.Common.{None}
use Rattle.std.proofs.Common.{refl, sym, ap, subst, ◌∙◌, append_assoc, arith}
use Rattle.std.proofs.lemmas.List.{append-nil}
use Rattle.std.proofs.lemmas.Option.{none-some}
use Rattle.std.specs.Io.KnownBytes.{Appends}
use Rattle.rb_script.specs.declared.answering.Answering.{Answering}
use Rattle.rb_script.specs.declared.answering.RefusedLine.{RefusedLine}
use Rattle.rb_script.specs.declared.fault.ScriptError.{ScriptError}
use Rattle.rb_script.specs.declared.fault.ScriptError.TheVariants.{Read, Write, Endless, Memory, Refused}
use Rattle.rb_script.specs.Answering.{AnsweredLine, stops_after, up_to_stop, numbered_answer, numbered_answers}
use Rattle.rb_script.specs.Answering.{output_for, refused_line, first_stop}
use Rattle.rb_script.specs.Feeding.{StopsIn}
use Rattle.rb_script.specs.Ends.{IsOfAnswers}
use Rattle.rb_script.specs.Streams.{AppendsFront}
use Rattle.rb_script.proofs.endings.StreamLaws.{Appends-trans, front_longer, front_later}

none_by : {A : Type 0} (b : Bool) (x : A) (rest : Option A) → cond b (Some x) rest ≡ None → (b ≡ false) × (rest ≡ None)
none_by true x rest e = absurd (none-some x (sym e))
none_by false x rest e = (refl, e)

-- a first line after which the script goes on
pub output-cons : (how : Answering) (n : ℕ) (a : AnsweredLine) (xs : List AnsweredLine) → stops_after how a ≡ false
    → output_for how n (a ∷ xs) ≡ numbered_answer how n a.answer ++ output_for how (suc n) xs
output-cons how n a xs e = ap (λ (b : Bool). numbered_answers how n (cond b (a ∷ []) (a ∷ up_to_stop how xs))) e

pub stop-cons : (how : Answering) (n : ℕ) (a : AnsweredLine) (xs : List AnsweredLine) → stops_after how a ≡ false
    → first_stop how n (a ∷ xs) ≡ first_stop how (suc n) xs
stop-cons how n a xs e = ap (λ (b : Bool). cond b (Some (refused_line n a)) (first_stop how (suc n) xs)) e

-- lines after others that don't stop the script: their output, and where they stop it
lines_append : (how : Answering) (n : ℕ) (xs bs : List AnsweredLine) → first_stop how n xs ≡ None
    → (output_for how n (xs ++ bs) ≡ output_for how n xs ++ output_for how (n + length xs) bs)
    × (first_stop how n (xs ++ bs) ≡ first_stop how (n + length xs) bs)
lines_append how n [] bs none =
    let e : n ≡ n + 0 = omega arith in
    (ap (λ (m : ℕ). output_for how m bs) e, ap (λ (m : ℕ). first_stop how m bs) e)
lines_append how n (a ∷ xs) bs none =
    let h = none_by (stops_after how a) (refused_line n a) (first_stop how (suc n) xs) none in
    let e : suc n + length xs ≡ n + suc (length xs) = omega arith in
    let mine : List ℕ = numbered_answer how n a.answer in
    let later = lines_append how (suc n) xs bs h.1 in (
      output-cons how n a (xs ++ bs) h.0
          ∙ ap (λ (t : List ℕ). mine ++ t) later.0
          ∙ sym (append_assoc mine (output_for how (suc n) xs) (output_for how (suc n + length xs) bs))
          ∙ ap (λ (t : List ℕ). t ++ output_for how (suc n + length xs) bs) (sym (output-cons how n a xs h.0))
          ∙ ap (λ (m : ℕ). output_for how n (a ∷ xs) ++ output_for how m bs) e,
      stop-cons how n a (xs ++ bs) h.0 ∙ later.1 ∙ ap (λ (m : ℕ). first_stop how m bs) e,
    )

pub output-append : (how : Answering) (n : ℕ) (xs bs : List AnsweredLine) → first_stop how n xs ≡ None
    → output_for how n (xs ++ bs) ≡ output_for how n xs ++ output_for how (n + length xs) bs
output-append how n xs bs none = (lines_append how n xs bs none).0

pub stop-append : (how : Answering) (n : ℕ) (xs bs : List AnsweredLine) → first_stop how n xs ≡ None
    → first_stop how n (xs ++ bs) ≡ first_stop how (n + length xs) bs
stop-append how n xs bs none = (lines_append how n xs bs none).1

-- the output for some lines is a prefix of that for more
pub output-front : (how : Answering) (n : ℕ) (xs bs : List AnsweredLine)
    → (more : List ℕ) × (output_for how n (xs ++ bs) ≡ output_for how n xs ++ more)
output-front how n [] bs = (output_for how n bs, refl)
output-front how n (a ∷ xs) bs = by (stops_after how a) (output-front how (suc n) xs bs)
  where
    by : (b : Bool) → (more : List ℕ) × (output_for how (suc n) (xs ++ bs) ≡ output_for how (suc n) xs ++ more)
        → (more : List ℕ) × (numbered_answers how n (cond b (a ∷ []) (a ∷ up_to_stop how (xs ++ bs)))
        ≡ numbered_answers how n (cond b (a ∷ []) (a ∷ up_to_stop how xs)) ++ more)
    by true later = ([], sym (append-nil (numbered_answers how n (a ∷ []))))
    by false later = (
      later.0,
      ap (λ (t : List ℕ). numbered_answer how n a.answer ++ t) later.1
          ∙ sym (append_assoc (numbered_answer how n a.answer) (output_for how (suc n) xs) later.0),
    )

-- a line that stops the script stays the first, and nothing after it is written
pub stop-stays : (how : Answering) (n : ℕ) (xs bs : List AnsweredLine) (line : RefusedLine)
    → first_stop how n xs ≡ Some line
    → (first_stop how n (xs ++ bs) ≡ Some line) × (output_for how n (xs ++ bs) ≡ output_for how n xs)
stop-stays how n [] bs line e = absurd (none-some line e)
stop-stays how n (a ∷ xs) bs line e = by (stops_after how a) (stop-stays how (suc n) xs bs line) e
  where
    by : (b : Bool)
        → (first_stop how (suc n) xs ≡ Some line → (first_stop how (suc n) (xs ++ bs) ≡ Some line)
        × (output_for how (suc n) (xs ++ bs) ≡ output_for how (suc n) xs))
        → cond b (Some (refused_line n a)) (first_stop how (suc n) xs) ≡ Some line
        → (cond b (Some (refused_line n a)) (first_stop how (suc n) (xs ++ bs)) ≡ Some line)
        × (numbered_answers how n (cond b (a ∷ []) (a ∷ up_to_stop how (xs ++ bs)))
        ≡ numbered_answers how n (cond b (a ∷ []) (a ∷ up_to_stop how xs)))
    by true later is = (is, refl)
    by false later is = ((later is).0, ap (λ (t : List ℕ). numbered_answer how n a.answer ++ t) (later is).1)

-- ---- how answering lines stops

longer_front : (w0 w : Option (List ℕ)) (short whole : List ℕ) → AppendsFront w0 w short
    → (more : List ℕ) × (whole ≡ short ++ more) → AppendsFront w0 w whole
longer_front w0 w short whole h e = rw e.1 (front_longer w0 w short e.0 h)

-- the answer to one line
output-one : (how : Answering) (n : ℕ) (a : AnsweredLine) → output_for how n (a ∷ []) ≡ numbered_answer how n a.answer
output-one how n a = by (stops_after how a)
  where
    by : (b : Bool) → numbered_answers how n (cond b (a ∷ []) (a ∷ [])) ≡ numbered_answer how n a.answer
    by true = append-nil (numbered_answer how n a.answer)
    by false = append-nil (numbered_answer how n a.answer)

-- writing it fails, or memory runs out
pub stops_writing_line : (how : Answering) (n : ℕ) (a : AnsweredLine) (e : ScriptError) (w0 w : Option (List ℕ))
    → IsOfAnswers e → AppendsFront w0 w (numbered_answer how n a.answer) → StopsIn how n (a ∷ []) e w0 w
stops_writing_line how n a (Read why) w0 w is h = absurd is
stops_writing_line how n a (Write why) w0 w is h = rw (output-one how n a) h
stops_writing_line how n a Endless w0 w is h = absurd is
stops_writing_line how n a Memory w0 w is h = rw (output-one how n a) h
stops_writing_line how n a (Refused line) w0 w is h = absurd is

-- more lines come after those among which it stops
pub stops_longer : (how : Answering) (n : ℕ) (xs bs : List AnsweredLine) (e : ScriptError) (w0 w : Option (List ℕ))
    → StopsIn how n xs e w0 w → StopsIn how n (xs ++ bs) e w0 w
stops_longer how n xs bs (Read why) w0 w h = absurd h
stops_longer how n xs bs (Write why) w0 w h = longer_front w0 w _ _ h (output-front how n xs bs)
stops_longer how n xs bs Endless w0 w h = absurd h
stops_longer how n xs bs Memory w0 w h = longer_front w0 w _ _ h (output-front how n xs bs)
stops_longer how n xs bs (Refused line) w0 w h =
    let stays = stop-stays how n xs bs line h.0 in
    (stays.0, subst (λ (t : List ℕ). Appends w0 w t) (sym stays.1) h.1)

-- it stops among lines after others
pub stops_later : (how : Answering) (n m : ℕ) (xs bs : List AnsweredLine) (e : ScriptError)
    (w0 w w' : Option (List ℕ)) → first_stop how n xs ≡ None → Appends w0 w (output_for how n xs)
    → m ≡ n + length xs → StopsIn how m bs e w w' → StopsIn how n (xs ++ bs) e w0 w'
stops_later how n m xs bs e w0 w w' none said counted h =
    by e (subst (λ (k : ℕ). StopsIn how k bs e w w') counted h)
  where
    by : (e : ScriptError) → StopsIn how (n + length xs) bs e w w' → StopsIn how n (xs ++ bs) e w0 w'
    by (Read why) h = absurd h
    by (Write why) h = rw (output-append how n xs bs none) (front_later w0 w w' _ _ said h)
    by Endless h = absurd h
    by Memory h = rw (output-append how n xs bs none) (front_later w0 w w' _ _ said h)
    by (Refused line) h = (
      stop-append how n xs bs none ∙ h.0,
      subst (λ (t : List ℕ). Appends w0 w' t) (sym (output-append how n xs bs none))
          (Appends-trans w0 w w' (output_for how n xs) (output_for how (n + length xs) bs) said h.1),
    )
