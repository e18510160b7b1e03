-- What a sink's writer holds, piece by piece.
use Rattle.std.proofs.Common.{◌≡◌, ℕ, true, false, true≢false, List, [], ◌∷◌, ◌++◌, Option, Some, None, MatchOption}
use Rattle.std.proofs.Common.{sym, ap, subst, ◌∙◌, append_assoc}
use Rattle.std.specs.Prelude.{is_some}
use Rattle.std.proofs.lemmas.List.{append-nil}
use Rattle.rb_script.specs.declared.fault.ScriptError.{ScriptError}
use Rattle.rb_script.specs.Ends.{IsOfAnswers}
use Rattle.std.proofs.lemmas.List.Folds.{concat-append}
use Rattle.std.specs.List.{concat}
use Rattle.std.specs.Io.KnownBytes.{Appends}
use Rattle.hex.specs.Hex.{encode_lower}
use Rattle.rb_script.specs.Streams.{AppendsFront}
use Rattle.rb_script.specs.Sinks.{GainsAll, GainsFront, has_none, hex_of_pieces}
use Rattle.rb_script.proofs.endings.StreamLaws.{Appends-none, Appends-trans, front_later, front_longer}
use Rattle.rb_script.proofs.endings.StreamLaws.{stream_appends_front}
use Rattle.rb_script.proofs.spelled.HexTexts.{hex_append, hex_none}
use Rattle.rb_script.proofs.sinks.GainLaws.{appends_gains, all_appended, front_gains, front_appended}

-- ---- whether there is a fault

pub still_sound : (fault : Option ScriptError) (P Q : Type 0) → true ≡ is_some fault → MatchOption fault P IsOfAnswers
    → MatchOption fault Q IsOfAnswers
still_sound None P Q some h = absurd (true≢false some)
still_sound (Some why) P Q some h = h

pub is_unfaulted : (fault : Option ScriptError) (P : Type 0) → fault ≡ None → P → MatchOption fault P IsOfAnswers
is_unfaulted fault P none h = subst (λ f. MatchOption f P IsOfAnswers) (sym none) h

pub now_failed : (fault : Option ScriptError) (P : Type 0) → MatchOption fault ⊥ IsOfAnswers
    → MatchOption fault P IsOfAnswers
now_failed None P h = absurd h
now_failed (Some why) P h = h

pub none_failed : (fault : Option ScriptError) (P : Type 0) → false ≡ is_some fault → MatchOption fault P IsOfAnswers
    → P
none_failed None P none h = h
none_failed (Some why) P none h = absurd (true≢false (sym none))

-- ---- a list with a piece more

pub some_now : (pieces new : List (List ℕ)) (piece : List ℕ) → new ≡ pieces ++ piece ∷ [] → false ≡ has_none new
some_now [] new piece is = ap has_none (sym is)
some_now (first ∷ more) new piece is = ap has_none (sym is)

pub one_failed : {A : Type 0} (pieces new : List (List ℕ)) (piece : List ℕ) → new ≡ pieces ++ piece ∷ []
    → new ≡ [] → A
one_failed pieces new piece is none =
    absurd (true≢false (sym (some_now pieces new piece is ∙ ap has_none none)))

-- ---- pieces in hexadecimal

pub pieces_append : (some more : List (List ℕ))
    → hex_of_pieces (some ++ more) ≡ hex_of_pieces some ++ hex_of_pieces more
pieces_append some more = ap encode_lower (concat-append some more) ∙ hex_append (concat some) (concat more)

with_piece : (taken new : List (List ℕ)) (piece : List ℕ) → new ≡ taken ++ piece ∷ []
    → hex_of_pieces taken ++ encode_lower piece ≡ hex_of_pieces new
with_piece taken new piece is =
    ap (λ t. hex_of_pieces taken ++ encode_lower t) (sym (append-nil piece))
    ∙ sym (pieces_append taken (piece ∷ [])) ∙ ap hex_of_pieces (sym is)

-- ---- what the writer holds

-- no piece has come
pub begins_all : (w0 w : Option (List ℕ)) (taken : List (List ℕ)) → w ≡ w0 → taken ≡ []
    → GainsAll w0 w (hex_of_pieces taken)
begins_all w0 w taken same none =
    appends_gains w0 w (hex_of_pieces taken) (subst (λ t. Appends w0 w t) (sym (ap hex_of_pieces none ∙ hex_none))
    (subst (λ v. Appends v w []) same (Appends-none w)))

-- a piece is taken
pub piece_gained : (w0 w w' : Option (List ℕ)) (taken new : List (List ℕ)) (piece : List ℕ) → new ≡ taken ++ piece ∷ []
    → GainsAll w0 w (hex_of_pieces taken) → Appends w w' (encode_lower piece) → GainsAll w0 w' (hex_of_pieces new)
piece_gained w0 w w' taken new piece is before now =
    appends_gains w0 w' (hex_of_pieces new) (subst (λ t. Appends w0 w' t) (with_piece taken new piece is)
    (Appends-trans w0 w w' (hex_of_pieces taken) (encode_lower piece)
    (all_appended w0 w (hex_of_pieces taken) before) now))

-- all of it is a front
pub all_is_front : (w0 w : Option (List ℕ)) (taken failed : List (List ℕ)) → failed ≡ []
    → GainsAll w0 w (hex_of_pieces taken) → GainsFront w0 w (hex_of_pieces (taken ++ failed))
all_is_front w0 w taken failed none all =
    front_gains w0 w (hex_of_pieces (taken ++ failed)) (subst (λ t. AppendsFront w0 w t)
    (ap hex_of_pieces (sym (append-nil taken) ∙ ap (λ t. taken ++ t) (sym none)))
    (stream_appends_front w0 w (hex_of_pieces taken) (all_appended w0 w (hex_of_pieces taken) all)))

-- a piece fails
pub fails_front : (w0 w w' : Option (List ℕ)) (taken failed new : List (List ℕ)) (piece : List ℕ) → failed ≡ []
    → new ≡ failed ++ piece ∷ [] → GainsAll w0 w (hex_of_pieces taken) → AppendsFront w w' (encode_lower piece)
    → GainsFront w0 w' (hex_of_pieces (taken ++ new))
fails_front w0 w w' taken failed new piece none is all now =
    let one : new ≡ piece ∷ [] = is ∙ ap (λ t. t ++ piece ∷ []) none in
    front_gains w0 w' (hex_of_pieces (taken ++ new)) (subst (λ t. AppendsFront w0 w' t)
    (with_piece taken (taken ++ new) piece (ap (λ t. taken ++ t) one))
    (front_later w0 w w' (hex_of_pieces taken) (encode_lower piece)
    (all_appended w0 w (hex_of_pieces taken) all) now))

-- a piece comes after one that failed
pub fails_again : (w0 w : Option (List ℕ)) (taken failed new : List (List ℕ)) (piece : List ℕ)
    → new ≡ failed ++ piece ∷ [] → GainsFront w0 w (hex_of_pieces (taken ++ failed))
    → GainsFront w0 w (hex_of_pieces (taken ++ new))
fails_again w0 w taken failed new piece is front =
    let longer : taken ++ new ≡ (taken ++ failed) ++ piece ∷ [] =
    ap (λ t. taken ++ t) is ∙ sym (append_assoc taken failed (piece ∷ [])) in
    front_gains w0 w (hex_of_pieces (taken ++ new)) (subst (λ t. AppendsFront w0 w t)
    (with_piece (taken ++ failed) (taken ++ new) piece longer)
    (front_longer w0 w (hex_of_pieces (taken ++ failed)) (encode_lower piece)
    (front_appended w0 w (hex_of_pieces (taken ++ failed)) front)))
