-- What `write_pieces` puts is what the sink's writer holds.
use Rattle.std.proofs.Common.{◌≡◌, ℕ, Bool, true, false, List, [], ◌++◌, Option, Result, Ok, Err, OnOk, OnErr, ◌∙◌, sym}
use Rattle.std.proofs.Common.{arith, ap, subst, true≢false, Some, None, MatchOption}
use Rattle.rb_script.specs.declared.fault.ScriptError.{ScriptError}
use Rattle.rb_script.specs.Ends.{IsOfAnswers}
use Rattle.std.specs.Io.KnownBytes.{Appends, Keeps}
use Rattle.cs_write.specs.declared.pieces.WriteError.{WriteError}
use Rattle.cs_write.specs.declared.pieces.WriteError.TheVariants.{Sink, Memory}
use Rattle.cs_write.specs.Pieces.{Puts}
use Rattle.rb_script.specs.Streams.{AppendsFront}
use Rattle.rb_script.specs.Texts.{bytes_word}
use Rattle.rb_script.specs.Sinks.{GainsAll, GainsFront, has_none, hex_of_pieces}
use Rattle.rb_script.proofs.sinks.CutLaws.{word_written, none_written, front_written, some_among, unchanged}

pub on_ok_word : (r : Result (Unit {0}) WriteError) (text : List ℕ) (taken_old taken failed_old failed : List (List ℕ))
    (empty : Bool) (before w0 w : Option (List ℕ)) → taken_old ≡ [] → failed_old ≡ [] → w0 ≡ before
    → (failed ≡ [] → GainsAll before w (hex_of_pieces taken)) → empty ≡ has_none taken
    → Puts r 4096 text taken_old taken failed_old failed
    → OnOk r (empty ≡ false → Appends w0 w (bytes_word text))
on_ok_word (Err e) text to t fo f empty before w0 w none unfailed same all has puts = tt
on_ok_word (Ok u) text to t fo f empty before w0 w none unfailed same all has puts =
    λ some. word_written 4096 text to t fo f before w0 w (omega arith) none unfailed same all puts (sym some ∙ has)

pub on_ok_none : (r : Result (Unit {0}) WriteError) (text : List ℕ) (taken_old taken failed_old failed : List (List ℕ))
    (empty : Bool) (before w0 w : Option (List ℕ)) → taken_old ≡ [] → failed_old ≡ [] → w0 ≡ before
    → (failed ≡ [] → GainsAll before w (hex_of_pieces taken)) → empty ≡ has_none taken
    → Puts r 4096 text taken_old taken failed_old failed
    → OnOk r (empty ≡ true → (text ≡ []) × Keeps w0 w)
on_ok_none (Err e) text to t fo f empty before w0 w none unfailed same all has puts = tt
on_ok_none (Ok u) text to t fo f empty before w0 w none unfailed same all has puts =
    λ is. none_written 4096 text to t fo f before w0 w none unfailed same all puts (sym is ∙ has)

pub on_err_front : (r : Result (Unit {0}) WriteError) (text : List ℕ)
    (taken_old taken failed_old failed : List (List ℕ)) (before w0 w : Option (List ℕ)) → taken_old ≡ []
    → failed_old ≡ [] → w0 ≡ before → GainsFront before w (hex_of_pieces (taken ++ failed))
    → Puts r 4096 text taken_old taken failed_old failed → OnErr r (AppendsFront w0 w (bytes_word text))
on_err_front (Ok u) text to t fo f before w0 w none unfailed same front puts = tt
on_err_front (Err Sink) text to t fo f before w0 w none unfailed same front puts =
    front_written 4096 text to t fo f before w0 w (omega arith) none unfailed same front puts
on_err_front (Err Memory) text to t fo f before w0 w none unfailed same front puts =
    unchanged text t f before w0 w (puts.0 ∙ none) (puts.1 ∙ unfailed) same front

pub on_err_fault : (r : Result (Unit {0}) WriteError) (text : List ℕ)
    (taken_old taken failed_old failed : List (List ℕ)) (fault : Option ScriptError)
    → MatchOption fault (failed ≡ []) IsOfAnswers → Puts r 4096 text taken_old taken failed_old failed → r ≡ Err Sink
    → MatchOption fault ⊥ IsOfAnswers
on_err_fault r text to t fo f (Some why) sound puts is = sound
on_err_fault r text to t fo f None sound puts is =
    let fails = subst (λ (s : Result (Unit {0}) WriteError). Puts s 4096 text to t fo f) is puts in
    absurd (true≢false (sym (ap has_none sound) ∙ ap has_none fails.failed ∙ some_among fo fails.piece []))
