-- The fault of bytes for which there is no memory: they are gone over where they stand.
use Rattle.std.proofs.Common.{◌≡◌, ℕ, ◌-◌, false, List, [], ◌++◌, length, take, Option, Some, None, Result, Ok, Err}
use Rattle.std.proofs.Common.{Bool, refl, sym, ap, subst, ◌∙◌}
use Rattle.std.specs.Prelude.{is_some}
use Rattle.std.proofs.lemmas.Bool.{false≢true}
use Rattle.cs_model.specs.Bytes.{AreBytes}
use Rattle.cs_model.specs.Section.{Section}
use Rattle.cs_parse.specs.declared.fault.ParseError.TheVariants.{Fault, Memory}
use Rattle.cs_parse.specs.declared.fault.ParseFault.{ParseFault}
use Rattle.cs_parse.specs.declared.stop.ParseRefusal.{ParseRefusal}
use Rattle.cs_parse.specs.Count.{counted, changes_in}
use Rattle.cs_parse.specs.Front.{Heads, IsBroken, fault_by, said_by, stop_after}
use Rattle.cs_parse.specs.Progress.{Reached, last_flags, with_changes, read_on, arrived, so_far}
use Rattle.cs_parse.specs.Reading.{sections_at}
use Rattle.cs_parse.proofs.counting.Fronts.{ChangesFit, SpelledIsSaid}
use Rattle.cs_parse.proofs.feeding.Batches.{BringsAll, batch, batch_bad, arrived_so}
use Rattle.cs_parse.proofs.joining.PartsAnswer.{Read, finished, text_answer}

-- ---- why counting stops

ok_not_err : {A : Type 0} (x : A) (why : ParseRefusal) → ◌≡◌ {A = Result A ParseRefusal} (Ok x) (Err why) → ⊥
ok_not_err x why e = cc

ok_not_err_too : {A : Type 0} (x : A) (why : ParseRefusal) → ◌≡◌ {A = Result A ParseRefusal} (Err why) (Ok x) → ⊥
ok_not_err_too x why e = cc

same_why : {A : Type 0} (a b : ParseRefusal) → ◌≡◌ {A = Result A ParseRefusal} (Err a) (Err b) → a ≡ b
same_why a b e = cc

stopped_so : (sections : List Section) (rest : List ℕ) (why : Option ParseRefusal) (end : ParseRefusal)
    → counted changes_in (finished (record { sections = sections; rest = rest; why = why })) ≡ Err end
    → why ≡ Some end
stopped_so sections rest None end e = absurd (ok_not_err _ end e)
stopped_so sections rest (Some why) end e = ap (λ (w : ParseRefusal). Some w) (same_why why end e)

counted_not_stopped : (sections : List Section) (rest : List ℕ) (why : Option ParseRefusal) (x : ℕ × List ℕ)
    → counted changes_in (finished (record { sections = sections; rest = rest; why = why })) ≡ Ok x
    → why ≡ None
counted_not_stopped sections rest None x e = refl
counted_not_stopped sections rest (Some why) x e = absurd (ok_not_err_too x why e)

pub counted_stops : (bytes : List ℕ) (end : ParseRefusal) → AreBytes bytes
    → counted changes_in (sections_at bytes) ≡ Err end → (read_on [] bytes).why ≡ Some end
counted_stops bytes end fits e =
    let r = read_on [] bytes in
    stopped_so r.sections r.rest r.why end (ap (λ (x : Read). counted changes_in x) (sym (text_answer bytes fits)) ∙ e)

pub counted_ends : (bytes : List ℕ) (x : ℕ × List ℕ) → AreBytes bytes
    → counted changes_in (sections_at bytes) ≡ Ok x → (read_on [] bytes).why ≡ None
counted_ends bytes x fits e =
    let r = read_on [] bytes in
    counted_not_stopped r.sections r.rest r.why x
    (ap (λ (y : Read). counted changes_in y) (sym (text_answer bytes fits)) ∙ e)

pub stopped_none : (o : Option ParseRefusal) → false ≡ is_some o → o ≡ None
stopped_none None e = refl
stopped_none (Some why) e = absurd (false≢true e)

-- ---- what the bytes would bring

pub record Unread (sections : List Section) (bytes : List ℕ) (why : Option ParseRefusal) : Type 0 where
  pub text : List ℕ
  pub more : List Section
  pub rest : List ℕ
  pub brings : BringsAll sections bytes text more rest why

pub unread_brings : ChangesFit → SpelledIsSaid → (sections : List Section) (bytes : List ℕ) (count : ℕ)
    (behind : List ℕ) (canonical : Bool) (stopped : Option ParseRefusal) → AreBytes bytes
    → Heads (last_flags sections) bytes count behind canonical stopped
    → Unread sections bytes (stop_after stopped behind)
unread_brings fit said sections bytes count behind canonical None fits heads =
    let r = read_on [] behind in
    let text = take (length bytes - length behind) bytes in
    record {
      text = text;
      more = r.sections;
      rest = r.rest;
      brings = (batch fit said sections bytes text count behind canonical None r.sections r.rest r.why fits refl heads
          refl).brings;
    }
unread_brings fit said sections bytes count behind canonical (Some stopped) fits heads =
    let text = take (length bytes - length behind) bytes in
    record {
      text = text;
      more = [];
      rest = behind;
      brings = (batch fit said sections bytes text count behind canonical (Some stopped) [] behind (Some stopped) fits
          refl heads (refl, refl, refl)).brings;
    }

pub unread_wrong : (sections : List Section) (bytes : List ℕ) (why : Option ParseRefusal) (taken : ℕ)
    (fault : ParseFault) → fault_by taken why ≡ Some fault → Unread sections bytes why
    → IsBroken (Fault fault) taken sections bytes
unread_wrong sections bytes why taken fault is u =
    batch_bad sections bytes u.text u.more u.rest why taken fault is u.brings

pub unread_right : (sections : List Section) (bytes : List ℕ) (why : Option ParseRefusal) (taken : ℕ)
    → fault_by taken why ≡ None → Unread sections bytes why → IsBroken Memory taken sections bytes
unread_right sections bytes why taken none u = λ n.
    let now = with_changes sections (said_by (last_flags sections) u.text) in
    subst (λ (r : Reached). arrived n taken r ≡ so_far n taken r) (sym u.brings)
    (arrived_so n taken (now ++ u.more) u.rest why none)
