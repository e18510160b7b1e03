-- Writing a text part by part.
use Rattle.std.proofs.Common.{◌≡◌, ℕ, zero, suc, ◌+◌, ◌<◌, List, [], ◌∷◌, ◌++◌, length, drop, map, slice_index_or}
use Rattle.std.proofs.Common.{OnErr, Option, Result, refl, sym, ap, subst, ◌∙◌, arith, append_assoc}
use Rattle.std.proofs.lemmas.List.{append-nil}
use Rattle.std.specs.Borrow.{Bor}
use Rattle.cs_apply.specs.Seen.{listed}
use Rattle.std.specs.Io.KnownBytes.{Appends}
use Rattle.std.specs.List.{flat_map}
use Rattle.rb_script.proofs.endings.StreamLaws.{Appends-Keeps, Appends-none, Appends-trans, front_later, front_longer}
use Rattle.rb_script.proofs.endings.StreamLaws.{front_none, stream_appends_front}
use Rattle.rb_script.specs.Streams.{AppendsFront}
use Rattle.rb_script.specs.Texts.{row_text}
use Rattle.cs_model.specs.declared.row_key.RowKey.{RowKey}
use Rattle.cs_model.specs.declared.value.Value.{Value}
use Rattle.rb_drive.specs.declared.accepting.EndedSubscriber.{EndedSubscriber}
use Rattle.rb_drive.specs.Outcome.{subscriber_of}
use Rattle.rb_drive.specs.Report.{subscriber_text, subscribers_text}

-- a front of the whole text is written, and this is the rest of it
pub record IsWrittenBut (w0 w : Option (List ℕ)) (later whole : List ℕ) : Type 0 where
  pub said : List ℕ
  pub writes : Appends w0 w said
  pub parts : said ++ later ≡ whole

pub writes_first : (w0 w : Option (List ℕ)) (said later whole : List ℕ) → Appends w0 w said → said ++ later ≡ whole
    → IsWrittenBut w0 w later whole
writes_first w0 w said later whole writes parts = record { said = said; writes = writes; parts = parts }

pub writes_none : (w : Option (List ℕ)) (whole : List ℕ) → IsWrittenBut w w whole whole
writes_none w whole = record { said = []; writes = Appends-none w; parts = refl }

pub writes_next : (w0 w w' : Option (List ℕ)) (next later rest whole : List ℕ) → IsWrittenBut w0 w rest whole
    → rest ≡ next ++ later → Appends w w' next → IsWrittenBut w0 w' later whole
writes_next w0 w w' next later rest whole so_far is writes = record {
  said = so_far.said ++ next;
  writes = Appends-trans w0 w w' so_far.said next so_far.writes writes;
  parts = append_assoc so_far.said next later ∙ ap (λ t. so_far.said ++ t) (sym is) ∙ so_far.parts;
}

pub stops_next : (w0 w w' : Option (List ℕ)) (next later rest whole : List ℕ) → IsWrittenBut w0 w rest whole
    → rest ≡ next ++ later → AppendsFront w w' next → AppendsFront w0 w' whole
stops_next w0 w w' next later rest whole so_far is front =
    subst (AppendsFront w0 w') (ap (λ t. so_far.said ++ t) (sym is) ∙ so_far.parts)
    (front_later w0 w w' so_far.said (next ++ later) so_far.writes (front_longer w w' next later front))

pub stops_between : (w0 w : Option (List ℕ)) (rest whole : List ℕ) → IsWrittenBut w0 w rest whole
    → AppendsFront w0 w whole
stops_between w0 w rest whole so_far = (so_far.said, rest, sym so_far.parts, so_far.writes)

pub writes_all : (w0 w : Option (List ℕ)) (rest whole : List ℕ) → IsWrittenBut w0 w rest whole → rest ≡ []
    → Appends w0 w whole
writes_all w0 w rest whole so_far none =
    subst (Appends w0 w) (sym (append-nil so_far.said) ∙ ap (λ t. so_far.said ++ t) (sym none) ∙ so_far.parts)
    so_far.writes

-- ---- items that are left

pub drop_one_more : {A : Type 0} (xs : List A) (i : ℕ) (d : A) → i < length xs
    → drop i xs ≡ slice_index_or xs i d ∷ drop (suc i) xs
drop_one_more [] i d less = absurd (omega (arith, less))
drop_one_more (x ∷ xs) zero d less = refl
drop_one_more (x ∷ xs) (suc i) d less = drop_one_more xs i d (omega (arith, less))

pub dropped_all : {A : Type 0} (xs : List A) (i : ℕ) → (i < length xs → ⊥) → drop i xs ≡ []
dropped_all [] zero out = refl
dropped_all [] (suc i) out = refl
dropped_all (x ∷ xs) zero out = absurd (out (omega arith))
dropped_all (x ∷ xs) (suc i) out = dropped_all xs i (λ less. out (omega (arith, less)))

pub subscribers_next : {L : Type 0} (n i : ℕ) (all : List (EndedSubscriber L)) (one : EndedSubscriber L) → i < length all
    → one ≡ slice_index_or all i one → subscribers_text n (map subscriber_of (drop i all))
    ≡ subscriber_text n (subscriber_of one) ++ subscribers_text (n + 1) (map subscriber_of (drop (i + 1) all))
subscribers_next n i all one less is =
    ap (λ xs. subscribers_text n (map subscriber_of xs)) (drop_one_more all i one less)
    ∙ ap (λ a. subscriber_text n (subscriber_of a) ++ subscribers_text (suc n) (map subscriber_of (drop (suc i) all)))
    (sym is)
    ∙ (λ k. subscriber_text n (subscriber_of one)
    ++ subscribers_text (next_of n k) (map subscriber_of (drop (next_of i k) all)))
  where
    next_of : (m : ℕ) → suc m ≡ m + 1
    next_of m = omega arith

pub rows_next : (i : ℕ) (rows : List (Bor RowKey × Bor (List Value))) (row : Bor RowKey × Bor (List Value))
    → i < length rows → row ≡ slice_index_or rows i row → flat_map row_text (listed (drop i rows))
    ≡ row_text (row.0.now, row.1.now) ++ flat_map row_text (listed (drop (i + 1) rows))
rows_next i rows row less is =
    ap (λ xs. flat_map row_text (listed xs)) (drop_one_more rows i row less)
    ∙ ap (λ r. row_text (r.0.now, r.1.now) ++ flat_map row_text (listed (drop (suc i) rows))) (sym is)
    ∙ (λ k. row_text (row.0.now, row.1.now) ++ flat_map row_text (listed (drop (next k) rows)))
  where
    next : suc i ≡ i + 1
    next = omega arith

-- a fault in a text, under another name
pub fault_in_same : {T E : Type 0} (r : Result T E) (w w' : Option (List ℕ)) (s t : List ℕ)
    → OnErr r (AppendsFront w w' s) → s ≡ t → OnErr r (AppendsFront w w' t)
fault_in_same r w w' s t h same = subst (λ text. OnErr r (AppendsFront w w' text)) same h

pub ruleset report_fronts = (
  front_none,
  front_longer,
  front_later,
  stream_appends_front,
  Appends-none,
  Appends-trans,
  Appends-Keeps,
)
