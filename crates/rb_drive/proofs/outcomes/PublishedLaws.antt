-- What a publisher sent, when one more of its lines is done.
use Rattle.std.proofs.Common.{◌≡◌, ℕ, zero, suc, ◌+◌, ◌<◌, List, [], ◌∷◌, ◌++◌, length, take}
use Rattle.std.proofs.Common.{Result, Ok, Err, refl, sym, ap, subst, ◌∙◌, arith, slice_index_or}
use Rattle.std.proofs.lemmas.List.{append-nil}
use Rattle.cs_model.specs.declared.origin.Origin.TheVariants.{Sent}
use Rattle.cs_model.specs.declared.shape.Shape.{Shape}
use Rattle.cs_model.specs.Section.{Section}
use Rattle.cs_parse.specs.declared.end.EndError.{EndError}
use Rattle.rb_sequence.specs.Item.{Item}
use Rattle.rb_broker.specs.Publishers.{PublisherView, StagedView, item_of}
use Rattle.rb_broker.specs.Refusing.{EndsWith}
use Rattle.rb_drive.specs.declared.input.Given.{Given}
use Rattle.rb_drive.specs.declared.publishing.FaultyLine.{FaultyLine}
use Rattle.rb_drive.specs.Published.{and_faulty, and_given, faulty_lines, given_answer, given_bodies, sent_bodies}

pub taken_one_more : {A : Type 0} (xs : List A) (i : ℕ) (d : A) → i < length xs
    → take (suc i) xs ≡ take i xs ++ slice_index_or xs i d ∷ []
taken_one_more [] i d less = absurd (omega (arith, less))
taken_one_more (x ∷ xs) zero d less = refl
taken_one_more (x ∷ xs) (suc i) d less = ap (λ t. x ∷ t) (taken_one_more xs i d (omega (arith, less)))

abbrev one_body : Result (List Section) EndError → List (List Section)
one_body answer = and_given answer []

given_first : (answer : Result (List Section) EndError) (bodies more : List (List Section))
    → and_given answer (bodies ++ more) ≡ and_given answer bodies ++ more
given_first (Ok body) bodies more = refl
given_first (Err why) bodies more = refl

bodies_one_more : (schema : List Shape) (xs : List Given) (g : Given)
    → given_bodies schema (xs ++ g ∷ []) ≡ given_bodies schema xs ++ one_body (given_answer schema g.text)
bodies_one_more schema [] g = refl
bodies_one_more schema (x ∷ xs) g =
    ap (and_given (given_answer schema x.text)) (bodies_one_more schema xs g)
    ∙ given_first (given_answer schema x.text) (given_bodies schema xs) (one_body (given_answer schema g.text))

faulty_first : (x : Given) (answer : Result (List Section) EndError) (lines more : List FaultyLine)
    → and_faulty x answer (lines ++ more) ≡ and_faulty x answer lines ++ more
faulty_first x (Ok body) lines more = refl
faulty_first x (Err why) lines more = refl

faulty_one_more : (schema : List Shape) (xs : List Given) (g : Given)
    → faulty_lines schema (xs ++ g ∷ []) ≡ faulty_lines schema xs ++ and_faulty g (given_answer schema g.text) []
faulty_one_more schema [] g = refl
faulty_one_more schema (x ∷ xs) g =
    ap (and_faulty x (given_answer schema x.text)) (faulty_one_more schema xs g)
    ∙ faulty_first x (given_answer schema x.text) (faulty_lines schema xs)
    (and_faulty g (given_answer schema g.text) [])

sent_counted : (p n : ℕ) (bodies : List (List Section)) → length (sent_bodies p n bodies) ≡ length bodies
sent_counted p n [] = refl
sent_counted p n (body ∷ bodies) = ap suc (sent_counted p (suc n) bodies)

abbrev item_sent : ℕ → ℕ → List Section → Item
item_sent p own body = record { publisher = p; own = own; origin = Sent; body = body }

sent_one_more : (p n : ℕ) (bodies : List (List Section)) (body : List Section)
    → sent_bodies p n (bodies ++ body ∷ []) ≡ sent_bodies p n bodies ++ item_sent p (n + length bodies) body ∷ []
sent_one_more p n [] body = ap (λ own. item_sent p own body ∷ []) (omega arith)
sent_one_more p n (b ∷ bodies) body =
    ap (λ items. item_sent p n b ∷ items)
    (sent_one_more p (suc n) bodies body
    ∙ ap (λ own. sent_bodies p (suc n) bodies ++ item_sent p own body ∷ []) (omega arith))

-- ---- one more line is done

-- it gives a changeset, which is sent
pub sends_next : (schema : List Shape) (p : ℕ) (lines : List Given) (done : ℕ) (d : Given) (body : List Section)
    (sent : List Item) → done < length lines → sent ≡ sent_bodies p 1 (given_bodies schema (take done lines))
    → given_answer schema (slice_index_or lines done d).text ≡ Ok body
    → sent ++ item_sent p (suc (length sent)) body ∷ []
    ≡ sent_bodies p 1 (given_bodies schema (take (suc done) lines))
sends_next schema p lines done d body sent less is gives =
    let before = given_bodies schema (take done lines) in
    let own : suc (length sent) ≡ 1 + length before =
    ap suc (ap (λ items. length items) is ∙ sent_counted p 1 before) ∙ omega arith in
    ap (λ own. sent ++ item_sent p own body ∷ []) own
    ∙ ap (λ items. items ++ item_sent p (1 + length before) body ∷ []) is
    ∙ sym (sent_one_more p 1 before body)
    ∙ sym (ap (sent_bodies p 1)
    (ap (given_bodies schema) (taken_one_more lines done d less)
    ∙ bodies_one_more schema (take done lines) (slice_index_or lines done d)
    ∙ ap (λ answer. before ++ one_body answer) gives))

pub sends_no_fault : (schema : List Shape) (lines : List Given) (done : ℕ) (d : Given) (body : List Section)
    → done < length lines → given_answer schema (slice_index_or lines done d).text ≡ Ok body
    → faulty_lines schema (take (suc done) lines) ≡ faulty_lines schema (take done lines)
sends_no_fault schema lines done d body less gives =
    let g = slice_index_or lines done d in
    let front = faulty_lines schema (take done lines) in
    ap (faulty_lines schema) (taken_one_more lines done d less)
    ∙ faulty_one_more schema (take done lines) g
    ∙ ap (λ answer. front ++ and_faulty g answer []) gives
    ∙ append-nil front

-- it is faulty
pub faults_next : (schema : List Shape) (lines : List Given) (done : ℕ) (d : Given) (why : EndError)
    (faulty : List FaultyLine) → done < length lines → faulty ≡ faulty_lines schema (take done lines)
    → given_answer schema (slice_index_or lines done d).text ≡ Err why
    → faulty ++ record {
      line = (slice_index_or lines done d).line;
      publisher = (slice_index_or lines done d).publisher;
      why = why;
    } ∷ [] ≡ faulty_lines schema (take (suc done) lines)
faults_next schema lines done d why faulty less is gives =
    let g = slice_index_or lines done d in
    let one : List FaultyLine = record { line = g.line; publisher = g.publisher; why = why } ∷ [] in
    ap (λ front. front ++ one) is
    ∙ sym (ap (faulty_lines schema) (taken_one_more lines done d less)
    ∙ faulty_one_more schema (take done lines) g
    ∙ ap (λ answer. faulty_lines schema (take done lines) ++ and_faulty g answer []) gives)

pub faults_send_none : (schema : List Shape) (p : ℕ) (lines : List Given) (done : ℕ) (d : Given) (why : EndError)
    → done < length lines → given_answer schema (slice_index_or lines done d).text ≡ Err why
    → sent_bodies p 1 (given_bodies schema (take (suc done) lines))
    ≡ sent_bodies p 1 (given_bodies schema (take done lines))
faults_send_none schema p lines done d why less gives =
    let front = given_bodies schema (take done lines) in
    ap (sent_bodies p 1)
    (ap (given_bodies schema) (taken_one_more lines done d less)
    ∙ bodies_one_more schema (take done lines) (slice_index_or lines done d)
    ∙ ap (λ answer. front ++ one_body answer) gives
    ∙ append-nil front)

-- ---- the publisher after it

-- what it sent, and the faulty lines, are those of so many lines
abbrev pub HasDoneLines : PublisherView → List Given → ℕ → List FaultyLine → Type 0
HasDoneLines p lines done faulty = (p.sent ≡ sent_bodies p.number 1 (given_bodies p.schema (take done lines)))
    × (faulty ≡ faulty_lines p.schema (take done lines))

pub line_is_sent : (p staged new : PublisherView) (set : StagedView) (lines : List Given) (done : ℕ) (d : Given)
    (text : List ℕ) (faulty : List FaultyLine) → staged ≡ record p { stream = staged.stream }
    → new ≡ record staged { sent = staged.sent ++ item_of set (suc (length staged.sent)) ∷ [] }
    → done < length lines → text ≡ (slice_index_or lines done d).text
    → EndsWith p.number (Ok set) (given_answer p.schema text) → HasDoneLines p lines done faulty
    → HasDoneLines new lines (done + 1) faulty
line_is_sent p staged new set lines done d text faulty same sends less is ends were =
    subst (λ q. HasDoneLines q lines (done + 1) faulty) (sym whole) (sent, kept)
  where
    whole : new ≡ record p {
      stream = staged.stream;
      sent = p.sent ++ item_of set (suc (length p.sent)) ∷ [];
    }
    whole = sends
        ∙ (λ i. record (same i) { sent = (same i).sent ++ item_of set (suc (length (same i).sent)) ∷ [] })

    next : suc done ≡ done + 1
    next = omega arith

    gives : given_answer p.schema (slice_index_or lines done d).text ≡ Ok set.body
    gives = ap (given_answer p.schema) (sym is) ∙ ends.0

    sent : p.sent ++ item_of set (suc (length p.sent)) ∷ []
        ≡ sent_bodies p.number 1 (given_bodies p.schema (take (done + 1) lines))
    sent = ap (λ s. p.sent ++ item_of s (suc (length p.sent)) ∷ []) ends.1
        ∙ sends_next p.schema p.number lines done d set.body p.sent less were.0 gives
        ∙ ap (λ n. sent_bodies p.number 1 (given_bodies p.schema (take n lines))) next

    kept : faulty ≡ faulty_lines p.schema (take (done + 1) lines)
    kept = were.1 ∙ sym (sends_no_fault p.schema lines done d set.body less gives)
        ∙ ap (λ n. faulty_lines p.schema (take n lines)) next

pub line_is_faulty : (p new : PublisherView) (lines : List Given) (done : ℕ) (d : Given) (text : List ℕ) (why : EndError)
    (faulty more : List FaultyLine) → new ≡ record p { stream = new.stream } → done < length lines
    → text ≡ (slice_index_or lines done d).text → given_answer p.schema text ≡ Err why
    → more ≡ faulty ++ record {
      line = (slice_index_or lines done d).line;
      publisher = (slice_index_or lines done d).publisher;
      why = why;
    } ∷ [] → HasDoneLines p lines done faulty → HasDoneLines new lines (done + 1) more
line_is_faulty p new lines done d text why faulty more same less is ends adds were =
    subst (λ q. HasDoneLines q lines (done + 1) more) (sym same) (sent, kept)
  where
    next : suc done ≡ done + 1
    next = omega arith

    gives : given_answer p.schema (slice_index_or lines done d).text ≡ Err why
    gives = ap (given_answer p.schema) (sym is) ∙ ends

    sent : p.sent ≡ sent_bodies p.number 1 (given_bodies p.schema (take (done + 1) lines))
    sent = were.0 ∙ sym (faults_send_none p.schema p.number lines done d why less gives)
        ∙ ap (λ n. sent_bodies p.number 1 (given_bodies p.schema (take n lines))) next

    kept : more ≡ faulty_lines p.schema (take (done + 1) lines)
    kept = adds ∙ faults_next p.schema lines done d why faulty less were.1 gives
        ∙ ap (λ n. faulty_lines p.schema (take n lines)) next
