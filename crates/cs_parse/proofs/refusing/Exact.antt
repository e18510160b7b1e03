-- Readers whose faults are exact, and one such reader after another.
use Rattle.std.proofs.Common.{◌≡◌, ℕ, suc, ◌⊎◌, inl, inr, List, [], ◌∷◌, ◌++◌, length, Some, Result, Ok, Err, refl, sym}
use Rattle.std.proofs.Common.{ap, subst, ◌∙◌, append_assoc}
use Rattle.std.specs.Prelude.{nat_lt}
use Rattle.std.specs.List.{list_all}
use Rattle.std.proofs.lemmas.Bool.{and_from}
use Rattle.std.proofs.lemmas.List.{append-nil}
use Rattle.std.proofs.lemmas.List.Folds.{list_all-append}
use Rattle.cs_parse.specs.declared.fault.FaultKind.{FaultKind}
use Rattle.cs_parse.specs.Place.{BytePlace, wrong}
use Rattle.cs_parse.proofs.reading.Steps.{steps_are_bytes}
use Rattle.cs_parse.specs.declared.stop.ParseRefusal.{ParseRefusal}
use Rattle.cs_parse.specs.declared.stop.ParseRefusal.TheVariants.{Short, Bad}
use Rattle.cs_parse.specs.Reading.{◌>>=◌}
use Rattle.cs_model.specs.Bytes.{AreBytes}
use Rattle.cs_parse.proofs.reading.Steps.{Takes, back_fits, bind_ok, done, ok_is}

-- some text that begins so is whole
pub record Completes {A : Type 0} (T : List ℕ → A → Type 0) (front : List ℕ) : Type 0 where
  pub more : List ℕ
  pub bytes : steps_are_bytes more
  pub value : A
  pub whole : T (front ++ more) value

-- A byte that is wrong where it stands; so many bytes are left from it on, and what stands before it can be gone on
-- with.
pub record ExactStopped {A : Type 0} (T : List ℕ → A → Type 0) (S : List ℕ → BytePlace → Type 0) (bytes : List ℕ)
    (left : ℕ) (kind : FaultKind) : Type 0 where
  pub front : List ℕ
  pub byte : ℕ
  pub back : List ℕ
  pub place : BytePlace
  pub parts : bytes ≡ front ++ byte ∷ back
  pub left_is : left ≡ suc (length back)
  pub alive : Completes T front
  pub stands : S front place
  pub is_wrong : wrong place byte ≡ Some kind

pub stopped_here : {A : Type 0} {T : List ℕ → A → Type 0} {S : List ℕ → BytePlace → Type 0} (front : List ℕ) (byte : ℕ)
    (back : List ℕ) (left : ℕ) (kind : FaultKind) (place : BytePlace) → left ≡ suc (length back) → Completes T front
    → S front place → wrong place byte ≡ Some kind → ExactStopped T S (front ++ byte ∷ back) left kind
stopped_here front byte back left kind place left_is alive stands is_wrong =
    record {
      front = front;
      byte = byte;
      back = back;
      place = place;
      parts = refl;
      left_is = left_is;
      alive = alive;
      stands = stands;
      is_wrong = is_wrong;
    }

-- Where a part behind a text stops, all stops: at the same byte, behind that text and what stands before it.
pub stopped_behind : {A B : Type 0} {T : List ℕ → A → Type 0} {U : List ℕ → B → Type 0}
    {S P : List ℕ → BytePlace → Type 0} (bytes text rest : List ℕ) (left : ℕ) (kind : FaultKind) → bytes ≡ text ++ rest
    → ((front : List ℕ) → Completes T front → Completes U (text ++ front))
    → ((front : List ℕ) (place : BytePlace) → S front place → P (text ++ front) place)
    → ExactStopped T S rest left kind → ExactStopped U P bytes left kind
stopped_behind bytes text rest left kind parts alive stands s = record {
  front = text ++ s.front;
  byte = s.byte;
  back = s.back;
  place = s.place;
  parts = parts ∙ ap (λ w. text ++ w) s.parts ∙ sym (append_assoc text s.front (s.byte ∷ s.back));
  left_is = s.left_is;
  alive = alive s.front s.alive;
  stands = stands s.front s.place s.stands;
  is_wrong = s.is_wrong;
}

-- What the texts of T spell is read, and nothing else; where reading stops at a byte, the byte is wrong where S says
-- that it stands, and where the bytes end too early they can be gone on with.
pub record ExactReader {A : Type 0} (read : List ℕ → Result (A × List ℕ) ParseRefusal) (T : List ℕ → A → Type 0)
    (S : List ℕ → BytePlace → Type 0) : Type 0 where
  pub begins : Completes T []
  pub takes : (bytes : List ℕ) (x : A × List ℕ) → AreBytes bytes → read bytes ≡ Ok x → Takes T bytes x
  pub again : (text : List ℕ) (a : A) (rest : List ℕ) → T text a → read (text ++ rest) ≡ Ok (a, rest)
  pub stops : (bytes : List ℕ) (left : ℕ) (kind : FaultKind) → AreBytes bytes → read bytes ≡ Err (Bad left kind)
      → ExactStopped T S bytes left kind
  pub places : (front : List ℕ) (place : BytePlace) (byte : ℕ) (kind : FaultKind) (more : List ℕ) → S front place
      → wrong place byte ≡ Some kind → read (front ++ byte ∷ more) ≡ Err (Bad (suc (length more)) kind)
  pub completes : (bytes : List ℕ) → AreBytes bytes → read bytes ≡ Err Short → Completes T bytes

pub are_bytes-append : (a b : List ℕ) → steps_are_bytes a → steps_are_bytes b → steps_are_bytes (a ++ b)
are_bytes-append a b h k = list_all-append (λ byte. nat_lt byte 256) a b
    ∙ and_from (list_all (λ byte. nat_lt byte 256) a) (list_all (λ byte. nat_lt byte 256) b) h k

-- ---- the same reader, the same texts

pub same_reader : {A : Type 0} (read other : List ℕ → Result (A × List ℕ) ParseRefusal) (T : List ℕ → A → Type 0)
    (S : List ℕ → BytePlace → Type 0) → ((bytes : List ℕ) → other bytes ≡ read bytes) → ExactReader read T S
    → ExactReader other T S
same_reader read other T S same exact = record {
  begins = exact.begins;
  takes = λ bytes x fits e. exact.takes bytes x fits (sym (same bytes) ∙ e);
  again = λ text a rest h. same (text ++ rest) ∙ exact.again text a rest h;
  stops = λ bytes left kind fits e. exact.stops bytes left kind fits (sym (same bytes) ∙ e);
  places = λ front place byte kind more h w. same (front ++ byte ∷ more) ∙ exact.places front place byte kind more h w;
  completes = λ bytes fits e. exact.completes bytes fits (sym (same bytes) ∙ e);
}

-- two ways to say the same of texts and places
pub record Renames {A : Type 0} (T U : List ℕ → A → Type 0) (S P : List ℕ → BytePlace → Type 0) : Type 0 where
  pub text_to : (text : List ℕ) (a : A) → T text a → U text a
  pub text_from : (text : List ℕ) (a : A) → U text a → T text a
  pub place_to : (front : List ℕ) (place : BytePlace) → S front place → P front place
  pub place_from : (front : List ℕ) (place : BytePlace) → P front place → S front place

completes_by : {A : Type 0} (T U : List ℕ → A → Type 0) (front : List ℕ)
    → ((text : List ℕ) (a : A) → T text a → U text a) → Completes T front → Completes U front
completes_by T U front to c =
    record { more = c.more; bytes = c.bytes; value = c.value; whole = to (front ++ c.more) c.value c.whole }

pub renamed : {A : Type 0} (read : List ℕ → Result (A × List ℕ) ParseRefusal) (T U : List ℕ → A → Type 0)
    (S P : List ℕ → BytePlace → Type 0) → Renames T U S P → ExactReader read T S → ExactReader read U P
renamed read T U S P names exact = record {
  begins = completes_by T U [] names.text_to exact.begins;
  takes = λ bytes x fits e.
      let t = exact.takes bytes x fits e in
      record { text = t.text; parts = t.parts; spelled = names.text_to t.text x.0 t.spelled };
  again = λ text a rest h. exact.again text a rest (names.text_from text a h);
  stops = λ bytes left kind fits e.
      stopped_behind bytes [] bytes left kind refl (λ front c. completes_by T U front names.text_to c) names.place_to
      (exact.stops bytes left kind fits e);
  places = λ front place byte kind more h w. exact.places front place byte kind more (names.place_from front place h) w;
  completes = λ bytes fits e. completes_by T U bytes names.text_to (exact.completes bytes fits e);
}

-- ---- nothing read

abbrev pub Nowhere : List ℕ → BytePlace → Type 0
Nowhere front place = ⊥

abbrev pub ExactNothing : {A : Type 0} → A → List ℕ → A → Type 0
ExactNothing a text b = (text ≡ []) × (b ≡ a)

pub pure_exact : {A : Type 0} (a : A) → ExactReader (λ bytes. done (a, bytes)) (ExactNothing a) Nowhere
pure_exact {A} a = record {
  begins = record { more = []; bytes = refl; value = a; whole = (refl, refl) };
  takes = λ bytes x fits e. subst (λ (y : A × List ℕ). Takes (ExactNothing a) bytes y) (ok_is (a, bytes) x e)
      (record { text = []; parts = refl; spelled = (refl, refl) });
  again = λ text b rest h. ap (λ w. done (a, w ++ rest)) h.0 ∙ ap (λ v. done (v, rest)) (sym h.1);
  stops = λ bytes left kind fits e. absurd cc;
  places = λ front place byte kind more h w. absurd h;
  completes = λ bytes fits e. absurd cc;
}

-- ---- one reader behind another

abbrev pub seq : {A B : Type 0} → (List ℕ → Result (A × List ℕ) ParseRefusal)
    → (A → List ℕ → Result (B × List ℕ) ParseRefusal) → List ℕ → Result (B × List ℕ) ParseRefusal
seq read next bytes = read bytes >>= λ x. next x.0 x.1

abbrev pub SeqText : {A B : Type 0} → (List ℕ → A → Type 0) → (A → List ℕ → B → Type 0) → List ℕ → B → Type 0
SeqText {A} T U text b = (a : A) × (front : List ℕ) × (back : List ℕ) × (text ≡ front ++ back) × T front a × U a back b

abbrev pub SeqPlace : {A : Type 0} → (List ℕ → A → Type 0) → (List ℕ → BytePlace → Type 0)
    → (A → List ℕ → BytePlace → Type 0) → List ℕ → BytePlace → Type 0
SeqPlace {A} T S P front place =
    S front place ⊎ ((a : A) × (text : List ℕ) × (back : List ℕ) × (front ≡ text ++ back) × T text a × P a back place)

-- which of two steps failed
pub bind_err : {A B : Type 0} (r : Result A ParseRefusal) (f : A → Result B ParseRefusal) (e : ParseRefusal) → (r >>= f)
    ≡ Err e → (r ≡ Err e) ⊎ ((x : A) × (r ≡ Ok x) × (f x ≡ Err e))
bind_err (Ok x) f e h = inr (x, refl, h)
bind_err (Err d) f e h =
    let same : d ≡ e = cc in
    inl (ap (λ k. Err k) same)

module _ {A B : Type 0} (read : List ℕ → Result (A × List ℕ) ParseRefusal)
    (next : A → List ℕ → Result (B × List ℕ) ParseRefusal) (T : List ℕ → A → Type 0) (U : A → List ℕ → B → Type 0)
    (S : List ℕ → BytePlace → Type 0) (P : A → List ℕ → BytePlace → Type 0)
    (first : ExactReader read T S) (second : (text : List ℕ) (a : A) → T text a → ExactReader (next a) (U a) (P a))
  where
    seq_begun : (front : List ℕ) → Completes T front → Completes (SeqText T U) front
    seq_begun front c =
        let b = (second (front ++ c.more) c.value c.whole).begins in
        record {
          more = c.more ++ b.more;
          bytes = are_bytes-append c.more b.more c.bytes b.bytes;
          value = b.value;
          whole = (c.value, front ++ c.more, b.more, sym (append_assoc front c.more b.more), c.whole, b.whole);
        }

    seq_behind : (text : List ℕ) (a : A) (front : List ℕ) → T text a → Completes (U a) front
        → Completes (SeqText T U) (text ++ front)
    seq_behind text a front h c =
        record {
          more = c.more;
          bytes = c.bytes;
          value = c.value;
          whole = (a, text, front ++ c.more, append_assoc text front c.more, h, c.whole);
        }

    seq_takes : (bytes : List ℕ) (x : B × List ℕ) → AreBytes bytes → seq read next bytes ≡ Ok x
        → Takes (SeqText T U) bytes x
    seq_takes bytes x fits e =
        let a = bind_ok (read bytes) (λ x. next x.0 x.1) x e in
        let t = first.takes bytes a.0 fits a.1 in
        let u = (second t.text a.0.0 t.spelled).takes a.0.1 x (back_fits bytes t.text a.0.1 t.parts fits) a.2 in
        let whole : bytes ≡ (t.text ++ u.text) ++ x.1 = t.parts ∙ ap (λ w. t.text ++ w) u.parts
        ∙ sym (append_assoc t.text u.text x.1) in
        record { text = t.text ++ u.text; parts = whole; spelled = (a.0.0, t.text, u.text, refl, t.spelled, u.spelled) }

    seq_again : (text : List ℕ) (b : B) (rest : List ℕ) → SeqText T U text b → seq read next (text ++ rest)
        ≡ Ok (b, rest)
    seq_again text b rest h =
        ap (λ w. seq read next (w ++ rest)) h.3 ∙ ap (seq read next) (append_assoc h.1 h.2 rest)
        ∙ ap (λ r. r >>= λ x. next x.0 x.1) (first.again h.1 h.0 (h.2 ++ rest) h.4)
        ∙ (second h.1 h.0 h.4).again h.2 b rest h.5

    seq_stops : (bytes : List ℕ) (left : ℕ) (kind : FaultKind) → AreBytes bytes → seq read next bytes
        ≡ Err (Bad left kind) → ExactStopped (SeqText T U) (SeqPlace T S P) bytes left kind
    seq_stops bytes left kind fits e =
        elim (bind_err (read bytes) (λ x. next x.0 x.1) (Bad left kind) e) as
        (λ w. ExactStopped (SeqText T U) (SeqPlace T S P) bytes left kind) [
          | inl h ↦ stopped_behind bytes [] bytes left kind refl seq_begun (λ front place s. inl s)
              (first.stops bytes left kind fits h)
          | inr h ↦
              let t = first.takes bytes h.0 fits h.1 in
              stopped_behind bytes t.text h.0.1 left kind t.parts
              (λ front c. seq_behind t.text h.0.0 front t.spelled c)
              (λ front place s. inr (h.0.0, t.text, front, refl, t.spelled, s))
              ((second t.text h.0.0 t.spelled).stops h.0.1 left kind (back_fits bytes t.text h.0.1 t.parts fits) h.2)
        ]

    seq_places : (front : List ℕ) (place : BytePlace) (byte : ℕ) (kind : FaultKind) (more : List ℕ)
        → SeqPlace T S P front place → wrong place byte ≡ Some kind → seq read next (front ++ byte ∷ more)
        ≡ Err (Bad (suc (length more)) kind)
    seq_places front place byte kind more (inl h) w =
        ap (λ r. r >>= λ x. next x.0 x.1) (first.places front place byte kind more h w)
    seq_places front place byte kind more (inr h) w =
        ap (λ v. seq read next (v ++ byte ∷ more)) h.3 ∙ ap (seq read next) (append_assoc h.1 h.2 (byte ∷ more))
        ∙ ap (λ r. r >>= λ x. next x.0 x.1) (first.again h.1 h.0 (h.2 ++ byte ∷ more) h.4)
        ∙ (second h.1 h.0 h.4).places h.2 place byte kind more h.5 w

    seq_completes : (bytes : List ℕ) → AreBytes bytes → seq read next bytes ≡ Err Short → Completes (SeqText T U) bytes
    seq_completes bytes fits e =
        elim (bind_err (read bytes) (λ x. next x.0 x.1) Short e) as (λ w. Completes (SeqText T U) bytes) [
          | inl h ↦ seq_begun bytes (first.completes bytes fits h)
          | inr h ↦
              let t = first.takes bytes h.0 fits h.1 in
              let c = (second t.text h.0.0 t.spelled).completes h.0.1 (back_fits bytes t.text h.0.1 t.parts fits) h.2 in
              subst (λ w. Completes (SeqText T U) w) (sym t.parts) (seq_behind t.text h.0.0 h.0.1 t.spelled c)
        ]

    pub seq_exact : ExactReader (seq read next) (SeqText T U) (SeqPlace T S P)
    seq_exact = record {
      begins = seq_begun [] first.begins;
      takes = seq_takes;
      again = seq_again;
      stops = seq_stops;
      places = seq_places;
      completes = seq_completes;
    }

-- a value made of what is read
pub mapped_exact : {A B : Type 0} (f : A → B) (read : List ℕ → Result (A × List ℕ) ParseRefusal)
    (T : List ℕ → A → Type 0) (S : List ℕ → BytePlace → Type 0) → ExactReader read T S
    → ExactReader (λ bytes. read bytes >>= λ x. done (f x.0, x.1)) (λ text b. (a : A) × T text a × (b ≡ f a)) S
mapped_exact {A} {B} f read T S exact =
    renamed (seq read (λ a bytes. done (f a, bytes))) (SeqText T (λ a. ExactNothing (f a)))
    (λ text b. (a : A) × T text a × (b ≡ f a)) (SeqPlace T S (λ a. Nowhere)) S (record {
      text_to = λ text b h. (
        h.0,
        subst (λ w. T w h.0) (sym (h.3 ∙ ap (λ w. h.1 ++ w) h.5.0 ∙ append-nil h.1)) h.4,
        h.5.1,
      );
      text_from = λ text b h. (h.0, text, [], sym (append-nil text), h.1, (refl, h.2));
      place_to = λ front place h. elim h as (λ w. S front place) [ inl s ↦ s | inr k ↦ absurd k.5 ];
      place_from = λ front place h. inl h;
    }) (seq_exact read (λ a bytes. done (f a, bytes)) T (λ a. ExactNothing (f a)) S (λ a. Nowhere) exact
    (λ text a h. pure_exact (f a)))
