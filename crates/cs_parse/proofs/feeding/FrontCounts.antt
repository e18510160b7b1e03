-- The complete changes at the front, compared with all changes of a section.
use Rattle.std.proofs.Common.{◌≡◌, ℕ, zero, suc, Bool, true, false, cond, List, [], ◌∷◌, length, Option, Some, None}
use Rattle.std.proofs.Common.{Result, Ok, Err, refl, ap, ◌∙◌}
use Rattle.cs_model.specs.declared.change.Change.{Change}
use Rattle.cs_parse.specs.Count.{counted}
use Rattle.cs_parse.specs.Front.{Front, after_item, front_at, changes_front}
use Rattle.cs_parse.specs.Reading.{◌>>=◌, many_at, change_at, ends_section, changes_at}
use Rattle.cs_parse.specs.declared.stop.ParseRefusal.{ParseRefusal}
use Rattle.cs_parse.proofs.reading.Loops.{then_others}

-- what reading all gives where these are whole
abbrev pub front_counts_ended_by : {A : Type 0} → List A → List ℕ → Option ParseRefusal
    → Result (List A × List ℕ) ParseRefusal
front_counts_ended_by items rest None = Ok (items, rest)
front_counts_ended_by items rest (Some why) = Err why

abbrev pub front_counts_ended : {A : Type 0} → Front A → Result (List A × List ℕ) ParseRefusal
front_counts_ended front = front_counts_ended_by front.items front.rest front.why

item_ended : {A : Type 0} (item : A) (items : List A) (rest : List ℕ) (why : Option ParseRefusal)
    → then_others item (front_counts_ended_by items rest why) ≡ front_counts_ended_by (item ∷ items) rest why
item_ended item items rest None = refl
item_ended item items rest (Some why) = refl

behind_ended : {A : Type 0} (over : List ℕ → Bool) (read : List ℕ → Result (A × List ℕ) ParseRefusal) (fuel : ℕ)
    (bytes : List ℕ) (r : Result (A × List ℕ) ParseRefusal)
    → ((after : List ℕ) → many_at over read fuel after ≡ front_counts_ended (front_at over read fuel after))
    → (r >>= λ first. then_others first.0 (many_at over read fuel first.1))
    ≡ front_counts_ended (after_item (front_at over read fuel) bytes r)
behind_ended over read fuel bytes (Ok x) same =
    let f = front_at over read fuel x.1 in
    ap (then_others x.0) (same x.1) ∙ item_ended x.0 f.items f.rest f.why
behind_ended over read fuel bytes (Err why) same = refl

either_ended : {A : Type 0} (b : Bool) (bytes : List ℕ) (r : Result (List A × List ℕ) ParseRefusal) (f : Front A) → r
    ≡ front_counts_ended f → cond b (Ok ([], bytes)) r
    ≡ front_counts_ended (cond b (record { items = []; rest = bytes; why = None }) f)
either_ended true bytes r f e = refl
either_ended false bytes r f e = e

many_ended : {A : Type 0} (over : List ℕ → Bool) (read : List ℕ → Result (A × List ℕ) ParseRefusal) (fuel : ℕ)
    (bytes : List ℕ) → many_at over read fuel bytes ≡ front_counts_ended (front_at over read fuel bytes)
unfolding many_at front_at
many_ended over read zero bytes = refl
many_ended over read (suc fuel) bytes =
    either_ended (over bytes) bytes (read bytes >>= λ first. then_others first.0 (many_at over read fuel first.1))
    (after_item (front_at over read fuel) bytes (read bytes))
    (behind_ended over read fuel bytes (read bytes) (many_ended over read fuel))

changes_ended : (flags bytes : List ℕ) → changes_at flags bytes ≡ front_counts_ended (changes_front flags bytes)
unfolding changes_at
changes_ended flags bytes = many_ended ends_section (change_at flags) (length bytes) bytes

abbrev front_counts_counted_by : Front Change → Option ParseRefusal → Result (ℕ × List ℕ) ParseRefusal
front_counts_counted_by f o = counted length (front_counts_ended_by f.items f.rest o)

pub count_whole : (flags bytes : List ℕ) → (changes_front flags bytes).why ≡ None
    → counted length (changes_at flags bytes)
    ≡ Ok (length (changes_front flags bytes).items, (changes_front flags bytes).rest)
count_whole flags bytes none = ap (counted length) (changes_ended flags bytes)
    ∙ ap (front_counts_counted_by (changes_front flags bytes)) none

pub count_stops : (flags bytes : List ℕ) (why : ParseRefusal) → (changes_front flags bytes).why ≡ Some why
    → counted length (changes_at flags bytes) ≡ Err why
count_stops flags bytes why some = ap (counted length) (changes_ended flags bytes)
    ∙ ap (front_counts_counted_by (changes_front flags bytes)) some
