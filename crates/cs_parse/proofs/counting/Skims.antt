-- Scanning what is read without keeping it.
use Rattle.std.proofs.Common.{◌≡◌, ℕ, suc, ◌-◌, ◌+◌, ◌<◌, ◌⊎◌, Bool, true, false, List, [], ◌∷◌, length, map, drop}
use Rattle.std.proofs.Common.{Result, Ok, Err, refl, sym, ap, ◌∙◌, arith}
use Rattle.std.proofs.lemmas.List.{length-append}
use Rattle.std.specs.List.{flat_map}
use Rattle.cs_model.specs.declared.value.Field.{Field}
use Rattle.cs_model.specs.declared.change.Op.{Op}
use Rattle.cs_model.specs.declared.change.Op.TheVariants.{Update}
use Rattle.cs_model.specs.Section.{Section}
use Rattle.cs_model.specs.Rule.{Rule, old_rule, new_rules}
use Rattle.cs_parse.specs.declared.stop.ParseRefusal.{ParseRefusal}
use Rattle.cs_parse.specs.Reading.{◌>>=◌, many_at, field_at, record_at, records_at}
use Rattle.cs_parse.specs.Count.{bytes_after, counted, changes_in}
use Rattle.cs_parse.proofs.reading.Steps.{bind_ok, done, ok_is}
use Rattle.cs_parse.proofs.reading.Loops.{then_others, loops_rest_of, many_more, many_done}

-- ---- what is behind a value

-- what is made of a value doesn't matter
pub behind_made : {A B : Type 0} (r : Result (A × List ℕ) ParseRefusal) (make : A → B)
    → bytes_after (r >>= λ x. Ok (make x.0, x.1)) ≡ bytes_after r
behind_made (Ok x) make = refl
behind_made (Err e) make = refl

pub behind_refused : {A : Type 0} (r : Result (A × List ℕ) ParseRefusal) (e : ParseRefusal) → bytes_after r ≡ Err e → r
    ≡ Err e
behind_refused (Ok x) e h = absurd cc
behind_refused (Err d) e h = cc

-- a value is there where bytes are behind it
pub behind_value : {A : Type 0} (r : Result (A × List ℕ) ParseRefusal) (rest : List ℕ) → bytes_after r ≡ Ok rest
    → (a : A) × (r ≡ Ok (a, rest))
behind_value (Ok x) rest h =
    let same : x.1 ≡ rest = cc in
    (x.0, ap (λ w. done (x.0, w)) same)
behind_value (Err d) rest h = absurd cc

-- ---- fields

abbrev pub fields_of : List Rule → Field × List ℕ → Result (List Field × List ℕ) ParseRefusal
fields_of rules first = then_others first.0 (record_at rules first.1)

pub record_more : (rule : Rule) (rules : List Rule) (bytes : List ℕ) → record_at (rule ∷ rules) bytes
    ≡ (field_at rule bytes >>= fields_of rules)
unfolding record_at
record_more rule rules bytes = refl

pub field_passed : (rule : Rule) (rules : List Rule) (bytes : List ℕ) (first : Field) (after : List ℕ)
    (total : Result (List ℕ) ParseRefusal) → field_at rule bytes ≡ Ok (first, after)
    → bytes_after (record_at (rule ∷ rules) bytes) ≡ total → bytes_after (record_at rules after) ≡ total
field_passed rule rules bytes first after total h so_far =
    sym (ap bytes_after (record_more rule rules bytes ∙ ap (λ r. r >>= fields_of rules) h)
    ∙ behind_made (record_at rules after) (λ others. first ∷ others)) ∙ so_far

pub field_refused : (rule : Rule) (rules : List Rule) (bytes : List ℕ) (e : ParseRefusal)
    (total : Result (List ℕ) ParseRefusal) → field_at rule bytes ≡ Err e
    → bytes_after (record_at (rule ∷ rules) bytes) ≡ total → total ≡ Err e
field_refused rule rules bytes e total h so_far =
    sym so_far ∙ ap bytes_after (record_more rule rules bytes ∙ ap (λ r. r >>= fields_of rules) h)

-- a record that is read begins with its first field
pub field_begins : (rule : Rule) (rules : List Rule) (bytes : List ℕ) (first : Field) (after : List ℕ)
    (fields : List Field) (left : List ℕ) → field_at rule bytes ≡ Ok (first, after)
    → record_at (rule ∷ rules) bytes ≡ Ok (fields, left) → (fields ≡ first ∷ drop 1 fields)
    × (record_at rules after ≡ Ok (drop 1 fields, left))
field_begins rule rules bytes first after fields left h whole =
    let now = sym (record_more rule rules bytes ∙ ap (λ r. r >>= fields_of rules) h) ∙ whole in
    let b = bind_ok (record_at rules after) (λ others. Ok (first ∷ others.0, others.1)) (fields, left) now in
    let both = ok_is (first ∷ b.0.0, b.0.1) (fields, left) b.2 in
    let is : first ∷ b.0.0 ≡ fields = ap (λ p. p.0) both in
    let tail : b.0.0 ≡ drop 1 fields = ap (drop 1) is in
    (sym is ∙ ap (λ w. first ∷ w) tail, b.1 ∙ ap (λ p. done (b.0.0, p.1)) both ∙ ap (λ w. done (w, left)) tail)

pub field_missing : (rule : Rule) (rules : List Rule) (bytes : List ℕ) (e : ParseRefusal) (fields : List Field)
    (left : List ℕ) → field_at rule bytes ≡ Err e
    → record_at (rule ∷ rules) bytes ≡ Ok (fields, left) → ⊥
field_missing rule rules bytes e fields left h whole =
    let now = sym (record_more rule rules bytes ∙ ap (λ r. r >>= fields_of rules) h) ∙ whole in
    absurd (cc now)

pub fields_passed : (bytes : List ℕ) (total : Result (List ℕ) ParseRefusal) → bytes_after (record_at [] bytes) ≡ total
    → total ≡ Ok bytes
unfolding record_at
fields_passed bytes total so_far = sym so_far

abbrev skims_new_behind : List ℕ → List Field × List ℕ → Result ((List Field × List Field) × List ℕ) ParseRefusal
skims_new_behind flags old = record_at (new_rules flags old.0) old.1 >>= λ new. Ok ((old.0, new.0), new.1)

-- what is behind an UPDATE's records is what is behind the new one, once the old one is read
pub update_behind : (flags : List ℕ) (op : Op) (bytes rest : List ℕ) (behind : Result (List ℕ) ParseRefusal)
    → op ≡ Update → bytes_after (record_at (map old_rule flags) bytes) ≡ Ok rest
    → ((before : List Field) (left : List ℕ) → record_at (map old_rule flags) bytes ≡ Ok (before, left)
    → bytes_after (record_at (new_rules flags before) rest) ≡ behind)
    → bytes_after (records_at flags op bytes) ≡ behind
unfolding records_at
update_behind flags op bytes rest behind is read new =
    let old = behind_value (record_at (map old_rule flags) bytes) rest read in
    ap (λ o. bytes_after (records_at flags o bytes)) is
    ∙ ap (λ r. bytes_after (r >>= skims_new_behind flags)) old.1
    ∙ behind_made (record_at (new_rules flags old.0) rest) (λ fields. (old.0, fields)) ∙ new old.0 rest old.1

-- ---- items, counted

-- a number of a list that is the sum of those of its items
pub record IsSum {A : Type 0} (total : List A → ℕ) (one : A → ℕ) : Type 0 where
  pub none : total [] ≡ 0
  pub more : (x : A) (xs : List A) → total (x ∷ xs) ≡ one x + total xs

-- what was counted before, and what is still read
abbrev pub with_count : {A : Type 0} → (List A → ℕ) → ℕ → Result (List A × List ℕ) ParseRefusal
    → Result (ℕ × List ℕ) ParseRefusal
with_count total n read = read >>= λ x. Ok (n + total x.0, x.1)

recount : {A : Type 0} (total : List A → ℕ) (one : A → ℕ) → IsSum total one
    → (n : ℕ) (first : A) (read : Result (List A × List ℕ) ParseRefusal) → with_count total n (then_others first read)
    ≡ with_count total (n + one first) read
recount total one sum n first (Ok x) =
    let same : n + total (first ∷ x.0) ≡ (n + one first) + total x.0 = omega (arith, sum.more first x.0) in
    ap (λ m. done (m, x.1)) same
recount total one sum n first (Err e) = refl

pub counted_value : {A : Type 0} (one : A → ℕ) (r : Result (A × List ℕ) ParseRefusal) (k : ℕ) (after : List ℕ)
    → counted one r ≡ Ok (k, after) → (a : A) × (r ≡ Ok (a, after)) × (one a ≡ k)
counted_value one (Ok x) k after h =
    let both = ok_is (one x.0, x.1) (k, after) h in
    (x.0, ap (λ p. done (x.0, p.1)) both, ap (λ p. p.0) both)
counted_value one (Err d) k after h = absurd cc

pub counted_refused : {A : Type 0} (one : A → ℕ) (r : Result (A × List ℕ) ParseRefusal) (e : ParseRefusal)
    → counted one r ≡ Err e → r ≡ Err e
counted_refused one (Ok x) e h = absurd cc
counted_refused one (Err d) e h = cc

-- the step of the loop over `turns` turns, of which i are done
step : {A : Type 0} (over : List ℕ → Bool) (read : List ℕ → Result (A × List ℕ) ParseRefusal) (total : List A → ℕ)
    (n turns i : ℕ) (bytes : List ℕ) (whole : Result (ℕ × List ℕ) ParseRefusal) → i < turns → over bytes ≡ false
    → with_count total n (many_at over read (turns - i) bytes) ≡ whole
    → with_count total n (read bytes >>= loops_rest_of over read (turns - (i + 1))) ≡ whole
step over read total n turns i bytes whole lt more so_far =
    let k : turns - i ≡ suc (turns - (i + 1)) = omega arith in
    sym (ap (λ r. with_count total n r)
    (ap (λ m. many_at over read m bytes) k ∙ many_more over read (turns - (i + 1)) bytes more)) ∙ so_far

pub count_goes_on : {A : Type 0} (over : List ℕ → Bool) (read : List ℕ → Result (A × List ℕ) ParseRefusal)
    (total : List A → ℕ) (one : A → ℕ) → IsSum total one
    → (n turns i : ℕ) (bytes : List ℕ) (k : ℕ) (after : List ℕ) (whole : Result (ℕ × List ℕ) ParseRefusal) → i < turns
    → over bytes ≡ false → counted one (read bytes) ≡ Ok (k, after)
    → with_count total n (many_at over read (turns - i) bytes) ≡ whole
    → with_count total (n + k) (many_at over read (turns - (i + 1)) after) ≡ whole
count_goes_on over read total one sum n turns i bytes k after whole lt more h so_far =
    let v = counted_value one (read bytes) k after h in
    let first = v.0 in
    let now : with_count total n (read bytes >>= loops_rest_of over read (turns - (i + 1)))
    ≡ with_count total n (then_others first (many_at over read (turns - (i + 1)) after)) =
    ap (λ r. with_count total n (r >>= loops_rest_of over read (turns - (i + 1)))) v.1 in
    let next : with_count total (n + one first) (many_at over read (turns - (i + 1)) after) ≡ whole =
    sym (now ∙ recount total one sum n first (many_at over read (turns - (i + 1)) after))
    ∙ step over read total n turns i bytes whole lt more so_far in
    ap (λ m. with_count total (n + m) (many_at over read (turns - (i + 1)) after)) (sym v.2) ∙ next

pub count_ends : {A : Type 0} (over : List ℕ → Bool) (read : List ℕ → Result (A × List ℕ) ParseRefusal)
    (total : List A → ℕ) (n turns i : ℕ) (bytes : List ℕ) (e : ParseRefusal) (whole : Result (ℕ × List ℕ) ParseRefusal)
    → i < turns → over bytes ≡ false → read bytes ≡ Err e
    → with_count total n (many_at over read (turns - i) bytes) ≡ whole → whole ≡ Err e
count_ends over read total n turns i bytes e whole lt more h so_far =
    sym (step over read total n turns i bytes whole lt more so_far)
    ∙ ap (λ r. with_count total n (r >>= loops_rest_of over read (turns - (i + 1)))) h

pub count_is_done : {A : Type 0} (over : List ℕ → Bool) (read : List ℕ → Result (A × List ℕ) ParseRefusal)
    (total : List A → ℕ) (one : A → ℕ) → IsSum total one
    → (n turns i : ℕ) (bytes : List ℕ) (whole : Result (ℕ × List ℕ) ParseRefusal) → (over bytes ≡ true)
    ⊎ (turns - i ≡ 0)
    → with_count total n (many_at over read (turns - i) bytes) ≡ whole → whole ≡ Ok (n, bytes)
count_is_done over read total one sum n turns i bytes whole ended so_far =
    let same : n + total [] ≡ n = omega (arith, sum.none) in
    sym so_far ∙ ap (with_count total n) (many_done over read (turns - i) bytes ended) ∙ ap (λ m. done (m, bytes)) same

-- ---- changes

abbrev pub size : Section → ℕ
size section = length section.changes

pub sizes : IsSum changes_in size
sizes = record {
  none = refl;
  more = λ section sections. length-append section.changes
      (flat_map (λ s. s.changes) sections);
}
