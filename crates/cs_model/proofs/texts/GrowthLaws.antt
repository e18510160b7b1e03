-- A section more, and changes more in the last section.
use Rattle.std.proofs.Common.{◌≡◌, ℕ, suc, ◌+◌, ◌^◌, ◌<◌, ◌≤◌, List, [], ◌∷◌, ◌++◌, length, refl, sym, ap, subst, ◌∙◌, arith}
use Rattle.std.proofs.Common.{◌-◌, zero, length-append, get_or, take, drop, slice_set, append_assoc}
use Rattle.std.specs.List.{AllByRecursion}
use Rattle.std.proofs.lemmas.Grind.{flat_map-append}
use Rattle.std.proofs.lemmas.List.{append-nil, drop_at, take_at}
use Rattle.cs_model.specs.declared.change.Change.{Change}
use Rattle.cs_model.specs.declared.shape.Shape.{Shape}
use Rattle.cs_model.specs.PackedChanges.{Fit, change_bytes, changes_bytes}
use Rattle.cs_model.specs.Section.{Section}
use Rattle.cs_model.proofs.CallerLemmas.{all_append, all_push}
use Rattle.cs_model.proofs.packing.CountLaws.{two_bytes_each}
use Rattle.cs_model.specs.SectionText.{header_text, section_text, sections_text}
use Rattle.cs_model.specs.declared.at.At.{At}
use Rattle.cs_model.specs.Sections.{FitsSection, IsPlaceOf, ArePlacesOf, IsText, sections_by, grown_index, HasRoomFor, with_changes, FitLast}
use Rattle.cs_model.specs.Sections.{LastHasColumns, LastIsLong}
use Rattle.cs_model.specs.Packed.{Fits}
use Rattle.cs_model.proofs.texts.SectionLaws.{text_made}

-- ---- the index

abbrev pub more_at : At → ℕ → ℕ → At
more_at at size count = record at { size = at.size + size; count = at.count + count }

pub grown_at : (front : List At) (at : At) (size count : ℕ) → grown_index (front ++ at ∷ []) size count
    ≡ front ++ more_at at size count ∷ []
grown_at [] at size count = refl
grown_at (a ∷ []) at size count = refl
grown_at (a ∷ b ∷ front) at size count = ap (λ (xs : List At). a ∷ xs) (grown_at (b ∷ front) at size count)

pub can_at : (front : List At) (at : At) (size count : ℕ) → HasRoomFor (front ++ at ∷ []) size count
    → (at.size + size < 2 ^ 64) × (at.count + count < 2 ^ 64)
can_at [] at size count h = h
can_at (a ∷ []) at size count h = h
can_at (a ∷ b ∷ front) at size count h = can_at (b ∷ front) at size count h

pub as_many_places : (ats : List At) (ss : List Section) → ArePlacesOf ats ss → length ats ≡ length ss
as_many_places [] [] are = refl
as_many_places [] (s ∷ ss) are = absurd are
as_many_places (at ∷ ats) [] are = absurd are
as_many_places (at ∷ ats) (s ∷ ss) are = ap suc (as_many_places ats ss are.1)

-- a last section that stands in a text of so many bytes can grow by as many as there is room for
pub room_for : (ats : List At) (ss : List Section) (size count : ℕ) → ArePlacesOf ats ss
    → length (sections_text ss) + size < 2 ^ 64 → count ≤ size → HasRoomFor ats size count
room_for [] ss size count are room few = tt
room_for (at ∷ []) [] size count are room few = absurd are
room_for (at ∷ []) (s ∷ []) size count are room few =
    let long = length-append (header_text s.shape) (changes_bytes s.changes) in
    let all = length-append (section_text s) [] in
    let two = two_bytes_each s.changes in
    (omega (arith, are.0.size, long, all, room), omega (arith, are.0.size, are.0.count, two, long, all, room, few))
room_for (at ∷ []) (s ∷ t ∷ ss) size count are room few = absurd are.1
room_for (at ∷ next ∷ ats) [] size count are room few = absurd are
room_for (at ∷ next ∷ ats) (s ∷ ss) size count are room few =
    room_for (next ∷ ats) ss size count are.1
    (omega (arith, length-append (section_text s) (sections_text ss), room)) few

-- ---- changes more

text_with : (ss : List Section) (cs : List Change) → FitLast ss cs
    → sections_text (with_changes ss cs) ≡ sections_text ss ++ changes_bytes cs
text_with [] cs h = absurd h
text_with (s ∷ []) cs h =
    append-nil (header_text s.shape ++ changes_bytes (s.changes ++ cs))
    ∙ ap (λ (w : List ℕ). header_text s.shape ++ w) (flat_map-append change_bytes s.changes cs)
    ∙ sym (append_assoc (header_text s.shape) (changes_bytes s.changes) (changes_bytes cs))
    ∙ ap (λ (w : List ℕ). w ++ changes_bytes cs) (sym (append-nil (section_text s)))
text_with (s ∷ t ∷ ss) cs h = ap (λ (w : List ℕ). section_text s ++ w) (text_with (t ∷ ss) cs h)
    ∙ sym (append_assoc (section_text s) (sections_text (t ∷ ss)) (changes_bytes cs))

with_at : (ats : List At) (ss : List Section) (cs : List Change) (size count : ℕ) → ArePlacesOf ats ss → FitLast ss cs
    → size ≡ length (changes_bytes cs) → count ≡ length cs → ArePlacesOf (grown_index ats size count) (with_changes ss cs)
with_at [] [] cs size count are h long many = absurd h
with_at [] (s ∷ ss) cs size count are h long many = absurd are
with_at (at ∷ ats) [] cs size count are h long many = absurd are
with_at (at ∷ []) (s ∷ []) cs size count are h long many = (
  record {
    head = are.0.head;
    columns = are.0.columns;
    name = are.0.name;
    size = omega (
      arith,
      are.0.size,
      long,
      ap length (flat_map-append change_bytes s.changes cs),
      length-append (changes_bytes s.changes) (changes_bytes cs),
    );
    count = omega (arith, are.0.count, many, length-append s.changes cs);
  },
  tt,
)
with_at (at ∷ []) (s ∷ t ∷ ss) cs size count are h long many = absurd are.1
with_at (at ∷ next ∷ ats) (s ∷ []) cs size count are h long many = absurd are.1
with_at (at ∷ next ∷ ats) (s ∷ t ∷ ss) cs size count are h long many =
    (are.0, with_at (next ∷ ats) (t ∷ ss) cs size count are.1 h long many)

with_fit : (ss : List Section) (cs : List Change) → AllByRecursion FitsSection ss → FitLast ss cs
    → AllByRecursion FitsSection (with_changes ss cs)
with_fit [] cs fit h = absurd h
with_fit (s ∷ []) cs fit h = (all_append (Fit (length s.shape.flags)) s.changes cs fit.0 h, tt)
with_fit (s ∷ t ∷ ss) cs fit h = (fit.0, with_fit (t ∷ ss) cs fit.1 h)

pub grown_text : (ats : List At) (ss : List Section) (cs : List Change) (old new : List ℕ) (size count : ℕ)
    → IsText ats old ss → FitLast ss cs → new ≡ old ++ changes_bytes cs → size ≡ length (changes_bytes cs)
    → count ≡ length cs → IsText (grown_index ats size count) new (with_changes ss cs)
grown_text ats ss cs old new size count h of_last added long many = record {
  parts = added ∙ (ap (λ (w : List ℕ). w ++ changes_bytes cs) h.parts ∙ sym (text_with ss cs of_last));
  at = with_at ats ss cs size count h.at of_last long many;
  fit = with_fit ss cs h.fit of_last;
}

-- bytes of changes behind a text, and the index grown by them
pub record TextGrows (ats : List At) (text : List ℕ) (sections : List Section) : Type 0 where
  pub says : sections_by ats text ≡ sections
  pub stands : IsText ats text (sections_by ats text)

pub pushed_text : (ats more : List At) (mine : List Section) (cs : List Change) (old new bytes : List ℕ) (size count : ℕ)
    → IsText ats old (sections_by ats old) → sections_by ats old ≡ mine → FitLast mine cs → new ≡ old ++ bytes
    → bytes ≡ changes_bytes cs → size ≡ length bytes → count ≡ length cs → more ≡ grown_index ats size count
    → TextGrows more new (with_changes mine cs)
pushed_text ats more mine cs old new bytes size count h is of_last added spelled long many grew =
    let own = subst (λ (xs : List Section). IsText ats old xs) is h in
    let all = grown_text ats mine cs old new size count own of_last (added ∙ ap (λ (w : List ℕ). old ++ w) spelled)
    (long ∙ ap length spelled) many in
    let m = text_made more (with_changes mine cs) new
    (subst (λ (xs : List At). IsText xs new (with_changes mine cs)) (sym grew) all) in
    record { says = m.0; stands = m.1 }

pub can_push : (ats : List At) (old new bytes : List ℕ) (size count : ℕ) → IsText ats old (sections_by ats old)
    → new ≡ old ++ bytes → length new < 2 ^ 64 → size ≡ length bytes → count ≤ size → HasRoomFor ats size count
can_push ats old new bytes size count h added room long few = room_for ats (sections_by ats old) size count h.at
    (omega (arith, ap length h.parts, ap length added, length-append old bytes, room, long)) few

pub fewer : (cs : List Change) (bytes : List ℕ) (size count : ℕ) → bytes ≡ changes_bytes cs → size ≡ length bytes
    → count ≡ length cs → count ≤ size
fewer cs bytes size count spelled long many = omega (arith, two_bytes_each cs, ap length spelled, long, many)

-- ---- a section more

abbrev pub opened_section : Shape → Section
opened_section shape = record { shape = shape; changes = [] }

opened_at : (ats : List At) (ss : List Section) (at : At) (s : Section) → ArePlacesOf ats ss → IsPlaceOf at s
    → ArePlacesOf (ats ++ at ∷ []) (ss ++ s ∷ [])
opened_at [] [] at s are is = (is, tt)
opened_at [] (t ∷ ss) at s are is = absurd are
opened_at (a ∷ ats) [] at s are is = absurd are
opened_at (a ∷ ats) (t ∷ ss) at s are is = (are.0, opened_at ats ss at s are.1 is)

pub opened_text : (ats : List At) (ss : List Section) (shape : Shape) (old new : List ℕ) (at : At) → IsText ats old ss
    → new ≡ old ++ header_text shape → IsPlaceOf at (opened_section shape)
    → IsText (ats ++ at ∷ []) new (ss ++ opened_section shape ∷ [])
opened_text ats ss shape old new at h added is =
    let s = opened_section shape in
    let one : section_text s ++ [] ≡ header_text shape =
    append-nil (section_text s) ∙ append-nil (header_text shape) in
    record {
      parts = added ∙ (ap (λ (w : List ℕ). w ++ header_text shape) h.parts
          ∙ (ap (λ (w : List ℕ). sections_text ss ++ w) (sym one) ∙ sym (flat_map-append section_text ss (s ∷ []))));
      at = opened_at ats ss at s h.at is;
      fit = all_push FitsSection ss s h.fit tt;
    }

pub opened : (ats more : List At) (mine : List Section) (shape : Shape) (old new : List ℕ) (at : At)
    → IsText ats old (sections_by ats old) → sections_by ats old ≡ mine → new ≡ old ++ header_text shape
    → IsPlaceOf at (opened_section shape) → more ≡ ats ++ at ∷ [] → TextGrows more new (mine ++ opened_section shape ∷ [])
opened ats more mine shape old new at h is added at_is grew =
    let own = subst (λ (xs : List Section). IsText ats old xs) is h in
    let all = opened_text ats mine shape old new at own added at_is in
    let m = text_made more (mine ++ opened_section shape ∷ []) new
    (subst (λ (xs : List At). IsText xs new (mine ++ opened_section shape ∷ [])) (sym grew) all) in
    record { says = m.0; stands = m.1 }

-- canonical changes of a table with as many columns
pub of_last : (ss : List Section) (n : ℕ) (cs : List Change) → LastHasColumns ss n → AllByRecursion (Fit n) cs → FitLast ss cs
of_last [] n cs h fit = absurd h
of_last (s ∷ []) n cs h fit = subst (λ (k : ℕ). AllByRecursion (Fit k) cs) (sym h) fit
of_last (s ∷ t ∷ ss) n cs h fit = of_last (t ∷ ss) n cs h fit

-- ---- sections behind sections

both_at : (ats others : List At) (ss ts : List Section) → ArePlacesOf ats ss → ArePlacesOf others ts
    → ArePlacesOf (ats ++ others) (ss ++ ts)
both_at [] others [] ts a b = b
both_at [] others (s ∷ ss) ts a b = absurd a
both_at (at ∷ ats) others [] ts a b = absurd a
both_at (at ∷ ats) others (s ∷ ss) ts a b = (a.0, both_at ats others ss ts a.1 b)

pub both_texts : (ats others more : List At) (old text new : List ℕ) (mine theirs : List Section)
    → IsText ats old (sections_by ats old) → sections_by ats old ≡ mine → IsText others text (sections_by others text)
    → sections_by others text ≡ theirs → new ≡ old ++ text → more ≡ ats ++ others → TextGrows more new (mine ++ theirs)
both_texts ats others more old text new mine theirs h is g are added grew =
    let own = subst (λ (xs : List Section). IsText ats old xs) is h in
    let other = subst (λ (xs : List Section). IsText others text xs) are g in
    let all : IsText (ats ++ others) new (mine ++ theirs) = record {
      parts = added ∙ ((λ i. own.parts i ++ other.parts i) ∙ sym (flat_map-append section_text mine theirs));
      at = both_at ats others mine theirs own.at other.at;
      fit = all_append FitsSection mine theirs own.fit other.fit;
    } in
    let m = text_made more (mine ++ theirs) new
    (subst (λ (xs : List At). IsText xs new (mine ++ theirs)) (sym grew) all) in
    record { says = m.0; stands = m.1 }

-- one change more, by its records
pub takes_one : (ss : List Section) (change : Change) → LastIsLong ss change.op change.before change.after
    → AllByRecursion Fits change.before → AllByRecursion Fits change.after → FitLast ss (change ∷ [])
takes_one [] change takes before after = absurd takes
takes_one (s ∷ []) change takes before after = (record { long = takes; before = before; after = after }, tt)
takes_one (s ∷ t ∷ ss) change takes before after = takes_one (t ∷ ss) change takes before after

-- how many bytes were added
pub added_len : (old new bytes : List ℕ) (start len : ℕ) → new ≡ old ++ bytes → start ≡ length old → len ≡ length new
    → len - start ≡ length bytes
added_len old new bytes start len is a b = omega (arith, ap length is, length-append old bytes, a, b)

pub one_change : (bytes : List ℕ) (change : Change) → bytes ≡ change_bytes change
    → bytes ≡ changes_bytes (change ∷ [])
one_change bytes change is = is ∙ sym (append-nil (change_bytes change))

pub bytes_of_one : (bytes : List ℕ) (change : Change) (size : ℕ) → bytes ≡ change_bytes change → size ≡ length bytes
    → 1 ≤ size
bytes_of_one bytes change size is long = omega (
  arith,
  two_bytes_each (change ∷ []),
  ap length (one_change bytes change is),
  long,
)

-- ---- an element of the index that grows where it stands

pub grown_in_place : (ats : List At) (len size count : ℕ) (d : At) → len < length ats
    → slice_set ats len (more_at (get_or ats len d) size count) ≡ grown_index (take (suc len) ats) size count
    ++ drop (suc len) ats
grown_in_place [] len size count d inside = absurd (omega (arith, inside))
grown_in_place (at ∷ ats) zero size count d inside = refl
grown_in_place (at ∷ []) (suc len) size count d inside = absurd (omega (arith, inside))
grown_in_place (at ∷ next ∷ ats) (suc len) size count d inside =
    ap (λ (xs : List At). at ∷ xs) (grown_in_place (next ∷ ats) len size count d (omega (arith, inside)))

pub can_in_place : (ats : List At) (len size count : ℕ) (d : At) → len < length ats
    → HasRoomFor (take (suc len) ats) size count
    → ((get_or ats len d).size + size < 2 ^ 64) × ((get_or ats len d).count + count < 2 ^ 64)
can_in_place [] len size count d inside can = absurd (omega (arith, inside))
can_in_place (at ∷ ats) zero size count d inside can = can
can_in_place (at ∷ []) (suc len) size count d inside can = absurd (omega (arith, inside))
can_in_place (at ∷ next ∷ ats) (suc len) size count d inside can =
    can_in_place (next ∷ ats) len size count d (omega (arith, inside)) can

-- changes more in the last section, and then other sections
pub joined_text : (ats others more : List At) (mine theirs : List Section) (cs : List Change)
    (old mid new bytes text : List ℕ) (size count : ℕ) → IsText ats old (sections_by ats old)
    → sections_by ats old ≡ mine → FitLast mine cs → mid ≡ old ++ bytes → bytes ≡ changes_bytes cs
    → size ≡ length bytes → count ≡ length cs → IsText others text (sections_by others text)
    → sections_by others text ≡ theirs → new ≡ mid ++ text → more ≡ grown_index ats size count ++ others
    → TextGrows more new (with_changes mine cs ++ theirs)
joined_text ats others more mine theirs cs old mid new bytes text size count h is of_last added spelled long many g are behind
    grew =
    let first = pushed_text ats (grown_index ats size count) mine cs old mid bytes size count h is of_last added spelled long many refl
    in
    both_texts (grown_index ats size count) others more mid text new (with_changes mine cs) theirs first.stands first.says g are
    behind grew

pub index_joined : (ats others all : List At) (len size count : ℕ) → all ≡ ats ++ others → len ≡ length ats
    → (take len all ≡ ats) × (grown_index (take len all) size count ++ drop len all ≡ grown_index ats size count ++ others)
index_joined ats others all len size count is long =
    let front : take len all ≡ ats = ap (take len) is ∙ take_at ats others len (sym long) in
    let back : drop len all ≡ others = ap (drop len) is ∙ drop_at ats others len (sym long) in
    (front, λ i. grown_index (front i) size count ++ back i)
