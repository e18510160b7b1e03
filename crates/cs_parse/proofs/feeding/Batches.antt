-- What the bytes after sections give: changes of the last one, sections after it, and the remaining bytes.
use Rattle.std.proofs.Common.{◌≡◌, ℕ, ◌-◌, ◌<◌, ◌≤◌, Bool, List, [], ◌∷◌, ◌++◌, length, take, drop, Option, Some, None}
use Rattle.std.proofs.Common.{refl, sym, ap, subst, ◌∙◌, arith}
use Rattle.std.proofs.lemmas.List.{append-nil, length-append, take-append-drop}
use Rattle.std.proofs.Math.Seq.{drop-append_seam}
use Rattle.cs_model.specs.Bytes.{AreBytes}
use Rattle.cs_model.specs.Changeset.{IsSection, IsChangeset}
use Rattle.cs_model.specs.Section.{Section}
use Rattle.cs_parse.specs.declared.fault.ParseFault.{ParseFault}
use Rattle.cs_parse.specs.declared.stop.ParseRefusal.{ParseRefusal}
use Rattle.cs_parse.specs.declared.stop.ParseRefusal.TheVariants.{Short, Bad}
use Rattle.cs_parse.specs.Front.{changes_front, prefixed, JoinsSection, JoinsTable, Heads, Tails, said_by, fault_by}
use Rattle.cs_parse.specs.Front.{Brings}
use Rattle.cs_parse.specs.Progress.{Reached, last_flags, with_changes, read_on, arrived, so_far, broken}
use Rattle.cs_parse.proofs.feeding.FrontLaws.{changes_spelled, changes_over, front_fits, front_shorter}
use Rattle.cs_parse.proofs.feeding.FrontParts.{changes_all, changes_stop, sections_apart, part_some, read_valid}
use Rattle.cs_parse.proofs.counting.Fronts.{ChangesFit, SpelledIsSaid, says}
use Rattle.cs_parse.proofs.joining.PartLaws.{nothing_behind, part_rest_fits}
use Rattle.cs_parse.proofs.joining.PartMore.{read_induction}
use Rattle.cs_parse.proofs.joining.SectionLists.{with_changes-length, all_front}
use Rattle.cs_parse.proofs.reading.Steps.{back_fits}

-- ---- what was found

-- the bytes behind the changes are no more than all
pub heads_shorter : (flags : Option (List ℕ)) (bytes : List ℕ) (count : ℕ) (behind : List ℕ) (canonical : Bool)
    (stopped : Option ParseRefusal) → AreBytes bytes → Heads flags bytes count behind canonical stopped
    → length behind ≤ length bytes
heads_shorter flags bytes count behind canonical stopped fits heads = by flags heads
  where
    by : (o : Option (List ℕ)) → Heads o bytes count behind canonical stopped → length behind ≤ length bytes
    by None h = omega (arith, ap length h.0)
    by (Some flags) h = omega (arith, ap length h.left, front_shorter flags bytes fits)

-- what all bytes bring
abbrev pub BringsAll : List Section → List ℕ → List ℕ → List Section → List ℕ → Option ParseRefusal → Type 0
BringsAll sections bytes text more rest why = read_on sections bytes
    ≡ record { sections = with_changes sections (said_by (last_flags sections) text) ++ more; rest = rest; why = why }

-- the same by the last section's key flags
abbrev BringsBy : Option (List ℕ) → List Section → List ℕ → List ℕ → List Section → List ℕ → Option ParseRefusal
    → Type 0
BringsBy o sections bytes text more rest why = read_on sections bytes
    ≡ record { sections = with_changes sections (said_by o text) ++ more; rest = rest; why = why }

none_last : (sections : List Section) → last_flags sections ≡ None → sections ≡ []
none_last [] e = refl
none_last (section ∷ []) e = absurd cc
none_last (section ∷ next ∷ sections) e =
    let rest : next ∷ sections ≡ [] = none_last (next ∷ sections) e in
    absurd cc

tails_behind : (sections : List Section) (flags bytes behind : List ℕ) (more : List Section) (rest : List ℕ)
    (why stopped : Option ParseRefusal) → AreBytes bytes → last_flags sections ≡ Some flags
    → behind ≡ (changes_front flags bytes).rest → stopped ≡ (changes_front flags bytes).why
    → Tails stopped behind more rest why
    → read_on sections bytes ≡ record {
      sections = with_changes sections (changes_front flags bytes).items
          ++ more;
      rest = rest;
      why = why;
    }
tails_behind sections flags bytes behind more rest why None fits last left reason tails =
    let f = changes_front flags bytes in
    let now = with_changes sections f.items in
    changes_all sections flags bytes last fits (sym reason)
    ∙ sections_apart now f.rest (front_fits flags bytes fits) (changes_over flags bytes fits (sym reason))
    ∙ ap (λ w. prefixed now (read_on [] w)) (sym left) ∙ ap (prefixed now) tails
tails_behind sections flags bytes behind more rest why (Some e) fits last left reason tails =
    let f = changes_front flags bytes in
    let now = with_changes sections f.items in
    changes_stop sections flags bytes e last fits (sym reason)
    ∙ ap (λ s. record { sections = s; rest = f.rest; why = Some e })
    (sym (append-nil now) ∙ ap (λ s. now ++ s) (sym tails.0))
    ∙ ap (λ w. record { sections = now ++ more; rest = w; why = Some e }) (sym left ∙ sym tails.1)
    ∙ ap (λ o. record { sections = now ++ more; rest = rest; why = o }) (sym tails.2)

-- What is asked where the changeset grows, and what it grows to.
pub record Batch (sections : List Section) (bytes text : List ℕ) (count : ℕ) (canonical : Bool) (more : List Section)
    (rest : List ℕ) (why : Option ParseRefusal) : Type 0 where
  pub joins : JoinsSection (last_flags sections) text count canonical
  pub brings : BringsAll sections bytes text more rest why

abbrev BatchBy : Option (List ℕ) → List Section → List ℕ → List ℕ → ℕ → Bool → List Section → List ℕ
    → Option ParseRefusal → Type 0
BatchBy o sections bytes text count canonical more rest why = JoinsSection o text count canonical
    × BringsBy o sections bytes text more rest why

batch_by : ChangesFit → SpelledIsSaid → (o : Option (List ℕ)) (sections : List Section) (bytes text : List ℕ)
    (count : ℕ) (behind : List ℕ) (canonical : Bool) (stopped : Option ParseRefusal) (more : List Section)
    (rest : List ℕ) (why : Option ParseRefusal)
    → last_flags sections ≡ o → AreBytes bytes → text ≡ take (length bytes - length behind) bytes
    → Heads o bytes count behind canonical stopped → Tails stopped behind more rest why
    → BatchBy o sections bytes text count canonical more rest why
batch_by fit said None sections bytes text count behind canonical stopped more rest why last fits is_front heads tails =
    let empty = none_last sections last in
    let all : Tails None bytes more rest why =
    subst (λ w. Tails None w more rest why) heads.0 (subst (λ o. Tails o behind more rest why) heads.1 tails) in
    let none : length bytes - length behind ≡ 0 = omega (arith, ap length heads.0) in (
      (is_front ∙ ap (λ n. take n bytes) none, heads.2),
      ap (λ s. read_on s bytes) empty ∙ all
          ∙ ap (λ s. record { sections = s ++ more; rest = rest; why = why }) (sym (ap (λ s. with_changes s []) empty)),
    )
batch_by fit said (Some flags) sections bytes text count behind canonical stopped more rest why last fits is_front heads
    tails =
    let s = says fit said flags bytes count behind canonical (length flags) text fits refl is_front heads.many
    heads.left heads.own in
    let joins : JoinsTable flags text count canonical = record { fit = s.fit; many = s.many; packs = s.packs } in (
      joins,
      tails_behind sections flags bytes behind more rest why stopped fits last heads.left heads.reason tails
          ∙ ap (λ cs. record { sections = with_changes sections cs ++ more; rest = rest; why = why }) (sym s.said),
    )

pub batch : ChangesFit → SpelledIsSaid → (sections : List Section) (bytes text : List ℕ) (count : ℕ) (behind : List ℕ)
    (canonical : Bool) (stopped : Option ParseRefusal) (more : List Section) (rest : List ℕ) (why : Option ParseRefusal)
    → AreBytes bytes → text ≡ take (length bytes - length behind) bytes
    → Heads (last_flags sections) bytes count behind canonical stopped → Tails stopped behind more rest why
    → Batch sections bytes text count canonical more rest why
batch fit said sections bytes text count behind canonical stopped more rest why fits is_front heads tails =
    let b = batch_by fit said (last_flags sections) sections bytes text count behind canonical stopped more rest why
    refl fits is_front heads tails in
    record { joins = b.0; brings = b.1 }

-- ---- what follows

-- what grew is a changeset
pub batch_valid : (sections : List Section) (bytes text : List ℕ) (more : List Section) (rest : List ℕ)
    (why : Option ParseRefusal) → IsChangeset sections → AreBytes bytes → BringsAll sections bytes text more rest why
    → IsChangeset (with_changes sections (said_by (last_flags sections) text) ++ more)
batch_valid sections bytes text more rest why valid fits brings =
    subst (λ (r : Reached). IsChangeset r.sections) brings (read_valid sections bytes valid fits).0

-- where it isn't stopped by a byte that is wrong, none is
pub arrived_so : (len taken : ℕ) (sections : List Section) (rest : List ℕ) (why : Option ParseRefusal) → fault_by taken why
    ≡ None → arrived len taken (record { sections = sections; rest = rest; why = why })
    ≡ so_far len taken (record { sections = sections; rest = rest; why = why })
arrived_so len taken sections rest None none = refl
arrived_so len taken sections rest (Some Short) none = refl
arrived_so len taken sections rest (Some (Bad left kind)) none = absurd cc

-- and else that byte's fault is told
arrived_broken : (len taken : ℕ) (sections : List Section) (rest : List ℕ) (why : Option ParseRefusal)
    (fault : ParseFault) → fault_by taken why ≡ Some fault
    → arrived len taken (record { sections = sections; rest = rest; why = why }) ≡ broken fault
arrived_broken len taken sections rest None fault some = absurd cc
arrived_broken len taken sections rest (Some Short) fault some = absurd cc
arrived_broken len taken sections rest (Some (Bad left kind)) fault some =
    let same : record { at = taken - left; kind = kind } ≡ fault = cc in
    ap broken same

-- no sections are read only where nothing is
abbrev ReadsSome : List Section → List ℕ → Reached → Type 0
ReadsSome sections bytes reached = 0 < length sections → 0 < length reached.sections

reads_some : (sections : List Section) (bytes : List ℕ) → AreBytes bytes → 0 < length sections → 0
    < length (read_on sections bytes).sections
reads_some = read_induction ReadsSome (record {
  none = λ sections some. some;
  refused = λ sections byte bytes why fits refused some. some;
  goes = λ sections bytes part fits read rest some. rest (part_some sections bytes part read);
})

abbrev LeavesAll : List Section → List ℕ → Reached → Type 0
LeavesAll sections bytes reached = length reached.sections ≡ 0 → reached.rest ≡ bytes

pub leaves_all : (sections : List Section) (bytes : List ℕ) → AreBytes bytes → length (read_on sections bytes).sections
    ≡ 0 → (read_on sections bytes).rest ≡ bytes
leaves_all = read_induction LeavesAll (record {
  none = λ sections none. refl;
  refused = λ sections byte bytes why fits refused none. refl;
  goes = λ sections bytes part fits read rest none. absurd
      (omega (
        arith,
        none,
        reads_some part.0 part.1 (part_rest_fits sections bytes part fits read)
            (part_some sections bytes part read),
      ));
})

-- what stands behind the changes
behind_is : (sections : List Section) (bytes : List ℕ) (count : ℕ) (behind : List ℕ) (canonical : Bool)
    (stopped : Option ParseRefusal) → AreBytes bytes → Heads (last_flags sections) bytes count behind canonical stopped
    → drop (length bytes - length behind) bytes ≡ behind
behind_is sections bytes count behind canonical stopped fits heads = by (last_flags sections) heads
  where
    by : (o : Option (List ℕ)) → Heads o bytes count behind canonical stopped
        → drop (length bytes - length behind) bytes ≡ behind
    by None h =
        let none : length bytes - length behind ≡ 0 = omega (arith, ap length h.0) in
        ap (λ n. drop n bytes) none ∙ sym h.0
    by (Some flags) h =
        let t = changes_spelled flags bytes fits in
        let parts : bytes ≡ t.text ++ behind = t.parts ∙ ap (λ w. t.text ++ w) (sym h.left) in
        let at : length bytes - length behind ≡ length t.text =
        omega (arith, ap length parts, length-append t.text behind) in
        ap (λ n. drop n bytes) at ∙ ap (drop (length t.text)) parts ∙ drop-append_seam t.text behind

tails_alone : (behind : List ℕ) (more : List Section) (rest : List ℕ) (why stopped : Option ParseRefusal)
    → AreBytes behind → Tails stopped behind more rest why → more ≡ [] → rest ≡ behind
tails_alone behind more rest why None fits tails none =
    sym (ap (λ (r : Reached). r.rest) tails)
    ∙ leaves_all [] behind fits (ap (λ (r : Reached). length r.sections) tails ∙ ap length none)
tails_alone behind more rest why (Some e) fits tails none = tails.1

-- where there are no bytes nothing is brought
brings_none : (sections : List Section) (bytes text : List ℕ) (more : List Section) (rest : List ℕ)
    (why : Option ParseRefusal) → bytes ≡ [] → BringsAll sections bytes text more rest why → length more ≡ 0
brings_none sections bytes text more rest why none brings =
    let now = with_changes sections (said_by (last_flags sections) text) in
    let all : now ++ more ≡ sections = ap (λ (r : Reached). r.sections) (sym brings)
    ∙ ap (λ w. (read_on sections w).sections) none ∙ ap (λ (r : Reached). r.sections) (nothing_behind sections) in
    omega (
      arith,
      ap length all,
      length-append now more,
      with_changes-length sections (said_by (last_flags sections) text),
    )

some_begun : (sections : List Section) (bytes text : List ℕ) (more : List Section) (rest : List ℕ)
    (why : Option ParseRefusal) → BringsAll sections bytes text more rest why → 0 < length more → 0 < length bytes
some_begun sections [] text more rest why brings some =
    absurd (omega (arith, some, brings_none sections [] text more rest why refl brings))
some_begun sections (byte ∷ bytes) text more rest why brings some = omega arith

pub batches_brings : ChangesFit → SpelledIsSaid
    → (sections : List Section) (bytes : List ℕ) (count : ℕ) (behind : List ℕ) (canonical : Bool)
    (stopped : Option ParseRefusal) (more : List Section) (rest : List ℕ) (why : Option ParseRefusal) (taken len : ℕ)
    → AreBytes bytes → len ≡ length bytes - length behind
    → Heads (last_flags sections) bytes count behind canonical stopped → Tails stopped behind more rest why
    → fault_by taken why ≡ None
    → Brings taken len count canonical more rest sections bytes
batches_brings fit said sections bytes count behind canonical stopped more rest why taken len fits is_len heads tails
    none =
    let text = take len bytes in
    let b = batch fit said sections bytes text count behind canonical stopped more rest why fits
    (ap (λ n. take n bytes) is_len) heads tails in
    let behind_here : drop len bytes ≡ behind = ap (λ n. drop n bytes) is_len
    ∙ behind_is sections bytes count behind canonical stopped fits heads in
    let now = with_changes sections (said_by (last_flags sections) text) in
    record {
      inside = omega (arith, is_len);
      joins = b.joins;
      sections = ap (λ (r : Reached). r.sections) b.brings;
      left = ap (λ (r : Reached). r.rest) b.brings;
      alone = λ alone. tails_alone behind more rest why stopped
          (back_fits bytes text behind (sym (take-append-drop len bytes) ∙ ap (λ w. text ++ w) behind_here) fits) tails
          alone ∙ sym behind_here;
      begun = some_begun sections bytes text more rest why b.brings;
      valid = λ valid. all_front IsSection now more (batch_valid sections bytes text more rest why valid fits b.brings);
      no_fault = λ n. subst (λ (r : Reached). arrived n taken r ≡ so_far n taken r) (sym b.brings)
          (arrived_so n taken (now ++ more) rest why none);
    }

pub batch_bad : (sections : List Section) (bytes text : List ℕ) (more : List Section) (rest : List ℕ)
    (why : Option ParseRefusal) (taken : ℕ) (fault : ParseFault) → fault_by taken why ≡ Some fault
    → BringsAll sections bytes text more rest why
    → (len : ℕ) → arrived len taken (read_on sections bytes) ≡ broken fault
batch_bad sections bytes text more rest why taken fault some brings len =
    let now = with_changes sections (said_by (last_flags sections) text) ++ more in
    ap (arrived len taken) brings ∙ arrived_broken len taken now rest why fault some
