-- A loop over sections, the last of which may still grow.
use Rattle.std.proofs.Common.{◌≡◌, ℕ, ◌<◌, Bool, true, false, List, [], ◌∷◌, ◌++◌, length, Option, Some, None, Ok, Err, refl}
use Rattle.std.proofs.Common.{sym, ap, subst, ◌∙◌, append_assoc, arith}
use Rattle.std.specs.Prelude.{is_some}
use Rattle.std.proofs.lemmas.List.{append-nil, nil_from_length}
use Rattle.cs_model.specs.Bytes.{AreBytes}
use Rattle.cs_model.specs.declared.change.Change.{Change}
use Rattle.cs_model.specs.declared.shape.Shape.{Shape}
use Rattle.cs_model.specs.Section.{Section}
use Rattle.cs_parse.specs.declared.stop.ParseRefusal.{ParseRefusal}
use Rattle.cs_parse.specs.Front.{changes_front, prefixed, sections_reached, ReadsNext, NextSection}
use Rattle.cs_parse.specs.Progress.{Reached, part_at, read_on}
use Rattle.cs_parse.specs.Reading.{◌>>=◌, shape_at, ends_section}
use Rattle.cs_parse.proofs.feeding.FrontLaws.{changes_over, front_fits, front_shorter}
use Rattle.cs_parse.proofs.feeding.FrontParts.{headed, part_by, front_parts_changes_parts, behind_front, sections_apart}
use Rattle.cs_parse.proofs.joining.PartLaws.{nothing_behind, part_refused, part_shorter, part_rest_fits, part_read}

-- ---- the next one

header_first : (bytes : List ℕ) → part_at [] bytes ≡ (shape_at bytes >>= headed [])
header_first bytes = part_by [] bytes None refl

abbrev alone : Shape → List Change → List Section
alone shape changes = record { shape = shape; changes = changes } ∷ []

pub behind_shape_fits : (bytes rest : List ℕ) (shape : Shape) → AreBytes bytes → shape_at bytes ≡ Ok (shape, rest)
    → AreBytes rest
behind_shape_fits bytes rest shape fits read = part_rest_fits [] bytes (alone shape [], rest) fits
    (header_first bytes ∙ ap (λ r. r >>= headed []) read)

section_fronts_refused_first : (bytes : List ℕ) (why : ParseRefusal) → 0 < length bytes → shape_at bytes ≡ Err why
    → read_on [] bytes ≡ sections_reached [] bytes (Some why)
section_fronts_refused_first [] why some e = absurd (omega arith)
section_fronts_refused_first (byte ∷ bytes) why some e =
    part_refused [] byte bytes why (header_first (byte ∷ bytes) ∙ ap (λ r. r >>= headed []) e)

pub next_refused : (old : List Section) (bytes : List ℕ) (why : ParseRefusal) → AreBytes bytes → 0 < length bytes
    → shape_at bytes ≡ Err why → NextSection old old bytes bytes (Some why)
next_refused old bytes why fits some e = record {
  sections = [];
  added = sym (append-nil old);
  read = section_fronts_refused_first bytes why some e;
  shorter = λ none. absurd cc;
  fits = fits;
}

-- behind its changes no section goes on where none of them is stopped at
section_read : (shape : Shape) (changes : List Change) (rest : List ℕ) (why : Option ParseRefusal) → AreBytes rest
    → (why ≡ None → ends_section rest ≡ true) → behind_front (alone shape []) changes rest why
    ≡ sections_reached (alone shape changes) rest why
section_read shape changes rest None fits over = sections_apart (alone shape changes) rest fits (over refl)
section_read shape changes rest (Some why) fits over = refl

pub next_read : (old new : List Section) (bytes rest after : List ℕ) (shape : Shape) (changes : List Change)
    (why : Option ParseRefusal) → AreBytes bytes → shape_at bytes ≡ Ok (shape, rest)
    → changes ≡ (changes_front shape.flags rest).items → after ≡ (changes_front shape.flags rest).rest → why
    ≡ (changes_front shape.flags rest).why
    → new ≡ old ++ alone shape changes → NextSection old new bytes after why
next_read old new bytes rest after shape changes why fits read are is reason added =
    let first : List Section × List ℕ = (alone shape [], rest) in
    let part : part_at [] bytes ≡ Ok first = header_first bytes ∙ ap (λ r. r >>= headed []) read in
    let fits_rest = part_rest_fits [] bytes first fits part in
    let f = changes_front shape.flags rest in
    let less = part_shorter [] bytes first fits part in
    let over : why ≡ None → ends_section after ≡ true = λ none. ap ends_section is
    ∙ changes_over shape.flags rest fits_rest (sym reason ∙ none) in
    let after_fits = subst (λ w. AreBytes w) (sym is) (front_fits shape.flags rest fits_rest) in
    let parts : behind_front (alone shape []) f.items f.rest f.why ≡ behind_front (alone shape []) changes after why =
    ap (λ cs. behind_front (alone shape []) cs f.rest f.why) (sym are)
    ∙ ap (λ w. behind_front (alone shape []) changes w f.why) (sym is)
    ∙ ap (behind_front (alone shape []) changes after) (sym reason) in
    record {
      sections = alone shape changes;
      added = added;
      read = part_read [] bytes first fits part ∙ front_parts_changes_parts (alone shape []) shape.flags rest refl
          fits_rest ∙ parts ∙ section_read shape changes after why after_fits over;
      shorter = λ none. omega (arith, less, front_shorter shape.flags rest fits_rest, ap length is);
      fits = after_fits;
    }

-- ---- all of them

-- Sections that were read, and what is read behind them, which gives all of this.
pub record Along (sections : List Section) (rest : List ℕ) (all : Reached) : Type 0 where
  pub fits : AreBytes rest
  pub read : prefixed sections (read_on [] rest) ≡ all

pub along_goes : (old new : List Section) (rest after : List ℕ) (all : Reached) (why : Option ParseRefusal)
    → is_some why ≡ false → NextSection old new rest after why → Along old rest all → Along new after all
along_goes old new rest after all (Some why) none next along = absurd cc
along_goes old new rest after all None none next along = record {
  fits = next.fits;
  read =
      ap (λ s. prefixed s (read_on [] after)) next.added
      ∙ ap (λ s. record { sections = s; rest = (read_on [] after).rest; why = (read_on [] after).why })
      (append_assoc old next.sections (read_on [] after).sections)
      ∙ ap (prefixed old) (sym next.read)
      ∙ along.read;
}

pub along_by : (more : Bool) (old new : List Section) (rest after : List ℕ) (all : Reached)
    → ReadsNext more old rest new after → Along old rest all → Along new after all
along_by true old new rest after all goes along = along_goes old new rest after all None refl goes along
along_by false old new rest after all goes along = record {
  fits = subst AreBytes (sym goes.1) along.fits;
  read = (λ i. prefixed (goes.0 i) (read_on [] (goes.1 i))) ∙ along.read;
}

pub along_stops : (old new : List Section) (rest after : List ℕ) (all : Reached) (why : Option ParseRefusal)
    → is_some why ≡ true → NextSection old new rest after why → Along old rest all
    → all ≡ record { sections = new; rest = after; why = why }
along_stops old new rest after all None some next along = absurd cc
along_stops old new rest after all (Some why) some next along =
    sym along.read ∙ ap (prefixed old) next.read ∙ ap (λ s. record { sections = s; rest = after; why = Some why })
    (sym next.added)

pub along_ends : (sections : List Section) (rest : List ℕ) (all : Reached) → length rest ≡ 0
    → prefixed sections (read_on [] rest) ≡ all → all ≡ record { sections = sections; rest = rest; why = None }
along_ends sections rest all empty read =
    let nil = nil_from_length rest empty in
    sym read ∙ ap (λ w. prefixed sections (read_on [] w)) nil ∙ ap (prefixed sections) (nothing_behind [])
    ∙ ap (λ s. record { sections = s; rest = []; why = None }) (append-nil sections)
    ∙ ap (λ w. record { sections = sections; rest = w; why = None }) (sym nil)
