-- What the steps of combining texts come to.
use Rattle.std.proofs.Common.{◌≡◌, ◌∙◌, ◌<◌, ◌+◌, ℕ, suc, List, [], ◌∷◌, ◌++◌, length, take, drop, refl, sym}
use Rattle.std.proofs.Common.{ap, subst, append_assoc, append-nil, Option, Some, None, arith}
use Rattle.std.proofs.lemmas.List.{take-append-drop, map-append, length-take-le}
use Rattle.cs_model.specs.Section.{Section}
use Rattle.cs_model.specs.Text.{Spells}
use Rattle.cs_parse.specs.declared.fault.ParseFault.{ParseFault}
use Rattle.cs_parse.specs.Fault.{IsFault}
use Rattle.cs_group.specs.Adding.{first_refused, refused_earliest, sections_in}
use Rattle.cs_group.specs.Group.{first_clash}
use Rattle.changeset_c.specs.declared.combining.Text.{Text}
use Rattle.changeset_c.specs.Combining.{texts_of, SpellAll, HasTextFault, HasClash}
use Rattle.changeset_c.specs.declared.combining.CombineError.{CombineError}
use Rattle.changeset_c.specs.declared.combining.CombineError.TheVariants.{Fault, Clash, Memory}
use Rattle.changeset_c.specs.Combining.{AreReadSo, IsReadSo}
use Rattle.changeset_c.specs.Combining.{SpellUntil, ReadUntil, IsFirstClash, Refuses, ReportsFirstClash}
use Rattle.cs_parse.specs.FaultNumber.{kind_number}

-- ---- texts that spell changesets

pub same_count : (texts : List (List ℕ)) (changesets : List (List Section)) → SpellAll texts changesets
    → length changesets ≡ length texts
same_count [] [] all = refl
same_count [] (c ∷ cs) all = absurd all
same_count (t ∷ ts) [] all = absurd all
same_count (t ∷ ts) (c ∷ cs) all = ap suc (same_count ts cs all.1)

-- the text of one of the changesets, and those before it
pub split : (texts : List (List ℕ)) (front : List (List Section)) (changeset : List Section)
    (rest : List (List Section)) → SpellAll texts (front ++ changeset ∷ rest)
    → SpellUntil texts front (λ text. Spells text changeset)
split [] [] changeset rest all = absurd all
split [] (c ∷ front) changeset rest all = absurd all
split (t ∷ ts) [] changeset rest all =
    record { front = []; text = t; rest = ts; parts = refl; spelled = tt; is_so = all.0 }
split (t ∷ ts) (c ∷ front) changeset rest all =
    let s = split ts front changeset rest all.1 in
    record {
      front = t ∷ s.front;
      text = s.text;
      rest = s.rest;
      parts = ap (λ xs. t ∷ xs) s.parts;
      spelled = (all.0, s.spelled);
      is_so = s.is_so;
    }

-- ---- the loop that reads the texts

abbrev pub blank_text : Text
blank_text = record { bytes = record { ref_ptr = (0, 0); now = [] } }

spell_more : (texts : List (List ℕ)) (changesets : List (List Section)) (text : List ℕ) (changeset : List Section)
    → SpellAll texts changesets → Spells text changeset → SpellAll (texts ++ text ∷ []) (changesets ++ changeset ∷ [])
spell_more [] [] text changeset all one = (one, tt)
spell_more [] (c ∷ cs) text changeset all one = absurd all
spell_more (t ∷ ts) [] text changeset all one = absurd all
spell_more (t ∷ ts) (c ∷ cs) text changeset all one = (all.0, spell_more ts cs text changeset all.1 one)

pub texts_front : (texts : List Text) (i : ℕ) → texts_of texts ≡ texts_of (take i texts) ++ texts_of (drop i texts)
texts_front texts i = ap texts_of (sym (take-append-drop i texts))
    ∙ map-append (λ (text : Text). text.bytes.now) (take i texts) (drop i texts)

pub read_next : (texts : List Text) (i : ℕ) (text : Text) (changesets : List (List Section))
    (changeset : List Section) → take (i + 1) texts ≡ take i texts ++ text ∷ []
    → SpellAll (texts_of (take i texts)) changesets → Spells text.bytes.now changeset
    → SpellAll (texts_of (take (i + 1) texts)) (changesets ++ changeset ∷ [])
read_next texts i text changesets changeset next all one =
    subst (λ xs. SpellAll xs (changesets ++ changeset ∷ []))
    (sym (ap texts_of next ∙ map-append (λ (text : Text). text.bytes.now) (take i texts) (text ∷ [])))
    (spell_more (texts_of (take i texts)) changesets text.bytes.now changeset all one)

pub read_cut : (texts : List Text) (i : ℕ) (text : Text) (changesets : List (List Section)) (fault : ParseFault)
    → drop i texts ≡ text ∷ drop (i + 1) texts → SpellAll (texts_of (take i texts)) changesets
    → IsFault text.bytes.now fault → SpellUntil (texts_of texts) changesets (λ text. IsFault text fault)
read_cut texts i text changesets fault rest all is = record {
  front = texts_of (take i texts);
  text = text.bytes.now;
  rest = texts_of (drop (i + 1) texts);
  parts = texts_front texts i ∙ ap (λ xs. texts_of (take i texts) ++ texts_of xs) rest;
  spelled = all;
  is_so = is;
}

-- ---- the loop that tells that the texts are read so

so_more : (texts : List (List ℕ)) (text : List ℕ) → AreReadSo texts → IsReadSo text → AreReadSo (texts ++ text ∷ [])
so_more [] text all one = (one, tt)
so_more (t ∷ ts) text all one = (all.0, so_more ts text all.1 one)

pub so_next : (texts : List Text) (i : ℕ) (text : Text) → take (i + 1) texts ≡ take i texts ++ text ∷ []
    → AreReadSo (texts_of (take i texts)) → IsReadSo text.bytes.now → AreReadSo (texts_of (take (i + 1) texts))
so_next texts i text next all one =
    subst AreReadSo
    (sym (ap texts_of next ∙ map-append (λ (text : Text). text.bytes.now) (take i texts) (text ∷ [])))
    (so_more (texts_of (take i texts)) text.bytes.now all one)

-- ---- the loop that adds the changesets

pub both_none : (one other : Option ℕ) → refused_earliest one other ≡ None → (one ≡ None) × (other ≡ None)
both_none None other e = (refl, e)
both_none (Some section) other e = grind arith

pub fits_more : (earlier : List Section) (changesets : List (List Section)) (changeset : List Section)
    → first_refused earlier changesets ≡ None → first_clash (earlier ++ sections_in changesets) changeset ≡ None
    → first_refused earlier (changesets ++ changeset ∷ []) ≡ None
fits_more earlier [] changeset fits clash =
    ap (λ x. refused_earliest x None) (ap (λ ss. first_clash ss changeset) (sym (append-nil earlier)) ∙ clash)
fits_more earlier (c ∷ cs) changeset fits clash =
    let both = both_none (first_clash earlier c) (first_refused (earlier ++ c) cs) fits in
    ap (λ x. refused_earliest x (first_refused (earlier ++ c) (cs ++ changeset ∷ []))) both.0
    ∙ fits_more (earlier ++ c) cs changeset both.1
    (ap (λ ss. first_clash ss changeset) (append_assoc earlier c (sections_in cs)) ∙ clash)

pub add_next : (changesets : List (List Section)) (i : ℕ) (changeset : List Section)
    → take (i + 1) changesets ≡ take i changesets ++ changeset ∷ [] → first_refused [] (take i changesets) ≡ None
    → first_clash (sections_in (take i changesets)) changeset ≡ None
    → first_refused [] (take (i + 1) changesets) ≡ None
add_next changesets i changeset next fits clash =
    ap (λ cs. first_refused [] cs) next ∙ fits_more [] (take i changesets) changeset fits clash

sections_both : (xs ys : List (List Section)) → sections_in (xs ++ ys) ≡ sections_in xs ++ sections_in ys
sections_both [] ys = refl
sections_both (x ∷ xs) ys = ap (λ zs. x ++ zs) (sections_both xs ys)
    ∙ sym (append_assoc x (sections_in xs) (sections_in ys))

pub sections_next : (changesets : List (List Section)) (i : ℕ) (changeset : List Section)
    → take (i + 1) changesets ≡ take i changesets ++ changeset ∷ []
    → sections_in (take (i + 1) changesets) ≡ sections_in (take i changesets) ++ changeset
sections_next changesets i changeset next = ap sections_in next ∙ sections_both (take i changesets) (changeset ∷ [])
    ∙ ap (λ ss. sections_in (take i changesets) ++ ss) (append-nil changeset)

pub add_cut : (changesets : List (List Section)) (i : ℕ) (changeset : List Section) (section : ℕ)
    → i < length changesets → drop i changesets ≡ changeset ∷ drop (i + 1) changesets
    → first_refused [] (take i changesets) ≡ None
    → first_clash (sections_in (take i changesets)) changeset ≡ Some section → IsFirstClash changesets i section
add_cut changesets i changeset section in_range rest fits clash = record {
  front = take i changesets;
  changeset = changeset;
  rest = drop (i + 1) changesets;
  parts = sym (take-append-drop i changesets) ∙ ap (λ xs. take i changesets ++ xs) rest;
  is_index = sym (length-take-le i changesets (omega (arith, in_range)));
  fits = fits;
  clash = clash;
}

-- ---- both

-- the clash of a text that stands among the others
clash_in : (texts within : List (List ℕ)) (changesets : List (List Section)) (index section : ℕ)
    (at : IsFirstClash changesets index section)
    (s : SpellUntil within at.front (λ text. Spells text at.changeset)) (rest : List (List ℕ))
    → texts ≡ s.front ++ s.text ∷ rest → HasClash texts index section
clash_in texts within changesets index section at s rest parts = record {
  front = s.front;
  text = s.text;
  changesets = at.front;
  first = record {
    rest = rest;
    parts = parts;
    is_index = at.is_index ∙ same_count s.front at.front s.spelled;
    spelled = s.spelled;
    fits = at.fits;
  };
  changeset = at.changeset;
  spells = s.is_so;
  clash = at.clash;
}

pub clash_told : (texts : List (List ℕ)) (changesets : List (List Section)) (fault : Option ParseFault)
    (index section : ℕ) → ReadUntil texts changesets fault → IsFirstClash changesets index section
    → HasClash texts index section
clash_told texts changesets None index section all at =
    let s = split texts at.front at.changeset at.rest (subst (λ cs. SpellAll texts cs) at.parts all) in
    clash_in texts texts changesets index section at s s.rest s.parts
clash_told texts changesets (Some fault) index section cut at =
    let s = split cut.front at.front at.changeset at.rest (subst (λ cs. SpellAll cut.front cs) at.parts cut.spelled) in
    clash_in texts cut.front changesets index section at s (s.rest ++ cut.text ∷ cut.rest)
    (cut.parts ∙ ap (λ xs. xs ++ cut.text ∷ cut.rest) s.parts
    ∙ append_assoc s.front (s.text ∷ s.rest) (cut.text ∷ cut.rest))

pub text_fault_told : (texts : List (List ℕ)) (changesets : List (List Section)) (fault : ParseFault) (index : ℕ)
    → index ≡ length changesets → SpellUntil texts changesets (λ text. IsFault text fault)
    → first_refused [] changesets ≡ None
    → HasTextFault texts index fault.at (kind_number fault.kind)
text_fault_told texts changesets fault index is cut fits = record {
  front = cut.front;
  text = cut.text;
  changesets = changesets;
  first = record {
    rest = cut.rest;
    parts = cut.parts;
    is_index = is ∙ same_count cut.front changesets cut.spelled;
    spelled = cut.spelled;
    fits = fits;
  };
  fault = record { fault = fault; is_fault = cut.is_so; is_place = refl; is_kind = refl };
}

pub refusal_told : (texts : List (List ℕ)) (changesets : List (List Section)) (fault : Option ParseFault)
    (refusal : CombineError) → ReadUntil texts changesets fault → ReportsFirstClash refusal changesets
    → Refuses refusal texts
refusal_told texts changesets fault (Fault text why) read refused = absurd refused
refusal_told texts changesets fault (Clash text section) read refused =
    clash_told texts changesets fault text section read refused
refusal_told texts changesets fault Memory read refused = tt
