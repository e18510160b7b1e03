-- The publishers that come back have sent the changesets of their lines.
use Rattle.std.proofs.Common.{◌≡◌, ℕ, suc, ◌≤◌, List, [], ◌∷◌, ◌++◌, length, map, take}
use Rattle.std.proofs.Common.{refl, sym, ap, subst, ◌∙◌}
use Rattle.std.specs.List.{flat_map}
use Rattle.cs_model.specs.declared.shape.Shape.{Shape}
use Rattle.rb_broker.specs.Publishers.{PublisherView}
use Rattle.rb_drive.specs.declared.input.Given.{Given}
use Rattle.rb_drive.specs.declared.publishing.FaultyLine.{FaultyLine}
use Rattle.rb_drive.specs.Owners.{numbered_lines, publisher_lines}
use Rattle.rb_drive.specs.Published.{HaveSentLines, faulty_done, faulty_lines, given_bodies, sent_bodies}
use Rattle.rb_drive.proofs.inputs.ListLaws.{same_head, nothing_is_first, same_tail}
use Rattle.rb_drive.proofs.outcomes.PublishedLaws.{HasDoneLines}

-- what each owner has: its publisher, its lines, how many are done, and the faulty ones
pub record SendsLines {A : Type 0} (publisher : A → PublisherView) (lines : A → List Given) (done : A → ℕ)
    (faulty : A → List FaultyLine) : Type 0 where
  pub within : (a : A) → done a ≤ length (lines a)
  pub so_far : (a : A) → HasDoneLines (publisher a) (lines a) (done a) (faulty a)

-- the publishers have these lines, the first of them number n
abbrev pub HaveLines : {A : Type 0} → (A → PublisherView) → (A → List Given) → ℕ → List Shape → List (List Given)
    → List A → Type 0
HaveLines publisher lines n schema given all =
    map (λ a. publisher_lines (publisher a) (lines a)) all ≡ numbered_lines n schema given

pub all_sent_lines : {A : Type 0} (publisher : A → PublisherView) (lines : A → List Given) (done : A → ℕ)
    (faulty : A → List FaultyLine) → SendsLines publisher lines done faulty → (n : ℕ) (schema : List Shape)
    (given : List (List Given)) (all : List A) → HaveLines publisher lines n schema given all
    → HaveSentLines schema n given (map done all) (map publisher all)
all_sent_lines publisher lines done faulty have n schema [] [] is = tt
all_sent_lines publisher lines done faulty have n schema (own ∷ given) [] is = absurd (nothing_is_first _ _ is)
all_sent_lines publisher lines done faulty have n schema [] (a ∷ all) is = absurd (nothing_is_first _ _ (sym is))
all_sent_lines publisher lines done faulty have n schema (own ∷ given) (a ∷ all) is =
    let here : publisher_lines (publisher a) (lines a) ≡ (n, (schema, own)) = same_head _ _ _ _ is in
    let number : (publisher a).number ≡ n = ap (λ k. k.0) here in
    let tables : (publisher a).schema ≡ schema = ap (λ k. k.1.0) here in
    let same : lines a ≡ own = ap (λ k. k.1.1) here in (
      record {
        number_is = number;
        within = subst (λ xs. done a ≤ length xs) same (have.within a);
        sent = (have.so_far a).0
            ∙ (λ i. sent_bodies (number i) 1 (given_bodies (tables i) (take (done a) (same i))));
      },
      all_sent_lines publisher lines done faulty have (suc n) schema given all (same_tail _ _ _ _ is),
    )

pub have_faulty_lines : {A : Type 0} (publisher : A → PublisherView) (lines : A → List Given) (done : A → ℕ)
    (faulty : A → List FaultyLine) → SendsLines publisher lines done faulty → (n : ℕ) (schema : List Shape)
    (given : List (List Given)) (all : List A) → HaveLines publisher lines n schema given all
    → flat_map faulty all ≡ faulty_done schema given (map done all)
have_faulty_lines publisher lines done faulty have n schema [] [] is = refl
have_faulty_lines publisher lines done faulty have n schema (own ∷ given) [] is = refl
have_faulty_lines publisher lines done faulty have n schema [] (a ∷ all) is = absurd (nothing_is_first _ _ (sym is))
have_faulty_lines publisher lines done faulty have n schema (own ∷ given) (a ∷ all) is =
    let here : publisher_lines (publisher a) (lines a) ≡ (n, (schema, own)) = same_head _ _ _ _ is in
    let tables : (publisher a).schema ≡ schema = ap (λ k. k.1.0) here in
    let same : lines a ≡ own = ap (λ k. k.1.1) here in
    ap (λ front. front ++ flat_map faulty all)
    ((have.so_far a).1 ∙ (λ i. faulty_lines (tables i) (take (done a) (same i))))
    ∙ ap (λ later. faulty_lines schema (take (done a) own) ++ later)
    (have_faulty_lines publisher lines done faulty have (suc n) schema given all (same_tail _ _ _ _ is))

pub have_these_lines : {A : Type 0} (publisher : A → PublisherView) (lines : A → List Given) (n : ℕ)
    (schema : List Shape) (given : List (List Given)) (all : List A) → HaveLines publisher lines n schema given all
    → map lines all ≡ given
have_these_lines publisher lines n schema [] [] is = refl
have_these_lines publisher lines n schema (own ∷ given) [] is = absurd (nothing_is_first _ _ is)
have_these_lines publisher lines n schema [] (a ∷ all) is = absurd (nothing_is_first _ _ (sym is))
have_these_lines publisher lines n schema (own ∷ given) (a ∷ all) is =
    let here : publisher_lines (publisher a) (lines a) ≡ (n, (schema, own)) = same_head _ _ _ _ is in
    ap (λ xs. xs ∷ map lines all) (ap (λ k. k.1.1) here)
    ∙ ap (λ later. own ∷ later)
    (have_these_lines publisher lines (suc n) schema given all (same_tail _ _ _ _ is))

-- ---- all of it

pub record LinesComeTo (schema : List Shape) (given : List (List Given)) (dones : List ℕ)
    (publishers : List PublisherView) (faulty : List FaultyLine) (lines : List (List Given)) : Type 0 where
  pub sent : HaveSentLines schema 0 given dones publishers
  pub failed : faulty ≡ faulty_done schema given dones
  pub same : lines ≡ given

pub lines_come_to : {A : Type 0} (all : List A) (publisher : A → PublisherView) (lines : A → List Given) (done : A → ℕ)
    (faulty : A → List FaultyLine) → SendsLines publisher lines done faulty → (schema : List Shape)
    (given : List (List Given)) → HaveLines publisher lines 0 schema given all
    → LinesComeTo schema given (map done all) (map publisher all) (flat_map faulty all) (map lines all)
lines_come_to all publisher lines done faulty have schema given is = record {
  sent = all_sent_lines publisher lines done faulty have 0 schema given all is;
  failed = have_faulty_lines publisher lines done faulty have 0 schema given all is;
  same = have_these_lines publisher lines 0 schema given all is;
}
