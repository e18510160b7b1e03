-- A last section that is given its changes one by one.
use Rattle.std.proofs.Common.{◌≡◌, ℕ, List, [], ◌∷◌, ◌++◌, length, append_assoc, sym, ap, subst, ◌∙◌}
use Rattle.std.proofs.lemmas.List.{append-nil}
use Rattle.cs_model.proofs.texts.LastOne.{last_is_long_of, changes_to_last}
use Rattle.cs_model.specs.declared.change.Change.{Change}
use Rattle.cs_model.specs.declared.change.Op.{Op}
use Rattle.cs_model.specs.declared.shape.Shape.{Shape}
use Rattle.cs_model.specs.declared.value.Field.{Field}
use Rattle.cs_model.specs.PackedChanges.{Long}
use Rattle.cs_model.specs.Section.{Section}
use Rattle.cs_model.specs.Sections.{LastIsLong, with_changes}

-- a section of this table behind the others
abbrev pub one_at_end : List Section → Shape → List Change → List Section
one_at_end front shape changes = front ++ record { shape = shape; changes = changes } ∷ []

-- the last section has those of all changes that come before the ones left
pub record GivenSoFar (now front : List Section) (shape : Shape) (left all : List Change) : Type 0 where
  pub given : List Change
  pub stands : now ≡ one_at_end front shape given
  pub parts : given ++ left ≡ all

pub giving_begins : (now front : List Section) (shape : Shape) (left all : List Change)
    → now ≡ one_at_end front shape [] → left ≡ all → GivenSoFar now front shape left all
giving_begins now front shape left all stands is = record { given = []; stands = stands; parts = is }

pub giving_goes_on : (now next front : List Section) (shape : Shape) (change : Change) (left rest all : List Change)
    → next ≡ with_changes now (change ∷ []) → left ≡ change ∷ rest → GivenSoFar now front shape left all
    → GivenSoFar next front shape rest all
giving_goes_on now next front shape change left rest all more is so =
    record {
      given = so.given ++ change ∷ [];
      stands = more ∙ ap (λ (ss : List Section). with_changes ss (change ∷ [])) so.stands
          ∙ changes_to_last front (record { shape = shape; changes = so.given }) (change ∷ []);
      parts = append_assoc so.given (change ∷ []) rest ∙ ap (λ (cs : List Change). so.given ++ cs) (sym is) ∙ so.parts;
    }

pub giving_ends : (now front : List Section) (shape : Shape) (left all : List Change) → left ≡ []
    → GivenSoFar now front shape left all → now ≡ one_at_end front shape all
giving_ends now front shape left all none so =
    so.stands ∙ ap (one_at_end front shape) (sym (append-nil so.given)
    ∙ ap (λ (cs : List Change). so.given ++ cs) (sym none) ∙ so.parts)

pub given_takes : (now front : List Section) (shape : Shape) (left all : List Change) (op : Op)
    (before after : List Field) → Long (length shape.flags) op before after → GivenSoFar now front shape left all
    → LastIsLong now op before after
given_takes now front shape left all op before after long so =
    subst (λ (ss : List Section). LastIsLong ss op before after) (sym so.stands)
    (last_is_long_of front (record { shape = shape; changes = so.given }) op before after long)
