-- Tokens of numbers that follow each other.
use Rattle.std.proofs.Common.{◌≡◌, ℕ, zero, suc, ◌+◌, List, [], ◌∷◌, ◌++◌, length, ap, ◌∙◌, refl}
use Rattle.std.proofs.Common.{◌<◌, Bor, IfSome, is_some, nat_lt, slice_index_or, subst, sym, arith, Option, Some, None, Result}
use Rattle.std.proofs.Common.{Ok, Err}
use Rattle.std.proofs.lemmas.Bool.{ltb-true}
use Rattle.std.specs.Prelude.{OnOk, IfErr, is_err}
use Rattle.std.proofs.lemmas.List.{map-append}
use Rattle.cs_model.specs.declared.schema.SectionFault.{SectionFault}
use Rattle.cs_model.specs.declared.shape.Shape.{Shape}
use Rattle.cs_model.specs.Schema.{refusal_of}
use Rattle.rb_sequence.specs.Cells.{Cells, CellToken, IsTokenOf}
use Rattle.rb_sequence.specs.Entry.{Entry}
use Rattle.rb_subscriber.specs.Accept.{first_outside_entry, if_admitted}
use Rattle.rb_subscriber.specs.AcceptShown.{IsFirstOutside, outside_after}
use Rattle.rb_sequence.specs.Cells.{AreInCells}
use Rattle.rb_subscriber.specs.Shown.{AreTokens, entries_told}

pub in_cells_append : (cells : Cells) (n m : ℕ) (some more : List CellToken) → AreInCells cells n some
    → AreInCells cells m more → m ≡ n + length some → AreInCells cells n (some ++ more)
in_cells_append cells n m [] more a b is = subst (λ k. AreInCells cells k more) (omega (arith, is)) b
in_cells_append cells n m (t ∷ some) more a b is =
    (a.0, a.1, in_cells_append cells (suc n) m some more a.2 b (omega (arith, is)))

pub one_more_shown : (cells : Cells) (n : ℕ) (tokens : List CellToken) (t : CellToken) → AreInCells cells n tokens
    → IsTokenOf cells t → t.number ≡ n + length tokens → AreInCells cells n (tokens ++ t ∷ [])
one_more_shown cells n tokens t all told number =
    in_cells_append cells n (n + length tokens) tokens (t ∷ []) all (told, number, tt) refl

pub tokens_by_place : (cells : Cells) (n : ℕ) (tokens : List CellToken) → AreInCells cells n tokens → AreTokens cells tokens
tokens_by_place cells n [] all i d less = absurd (omega (arith, less))
tokens_by_place cells n (t ∷ tokens) all zero d less = all.0
tokens_by_place cells n (t ∷ tokens) all (suc i) d less =
    tokens_by_place cells (suc n) tokens all.2 i d (omega (arith, less))

-- what stands at a place is the token of the number there
token_at : (cells : Cells) (n i : ℕ) (d : CellToken) (tokens : List CellToken) → AreInCells cells n tokens
    → i < length tokens
    → IsTokenOf cells (slice_index_or tokens i d) × ((slice_index_or tokens i d).number ≡ n + i)
token_at cells n i d [] all less = absurd (omega (arith, less))
token_at cells n zero d (t ∷ tokens) all less = (all.0, all.1 ∙ omega arith)
token_at cells n (suc i) d (t ∷ tokens) all less =
    let later = token_at cells (suc n) i d tokens all.2 (omega (arith, less)) in (later.0, omega (arith, later.1))

-- ---- the first that isn't admitted

found_goes_on : (fault : Option SectionFault) (entry x : Entry) (later after : Option Entry)
    → (later ≡ Some x → after ≡ Some x) → if_admitted fault entry later ≡ Some x → if_admitted fault entry after ≡ Some x
found_goes_on None entry x later after goes e = goes e
found_goes_on (Some fault) entry x later after goes e = e

none_step : (fault : Option SectionFault) (entry : Entry) (later after o : Option Entry)
    → (later ≡ None → after ≡ o) → if_admitted fault entry later ≡ None → if_admitted fault entry after ≡ o
none_step None entry later after o goes e = goes e
none_step (Some fault) entry later after o goes e = absurd cc

some_stays : (schema : List Shape) (entries more : List Entry) (x : Entry) → first_outside_entry schema entries ≡ Some x
    → first_outside_entry schema (entries ++ more) ≡ Some x
some_stays schema [] more x e = absurd cc
some_stays schema (entry ∷ entries) more x e =
    found_goes_on (refusal_of schema entry.item.body) entry x (first_outside_entry schema entries)
    (first_outside_entry schema (entries ++ more)) (some_stays schema entries more x) e

none_goes_on : (schema : List Shape) (entries more : List Entry) → first_outside_entry schema entries ≡ None
    → first_outside_entry schema (entries ++ more) ≡ first_outside_entry schema more
none_goes_on schema [] more e = refl
none_goes_on schema (entry ∷ entries) more e =
    none_step (refusal_of schema entry.item.body) entry (first_outside_entry schema entries)
    (first_outside_entry schema (entries ++ more)) (first_outside_entry schema more)
    (none_goes_on schema entries more) e

split_told : (shown more : List CellToken) → entries_told (shown ++ more) ≡ entries_told shown ++ entries_told more
split_told shown more = map-append (λ (t : CellToken). t.entry) shown more

pub outside_one : (schema : List Shape) (shown : List CellToken) (t : CellToken) (so_far : Option ℕ)
    (r : Result (Unit {0}) SectionFault) (number : ℕ) → t.entry.number ≡ number
    → OnOk r (refusal_of schema t.entry.item.body ≡ None)
    → IfErr r (λ fault. refusal_of schema t.entry.item.body ≡ Some fault)
    → IsFirstOutside schema shown so_far → IsFirstOutside schema (shown ++ t ∷ []) (outside_after so_far (is_err r) number)
outside_one schema shown t (Some before) r number is ok refused h = (
  h.0,
  ap (first_outside_entry schema) (split_told shown (t ∷ []))
      ∙ some_stays schema (entries_told shown) (t.entry ∷ []) h.0 h.1,
  h.2,
)
outside_one schema shown t None (Ok done) number is ok refused h =
    ap (first_outside_entry schema) (split_told shown (t ∷ []))
    ∙ none_goes_on schema (entries_told shown) (t.entry ∷ []) h
    ∙ ap (λ f. if_admitted f t.entry None) ok
outside_one schema shown t None (Err fault) number is ok refused h = (
  t.entry,
  ap (first_outside_entry schema) (split_told shown (t ∷ []))
      ∙ none_goes_on schema (entries_told shown) (t.entry ∷ []) h
      ∙ ap (λ f. if_admitted f t.entry None) refused,
  is,
)

-- what is lent of a place is a token of the number there
pub lent_token : (cells : Cells) (n i number : ℕ) (tokens : List CellToken) (r : Option (Bor CellToken))
    → AreInCells cells n tokens → is_some r ≡ nat_lt i (length tokens)
    → IfSome r (λ t. t.now ≡ slice_index_or tokens i t.now) → n + i ≡ number
    → IfSome r (λ told. IsTokenOf cells told.now × (told.now.number ≡ number))
lent_token cells n i number tokens None all there is at = tt
lent_token cells n i number tokens (Some told) all there is at =
    let found = token_at cells n i told.now tokens all (ltb-true i (length tokens) (sym there)) in
    subst (λ (t : CellToken). IsTokenOf cells t × (t.number ≡ number)) (sym is) (found.0, found.1 ∙ at)
