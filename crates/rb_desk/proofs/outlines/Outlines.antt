-- What calls change in the outline: the members of changed lists of subscriptions, and a delivered span.
use Rattle.std.proofs.Common.{◌≡◌, ℕ, zero, suc, ◌≤◌, Bool, true, false, List, [], ◌∷◌, map, Some, None, option_map}
use Rattle.std.proofs.Common.{Result, Ok, Err, find, slice_get, slice_set, refl, sym, ap, ◌∙◌, subst, arith}
use Rattle.std.proofs.lemmas.Option.{slice_get-map}
use Rattle.rb_desk.specs.declared.refusal.DeskRefusal.{DeskRefusal}
use Rattle.rb_deliveries.specs.declared.span.Span.{Span}
use Rattle.rb_desk.specs.Picture.{Picture}
use Rattle.rb_deliveries.specs.Picture.{Subscription}
use Rattle.rb_desk.specs.Calls.{delivery_from, delivered_picture}
use Rattle.rb_desk.specs.IsPicture.{IsPicture}
use Rattle.rb_desk.specs.Outline.{Member, Outline, member_of, outline_of}
use Rattle.rb_desk.specs.Outline as outline
use Rattle.rb_desk.proofs.pictures.RiseLaws.{rise_begins, rise_ends, all_spans_found}
use Rattle.rb_desk.proofs.pictures.StandLaws.{found_good}

-- ---- answers

-- what an answered call did holds, and a refused one left the picture as it was
abbrev DidOr : {A : Type 0} → Picture → (A → Picture → Type 0) → Result A DeskRefusal → Picture → Type 0
DidOr old Did (Ok answer) new = Did answer new
DidOr old Did (Err why) new = new ≡ old

abbrev pub OutlinesTells : {A : Type 0} → Picture → (A → Picture → Type 0) → Result A DeskRefusal × Picture → Type 0
OutlinesTells old Did x = DidOr old Did x.0 x.1

-- so both laws follow
pub outlines_told : {A : Type 0} (old new : Picture) (Did : A → Picture → Type 0) (x : Result A DeskRefusal × Picture)
    (answer : A) → OutlinesTells old Did x → x ≡ (Ok answer, new) → Did answer new
outlines_told old new Did x answer h is = subst (OutlinesTells old Did) is h

pub left_alone : {A : Type 0} (old new : Picture) (Did : A → Picture → Type 0) (x : Result A DeskRefusal × Picture)
    (why : DeskRefusal) → OutlinesTells old Did x → x ≡ (Err why, new) → new ≡ old
left_alone old new Did x why h is = subst (OutlinesTells old Did) is h

-- ---- members

-- a subscription that was found is a member
pub found_member : (subs : List Subscription) (s : ℕ) (q : Subscription) → slice_get subs s ≡ Some q
    → slice_get (map member_of subs) s ≡ Some (member_of q)
found_member subs s q here = slice_get-map member_of subs s ∙ ap (option_map member_of) here

-- the members stay where a subscription becomes another that is the same member, and where all do
pub same_members : (subs : List Subscription) (s : ℕ) (q r : Subscription) → slice_get subs s ≡ Some q → member_of r
    ≡ member_of q → map member_of (slice_set subs s r) ≡ map member_of subs
same_members [] s q r here same = refl
same_members (z ∷ subs) zero q r here same = let e : q ≡ z =
    cc in ap (λ m. m ∷ map member_of subs) (same ∙ ap member_of e)
same_members (z ∷ subs) (suc s) q r here same = ap (λ ms. member_of z ∷ ms) (same_members subs s q r here same)

pub each_member : (f : Subscription → Subscription) (subs : List Subscription)
    → ((q : Subscription) → member_of (f q) ≡ member_of q) → map member_of (map f subs) ≡ map member_of subs
each_member f [] same = refl
each_member f (q ∷ subs) same = (λ i. same q i ∷ each_member f subs same i)

-- where it becomes another member, that one stands in its place
pub set_member : (subs : List Subscription) (s : ℕ) (r : Subscription) → map member_of (slice_set subs s r)
    ≡ slice_set (map member_of subs) s (member_of r)
set_member [] s r = refl
set_member (z ∷ subs) zero r = refl
set_member (z ∷ subs) (suc s) r = ap (λ ms. member_of z ∷ ms) (set_member subs s r)

-- an outline with these members
abbrev pub with_members : Outline → List Member → Outline
with_members old members = record old { members = members }

-- ---- a span is handed over

-- a subscription that has a span isn't closed
pub found_open : (p : Picture) (s : ℕ) (q : Subscription) (span : Span) (test : Span → Bool) → IsPicture p
    → slice_get p.subscriptions s ≡ Some q → find test q.spans ≡ Some span → q.closed ≡ false
found_open p s q span test good here found = by q.closed refl
  where
    by : (b : Bool) → q.closed ≡ b → b ≡ false
    by true is = absurd (let none : None ≡ Some span = ap (find test) (sym ((found_good p s q here good).has_none is))
        ∙ found in cc)
    by false is = refl

-- what was found among the spans of a subscription that isn't closed is a delivery of placed numbers behind its start
pub handed_shows : (p : Picture) (s : ℕ) (q : Subscription) (span : Span) (clock : ℕ) (test : Span → Bool) → IsPicture p
    → slice_get p.subscriptions s ≡ Some q → q.closed ≡ false → find test q.spans ≡ Some span
    → outline.Delivers (outline_of p) (outline_of (delivered_picture p s q span clock)) (delivery_from p s q span)
handed_shows p s q span clock test good here runs found =
    let mine = found_good p s q here good in
    let rise = mine.rise runs in
    let begins = all_spans_found (λ x. suc q.floor ≤ x.first) test q.spans span
    (rise_begins (suc q.floor) p.front q.spans rise) found in
    let ends = all_spans_found (λ x. (x.first ≤ x.last) × (x.last ≤ p.front)) test q.spans span
    (rise_ends (suc q.floor) p.front q.spans rise) found in
    record {
      member = member_of q;
      found = found_member p.subscriptions s q here;
      linked = refl;
      not_closed = runs;
      given = refl;
      behind = omega (arith, begins, mine.begins);
      order = ends.0;
      placed = ends.1;
      kept = ap (with_members (outline_of (delivered_picture p s q span clock)))
          (same_members p.subscriptions s q _ here refl);
    }
