-- The token of an accepted or placed number is there, and is of its cell; a part of what is placed, entry by entry.
use Rattle.std.proofs.Common.{◌≡◌, ℕ, zero, suc, ◌+◌, ◌-◌, ◌<◌, ◌≤◌, List, [], ◌∷◌, length, Option, Some, None, cond, refl}
use Rattle.std.proofs.Common.{sym, ap, ◌∙◌, subst, arith, drop, slice_get, take}
use Rattle.std.proofs.lemmas.Bool.{lt-ltb}
use Rattle.rb_sequence.specs.Cells.{AreInCells, Cells, CellToken, IsTokenOf}
use Rattle.rb_sequencer.specs.Turns.{token_of}
use Rattle.rb_subscriber.specs.Accept.{part}
use Rattle.rb_subscriber.specs.Shown.{entries_told}
use Rattle.rb_subscriber.specs.Subscription.{SubscriptionState, accepted_token, cursor_of}
use Rattle.rb_close.specs.Meeting.{ShareEntry, token_accepted}

-- a token of this number, of a cell of this sequence
pub record IsAccepted (cells : Cells) (s : SubscriptionState) (n : ℕ) : Type 0 where
  pub token : CellToken
  pub there : accepted_token s.start s.told n ≡ Some token
  pub of : IsTokenOf cells token
  pub number : token.number ≡ n

record HasTokenAt (cells : Cells) (tokens : List CellToken) (i n : ℕ) : Type 0 where
  token : CellToken
  there : slice_get tokens i ≡ Some token
  of : IsTokenOf cells token
  number : token.number ≡ n

token_in_place : (cells : Cells) (from i n : ℕ) (tokens : List CellToken) → AreInCells cells from tokens → i < length tokens
    → n ≡ from + i → HasTokenAt cells tokens i n
token_in_place cells from i n [] all less is = absurd (omega (arith, less))
token_in_place cells from zero n (t ∷ tokens) all less is =
    record { token = t; there = refl; of = all.0; number = all.1 ∙ omega (arith, is) }
token_in_place cells from (suc i) n (t ∷ tokens) all less is =
    let later = token_in_place cells (suc from) i n tokens all.2 (omega (arith, less)) (omega (arith, is)) in
    record { token = later.token; there = later.there; of = later.of; number = later.number }

pub is_accepted : (cells : Cells) (s : SubscriptionState) (n : ℕ) → AreInCells cells (suc s.start) s.told
    → s.start < n → n ≤ cursor_of s → IsAccepted cells s n
is_accepted cells s n all after last =
    let at = token_in_place cells (suc s.start) (n - suc s.start) n s.told all (omega (arith, after, last))
    (omega (arith, after)) in
    record {
      token = at.token;
      there = ap (λ b. cond b (slice_get s.told (n - suc s.start)) None) (lt-ltb s.start n after) ∙ at.there;
      of = at.of;
      number = at.number;
    }

-- the same of a number that is placed
pub record PlacedToken (cells : Cells) (placed : List CellToken) (n : ℕ) : Type 0 where
  pub token : CellToken
  pub there : token_of placed n ≡ Some token
  pub of : IsTokenOf cells token
  pub number : token.number ≡ n

pub placed_token : (cells : Cells) (placed : List CellToken) (n : ℕ) → AreInCells cells 1 placed → 0 < n
    → n ≤ length placed → PlacedToken cells placed n
placed_token cells placed zero all more last = absurd (omega (arith, more))
placed_token cells placed (suc place) all more last =
    let at = token_in_place cells 1 place (suc place) placed all (omega (arith, last)) (omega arith) in
    record { token = at.token; there = at.there; of = at.of; number = at.number }

-- what is found is that token
pub same_token : (found : Option CellToken) (t u : CellToken) → Some t ≡ found → found ≡ Some u → t ≡ u
same_token found t u is there =
    let both : Some t ≡ Some u = is ∙ there in cc

-- ---- a part, entry by entry

first_left : (xs : List CellToken) (i : ℕ) (x : CellToken) → slice_get xs i ≡ Some x
    → drop i (entries_told xs) ≡ x.entry ∷ drop (suc i) (entries_told xs)
first_left [] i x there = absurd (let no : None ≡ Some x = there in cc)
first_left (y ∷ xs) zero x there = let same : y ≡ x = cc in ap (λ (t : CellToken). t.entry ∷ entries_told xs) same
first_left (y ∷ xs) (suc i) x there = first_left xs i x there

-- where each token shows what the placed one of its place shows, they show that part
shows_part : (placed told : List CellToken) (start : ℕ)
    → ((i : ℕ) → i < length told → ShareEntry (slice_get placed (start + i)) (slice_get told i))
    → entries_told told ≡ take (length told) (drop start (entries_told placed))
shows_part placed [] start each = refl
shows_part placed (t ∷ told) start each =
    let first = each 0 (omega arith) in
    let mine : t ≡ first.twin = let both : Some t ≡ Some first.twin = first.there in cc in
    let found : slice_get placed start ≡ Some first.token = subst (λ k. slice_get placed k ≡ Some first.token) (omega arith) first.here in
    let rest = shows_part placed told (suc start) (λ i less. subst
    (λ k. ShareEntry (slice_get placed k) (slice_get told i)) (omega arith) (each (suc i) (omega (arith, less)))) in
    (λ i. (ap (λ (x : CellToken). x.entry) mine ∙ sym first.same) i ∷ rest i)
    ∙ ap (take (suc (length told))) (sym (first_left placed start first.token found))

-- the same of a subscription
pub accepts_part : (placed : List CellToken) (s : SubscriptionState)
    → ((n : ℕ) → s.start < n → n ≤ cursor_of s → ShareEntry (token_of placed n) (token_accepted s n))
    → entries_told s.told ≡ part (entries_told placed) s.start (cursor_of s - s.start)
accepts_part placed s each =
    shows_part placed s.told s.start (λ i less. at i less (each (suc (s.start + i)) (omega arith) (omega (arith, less))))
    ∙ ap (λ k. take k (drop s.start (entries_told placed))) (omega arith)
  where
    at : (i : ℕ) → i < length s.told → ShareEntry (token_of placed (suc (s.start + i))) (token_accepted s (suc (s.start + i)))
        → ShareEntry (slice_get placed (s.start + i)) (slice_get s.told i)
    at i less both = record {
      token = both.token;
      twin = both.twin;
      here = both.here;
      there = ap (slice_get s.told) (omega arith)
          ∙ sym (ap (λ b. cond b (slice_get s.told (suc (s.start + i) - suc s.start)) None) (lt-ltb s.start (suc (s.start + i)) (omega arith)))
          ∙ both.there;
      same = both.same;
    }
