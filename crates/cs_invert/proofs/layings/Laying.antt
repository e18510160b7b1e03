-- Writing a text part by part: what is left of it is still to be written.
use Rattle.std.proofs.Common.{◌≡◌, ◌∙◌, ℕ, ◌+◌, ◌≤◌, List, [], ◌++◌, length, take, drop, refl, sym, ap, arith}
use Rattle.std.proofs.Math.ListN.{drop_of_length-le}
use Rattle.std.proofs.lemmas.List.{append-nil, length-append, length-drop, length-take-le, take-append-drop, take_at}
use Rattle.cs_write.proofs.buffers.Laying.{laid_first, two}
use Rattle.cs_write.specs.Buffer.{laid}

-- With what is left, written at `at`, the buffer is the first one with the whole text.
pub record LaysOn (at : ℕ) (left out : List ℕ) (start : ℕ) (whole first : List ℕ) : Type 0 where
  pub end : at + length left ≡ start + length whole
  pub room : at + length left ≤ length out
  pub bytes : laid at left out ≡ laid start whole first

laid_length : (at : ℕ) (text out : List ℕ) → at + length text ≤ length out → length (laid at text out) ≡ length out
unfolding laid
laid_length at text out room =
    let behind = drop (at + length text) out in
    let front : length (take at out) ≡ at = length-take-le at out (omega (arith, room)) in
    omega (
      arith,
      room,
      front,
      length-append (take at out) (text ++ behind),
      length-append text behind,
      length-drop (at + length text) out,
    )

laid_none : (at : ℕ) (out : List ℕ) → laid at [] out ≡ out
unfolding laid
laid_none at out = ap (λ k. take at out ++ drop k out) (omega arith) ∙ take-append-drop at out

pub lays_first : (start : ℕ) (whole first : List ℕ) → start + length whole ≤ length first
    → LaysOn start whole first start whole first
lays_first start whole first room = record { end = refl; room = room; bytes = refl }

-- there is room for the next part
pub part_fits : {at start : ℕ} {left out whole first : List ℕ} → (a b : List ℕ) → left ≡ a ++ b
    → LaysOn at left out start whole first → at + length a ≤ length out
part_fits a b is so = omega (arith, so.room, ap length is ∙ length-append a b)

pub lays_on : {at start : ℕ} {left out whole first : List ℕ} → (a b : List ℕ) (next : ℕ) (between : List ℕ)
    → left ≡ a ++ b → next ≡ at + length a → between ≡ laid at a out → LaysOn at left out start whole first
    → LaysOn next b between start whole first
lays_on {at} {start} {left} {out} {whole} {first} a b next between is is_next is_between so =
    let long : length left ≡ length a + length b = ap length is ∙ length-append a b in
    let room : at + length a ≤ length out = part_fits a b is so in
    let same : length between ≡ length out = ap length is_between ∙ laid_length at a out room in
    record {
      end = omega (arith, so.end, is_next, long);
      room = omega (arith, so.room, is_next, long, same);
      bytes = two at next a b out between (laid next b between) room is_next is_between refl
          ∙ ap (λ (text : List ℕ). laid at text out) (sym is) ∙ so.bytes;
    }

pub lays_done : {at start : ℕ} {left out whole first : List ℕ} → left ≡ [] → LaysOn at left out start whole first
    → (at ≡ start + length whole) × (out ≡ laid start whole first)
lays_done {at} {start} {left} {out} none so = (
  omega (arith, so.end, ap length none),
  sym (laid_none at out) ∙ ap (λ (text : List ℕ). laid at text out) (sym none) ∙ so.bytes,
)

-- a text that takes the whole buffer, as items of a vector that has the buffer's length
pub laid_whole : (n : ℕ) (text out new items : List ℕ) → new ≡ laid 0 text out → length out ≡ length text
    → n ≡ length text → take n (new ++ drop (length new) items) ≡ text
laid_whole n text out new items is long is_n =
    let whole : new ≡ text = is ∙ laid_first text out ∙ ap (λ (r : List ℕ). text ++ r)
    (drop_of_length-le out (omega (arith, long))) ∙ append-nil text in
    ap (λ (front : List ℕ). take n (front ++ drop (length new) items)) whole
    ∙ take_at text (drop (length new) items) n (sym is_n)
