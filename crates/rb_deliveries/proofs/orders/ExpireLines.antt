-- Entries of which some go back with ranks that rise: they stand at the end of the line, in the order in which they
-- were out.
use Rattle.std.proofs.Common.{◌≡◌, ℕ, suc, Bool, true, false, not, cond, List, [], ◌∷◌, ◌++◌, length, map, filter}
use Rattle.std.proofs.Common.{nat_lt, refl, sym, ap, ◌∙◌, arith}
use Rattle.std.specs.List.{AllByRecursion}
use Rattle.std.proofs.lemmas.List.{map-append}
use Rattle.std.proofs.lemmas.List.Elements.{filter-append}
use Rattle.rb_deliveries.specs.Expiry.{turns_from}
use Rattle.rb_deliveries.specs.declared.rank.Rank.{Rank}
use Rattle.rb_deliveries.specs.Queues.{earlier}
use Rattle.rb_deliveries.specs.Orders.{placed_in, in_line}
use Rattle.rb_deliveries.proofs.orders.OrderLaws.{OrderEntries, seen_filter}
use Rattle.rb_deliveries.proofs.orders.Line.{placed_first, placed_behind, all_both, all_passing, all_line, line_filter}
use Rattle.rb_deliveries.proofs.orders.Line.{earlier_asymmetric}

-- ---- lines

all_always : {A : Type 0} (P : A → Type 0) (xs : List A) → ((x : A) → P x) → AllByRecursion P xs
all_always P [] each = tt
all_always P (x ∷ xs) each = (each x, all_always P xs each)

-- of two ranks that one is earlier than t, and the other isn't, the first is earlier
pub parted : (a b t : Rank) → earlier a t ≡ true → earlier b t ≡ false → earlier a b ≡ true
parted a b t h k = grind arith

not_true : (b : Bool) → not b ≡ true → b ≡ false
not_true true is = sym is
not_true false is = refl

-- a line is the line of those that are earlier than a rank, and that of the others
line_parts : (t : Rank) (xs : OrderEntries) → in_line xs ≡ in_line (filter (λ e. earlier e.0 t) xs)
    ++ in_line (filter (λ e. not (earlier e.0 t)) xs)
line_parts t [] = refl
line_parts t (e ∷ xs) = ap (placed_in e) (line_parts t xs) ∙ by (earlier e.0 t) refl
  where
    firsts : OrderEntries
    firsts = filter (λ e. earlier e.0 t) xs

    lasts : OrderEntries
    lasts = filter (λ e. not (earlier e.0 t)) xs

    by : (b : Bool) → earlier e.0 t ≡ b → placed_in e (in_line firsts ++ in_line lasts)
        ≡ in_line (cond b (e ∷ firsts) firsts) ++ in_line (cond (not b) (e ∷ lasts) lasts)
    by true is = placed_first e (in_line firsts) (in_line lasts)
        (all_line (λ f. earlier f.0 e.0 ≡ false) lasts
        (all_passing (λ f. earlier f.0 e.0 ≡ false) (λ e. not (earlier e.0 t)) xs
        (all_always (λ f. not (earlier f.0 t) ≡ true → earlier f.0 e.0 ≡ false) xs
        (λ f late. earlier_asymmetric e.0 f.0 (parted e.0 f.0 t is (not_true (earlier f.0 t) late))))))
    by false is = placed_behind e (in_line firsts) (in_line lasts)
        (all_line (λ f. earlier f.0 e.0 ≡ true) firsts
        (all_passing (λ f. earlier f.0 e.0 ≡ true) (λ e. earlier e.0 t) xs
        (all_always (λ f. earlier f.0 t ≡ true → earlier f.0 e.0 ≡ true) xs (λ f early. parted f.0 e.0 t early is))))

-- ---- ranks by number

-- ranks that rise with those numbers of which D holds, all of them later than those that were drawn
pub record Rising (front turn : ℕ) (D : ℕ → Type 0) (tk : ℕ → Rank) : Type 0 where
  pub rises : (a b : ℕ) → D a → D b → earlier (tk a) (tk b) ≡ nat_lt a b
  pub is_later : (n : ℕ) → D n → earlier (record { front = front; turn = turn }) (tk n) ≡ true

pub turns_rise : (front turn : ℕ) (D : ℕ → Type 0) → Rising front turn D (turns_from front turn)
turns_rise front turn D = record { rises = λ a b _ _. same_turns a b; is_later = λ n _. all_later n }
  where
    same_turns : (a b : ℕ) → earlier (turns_from front turn a) (turns_from front turn b) ≡ nat_lt a b
    same_turns a b = grind arith

    all_later : (n : ℕ) → earlier (record { front = front; turn = turn }) (turns_from front turn n) ≡ true
    all_later n = grind arith

-- an entry of the in-flight order with the rank that it goes back with
abbrev pub retagged : (ℕ → Rank) → Rank × (ℕ × ℕ) → Rank × (ℕ × ℕ)
retagged tk e = (tk e.0.front, e.1)

-- entries that are in no turn stand in the same line with ranks that rise
abbrev pub IsPlain : (ℕ → Type 0) → Rank × (ℕ × ℕ) → Type 0
IsPlain D e = (e.0.turn ≡ 0) × D e.0.front

same_rise : (a b : Rank) → a.turn ≡ 0 → b.turn ≡ 0 → nat_lt a.front b.front ≡ earlier a b
same_rise a b h k = grind arith

placed_retagged : (front turn : ℕ) (D : ℕ → Type 0) (tk : ℕ → Rank) → Rising front turn D tk
    → (e : Rank × (ℕ × ℕ)) (xs : OrderEntries) → IsPlain D e → AllByRecursion (IsPlain D) xs
    → placed_in (retagged tk e) (map (retagged tk) xs) ≡ map (retagged tk) (placed_in e xs)
placed_retagged front turn D tk r e [] p h = refl
placed_retagged front turn D tk r e (f ∷ xs) p h =
    ap (λ t. cond t (retagged tk f ∷ placed_in (retagged tk e) (map (retagged tk) xs))
    (retagged tk e ∷ retagged tk f ∷ map (retagged tk) xs))
    (r.rises f.0.front e.0.front h.0.1 p.1 ∙ same_rise f.0 e.0 h.0.0 p.0)
    ∙ by (earlier f.0 e.0) (placed_retagged front turn D tk r e xs p h.1)
  where
    by : (b : Bool) → placed_in (retagged tk e) (map (retagged tk) xs) ≡ map (retagged tk) (placed_in e xs)
        → cond b (retagged tk f ∷ placed_in (retagged tk e) (map (retagged tk) xs))
        (retagged tk e ∷ retagged tk f ∷ map (retagged tk) xs)
        ≡ map (retagged tk) (cond b (f ∷ placed_in e xs) (e ∷ f ∷ xs))
    by true rest = ap (λ (l : OrderEntries). retagged tk f ∷ l) rest
    by false rest = refl

line_retagged : (front turn : ℕ) (D : ℕ → Type 0) (tk : ℕ → Rank) → Rising front turn D tk → (xs : OrderEntries)
    → AllByRecursion (IsPlain D) xs → in_line (map (retagged tk) xs) ≡ map (retagged tk) (in_line xs)
line_retagged front turn D tk r [] h = refl
line_retagged front turn D tk r (e ∷ xs) h = ap (placed_in (retagged tk e)) (line_retagged front turn D tk r xs h.1)
    ∙ placed_retagged front turn D tk r e (in_line xs) h.0 (all_line (IsPlain D) xs h.1)

-- ---- entries in two parts

-- the entries that are earlier than a rank are those that were ready; the others are those of what was due
pub record ExpireOrderParts (D : ℕ → Type 0) (due : ℕ × ℕ → Bool) (t : Rank) (tk : ℕ → Rank)
    (new ready out : OrderEntries) : Type 0 where
  pub early : filter (λ e. earlier e.0 t) new ≡ ready
  pub late : filter (λ e. not (earlier e.0 t)) new ≡ map (retagged tk) (filter (λ e. due e.1) out)
  pub plain : AllByRecursion (λ e. due e.1 ≡ true → IsPlain D e) out

-- two lists of entries in a row
pub parts_both : (D : ℕ → Type 0) (due : ℕ × ℕ → Bool) (t : Rank) (tk : ℕ → Rank)
    (new new' ready ready' out out' : OrderEntries) → ExpireOrderParts D due t tk new ready out
    → ExpireOrderParts D due t tk new' ready' out'
    → ExpireOrderParts D due t tk (new ++ new') (ready ++ ready') (out ++ out')
parts_both D due t tk new new' ready ready' out out' p q = record {
  early = filter-append (λ e. earlier e.0 t) new new' ∙ (λ i. p.early i ++ q.early i);
  late = filter-append (λ e. not (earlier e.0 t)) new new' ∙ (λ i. p.late i ++ q.late i)
      ∙ sym (ap (map (retagged tk)) (filter-append (λ e. due e.1) out out')
      ∙ map-append (retagged tk) (filter (λ e. due e.1) out) (filter (λ e. due e.1) out'));
  plain = all_both (λ e. due e.1 ≡ true → IsPlain D e) out out' p.plain q.plain;
}

-- the second parts of entries
names_retagged : (tk : ℕ → Rank) (es : OrderEntries) → map (λ e. e.1) (map (retagged tk) es) ≡ map (λ e. e.1) es
names_retagged tk [] = refl
names_retagged tk (e ∷ es) = ap (λ (l : List (ℕ × ℕ)). e.1 ∷ l) (names_retagged tk es)

-- entries of which the earlier ones were ready and the others are what was due stand so
pub ordered_parts : (front turn : ℕ) (D : ℕ → Type 0) (due : ℕ × ℕ → Bool) (t : Rank) (tk : ℕ → Rank)
    (new ready out : OrderEntries) → Rising front turn D tk → ExpireOrderParts D due t tk new ready out
    → map (λ e. e.1) (in_line new) ≡ map (λ e. e.1) (in_line ready) ++ filter due (map (λ e. e.1) (in_line out))
ordered_parts front turn D due t tk new ready out r p =
    ap (map (λ e. e.1)) (line_parts t new ∙ (λ i. in_line (p.early i) ++ in_line (p.late i))
    ∙ ap (λ l. in_line ready ++ l)
    (line_retagged front turn D tk r (filter (λ e. due e.1) out)
    (all_passing (IsPlain D) (λ e. due e.1) out p.plain)))
    ∙ map-append (λ e. e.1) (in_line ready) (map (retagged tk) (in_line (filter (λ e. due e.1) out)))
    ∙ ap (λ (l : List (ℕ × ℕ)). map (λ e. e.1) (in_line ready) ++ l)
    (names_retagged tk (in_line (filter (λ e. due e.1) out))
    ∙ ap (map (λ e. e.1)) (sym (line_filter (λ e. due e.1) out)) ∙ seen_filter due (in_line out))

-- ---- how long a line is

length_placed : (e : Rank × (ℕ × ℕ)) (xs : OrderEntries) → length (placed_in e xs) ≡ suc (length xs)
length_placed e [] = refl
length_placed e (f ∷ xs) = by (earlier f.0 e.0) (length_placed e xs)
  where
    by : (b : Bool) → length (placed_in e xs) ≡ suc (length xs) → length (cond b (f ∷ placed_in e xs) (e ∷ f ∷ xs))
        ≡ suc (suc (length xs))
    by true rest = ap suc rest
    by false rest = refl

pub length_line : (xs : OrderEntries) → length (in_line xs) ≡ length xs
length_line [] = refl
length_line (e ∷ xs) = length_placed e (in_line xs) ∙ ap suc (length_line xs)
