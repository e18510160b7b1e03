-- Incomplete changes, with the bytes so far and with more appended.
use Rattle.std.proofs.Common.{◌≡◌, ℕ, ◌+◌, ◌-◌, ◌<◌, List, ◌++◌, length, drop, map, Some, Err, sym, ap, ◌∙◌}
use Rattle.std.proofs.lemmas.List.{append-nil, drop-append-le}
use Rattle.cs_model.specs.Bytes.{AreBytes}
use Rattle.cs_model.specs.declared.change.Op.{Op}
use Rattle.cs_model.specs.declared.change.Op.TheVariants.{Update}
use Rattle.cs_model.specs.Rule.{Rule, row_rule, old_rule, new_rules}
use Rattle.cs_parse.specs.declared.stop.ParseRefusal.TheVariants.{Short}
use Rattle.cs_parse.specs.declared.spot.Spot.TheVariants.{Start, Row, Old, New}
use Rattle.cs_parse.specs.Lack.{StaysIn}
use Rattle.cs_parse.specs.Reading.{record_at, change_at}
use Rattle.cs_parse.specs.Spot.{IsBack, HaltsNew, PassedFirst, SpotInNew, HasOne, StaysShort}
use Rattle.cs_parse.proofs.feeding.SpotLaws.{passed_short, records_short, row_records, old_records, new_short}
use Rattle.cs_parse.proofs.feeding.SpotLaws.{first_more, new_longer, longer_before, new_reached, back_of_drop}

pub start_stays : (flags bytes : List ℕ) → change_at flags bytes ≡ Err Short → StaysShort flags bytes (Some Start)
start_stays flags bytes e =
    (e, tt, λ more none. ap (λ w. change_at flags (bytes ++ w)) none ∙ ap (change_at flags) (append-nil bytes) ∙ e)

-- ---- first records

-- what is said of the first record's next field is said of the record
first_short : (op : Op) (rule : ℕ → Rule) (flags bytes : List ℕ) (fields place : ℕ) → fields < length flags
    → (p : PassedFirst op rule flags bytes fields place) → record_at (map rule flags) p.reached.records ≡ Err Short
first_short op rule flags bytes fields place less p =
    passed_short (map rule flags) (map rule (drop fields flags)) p.reached.records (drop place bytes) p.reached.passes
    (p.short less)

first_later : (op : Op) (rule : ℕ → Rule) (flags bytes more : List ℕ) (fields place : ℕ) → fields < length flags
    → PassedFirst op rule flags bytes fields place → StaysIn (drop place bytes) more
    → PassedFirst op rule flags (bytes ++ more) fields place
first_later op rule flags bytes more fields place less p stays = record {
  reached = first_more op rule flags bytes fields place more p.reached;
  short = λ _. ap (record_at (map rule (drop fields flags))) (drop-append-le place bytes more p.reached.within)
      ∙ stays (map rule (drop fields flags)) (p.short less);
}

row_change : (op : Op) (flags bytes : List ℕ) (fields place : ℕ) → HasOne op → fields < length flags
    → PassedFirst op row_rule flags bytes fields place → change_at flags bytes ≡ Err Short
row_change op flags bytes fields place one less p =
    records_short op flags bytes p.reached.records p.reached.begins
    (row_records op flags p.reached.records one (first_short op row_rule flags bytes fields place less p))

pub row_short : (op : Op) (flags bytes : List ℕ) (fields place : ℕ) → HasOne op → fields < length flags
    → PassedFirst op row_rule flags bytes fields place → StaysShort flags bytes (Some (Row fields place))
row_short op flags bytes fields place one less p = (
  row_change op flags bytes fields place one less p,
  (op, one, p.reached),
  λ more stays. row_change op flags (bytes ++ more) fields place one less
      (first_later op row_rule flags bytes more fields place less p stays),
)

old_change : (flags bytes : List ℕ) (fields place : ℕ) → fields < length flags
    → PassedFirst Update old_rule flags bytes fields place → change_at flags bytes ≡ Err Short
old_change flags bytes fields place less p =
    records_short Update flags bytes p.reached.records p.reached.begins
    (old_records flags p.reached.records (first_short Update old_rule flags bytes fields place less p))

pub old_short : (flags bytes : List ℕ) (fields place : ℕ) → fields < length flags
    → PassedFirst Update old_rule flags bytes fields place → StaysShort flags bytes (Some (Old fields place))
old_short flags bytes fields place less p = (
  old_change flags bytes fields place less p,
  p.reached,
  λ more stays. old_change flags (bytes ++ more) fields place less
      (first_later Update old_rule flags bytes more fields place less p stays),
)

-- ---- new records

new_change : (flags bytes : List ℕ) (fields place old : ℕ) (new : SpotInNew flags bytes fields place old)
    → record_at (new_rules (drop fields flags) (drop fields new.before)) (drop place bytes) ≡ Err Short
    → change_at flags bytes ≡ Err Short
new_change flags bytes fields place old new e =
    let short = passed_short (new_rules flags new.before) (new_rules (drop fields flags) (drop fields new.before))
    new.left (drop place bytes) new.passes e in
    records_short Update flags bytes new.records new.begins
    (new_short flags new.records new.before new.left new.old_read short)

new_stays : (flags bytes : List ℕ) (fields place old : ℕ) → AreBytes bytes
    → (new : SpotInNew flags bytes fields place old)
    → record_at (new_rules (drop fields flags) (drop fields new.before)) (drop place bytes) ≡ Err Short
    → StaysShort flags bytes (Some (New fields place old))
new_stays flags bytes fields place old fits new e =
    let rules = new_rules (drop fields flags) (drop fields new.before) in (
      new_change flags bytes fields place old new e,
      new,
      λ more stays. (
          let same = longer_before flags bytes fields place old more fits new in
          new_change flags (bytes ++ more) fields place old (new_longer flags bytes fields place old more fits new)
          (ap (λ w. record_at (new_rules (drop fields flags) (drop fields w)) (drop place (bytes ++ more))) same
          ∙ ap (record_at rules) (drop-append-le place bytes more new.within) ∙ stays rules e)),
    )

pub new_passed : (flags bytes : List ℕ) (fields place old : ℕ) (old_front : List ℕ) (count : ℕ) (old_rest rest : List ℕ)
    → AreBytes bytes → old_front ≡ drop old bytes → IsBack old_front old_rest
    → (new : SpotInNew flags bytes fields place old)
    → HaltsNew (drop fields flags) (drop fields new.before) new.left (drop place bytes) count old_rest rest
    → StaysShort flags bytes
    (Some (New (fields + count) (length bytes - length rest) (length bytes - length old_rest)))
new_passed flags bytes fields place old old_front count old_rest rest fits old_is old_back new halts =
    let r = new_reached flags bytes fields place old count old_rest rest new
    (back_of_drop bytes old old_back.0 old_rest (sym old_is ∙ old_back.1)) halts in
    new_stays flags bytes (fields + count) (length bytes - length rest) (length bytes - length old_rest) fits r.0 r.1
