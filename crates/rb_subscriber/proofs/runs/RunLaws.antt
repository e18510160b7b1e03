-- What is accepted is one contiguous run, and its group leaves what its bodies leave.
use Rattle.std.proofs.Common.{◌≡◌, ◌↔◌, ℕ, suc, ◌+◌, ◌-◌, ◌≤◌, List, [], ◌∷◌, ◌++◌, length, take, drop, Ok}
use Rattle.std.proofs.Common.{refl, sym, ap, subst, ◌∙◌, arith}
use Rattle.std.proofs.Math.Seq.{take-add}
use Rattle.std.proofs.lemmas.List.{drop-drop, take-append-le, drop-append-le, length-drop}
use Rattle.cs_model.proofs.CallerLemmas.{all_append}
use Rattle.cs_model.specs.Changeset.{IsChangeset, IsSection}
use Rattle.cs_model.specs.Section.{Section}
use Rattle.cs_apply.specs.Columns.{HaveColumns}
use Rattle.cs_apply.specs.OneByOne.{AppliesBoth}
use Rattle.cs_apply.specs.Single.{single, single_from}
use Rattle.cs_apply.specs.State as tables
use Rattle.cs_group.specs.Group.{group_of}
use Rattle.rb_desk.specs.declared.delivery.Delivery.{Delivery}
use Rattle.rb_sequence.specs.Entry.{Entry}
use Rattle.rb_subscriber.specs.Accept.{part, brought, joined_bodies, accept, accept_brought, accepted_entries, AppliesSingly}
use Rattle.rb_subscriber.specs.Accept.{AreChangesets}
use Rattle.rb_subscriber.specs.Endpoint.{Endpoint}
use Rattle.rb_subscriber.proofs.accepting.AcceptLaws.{accepted_steps}

-- ---- parts of a list

-- one part behind another
pub parts : {A : Type 0} (xs : List A) (after mid last : ℕ) → after ≤ mid → mid ≤ last → part xs after (last - after)
    ≡ part xs after (mid - after) ++ part xs mid (last - mid)
parts xs after mid last a b =
    let both : last - after ≡ (mid - after) + (last - mid) = omega (arith, a, b) in
    let there : after + (mid - after) ≡ mid = omega (arith, a) in
    ap (part xs after) both
    ∙ take-add (mid - after) (last - mid) (drop after xs)
    ∙ ap (λ ys. part xs after (mid - after) ++ take (last - mid) ys)
    (drop-drop (mid - after) after xs ∙ ap (λ n. drop n xs) there)

-- more behind it changes nothing
pub part_stays : {A : Type 0} (xs more : List A) (after n : ℕ) → after + n ≤ length xs → part (xs ++ more) after n
    ≡ part xs after n
part_stays xs more after n fits =
    let few : n ≤ length (drop after xs) = omega (arith, fits, length-drop after xs) in
    ap (take n) (drop-append-le after xs more (omega (arith, fits))) ∙ take-append-le n (drop after xs) more few

-- ---- what was accepted

-- what a delivery brings right after a number
pub brought_after : (sequence : List Entry) (delivery : Delivery) (cursor : ℕ) → delivery.first ≡ suc cursor
    → brought sequence delivery ≡ part sequence cursor (delivery.last - cursor)
brought_after sequence delivery cursor next =
    let from : delivery.first - 1 ≡ cursor = omega (arith, next) in
    let many : suc delivery.last - delivery.first ≡ delivery.last - cursor = omega (arith, next) in
    ap (λ n. part sequence n (suc delivery.last - delivery.first)) from ∙ ap (part sequence cursor) many

pub run_goes_on : (old : Endpoint) (sequence : List Entry) (delivery : Delivery) (new : Endpoint) → old.start
    ≤ old.cursor → accept old sequence delivery ≡ Ok new
    → accepted_entries sequence new ≡ accepted_entries sequence old ++ brought sequence delivery
run_goes_on old sequence delivery new begun e =
    let a = accepted_steps old (brought sequence delivery) delivery new e in
    ap (accepted_entries sequence) a.kept
    ∙ parts sequence old.start old.cursor delivery.last begun (omega (arith, a.some))
    ∙ ap (λ es. accepted_entries sequence old ++ es) (sym (brought_after sequence delivery old.cursor a.next))

pub run_stays : (endpoint : Endpoint) (sequence more : List Entry) → endpoint.start ≤ endpoint.cursor → endpoint.cursor
    ≤ length sequence → accepted_entries (sequence ++ more) endpoint ≡ accepted_entries sequence endpoint
run_stays endpoint sequence more begun placed =
    part_stays sequence more endpoint.start (endpoint.cursor - endpoint.start) (omega (arith, begun, placed))

-- ---- the tables

-- of sections in two parts, as the law of applying says it
abbrev pub RunContinues : Type 0
RunContinues = (old : tables.TableState) (some more : List Section) (new : tables.TableState)
    → (single old (some ++ more) ≡ Ok new) ↔ AppliesBoth old some more new

pub nothing_applies : (old : tables.TableState) → single old [] ≡ Ok old
unfolding single_from
nothing_applies old = refl

pub singly : RunContinues → (old : tables.TableState) (entries : List Entry) (new : tables.TableState)
    → single old (joined_bodies entries) ≡ Ok new → AppliesSingly old entries new
singly goes old [] new e = cc (sym e ∙ nothing_applies old)
singly goes old (entry ∷ entries) new e =
    let both = (goes old entry.item.body (joined_bodies entries) new).0 e in
    (both.0, both.1, singly goes both.0 entries new both.2)

-- and the other way round
singly_joined : RunContinues → (old : tables.TableState) (entries : List Entry) (new : tables.TableState)
    → AppliesSingly old entries new → single old (joined_bodies entries) ≡ Ok new
singly_joined goes old [] new e = nothing_applies old ∙ ap (λ t. Ok t) (sym e)
singly_joined goes old (entry ∷ entries) new e =
    (goes old entry.item.body (joined_bodies entries) new).1 (e.0, e.1, singly_joined goes e.0 entries new e.2)

pub joined_valid : (entries : List Entry) → AreChangesets entries → IsChangeset (joined_bodies entries)
joined_valid [] valid = tt
joined_valid (entry ∷ entries) valid =
    all_append IsSection entry.item.body (joined_bodies entries) valid.0 (joined_valid entries valid.1)

-- a group applies where its sections do
abbrev pub GroupsLeaveSame : Type 0
GroupsLeaveSame = (old new : tables.TableState) (sections : List Section) → IsChangeset sections → HaveColumns old
    → single old sections ≡ Ok new → single old (group_of sections) ≡ Ok new

pub tables_singly : RunContinues → GroupsLeaveSame → (old : Endpoint) (entries : List Entry) (delivery : Delivery)
    (new : Endpoint) (tables : tables.TableState) → AreChangesets entries
    → HaveColumns old.tables → accept_brought old entries delivery ≡ Ok new
    → AppliesSingly old.tables entries tables → new.tables ≡ tables
tables_singly goes group old entries delivery new tables valid have e singly =
    let other = group old.tables tables (joined_bodies entries) (joined_valid entries valid) have
    (singly_joined goes old.tables entries tables singly) in
    cc (sym (accepted_steps old entries delivery new e).tables ∙ other)

-- rows keep their columns
abbrev pub RowsKeepColumns : Type 0
RowsKeepColumns = (old new : tables.TableState) (sections : List Section) → IsChangeset sections → HaveColumns old
    → single old sections ≡ Ok new → HaveColumns new

pub singly_columns : RowsKeepColumns → (old : tables.TableState) (entries : List Entry) (new : tables.TableState)
    → AreChangesets entries → HaveColumns old → AppliesSingly old entries new → HaveColumns new
singly_columns keep old [] new valid have e = subst HaveColumns (sym e) have
singly_columns keep old (entry ∷ entries) new valid have e =
    singly_columns keep e.0 entries new valid.1 (keep old e.0 entry.item.body valid.0 have e.1) e.2
