-- Where what a subscription accepted applies singly, its tables are the result of that.
use Rattle.std.proofs.Common.{◌≡◌, ◌↔◌, ℕ, zero, suc, List, [], ◌∷◌, ◌++◌, take, drop, Some, Ok, refl, sym, subst}
use Rattle.std.specs.Prelude.{slice_get, ◌-◌}
use Rattle.std.specs.List.{AllByRecursion}
use Rattle.cs_model.proofs.CallerLemmas.{all_push}
use Rattle.cs_apply.specs.Columns.{HaveColumns}
use Rattle.cs_apply.specs.State as tables
use Rattle.cs_group.proofs.all_tables.Fitting.{group_fits}
use Rattle.cs_group.specs.Group.{group_of}
use Rattle.rb_desk.specs.declared.delivery.Delivery.{Delivery}
use Rattle.rb_sequence.specs.Entry.{Entry}
use Rattle.rb_subscriber.specs.Accept.{accept, brought, AcceptsDelivery, AppliesSingly, AreChangesets, part}
use Rattle.rb_subscriber.specs.Accept.{joined_bodies, HasSingleTables}
use Rattle.rb_subscriber.specs.Endpoint.{Endpoint}
use Rattle.rb_subscriber.proofs.runs.RunLaws.{RowsKeepColumns, joined_valid}
use Rattle.rb_core.specs.World.{Subscriber, World, world_begun, endpoint_of}
use Rattle.rb_core.specs.Moves.{with_subscriber, Leads}
use Rattle.rb_core.proofs.headline.Moving.{all_become, all_get, apart_from_sending, MovingKeeps, crash_leaves}
use Rattle.rb_core.proofs.headline.Moving.{kept_through}

-- ---- the laws of endpoints

abbrev AcceptIsStep : Type 0
AcceptIsStep = (old : Endpoint) (sequence : List Entry) (delivery : Delivery) (new : Endpoint)
    → (accept old sequence delivery ≡ Ok new) ↔ AcceptsDelivery old sequence delivery new

abbrev AcceptIsSingle : Type 0
AcceptIsSingle = (old : Endpoint) (sequence : List Entry) (delivery : Delivery) (new : Endpoint)
    (tables : tables.TableState) → AreChangesets (brought sequence delivery) → HaveColumns old.tables
    → accept old sequence delivery ≡ Ok new → AppliesSingly old.tables (brought sequence delivery) tables
    → new.tables ≡ tables

pub record SinglyLaws : Type 0 where
  pub step : AcceptIsStep
  pub single : AcceptIsSingle
  pub rows : RowsKeepColumns

-- ---- parts of a list of changesets

after_some : (entries : List Entry) (n : ℕ) → AreChangesets entries → AreChangesets (drop n entries)
after_some entries zero valid = valid
after_some [] (suc n) valid = tt
after_some (entry ∷ entries) (suc n) valid = after_some entries n valid.1

some_first : (entries : List Entry) (n : ℕ) → AreChangesets entries → AreChangesets (take n entries)
some_first entries zero valid = tt
some_first [] (suc n) valid = tt
some_first (entry ∷ entries) (suc n) valid = (valid.0, some_first entries n valid.1)

pub part_of_changesets : (entries : List Entry) (after n : ℕ) → AreChangesets entries
    → AreChangesets (part entries after n)
part_of_changesets entries after n valid = some_first (drop after entries) n (after_some entries after valid)

front_of_changesets : (entries more : List Entry) → AreChangesets (entries ++ more) → AreChangesets entries
front_of_changesets [] more valid = tt
front_of_changesets (entry ∷ entries) more valid = (valid.0, front_of_changesets entries more valid.1)

-- ---- one subscription

-- what applies singly in two parts
applies_parts : (old : tables.TableState) (some more : List Entry) (new : tables.TableState)
    → AppliesSingly old (some ++ more) new
    → (mid : tables.TableState) × AppliesSingly old some mid × AppliesSingly mid more new
applies_parts old [] more new e = (old, refl, e)
applies_parts old (entry ∷ some) more new e =
    let parts = applies_parts e.0 some more new e.2 in (parts.0, (e.0, e.1, parts.1), parts.2)

-- where the rows that it began with have their columns, its rows have them, and its tables are those of single
-- application
record IsSingle (q : Subscriber) : Type 0 where
  columns : HaveColumns q.base → HaveColumns q.tables
  tables : HaveColumns q.base → HasSingleTables q.base q.accepted q.tables

-- so it is with each, where what is placed are changesets
abbrev AreSingle : World → Type 0
AreSingle world = AreChangesets world.sequence → AllByRecursion IsSingle world.subscribers

abbrev with_brought : Subscriber → List Entry → tables.TableState → Subscriber
with_brought q entries tables =
    record q { accepted = q.accepted ++ entries; batches = q.batches ++ entries ∷ []; tables = tables }

single_more : SinglyLaws → (q : Subscriber) (sequence : List Entry) (delivery : Delivery) (end : Endpoint)
    → AreChangesets sequence → AcceptsDelivery (endpoint_of q) sequence delivery end → IsSingle q
    → IsSingle (with_brought q (brought sequence delivery) end.tables)
single_more laws q sequence delivery end valid accepts is =
    let entries = brought sequence delivery in
    let sections = joined_bodies entries in
    let brings = part_of_changesets sequence (delivery.first - 1) (suc delivery.last - delivery.first) valid in record {
      columns = λ have. laws.rows q.tables end.tables (group_of sections)
          (group_fits sections (joined_valid entries brings)) (is.columns have) accepts.tables;
      tables = λ have tables applied.
          let parts = applies_parts q.base q.accepted entries tables applied in
          let same = is.tables have parts.0 parts.1 in
          laws.single (endpoint_of q) sequence delivery end tables brings (is.columns have)
          ((laws.step (endpoint_of q) sequence delivery end).1 accepts)
          (subst (λ t. AppliesSingly t entries tables) (sym same) parts.2);
    }

-- ---- all moves

single_becomes : (old : World) (s : ℕ) (q r : Subscriber) → AreSingle old → slice_get old.subscribers s ≡ Some q
    → (AreChangesets old.sequence → IsSingle q → IsSingle r) → AreSingle (with_subscriber old s r)
single_becomes old s q r h found becomes = λ valid. all_become IsSingle old s q r (h valid) found (becomes valid)

single_kept : SinglyLaws → MovingKeeps AreSingle
single_kept laws = record {
  sending = apart_from_sending AreSingle (λ old senders intake hand h. h);
  places = λ old new move h. subst AreSingle (sym move.kept)
      (λ valid. h (front_of_changesets old.sequence _ valid));
  closes = λ old new move h. subst AreSingle (sym move.kept) h;
  subscribes = λ old new move h. subst AreSingle (sym move.kept) (λ valid.
      all_push IsSingle old.subscribers _ (h valid)
      (record { columns = λ have. have; tables = λ have tables applied. sym applied }));
  delivers = λ old new move h. subst AreSingle (sym move.kept)
      (single_becomes old move.s move.subscriber _ h move.found
      (λ placed is. record { columns = is.columns; tables = is.tables }));
  accepts = λ old new move h. subst AreSingle (sym move.kept)
      (single_becomes old move.made.s move.made.subscriber _ h move.made.found
      (λ placed. single_more laws move.made.subscriber old.sequence move.made.delivery move.made.end placed
      move.made.accepts));
  reconnects = λ old new move h. subst AreSingle (sym move.kept)
      (single_becomes old move.s move.subscriber _ h move.found
      (λ placed is. record { columns = is.columns; tables = is.tables }));
  unsubscribes = λ old new move h. subst AreSingle (sym move.kept)
      (single_becomes old move.s move.subscriber _ h move.found
      (λ placed is. record { columns = is.columns; tables = is.tables }));
  withdraws = λ old new move h. subst AreSingle (sym move.kept) h;
  crashes = λ old new move h. crash_leaves AreSingle old new move
      (single_becomes old move.made.s move.made.subscriber _ h move.made.found
      (λ placed is. record { columns = is.columns; tables = is.tables }))
      (single_becomes old move.made.s move.made.subscriber _ h move.made.found (λ placed is.
      let more = single_more laws move.made.subscriber old.sequence move.made.delivery move.made.end placed
      move.made.accepts is in
      record { columns = more.columns; tables = more.tables }));
  resumes = λ old new move h. subst AreSingle (sym move.kept)
      (single_becomes old move.s move.subscriber _ h move.found
      (λ placed is. record { columns = is.columns; tables = is.tables }));
}

are_single : SinglyLaws → (mids : List World) (new : World) (s : ℕ) (q : Subscriber) → Leads world_begun mids new
    → slice_get new.subscribers s ≡ Some q → AreChangesets new.sequence → IsSingle q
are_single laws mids new s q leads found valid =
    all_get IsSingle new.subscribers s q
    (kept_through AreSingle (single_kept laws) world_begun mids new leads (λ placed. tt) valid) found

pub columns_stay : SinglyLaws → (mids : List World) (new : World) (s : ℕ) (q : Subscriber)
    → Leads world_begun mids new → slice_get new.subscribers s ≡ Some q → AreChangesets new.sequence
    → HaveColumns q.base → HaveColumns q.tables
columns_stay laws mids new s q leads found valid = (are_single laws mids new s q leads found valid).columns

pub tables_are_single : SinglyLaws → (mids : List World) (new : World) (s : ℕ) (q : Subscriber)
    → Leads world_begun mids new → slice_get new.subscribers s ≡ Some q → AreChangesets new.sequence
    → HaveColumns q.base → HasSingleTables q.base q.accepted q.tables
tables_are_single laws mids new s q leads found valid =
    (are_single laws mids new s q leads found valid).tables
