-- Why a statement stops: what is left where its text is one statement that may run.
use Rattle.std.proofs.Common.{◌≡◌, ◌⊎◌, inl, inr, ℕ, ◌≤◌, Bool, true, false, ◌||◌, List}
use Rattle.std.proofs.Common.{length, Option, Some, None, Ok, Err, Result, refl, sym, ap, subst, subst₂, ◌∙◌}
use Rattle.std.proofs.Common.{append-nil, true≢false}
use Rattle.sqlite.specs.Disk.{MoreFaults}
use Rattle.sqlite_trees.specs.declared.error.StoreError.{StoreError}
use Rattle.sqlite_trees.specs.declared.error.StoreError.TheVariants as stored
use Rattle.sqlite_schema.specs.declared.schema.Schema.{Schema}
use Rattle.sqlite.specs.Command.{Command}
use Rattle.sqlite.specs.Command.TheVariants.{Insert, Update, Delete, CreateTable, Begin, Commit, Rollback, Release}
use Rattle.sqlite.specs.Command.TheVariants.{RollbackTo}
use Rattle.sqlite.specs.Does.{Does}
use Rattle.sqlite.specs.Effect.{is_query, Database}
use Rattle.sqlite.specs.Listing.{understood}
use Rattle.sqlite.specs.Order.{Row}
use Rattle.sqlite.specs.declared.error.Error.{Error}
use Rattle.sqlite.specs.State.{State, EndsScope, Escapes, Executes, ExecutesIn, ExecutesInside, Fails, HasCause}
use Rattle.sqlite.specs.State.{IsMisplaced}
use Rattle.sqlite.specs.State.{IsNoStatement, IsNotRun, RunsCommand, is_pragma, mode_of, shows_rows, store_error}
use Rattle.sqlite.specs.State.{text_of}
use Rattle.sqlite_schema.specs.declared.command.Returning.{Returning}
use Rattle.sqlite.proofs.Callers.{IsPlain, command_of, statement_of}
use Rattle.replica_store.specs.Errors.{replica_error}
use Rattle.replica_store.specs.declared.error.ReplicaError.TheVariants.{Store}

-- the text is one statement with this number of parameters
abbrev pub IsOneStatement : Schema → List ℕ → ℕ → Type 0
IsOneStatement schema text count =
    (c : _) × (understood schema text ≡ Ok c) × (length text ≤ c.tail) × (count ≡ length c.names)

-- a command that writes rows or makes a table
abbrev pub is_writing : Command → Bool
is_writing (Insert at from) = true
is_writing (Update at q) = true
is_writing (Delete at q) = true
is_writing CreateTable = true
is_writing _ = false

-- the store failed, or the command does this in place of an end
abbrev pub StatementStops : State → State → Database → List ℕ → Row → Command → Option Returning → Error → Type 0
StatementStops old new db text params command returning e =
    Does old.step_limit (mode_of old) params db text returning command (Err (Some e))
    ⊎ Fails old new (Does old.step_limit (mode_of old) params db text returning command (Err None)) e

is_none_such : (command other : Command) → is_writing command ≡ true → is_writing other ≡ false → command ≡ other → ⊥
is_none_such command other change none is = true≢false (sym change ∙ ap is_writing is ∙ none)

never_misplaced : (s : State) (command : Command) (e : Error) → is_writing command ≡ true → IsMisplaced s command e → ⊥
never_misplaced s command e change (inl it) = elim it.1 [
  | inl begins ↦ is_none_such command Begin change refl begins.0
  | inr ends ↦ elim ends.0 [
    | inl commits ↦ is_none_such command Commit change refl commits
    | inr back ↦ is_none_such command Rollback change refl back
  ]
]
never_misplaced s command e change (inr it) = elim it.2 [
  | inl release ↦ is_none_such command (Release it.1) change refl release
  | inr back ↦ is_none_such command (RollbackTo it.1) change refl back
]

never_escapes : (s : State) (command : Command) → is_writing command ≡ true → Escapes 0 s command → ⊥
never_escapes s command change (inl ends) = elim ends [
  | inl commits ↦ is_none_such command Commit change refl commits
  | inr back ↦ is_none_such command Rollback change refl back
]
never_escapes s command change (inr it) = elim it.1 [
  | inl release ↦ is_none_such command (Release it.0) change refl release
  | inr back ↦ is_none_such command (RollbackTo it.0) change refl back
]

shows_none : (command : Command) → is_writing command ≡ true
    → (is_query command || (is_pragma command || false)) ≡ false
shows_none (Insert at from) h = refl
shows_none (Update at q) h = refl
shows_none (Delete at q) h = refl
shows_none CreateTable h = refl
shows_none command h = absurd (true≢false (sym h))

pub never_unread : (s : State) (text : List ℕ) (params : Row) (e : Error) → IsPlain (understood s.now.schema text)
    → IsOneStatement s.now.schema text (length params) → IsNoStatement s text params e → ⊥
never_unread s text params e plain one (inl refused) = subst IsPlain refused.1 plain
never_unread s text params e plain one (inr it) =
    let bare = subst IsPlain it.1 plain in
    let same : one.0 ≡ it.0 = cc in
    elim it.2 [
      | inl cut ↦ cut.0 (subst (λ c. length text ≤ c.tail) same one.2)
      | inr other ↦ elim other [
        | inl count ↦ count.0 (one.3 ∙ ap (λ c. length c.names) same)
        | inr clock ↦ clock.0 bare.1
      ]
    ]

module _ (text : List ℕ) (params : Row) (old new : State) (schema : Schema) (has : old.now.schema ≡ schema)
    (command : Command) (is : command_of (understood schema text) ≡ command) (plain : IsPlain (understood schema text))
    (one : IsOneStatement schema text (length params)) where
  never_unread_here : (e : Error) → IsNoStatement old text params e → ⊥
  never_unread_here e = never_unread old text params e
      (subst (λ (s : Schema). IsPlain (understood s text)) (sym has) plain)
      (subst (λ (s : Schema). IsOneStatement s text (length params)) (sym has) one)

  -- why the statement did not run
  pub stopped_as : is_writing command ≡ true → (e : Error) → Executes text params old new (Err e)
      → Fails old new ⊥ e ⊎ StatementStops old new (record old.now { schema = schema })
      (statement_of text (understood schema text)) params command None e
  unfolding ExecutesIn IsNotRun
  stopped_as change e (inl (inl unread)) = absurd (never_unread_here e unread.0)
  stopped_as change e (inl (inr fails)) = inl fails
  stopped_as change e (inr ran) =
      let known = sym ran.1.is ∙ ap (λ s. understood s text) has in
      let bare = subst IsPlain (sym known) plain in
      let same : ran.0.command ≡ command = ap command_of known ∙ is in
      let shows : shows_rows false ran.0 ≡ false =
      subst₂ (λ k r. (is_query k || (is_pragma k || Rattle.std.specs.Option.is_some r)) ≡ false) (sym same) (sym bare.0)
      (shows_none command change) in
      let did = rw shows at ran.2 in
      let plainly : RunsCommand old new text ran.0 params (Err e) = rw (bare.1, append-nil params) at did in
      let stops : StatementStops old new old.now (text_of text ran.0) params ran.0.command ran.0.returning e =
      elim plainly [
        | inl refused ↦ elim refused.0 [
          | inl misplaced ↦ absurd (never_misplaced old ran.0.command e (ap is_writing same ∙ change) misplaced)
          | inr does ↦ inl does.1
        ]
        | inr fails ↦ inr fails
      ] in
      inr (subst (λ s. StatementStops old new (record old.now { schema = s })
      (statement_of text (understood schema text)) params command None e) has
      (subst₂ (λ k t. StatementStops old new old.now t params k None e) same (ap (statement_of text) known)
      (rw bare.0 at stops)))

  -- the same inside a transaction
  pub stopped_inside : is_writing command ≡ true → (e : Error) → ExecutesInside 0 text params old new (Err e)
      → Fails old new ⊥ e ⊎ StatementStops old new (record old.now { schema = schema })
      (statement_of text (understood schema text)) params command None e
  unfolding EndsScope
  stopped_inside change e (inl ran) = stopped_as change e ran.0
  stopped_inside change e (inr ends) =
      let h = ends.0 in
      absurd (never_escapes old h.0.command
      (ap is_writing (ap command_of (sym h.1.is ∙ ap (λ s. understood s text) has) ∙ is) ∙ change) h.2)

-- ---- what the store's failure is reported as

cause_of : (old new : State) (big : Type 0) (cause : StoreError) → HasCause old new big cause
    → replica_error (store_error cause) ≡ Store
    → MoreFaults old.faults new.faults ⊎ ((old.is_open ≡ false) ⊎ big)
cause_of old new big stored.OutOfMemory h says = absurd cc
cause_of old new big stored.Io h says = inl h
cause_of old new big stored.Corrupt h says = inl h
cause_of old new big stored.Full h says = inl h
cause_of old new big stored.Broken h says = inr (inl h)
cause_of old new big stored.Unstorable h says = inr (inr h)

-- A failure that is reported as `Store` is the disk's, or the connection was shut, or a row is too big.
pub failed_for : (old new : State) (big : Type 0) (e : Error) → Fails old new big e → replica_error e ≡ Store
    → MoreFaults old.faults new.faults ⊎ ((old.is_open ≡ false) ⊎ big)
failed_for old new big e f says = cause_of old new big f.0 f.2 (sym (ap replica_error f.1) ∙ says)

-- ---- parts

-- a part that stopped did so in its first part, or after it
pub stopped_or : {B E R : Type 0} {stop : E} {First : E → Type 0}
    → ((s : E) × First s × (◌≡◌ {A = Result B E} (Err stop) (Err s))) ⊎ R → First stop ⊎ R
stopped_or {B} {E} {R} {stop} {First} (inl stopped) =
    inl (let is : stopped.0 ≡ stop = cc in subst First is stopped.1)
stopped_or (inr went) = inr went
