-- Expiry of stored spans. Each span that is due gets a rank by its delivery's number, so expired
-- spans keep the in-flight order.
use Rattle.std.specs.Prelude.{ℕ, suc, ◌+◌, ◌<◌, List, [], ◌∷◌, length, map, if◌then◌else◌, true}
use Rattle.std.specs.List.{filter}
use Rattle.rb_deliveries.specs.declared.rank.Rank.{Rank}
use Rattle.rb_deliveries.specs.declared.rank.Held.{Held}
use Rattle.rb_deliveries.specs.declared.span.Status.{Status}
use Rattle.rb_deliveries.specs.declared.span.Status.TheVariants.{Ready, InFlight}
use Rattle.rb_deliveries.specs.declared.sub.Sub.{Sub}
use Rattle.rb_deliveries.specs.Spans.{is_due}
use Rattle.rb_deliveries.specs.Queues.{Queue}

-- the ranks of the turns after this one
abbrev pub turns_from : ℕ → ℕ → ℕ → Rank
turns_from front turn n = record { front = front; turn = suc turn + n }

-- the rank of a returned span, by its delivery's number
abbrev pub rank_of : (ℕ → Rank) → Status → Rank
rank_of tk (Ready taken) = tk 0
rank_of tk (InFlight number moment) = tk number

abbrev pub by_number : (ℕ → Rank) → Held → Rank
by_number tk h = rank_of tk h.span.status

-- the turn of a returned span's rank, after this one, is below 2^64
abbrev pub HasTurn : ℕ → Status → Type 0
HasTurn turn (Ready taken) = Unit {0}
HasTurn turn (InFlight number moment) = suc turn + number < 18446744073709551616

-- makes a span that is due ready again, with a rank that depends on what it was
abbrev pub expired_held : ℕ → ℕ → (Held → Rank) → Held → Held
expired_held timeout clock rank h =
    if is_due timeout clock h.span.status then
    record { span = record h.span { status = Ready true }; rank = rank h } else h

abbrev pub expired_by : ℕ → ℕ → Rank → Held → Held
expired_by timeout clock latest =
    expired_held timeout clock (by_number (turns_from latest.front latest.turn))

abbrev pub expired_queue : ℕ → ℕ → Rank → Queue → Queue
expired_queue timeout clock latest kept =
    record kept { held = map (expired_by timeout clock latest) kept.held }

-- does so with the spans of an open subscription
abbrev pub expired_sub : ℕ → ℕ → (Held → Rank) → Sub → Sub
expired_sub timeout clock rank sub =
    record sub {
      queue = record sub.queue {
        held = if sub.closed then sub.queue.held else map (expired_held timeout clock rank)
            sub.queue.held;
      };
    }

-- how many stored spans of open subscriptions are due
abbrev pub due_held : ℕ → ℕ → List Held → ℕ
due_held timeout clock held = length (filter (λ h. is_due timeout clock h.span.status) held)

abbrev pub due_in : ℕ → ℕ → Sub → ℕ
due_in timeout clock sub = if sub.closed then 0 else due_held timeout clock sub.queue.held

abbrev pub all_due : ℕ → ℕ → List Sub → ℕ
all_due timeout clock [] = 0
all_due timeout clock (sub ∷ rest) = due_in timeout clock sub + all_due timeout clock rest
