-- Opening of a stored span: each of its numbers becomes a ready span of its own. Their ranks are
-- drawn in the order of the numbers, after all others.
use Rattle.std.specs.Prelude.{◌≡◌, ℕ, zero, suc, ◌+◌, ◌≤◌, List, [], ◌∷◌, ◌++◌, Some, ◌==◌}
use Rattle.std.specs.Prelude.{slice_get, if◌then◌else◌}
use Rattle.std.specs.List.{AllByRecursion}
use Rattle.rb_deliveries.specs.declared.rank.Rank.{Rank}
use Rattle.rb_deliveries.specs.declared.rank.Held.{Held}
use Rattle.rb_deliveries.specs.declared.sub.Sub.{Sub}
use Rattle.rb_deliveries.specs.Spans.{single_span, span_length}
use Rattle.rb_deliveries.specs.Queues.{HeldRise, Queue}
use Rattle.rb_deliveries.specs.Subs.{IsDrawn}

-- the rank of a number, after `latest`: a greater number's comes later
abbrev pub rank_after : Rank → ℕ → Rank
rank_after latest n = record { front = latest.front; turn = latest.turn + n }

abbrev pub single_held : Rank → ℕ → Held
single_held latest n = record { span = single_span n; rank = rank_after latest n }

-- `count` numbers from n on, each stored as a span of its own
abbrev pub singles_held : Rank → ℕ → ℕ → List Held
singles_held latest n zero = []
singles_held latest n (suc count) = single_held latest n ∷ singles_held latest (suc n) count

-- opens the stored span that begins with this number
abbrev pub opened_held : ℕ → Rank → List Held → List Held
opened_held first latest [] = []
opened_held first latest (h ∷ rest) =
    (if h.span.first == first then singles_held latest h.span.first (span_length h.span)
    else h ∷ [])
    ++ opened_held first latest rest

-- The spans rise from number 1 on. A number 0 would have the rank `latest` itself.
abbrev pub RiseFromOne : List Held → Type 0
RiseFromOne held = (next : ℕ) × HeldRise 1 held next

abbrev pub opened_queue : Queue → ℕ → Rank → Queue
opened_queue kept first latest = record kept { held = opened_held first latest kept.held }

abbrev pub opened_sub : Sub → ℕ → Rank → Sub
opened_sub sub first latest = record sub { queue = opened_queue sub.queue first latest }

-- No rank of a stored span was drawn after this one, and a turn after it is left for each of
-- their numbers.
pub record IsLatest (latest : Rank) (queue : Queue) : Type 0 where
  pub drawn : AllByRecursion (λ h. IsDrawn latest.front latest.turn h.rank) queue.held
  pub turns : latest.turn + queue.next ≤ 18446744073709551616

abbrev pub IsLatestAt : List Sub → ℕ → Rank → Type 0
IsLatestAt subs s latest = (sub : Sub) → slice_get subs s ≡ Some sub → IsLatest latest sub.queue
