-- The whole picture after expired spans are returned, and how many these are.
use Rattle.std.proofs.Common.{◌≡◌, ℕ, ◌+◌, ◌<◌, ◌≤◌, false, Bool, List, [], ◌∷◌, ◌++◌, length, map, Some}
use Rattle.std.proofs.Common.{filter, slice_get, sym, ap, ◌∙◌, arith}
use Rattle.std.specs.List.{AllByRecursion}
use Rattle.std.proofs.lemmas.List.{length-map}
use Rattle.rb_deliveries.specs.Expiry.{turns_from, by_number, expired_sub, all_due}
use Rattle.rb_deliveries.specs.declared.sub.Sub.{Sub}
use Rattle.rb_deliveries.specs.Queues.{AreRising, queue_held}
use Rattle.rb_deliveries.specs.Orders.{in_line, order, all_at, ready_at, out_at}
use Rattle.rb_deliveries.specs.Subs.{sub_held, Belongs}
use Rattle.rb_deliveries.proofs.orders.Line.{line_filter}
use Rattle.rb_deliveries.proofs.orders.OrderLaws.{OrderEntries, seen_filter}
use Rattle.rb_deliveries.proofs.orders.ExpireLines.{turns_rise, ordered_parts, length_line}
use Rattle.rb_deliveries.proofs.orders.ExpireOrder.{ExpireReports, next_turn, subs_parts, subs_due}
use Rattle.rb_deliveries.proofs.subs.ExpiredLaws.{given_numbered}
use Rattle.rb_deliveries.proofs.subs.KnownLaws.{all_get}
use Rattle.rb_deliveries.specs.Changes.{all_expired, how_many_expire}
use Rattle.rb_deliveries.specs.Pictured.{pictured}
use Rattle.rb_deliveries.proofs.pictures.ExpireLaws.{ExpireFollows, due_of, expire_told, subs_expire, expired_pictured}

-- what belongs and rises does so up to the front
follow : (front turn number : ℕ) (subs : List Sub) → AllByRecursion (Belongs front turn number) subs
    → AllByRecursion (λ sub. AreRising sub.queue) subs → AllByRecursion (ExpireFollows front) subs
follow front turn number [] b j = tt
follow front turn number (sub ∷ rest) b j = ((b.0.is_next, j.0), follow front turn number rest b.1 j.1)

module _ (batch window front turn number timeout now : ℕ) (subs : List Sub) (one : 1 ≤ batch)
    (b : AllByRecursion (Belongs front turn number) subs) (rise : AllByRecursion (λ sub. AreRising sub.queue) subs) where
  follows : AllByRecursion (ExpireFollows front) subs
  follows = follow front turn number subs b rise

  -- the picture's test tells of each span whether it is due
  all_told : (k i : ℕ) (sub : Sub) → k ≡ 0 + i → slice_get subs i ≡ Some sub → sub.closed ≡ false
      → AllByRecursion (ExpireReports (due_of batch front subs timeout now) timeout now k)
      (queue_held batch front sub.queue)
  all_told k i sub is found opened =
      let same : k ≡ i = omega (arith, is) in
      expire_told batch front timeout now subs k sub one
      (all_get (ExpireFollows front) subs i sub follows found) (ap (slice_get subs) same ∙ found) opened

  -- what expires stands at the end of the ready order, as it stood in the in-flight order
  expired_ready : order ready_at
      (map (sub_held batch front) (map (expired_sub timeout now (by_number (turns_from front turn))) subs))
      ≡ order ready_at (map (sub_held batch front) subs)
      ++ filter (due_of batch front subs timeout now) (order out_at (map (sub_held batch front) subs))
  expired_ready =
      ordered_parts front turn (λ n. n < number) (due_of batch front subs timeout now)
      (next_turn front turn) (turns_from front turn) _ _ _ (turns_rise front turn (λ n. n < number))
      (subs_parts batch front turn number (λ n. n < number) (due_of batch front subs timeout now) timeout now 0
      (turns_from front turn) subs one (turns_rise front turn (λ n. n < number)) b
      (given_numbered front turn number timeout now subs b) all_told)

  -- so the picture is what the call gives
  pub all_expired_pictured : pictured batch window front number
      (map (expired_sub timeout now (by_number (turns_from front turn))) subs)
      ≡ all_expired (pictured batch window front number subs) timeout now
  all_expired_pictured =
      expired_pictured batch window front number timeout now subs
      (map (expired_sub timeout now (by_number (turns_from front turn))) subs) one follows
      (subs_expire timeout now (by_number (turns_from front turn)) subs) expired_ready

  -- and the call says how many
  pub expired_count : how_many_expire (pictured batch window front number subs) timeout now ≡ all_due timeout now subs
  expired_count =
      ap length (sym (seen_filter due (in_line outs)) ∙ ap (map (λ e. e.1)) (line_filter (λ e. due e.1) outs))
      ∙ length-map (in_line (filter (λ e. due e.1) outs)) (λ e. e.1) ∙ length_line (filter (λ e. due e.1) outs)
      ∙ subs_due batch front due timeout now 0 subs one all_told
    where
      due : ℕ × ℕ → Bool
      due = due_of batch front subs timeout now

      outs : OrderEntries
      outs = all_at out_at 0 (map (sub_held batch front) subs)
