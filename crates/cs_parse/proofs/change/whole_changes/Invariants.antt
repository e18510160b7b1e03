use Rattle.std.proofs.Common.{◌≡◌, ◌-◌, length}
use Rattle.cs_parse.specs.Front.{changes_front}
use Rattle.cs_parse.proofs.feeding.WholeLaws.{WholeToHere, left_at}
use Rattle.cs_parse.proofs.change.whole_changes.Given as goal

-- where the changes so far are canonical, the whole is where the changes that are left are
abbrev pub invariant-loop : goal.invariant-loop
invariant-loop l = record {
  each_one : l.count ≡ l.counter;
  so_far : WholeToHere l.count l.canonical l.bytes l.rest (changes_front l.flags l.bytes)
      (left_at l.flags (length l.bytes - l.counter) l.rest);
}
