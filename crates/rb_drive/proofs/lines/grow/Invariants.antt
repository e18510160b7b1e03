use Rattle.std.proofs.Common.{◌≡◌, ◌+◌, ◌++◌, [], map, replicate, vec_len}
use Rattle.rb_drive.proofs.lines.grow.Given as goal

-- so many lists have come
abbrev pub invariant-loop : goal.invariant-loop
invariant-loop l = record {
  lines : map (λ v. v.items) l.lines.items ≡ map (λ v. v.items) l.initial.lines.items ++ replicate l.counter [];
  long : vec_len l.lines ≡ vec_len l.initial.lines + l.counter;
}
