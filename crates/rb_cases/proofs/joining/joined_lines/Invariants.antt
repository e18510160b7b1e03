use Rattle.std.proofs.Common.{◌≡◌, ◌≤◌, ◌++◌, drop, length, map}
use Rattle.rb_cases.specs.Joining.{joined_answers}
use Rattle.rb_cases.proofs.joining.joined_lines.Given as goal

-- what is joined so far, and the rest joined, is the whole joined
abbrev pub invariant-loop-line : goal.invariant-loop-line
invariant-loop-line l = record {
  within : l.place ≤ length l.given;
  so_far : map (λ answer. answer.now) l.all.items
      ++ joined_answers l.most (map (λ line. line.now) (drop l.line-index l.lines))
      (map (λ answer. answer.now) (drop l.place l.given))
      ≡ joined_answers l.most (map (λ line. line.now) l.lines) (map (λ answer. answer.now) l.given);
}
