use Rattle.std.proofs.Common.{◌≡◌, take}
use Rattle.std.specs.List.{flat_map}
use Rattle.rb_cases.specs.Pieces.{fed_parts, line_text}
use Rattle.rb_cases.proofs.pieces.ended.Given as goal

-- the lines so far
abbrev pub invariant-loop-line : goal.invariant-loop-line
invariant-loop-line l = l.all.items
    ≡ flat_map (λ line. line_text line.now (fed_parts line.now) l.most) (take l.line-index l.lines)
