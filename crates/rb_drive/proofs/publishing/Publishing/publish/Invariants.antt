use Rattle.std.proofs.Common.{◌≡◌, ◌-◌, length}
use Rattle.rb_drive.specs.Owners.{publisher_lines}
use Rattle.rb_drive.proofs.publishing.Publishing.publish.Given as goal

-- a line more is done each time
abbrev pub decreases-loop-self : goal.decreases-loop-self
decreases-loop-self g l = length l.self.lines.items - l.self.done

abbrev pub invariant-loop-self : goal.invariant-loop-self
invariant-loop-self g l = publisher_lines l.self.publisher l.self.lines.items
    ≡ publisher_lines l.fn.self.publisher l.fn.self.lines.items
