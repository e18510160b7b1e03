use Rattle.std.proofs.Common.{ℕ, ◌+◌, List, [], Bor, map, drop}
use Rattle.rb_show.specs.Shown.{lines_shown, tables_at}
use Rattle.rb_show.specs.ShownTexts.{tables_seen}
use Rattle.rb_show.proofs.shown.ShowLaws.{AreShown}
use Rattle.rb_show.proofs.showing.show_lines.Given as goal

abbrev pub invariant-loop-i : goal.invariant-loop-i
invariant-loop-i g l = AreShown
    (lines_shown l.form (tables_at [] []) 1 (map {A = Bor (List ℕ)} {B = List ℕ} (λ line. line.now) l.lines))
    (lines_shown l.form (tables_seen l.tables) (l.i + 1)
    (map {A = Bor (List ℕ)} {B = List ℕ} (λ line. line.now) (drop l.i l.lines)))
    (g.W.Write.contents l.fn.writer) (g.W.Write.contents l.writer)
