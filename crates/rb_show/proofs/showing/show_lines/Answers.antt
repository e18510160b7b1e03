use Rattle.std.proofs.Common.{◌+◌, ap, List, ℕ, Bor, map, add-one}
use Rattle.std.proofs.lemmas.List.{drop_all}
use Rattle.std.proofs.lemmas.Result.{err_from_is_err_and}
use Rattle.rb_show.specs.ShownTexts.{tables_seen}
use Rattle.rb_show.proofs.shown.ShowLaws.{all_shown, line_goes_on, line_stops_show, map_cut, show_begins}
use Rattle.rb_show.proofs.showing.show_lines.Goals as goal

pub loop-i-init : goal.loop-i-init
loop-i-init g c = rw c.none-tables.ensures (show_begins _ _)

pub returns-in_err-show_line : goal.returns-in_err-show_line
returns-in_err-show_line g c =
    let p = err_from_is_err_and c.from_residual.result c.from_residual.ensures.1 in
    rw (p.1, p.2) (line_stops_show c.args.form _ (tables_seen c.loop-i.tables) (tables_seen c.show_line.new.tables)
    (c.loop-i.i + 1) _ _ _ c.in_err-show_line.field-0.0 _ _ _
    (map_cut (λ (w : Bor (List ℕ)). w.now) c.args.lines.now c.loop-i.i _ c.loop-i-test.true)
    c.loop-i.invariant c.in_err-show_line.ensures)

pub loop-i-preserved : goal.loop-i-preserved
loop-i-preserved g c =
    line_goes_on c.args.form _ (tables_seen c.loop-i.tables) (tables_seen c.show_line.new.tables)
    (c.loop-i.i + 1) (c.loop-i.i + 1 + 1) _ _ _ _ _ _
    (map_cut (λ (w : Bor (List ℕ)). w.now) c.args.lines.now c.loop-i.i _ c.loop-i-test.true)
    (add-one (c.loop-i.i + 1)) c.loop-i.invariant c.in_ok-show_line.ensures

pub returns : goal.returns
returns g c = all_shown c.args.form _ (tables_seen c.loop-i.tables) (c.loop-i.i + 1) _ _ _
    (ap (map (λ (w : Bor (List ℕ)). w.now)) (drop_all c.loop-i.i c.args.lines.now c.loop-i-test.false))
    c.loop-i.invariant
