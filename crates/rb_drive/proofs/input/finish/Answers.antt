use Rattle.std.proofs.Common.{sym, ◌∙◌}
use Rattle.std.proofs.lemmas.Result.{err_from_is_err_and}
use Rattle.rb_drive.proofs.inputs.EndLaws.{last_line, last_line_stops, no_line, no_line_left, some_line}
use Rattle.rb_drive.proofs.input.finish.Goals as goal
use Rattle.rb_drive.proofs.input.finish.Goals.{then-not-is_empty+in_ok-add_line, else-not-is_empty}

pub returns-in_err-add_line : goal.returns-in_err-add_line
returns-in_err-add_line c =
    let p = err_from_is_err_and c.from_residual.result c.from_residual.ensures.1 in
    let some = some_line c.args.reading.line.len c.args.reading.line.items c.args.reading.line.ok.0
    (sym c.is_empty.ensures ∙ c.if-not-is_empty.true) in
    rw (p.1, p.2) (last_line_stops c.args.reading _ c.in_err-add_line.field-0.0 c.add_line.new.input
    c.deref.ensures.value some c.in_err-add_line.ensures)

pub returns : goal.returns
returns c = elim c.if-not-is_empty.branch [
  | then-not-is_empty+in_ok-add_line w ↦
      let next = rw w.deref.ensures.value at w.in_ok-add_line.ensures in
      let some = some_line c.args.reading.line.len c.args.reading.line.items c.args.reading.line.ok.0
      (sym c.is_empty.ensures ∙ w.if-not-is_empty.true) in
      rw w.input-is (last_line c.args.reading w.add_line.new.input some next)
  | else-not-is_empty w ↦
      let none = no_line c.args.reading.line.len c.args.reading.line.items c.args.reading.line.ok.0
      (sym c.is_empty.ensures ∙ w.if-not-is_empty.false) in
      rw w.input-is (no_line_left c.args.reading none)
]
