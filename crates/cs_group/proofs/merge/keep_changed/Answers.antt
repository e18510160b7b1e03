use Rattle.std.proofs.Common.{◌≡◌, ◌∙◌, ◌+◌, ◌<◌, Some, length, slice_get, slice_index_or, drop, sym, ap}
use Rattle.std.proofs.Common.{arith, subst}
use Rattle.std.specs.Prelude.{◌||◌}
use Rattle.std.proofs.lemmas.List.{drop_more}
use Rattle.std.proofs.lemmas.Option.{slice_get_read}
use Rattle.cs_model.specs.Rule.{is_defined}
use Rattle.cs_model.specs.Seen.{field_seen, fields_seen}
use Rattle.cs_group.specs.Merge.{news_changed, olds_changed}
use Rattle.cs_group.proofs.cut_down.InPlaceTwo.{BothDone, both_end, both_more, none_both}
use Rattle.cs_group.proofs.merge.keep_changed.Goals as goal
use Rattle.cs_group.proofs.merge.keep_changed.Goals.{then-any, else-any}

pub loop-i-init : goal.loop-i-init
loop-i-init c =
    none_both c.args.before.now.items c.args.after.now.items _ _ c.min-columns.result c.args.flags.now
    (omega (
      arith,
      c.min-columns.ensures,
      c.min.ensures,
      c.len.ensures,
      c.len-2.ensures,
      c.args.before.now.ok.0,
      c.args.after.now.ok.0,
    )) c.truncate.ensures.items c.truncate-2.ensures.items

pub loop-i-preserved : goal.loop-i-preserved
loop-i-preserved c =
    let flags = c.args.flags.now in
    let i = c.loop-i.i in
    let before = c.loop-i.before.items in
    let after = c.loop-i.after.items in
    let columns = c.min-columns.result in
    let done = c.loop-i.invariant in
    let within : i < length flags = omega (arith, c.loop-i-test.true, c.min-columns.ensures, c.min.ensures) in
    let old = c.index.result.now in
    let new = c.index-in-loop-i.result.now in
    let x = c.changed.result.0 in
    let y = c.changed.result.1 in
    let olds = olds_changed flags (fields_seen c.args.before.now.items) (fields_seen c.args.after.now.items) in
    let news = news_changed flags (fields_seen c.args.before.now.items) (fields_seen c.args.after.now.items) in
    let is_old : slice_get before i ≡ Some old =
    slice_get_read before columns i old (sym done.old_size) c.loop-i-test.true c.index.ensures in
    let is_new : slice_get after i ≡ Some new =
    slice_get_read after columns i new (sym done.new_size) c.loop-i-test.true c.index-in-loop-i.ensures in
    let is_any : (c.loop-i.any || is_defined (field_seen y)) ≡ c.if-any.any =
    elim c.if-any.branch [
      | then-any w ↦ ap (λ b. b || is_defined (field_seen y)) w.if-any.true ∙ sym w.if-any.true ∙ sym w.any-is
      | else-any w ↦
          ap (λ b. b || is_defined (field_seen y)) w.if-any.false ∙ sym w.has_value-any.ensures ∙ sym w.any-is
    ] in
    subst (BothDone _ _ (i + 1) columns (drop (i + 1) flags) olds news) is_any
    (both_more before after i columns (slice_index_or flags i 0) (drop (i + 1) flags) olds news c.loop-i.any old new x y
    (subst (λ fs. BothDone before after i columns fs olds news c.loop-i.any) (drop_more flags i 0 within) done)
    is_old is_new c.changed.ensures.old c.changed.ensures.new)

pub returns-clause-olds : goal.returns-clause-olds
returns-clause-olds c = (both_end _ _ _ _ _ _ _ _ c.loop-i.invariant c.loop-i-test.false).old_is

pub returns-clause-news : goal.returns-clause-news
returns-clause-news c = (both_end _ _ _ _ _ _ _ _ c.loop-i.invariant c.loop-i-test.false).new_is

pub returns-clause-left : goal.returns-clause-left
returns-clause-left c = (both_end _ _ _ _ _ _ _ _ c.loop-i.invariant c.loop-i-test.false).any_is
