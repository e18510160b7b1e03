use Rattle.std.proofs.Common.{◌≤◌, Err, IfErr, ap, map, rules, subst, sym, ◌∙◌}
use Rattle.std.proofs.lemmas.Result.{err_from_is_err_and}
use Rattle.rb_drive.specs.Published.{AreByNumber, HaveSentLines, unsent_lines}
use Rattle.rb_drive.proofs.outcomes.DriveLaws.{HaveEnded, all_begin_empty, all_have_ended, all_keep_headline}
use Rattle.rb_drive.proofs.outcomes.DriveLaws.{many_are_back}
use Rattle.rb_drive.proofs.outcomes.ConflictLaws.{AllShowTheirEnd}
use Rattle.rb_drive.proofs.outcomes.DriveLaws.{placed_fit}
use Rattle.rb_drive.proofs.outcomes.OwnerLaws.{lines_come_to}
use Rattle.rb_drive.specs.Run.{IsOfThreads}
use Rattle.rb_drive.specs.declared.fault.DriveError.{DriveError}
use Rattle.rb_drive.proofs.drive.end.Goals as goal

-- the publishers aren't taken apart
pub returns-in_err-publishers-clause-err : goal.returns-in_err-publishers-clause-err
returns-in_err-publishers-clause-err g c =
    let back = c.from_residual-in_err-publishers in
    let p = err_from_is_err_and back.result back.ensures.1 in
    subst (λ r. IfErr r IsOfThreads) (sym (p.1 ∙ ap (λ (e : DriveError). Err e) p.2)) c.in_err-publishers.ensures.err

-- those that are closed have what shows their conflicts
pub all_ended-requires : goal.all_ended-requires
all_ended-requires g c =
    subst (λ xs. AllShowTheirEnd g.L.StepLedger.cells xs) (sym c.deref.ensures.value) c.in_ok-accepting.ensures.shown

-- each publisher has sent its lines, each subscription has met the sequencer, and the broker is finished
pub returns-in-Ok-clause-ok : goal.returns-in-Ok-clause-ok
returns-in-Ok-clause-ok g c =
    λ schema lines count have begin.
    let cells = g.L.StepLedger.cells in
    let all = c.args.back.publishing.items in
    let subscribers = c.in_ok-accepting.accepting.items in
    let begun = c.in_ok-accepting.ensures.begun ∙ begin in
    let sequencer = c.args.back.sequencer in
    let dones = map (λ one. one.done) all in
    let finished = c.in-Ok.ensures.ok in
    let comes = lines_come_to all (λ one. one.publisher) (λ one. one.lines.items) (λ one. one.done)
    (λ one. one.faulty.items) (record {
      within = λ one. subst (λ n. one.done ≤ n) one.lines.ok.0 one.done_within;
      so_far = λ one. (one.done_sent, one.done_faulty);
    }) schema lines have in
    let ended : HaveEnded cells sequencer subscribers =
    subst (λ xs. HaveEnded cells sequencer xs) c.deref.ensures.value (c.all_ended.ensures (search (rules))) in (
      record {
        publishers = c.in_ok-publishers.publishers.items;
        sequencer = sequencer;
        closing = c.in-Ok.field-0.closing;
        items = c.in-Ok.field-0.left.items;
        dones = dones;
        finished = finished;
        count = search (rules);
        few = subst (λ n. n ≤ cells.capacity) (sym finished.many)
            (placed_fit cells sequencer.placed c.placed-placed.ensures.cells);
        sent = subst (λ ps. HaveSentLines schema 0 lines dones ps) (sym c.in_ok-publishers.ensures.publishers)
            comes.sent;
        unsent = c.in_ok-publishers.ensures.unsent
            ∙ ap (λ xs. unsent_lines xs dones) comes.same;
        faulty = subst (λ xs. AreByNumber xs c.in_ok-publishers.faulty.items) comes.failed
            c.in_ok-publishers.ensures.faulty;
        begun = all_begin_empty schema count subscribers begun;
        headline = all_keep_headline c.finished_keeps_headline.ensures cells
            c.in_ok-publishers.publishers.items sequencer c.in-Ok.field-0.placed c.in-Ok.field-0.left.items
            c.in-Ok.field-0.closing subscribers
            (record {
              shown = c.placed-placed.ensures.cells;
              pulled = c.hand-hand.ensures.pulled;
              numbered = c.placed-placed.ensures.numbered;
            })
            finished ended;
        ended = all_have_ended cells sequencer c.in-Ok.field-0.placed subscribers finished.many ended;
      },
      many_are_back count _ subscribers begun,
    )
