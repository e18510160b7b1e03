use Rattle.std.proofs.Common.{◌<◌, ap, arith, length, rules, ◌∙◌}
use Rattle.rb_drive.proofs.outcomes.PublishedLaws.{HasDoneLines, line_is_faulty, line_is_sent}
use Rattle.rb_drive.proofs.publishing.Publishing.publish_next.Goals.{in-Ok+else-not-send, in-Err+in_ok-push-in-Err}
use Rattle.rb_drive.proofs.publishing.Publishing.publish_next.Goals as goal

-- one line more is done: its changeset is sent, or it is faulty
pub invariant_of-self-2 : goal.invariant_of-self-2
invariant_of-self-2 g c =
    let old = c.args.self.now in
    let given = c.index-given.result.now in
    let less : old.done < length old.lines.items = omega (arith, c.requires, old.lines.ok.0) in
    let is = c.deref.ensures ∙ ap (λ one. one.text) c.index-given.ensures in
    let were : HasDoneLines old.publisher old.lines.items old.done old.faulty.items =
    (old.done_sent, old.done_faulty) in
    elim c.match-branch-2.branch [
      | in-Ok+else-not-send w ↦
          let done = line_is_sent old.publisher c.stage.new.publisher w.send.new.publisher w.in-Ok.set old.lines.items
          old.done given c.deref.result.now old.faulty.items c.in_ok-set.ensures.same (search rules) less is
          (search rules) were in
          rw w.self-is (record { done_within = search rules; done_sent = done.0; done_faulty = done.1 })
      | in-Err+in_ok-push-in-Err w ↦
          let done = line_is_faulty old.publisher c.stage.new.publisher old.lines.items old.done given
          c.deref.result.now w.in-Err.why old.faulty.items w.push.new.self.items c.in_ok-set.ensures.same less is
          (search rules) (search rules) were in
          rw w.self-is (record { done_within = search rules; done_sent = done.0; done_faulty = done.1 })
    ]
