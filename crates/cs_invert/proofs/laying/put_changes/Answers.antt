use Rattle.std.proofs.Common.{◌∙◌, List, ◌++◌, map, sym, ap, subst}
use Rattle.cs_model.specs.declared.change.Change.{Change}
use Rattle.cs_model.specs.PackedChanges.{change_bytes, changes_bytes}
use Rattle.cs_model.specs.Seen.{change_seen}
use Rattle.cs_group.proofs.one_row.Through.{AreValidChanges}
use Rattle.cs_invert.specs.Inverse.{inverse_change}
use Rattle.cs_invert.proofs.layings.Laying.{lays_done, lays_on}
use Rattle.cs_invert.proofs.laying.put_changes.Goals as goal

pub loop-change-preserved : goal.loop-change-preserved
loop-change-preserved c =
    let flags = c.args.section.now.shape.flags in
    let was = c.loop-change.invariant in
    let steps = c.in-Some.ensures.steps in
    let texts = λ (cs : List Change). changes_bytes (map (inverse_change flags) cs) in
    record {
      valid = (subst (λ (cs : List Change). AreValidChanges flags cs) steps was.valid).1;
      lays = lays_on _ _ _ _ (ap texts steps ∙ ap (λ fs. change_bytes (inverse_change fs (change_seen c.in-Some.change))
          ++ texts c.next.new.self) (sym c.flags-flags.ensures)) c.put_change-at.ensures.end c.put_change-at.ensures.bytes
          was.lays;
    }

pub returns-clause-bytes : goal.returns-clause-bytes
returns-clause-bytes c =
    let flags = c.args.section.now.shape.flags in
    (lays_done (ap (λ (cs : List Change). changes_bytes (map (inverse_change flags) cs)) c.in-None.ensures.steps.0)
    c.loop-change.invariant.lays).1
