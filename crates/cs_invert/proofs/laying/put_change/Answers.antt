use Rattle.std.proofs.Common.{◌∙◌, ◌++◌, ℕ, List, [], length, sym, ap, subst}
use Rattle.cs_model.proofs.packing.FitLaws.{change_fits}
use Rattle.cs_model.specs.declared.change.Op.{Op}
use Rattle.cs_model.specs.declared.change.Op.TheVariants.{Delete, Insert}
use Rattle.cs_model.specs.PackedChanges.{Long}
use Rattle.cs_model.specs.Seen.{change_seen}
use Rattle.cs_invert.proofs.layings.Parts.{delete_parts, head_of, insert_parts, two_parts, update_parts}
use Rattle.cs_invert.proofs.laying.put_change.Goals as goal

pub put_exchanged-requires-clause-long : goal.put_exchanged-requires-clause-long
put_exchanged-requires-clause-long c =
    let flags = c.args.flags.now in
    let change = change_seen c.args.change.now in
    subst (λ (op : Op). Long (length flags) op change.before change.after) c.in-Update.is
    (change_fits (record { name = []; flags = flags }) change c.requires.valid).long

pub returns-in-Insert-clause-bytes : goal.returns-in-Insert-clause-bytes
returns-in-Insert-clause-bytes c =
    let change = change_seen c.args.change.now in
    two_parts _ _ _ _ _ _ _ _ (insert_parts c.args.flags.now change c.requires.valid c.in-Insert.is
    ∙ ap (λ (text : List ℕ). head_of Delete change ++ text) (sym c.bytes.ensures.bytes))
    c.requires.room c.put_head-at.ensures.end c.put_head-at.ensures.bytes c.put_bytes.ensures.bytes

pub returns-in-Update-clause-bytes : goal.returns-in-Update-clause-bytes
returns-in-Update-clause-bytes c =
    two_parts _ _ _ _ _ _ _ _ (update_parts c.args.flags.now (change_seen c.args.change.now) c.in-Update.is)
    c.requires.room c.put_head-at-in-Update.ensures.end c.put_head-at-in-Update.ensures.bytes
    c.put_exchanged.ensures.bytes

pub returns-in-Delete-clause-bytes : goal.returns-in-Delete-clause-bytes
returns-in-Delete-clause-bytes c =
    let change = change_seen c.args.change.now in
    two_parts _ _ _ _ _ _ _ _ (delete_parts c.args.flags.now change c.requires.valid c.in-Delete.is
    ∙ ap (λ (text : List ℕ). head_of Insert change ++ text) (sym c.bytes-in-Delete.ensures.bytes))
    c.requires.room c.put_head-at-in-Delete.ensures.end c.put_head-at-in-Delete.ensures.bytes
    c.put_bytes-in-Delete.ensures.bytes
