use Rattle.std.proofs.Common.{◌≡◌, ◌∙◌, w64, to_z, of_z, to_z-of_z, negsuc, [], refl, sym, subst, arith}
use Rattle.cs_parse.specs.FaultNumber.{kind_number}
use Rattle.changeset_c.specs.Combining.{CombineSays, HasClash, HasTextFault, Refuses, texts_of}
use Rattle.changeset_c.proofs.Outcomes.{combine_only, combine_fault, combine_clash, says_written}
use Rattle.changeset_c.proofs.exports.changeset_combine.Goals as goal

-- ---- the group's text is written

says : (c : goal.In-Ok) → CombineSays (to_z w64 (of_z w64 c.in-Ok.len)) (texts_of c.args.texts.now) c.args.out.now
    c.combined.new.out c.args.fault_text.now c.args.fault_at.now c.args.fault_kind.now
says c =
    let same : to_z w64 (of_z w64 c.in-Ok.len) ≡ c.in-Ok.len = grind (arith, to_z-of_z) in
    subst (λ answer. CombineSays answer (texts_of c.args.texts.now) c.args.out.now c.combined.new.out
    c.args.fault_text.now c.args.fault_at.now c.args.fault_kind.now) (sym same)
    (says_written c.in-Ok.len (texts_of c.args.texts.now) c.args.out.now c.combined.new.out c.args.fault_text.now
    c.args.fault_at.now c.args.fault_kind.now c.in-Ok.ensures.ok)

pub returns-in-Ok-clause-only : goal.returns-in-Ok-clause-only
returns-in-Ok-clause-only c =
    combine_only _ (texts_of c.args.texts.now) c.args.out.now c.combined.new.out c.args.fault_text.now
    c.args.fault_at.now c.args.fault_kind.now c.texts_are_read_so.ensures (says c)

pub returns-in-Ok-clause-the_fault : goal.returns-in-Ok-clause-the_fault
returns-in-Ok-clause-the_fault c =
    combine_fault _ (texts_of c.args.texts.now) c.args.out.now c.combined.new.out c.args.fault_text.now
    c.args.fault_at.now c.args.fault_kind.now c.texts_are_read_so.ensures (says c)

pub returns-in-Ok-clause-the_clash : goal.returns-in-Ok-clause-the_clash
returns-in-Ok-clause-the_clash c =
    combine_clash _ (texts_of c.args.texts.now) c.args.out.now c.combined.new.out c.args.fault_text.now
    c.args.fault_at.now c.args.fault_kind.now c.texts_are_read_so.ensures (says c)

-- ---- a text has a fault

fault : (c : goal.After-number) → HasTextFault (texts_of c.args.texts.now) c.in-Err-Fault.text c.in-Err-Fault.fault.at
    (kind_number c.in-Err-Fault.fault.kind)
fault c = subst (λ e. Refuses e (texts_of c.args.texts.now)) c.in-Err-Fault.field-0-is c.in-Err-Fault.ensures.refused

pub returns-in-Err-Fault-clause-only : goal.returns-in-Err-Fault-clause-only
returns-in-Err-Fault-clause-only c =
    combine_only (negsuc 0) (texts_of c.args.texts.now) [] [] c.in-Err-Fault.text c.in-Err-Fault.fault.at
    (kind_number c.in-Err-Fault.fault.kind) c.texts_are_read_so.ensures (fault c, refl)

pub returns-in-Err-Fault-clause-the_fault : goal.returns-in-Err-Fault-clause-the_fault
returns-in-Err-Fault-clause-the_fault c = λ text at kind is.
    let same = combine_fault (negsuc 0) (texts_of c.args.texts.now) [] [] c.in-Err-Fault.text c.in-Err-Fault.fault.at
    (kind_number c.in-Err-Fault.fault.kind) c.texts_are_read_so.ensures (fault c, refl) text at kind is in
    (same.0, same.1, c.number.ensures ∙ same.2)

pub returns-in-Err-Fault-clause-the_clash : goal.returns-in-Err-Fault-clause-the_clash
returns-in-Err-Fault-clause-the_clash c =
    combine_clash (negsuc 0) (texts_of c.args.texts.now) [] [] c.in-Err-Fault.text c.in-Err-Fault.fault.at
    (kind_number c.in-Err-Fault.fault.kind) c.texts_are_read_so.ensures (fault c, refl)

-- ---- a section clashes

clash : (c : goal.In-Err-Clash) → HasClash (texts_of c.args.texts.now) c.in-Err-Clash.text c.in-Err-Clash.section
clash c = subst (λ e. Refuses e (texts_of c.args.texts.now)) c.in-Err-Clash.field-0-is c.in-Err-Clash.ensures.refused

pub returns-in-Err-Clash-clause-only : goal.returns-in-Err-Clash-clause-only
returns-in-Err-Clash-clause-only c =
    combine_only (negsuc 2) (texts_of c.args.texts.now) [] [] c.in-Err-Clash.text c.in-Err-Clash.section 0
    c.texts_are_read_so.ensures (clash c, refl)

pub returns-in-Err-Clash-clause-the_fault : goal.returns-in-Err-Clash-clause-the_fault
returns-in-Err-Clash-clause-the_fault c =
    combine_fault (negsuc 2) (texts_of c.args.texts.now) [] [] c.in-Err-Clash.text c.in-Err-Clash.section 0
    c.texts_are_read_so.ensures (clash c, refl)

pub returns-in-Err-Clash-clause-the_clash : goal.returns-in-Err-Clash-clause-the_clash
returns-in-Err-Clash-clause-the_clash c =
    combine_clash (negsuc 2) (texts_of c.args.texts.now) [] [] c.in-Err-Clash.text c.in-Err-Clash.section 0
    c.texts_are_read_so.ensures (clash c, refl)
