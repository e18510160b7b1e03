use Rattle.std.proofs.Common.{◌≡◌, ◌++◌, List, OnOk, sym, subst}
use Rattle.cs_model.specs.Changeset.{IsChangeset}
use Rattle.cs_model.specs.Section.{Section}
use Rattle.cs_parse.proofs.feeding.GrowingLaws.{last_flags_long, no_table}
use Rattle.cs_parse.proofs.growing.add.Goals as goal

pub append-requires : goal.append-requires
append-requires c =
    subst (λ (ss : List Section). IsChangeset (ss ++ c.args.others))
    (no_table c.args.changeset.now _ c.args.whole.count c.args.whole.canonical c.in_default.ensures.flags
    c.requires.joins) c.requires.valid

pub returns-in_default-clause-ok : goal.returns-in_default-clause-ok
returns-in_default-clause-ok c =
    subst (λ (ss : List Section). OnOk c.append.result (c.append.new.self ≡ ss ++ c.args.others))
    (sym (no_table c.args.changeset.now _ c.args.whole.count c.args.whole.canonical c.in_default.ensures.flags
    c.requires.joins)) c.append.ensures.ok

pub join-requires-clause-last : goal.join-requires-clause-last
join-requires-clause-last c = last_flags_long c.args.changeset.now c.in-Some.flags.now c.in-Some.ensures.flags
