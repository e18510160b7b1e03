use Rattle.std.proofs.Common.{take}
use Rattle.changeset_c.specs.Combining.{SpellAll, texts_of}
use Rattle.changeset_c.proofs.combining.read.Given as goal

-- the texts so far spell the changesets
abbrev pub invariant-loop-text : goal.invariant-loop-text
invariant-loop-text l = SpellAll (texts_of (take l.text-index l.texts)) l.changesets.items
