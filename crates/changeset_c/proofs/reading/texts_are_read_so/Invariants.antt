use Rattle.std.proofs.Common.{take}
use Rattle.changeset_c.specs.Combining.{AreReadSo, texts_of}
use Rattle.changeset_c.proofs.reading.texts_are_read_so.Given as goal

-- the texts so far are read so
abbrev pub invariant-loop-text : goal.invariant-loop-text
invariant-loop-text l = AreReadSo (texts_of (take l.text-index l.texts))
