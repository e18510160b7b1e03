use Rattle.cs_write.proofs.texts.SpellLaws.{text_spelled}
use Rattle.cs_write.proofs.laws.text_spells_form.Goals as goal

pub returns : goal.returns
returns c = text_spelled c.varint_spelled.ensures
