use Rattle.std.proofs.Common.{rules, tests}
use Rattle.std.proofs.lemmas.Iterator.{YieldsList-from_slice}
use Rattle.std.proofs.lemmas.Iterator.Search.{all_from_yields_List}
use Rattle.std.specs.Char.{is_ascii_hexdigit}
use Rattle.rb_cases.proofs.pieces.are_hexadecimal.Goals as goal

pub returns : goal.returns
returns c = all_from_yields_List is_ascii_hexdigit _ _ c.all.result c.all.ensures.ran
    (YieldsList-from_slice _ c.iter.ensures.rest) (λ x b q k. search (rules, tests))
