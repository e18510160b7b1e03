use Rattle.std.proofs.Common.{◌++◌, ◌∙◌, ap}
use Rattle.std.proofs.lemmas.List.{nil_from_length}
use Rattle.std.specs.Slice.Iter.{chunks_rest}
use Rattle.hex.specs.Hex.{encode_lower}
use Rattle.rb_script.proofs.spelled.HexTexts.{hex_ends, hex_goes_on}
use Rattle.rb_script.proofs.texts.add_hex.Goals as goal

pub loop-piece-init : goal.loop-piece-init
loop-piece-init c =
    let same = c.into_iter-piece-iterator.ensures.into_iter_gives in
    ap (λ bytes. c.args.text.now.items ++ encode_lower bytes)
    (ap chunks_rest same ∙ c.chunks-piece-items.ensures.rest)

pub returns : goal.returns
returns c = hex_ends _ _ _ c.loop-piece.invariant (nil_from_length _ c.in-None.ensures.steps.1.0)

pub loop-piece-preserved : goal.loop-piece-preserved
loop-piece-preserved c =
    let made = c.loop-piece.text.items in
    hex_goes_on made _ _ _ _ _ c.loop-piece.invariant c.in-Some.ensures.steps.1.0
    (c.in_ok-extend_from_slice.ensures.items ∙ ap (λ t. made ++ t) (c.as_bytes.ensures.value ∙ c.in_ok-encode.ensures))
