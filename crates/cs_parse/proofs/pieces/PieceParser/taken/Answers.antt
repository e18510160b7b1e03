use Rattle.std.proofs.Common.{ap, ◌∙◌}
use Rattle.cs_parse.specs.Progress.{Progress}
use Rattle.cs_parse.proofs.joining.FeedLaws.{feed_none_left}
use Rattle.cs_parse.proofs.pieces.PieceParser.taken.Goals as goal

pub into_changeset-requires : goal.into_changeset-requires
into_changeset-requires c =
    let old = c.args.self.now in
    ap (λ (p : Progress). p.pending) c.parser.view_is ∙ ap (λ (p : Progress). p.pending) c.replace-parser.ensures.value
    ∙ feed_none_left old old.fault c.requires
