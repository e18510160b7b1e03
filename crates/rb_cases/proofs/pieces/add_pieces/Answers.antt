use Rattle.std.proofs.Common.{◌∙◌, ap, length, min}
use Rattle.std.specs.Slice.Iter.{chunks_rest}
use Rattle.rb_cases.proofs.Cuts.{pieces_go_on}
use Rattle.rb_cases.proofs.pieces.add_pieces.Goals as goal

pub loop-piece-preserved : goal.loop-piece-preserved
loop-piece-preserved c =
    let was = c.loop-piece.invariant in
    let steps = c.in-Some.ensures.steps in
    let text = chunks_rest c.loop-piece.piece-iterator in
    record {
      size = steps.0 ∙ was.size;
      so_far = pieces_go_on c.args.size c.args.front.now text c.in-Some.piece.now (chunks_rest c.next.new.self)
          c.loop-piece.all.items c.push.new.self.items _ c.requires steps.1.0
          (steps.1.1 ∙ ap (λ n. min n (length text)) was.size) steps.1.2
          (cc (
            c.in_ok-push.ensures.items,
            c.in_ok-extend_from_slice-2.ensures.items,
            c.in_ok-extend_from_slice.ensures.items,
          )) was.so_far;
    }
