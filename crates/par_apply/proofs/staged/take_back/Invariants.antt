use Rattle.std.proofs.Common.{◌≡◌, vec_len}
use Rattle.par_apply.specs.Staged.{without_places}
use Rattle.par_apply.proofs.staged.take_back.Given as goal

-- the places that are left are taken away next
abbrev pub invariant-loop-index : goal.invariant-loop-index
invariant-loop-index l = without_places l.tables l.changes l.rest.items
    ≡ without_places l.fn.tables l.fn.changes l.fn.made.items

abbrev pub decreases-loop-index : goal.decreases-loop-index
decreases-loop-index l = vec_len l.rest
