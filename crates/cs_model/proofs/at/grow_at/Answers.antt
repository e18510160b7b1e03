use Rattle.std.proofs.Common.{◌≡◌, ◌<◌, ◌≤◌, ◌+◌, ◌-◌, ◌^◌, ◌∙◌, ◌++◌, ℕ, List, suc, length, get_or, slice_set, drop}
use Rattle.std.proofs.Common.{take, ap, subst, sym, arith}
use Rattle.cs_model.specs.declared.at.At.{At}
use Rattle.cs_model.specs.Sections.{HasRoomFor, grown_index}
use Rattle.cs_model.proofs.texts.GrowthLaws.{can_in_place, grown_in_place, more_at}
use Rattle.cs_model.proofs.at.grow_at.Goals as goal

-- the last of the first `len` sections has room for so many bytes and changes
last_has_room : (ats : List At) (len size count : ℕ) (at : At) → 0 < len → len ≤ length ats
    → HasRoomFor (take len ats) size count → at ≡ get_or ats (len - 1) at
    → (at.size + size < 2 ^ 64) × (at.count + count < 2 ^ 64)
last_has_room ats len size count at some inside room is =
    let next : suc (len - 1) ≡ len = omega (arith, some) in
    let can = can_in_place ats (len - 1) size count at (omega (arith, some, inside))
    (subst (λ n. HasRoomFor (take n ats) size count) (sym next) room) in
    (omega (arith, can.0, ap (λ (a : At). a.size) is), omega (arith, can.1, ap (λ (a : At). a.count) is))

pub overflow_add-at : goal.overflow_add-at
overflow_add-at c =
    let can = last_has_room _ _ _ _ _ c.requires.some c.requires.inside c.requires.room c.index-at.ensures in
    omega (arith, can.0)

pub overflow_add-at-2 : goal.overflow_add-at-2
overflow_add-at-2 c =
    let can = last_has_room _ _ _ _ _ c.requires.some c.requires.inside c.requires.room c.index-at.ensures in
    omega (arith, can.1)

pub returns : goal.returns
returns c =
    let ats = c.args.ats.now.items in
    let size = c.args.size in
    let count = c.args.count in
    let next : suc (c.args.len - 1) ≡ c.args.len = omega (arith, c.requires.some) in
    ap (λ (a : At). slice_set ats (c.args.len - 1) (more_at a size count)) c.index-at.ensures
    ∙ grown_in_place ats (c.args.len - 1) size count c.index-at.result.now
    (omega (arith, c.requires.some, c.requires.inside))
    ∙ ap (λ n. grown_index (take n ats) size count ++ drop n ats) next
