-- The names that the walks share.
pub use mathlib.Core.Path.{◌≡◌, refl, sym, subst, ap, ◌∙◌}
pub use mathlib.Core.List.{List, [], ◌∷◌, ◌++◌}
pub use lib.Dec.{T, lit<}
pub use mir.Syntax.{Fn, Body, Args, a_type, dcons, dnil, place, copy, assign, rv_opd, seq, return}
pub use mir.MapTy.{inst_fn}
pub use mir.Raw.{raw as bare}
pub use mir.Val.{Val, vptr, vstruct, of_list, has_ty, WT}
pub use base.Logic.{emp, id⊢, never, fst∗}
pub use base.Fml.{ftrue, fsep, flft}
pub use contract.BorrowLft.{◌⊑◌}
pub use contract.Monad.{fact}
pub use contract.Running.{tables}
pub use prog.Wp.{WpFn}
pub use types.Logic.{sem}
pub use types.Kit.{Item, at_ret, ‵, raw, ◌⊛◌, some, later, ◌$◌, ◌∵◌, !, qed, move, drop, use1, join, split}
pub use types.Kit.{split3, pick, rewrite, regoal, prop, fsplit, fjoin, fpick, fpack, feq_i, feq_l, suffices, await}
pub use types.Kit.{done}
pub use types.Part.{whole, sub, agg}
pub use types.Run.{stop, fld, lit, no_more, and_then, of_opd, returns, enter, first, blocks, exec}
pub use types.ByLocal.{alloc_all, pass_all, free_all, look_at, get, get_in, sets, lands_as, lands_last, env}
pub use denote.RattleType.{RattleType, Valss}
pub use denote.Exit.{yes, no}
pub use denote.Param.{bounded}
pub use denote.RawPtr.{Ptr, RawPtr, block_ptr, null_ptr, ptr_val, in_a_block}
pub use denote.Signature.{plain, type_at}
pub use denote.Steps.{heard, nothing, only}
pub use denote.Struct.Tuple.{Tuple}
pub use denote.Triple.Call.{calls_at, calls_at_last}
pub use denote.Triple.Spec.{triple_of}
pub use denote.Triple.Table.{framed}
pub use denote.Triple.Walked.{says, Stays, stay_dropped, walk_of, ends_at, Goes-dropped}
pub use Rattle.core.proofs.alloc.Calls.{α, token, handle_tells, Goes-blank}
pub use Rattle.std_alloc.specs.Box.Ownership.{box_owns}
pub use Rattle.std_alloc.proofs.BoxSteps.Form.{Bx, D, τ, R, P, B, args, box_ty, word, box_typed}
pub use Rattle.std_alloc.proofs.BoxSteps.Steps.{box_out, box_in}
pub use Rattle.std.specs.Prelude.{Bool, true, false}
pub use Rattle.std.proofs.raw_atomic.Walks.{proved_at}
pub use denote.Struct.Struct.{within}
pub use denote.Struct.Owning.{shape, fields, to}
pub use Rattle.std_alloc.proofs.ResultValues.{and_tt}
