-- Boxes from the kit's allocator, and what they and their parts own.
use base.Shift.{Keyless}
use mir.Raw.{raw}
use mir.Syntax.{Sym, impl, tnil, dnil}
use mathlib.Core.List.{[]}
use mathlib.Core.Path.{◌≡◌, subst, sym}
use denote.Memory.{lone}
use denote.Param.Laws.{Laws}
use denote.Exit.{Exit, Kept, hidden, under}
use denote.Param.Send.{AllSend, IsSend, Quiet, owning_send, struct_send}
use denote.RattleType.{RattleType}
use denote.RawPtr.{Ptr}
use denote.Struct.Owning.{Owning, fields, row as row_of, shape, to}
use denote.Struct.Struct.{exits_of}
use Rattle.std.specs.Global.{Global}
use Rattle.std.specs.Prelude.{Bool, true, false}
use Rattle.std.proofs.Crossing as heap
use Rattle.std_alloc.proofs.BoxSteps.Form.{Bx}
use Rattle.std_alloc.proofs.SendSync.{lies, quiet}
use Rattle.std_heap.specs.contracts.Global as Heap
use Rattle.std_heap.specs.contracts.GlobalAllocator.TheImpl.{ghosts, dict}
use Rattle.std_heap.proofs.Global.TheLaws as laws_of
use Rattle.broker_c.specs.Boxed.{owns_if}
use Rattle.broker_c.specs.contracts.parts.BoxParts as Parts

-- a box of such a value
abbrev pub box_of : (row : RattleType) → Laws row → Bx
box_of row laws = record {
  row = row;
  laws = laws;
  al = record {
    row = Heap.the_row;
    laws = laws_of.the_row_laws;
    g = ghosts;
    d = dict;
    drops = impl [] tnil dnil;
  };
}

-- its parts
abbrev pub parts_row : RattleType → RattleType
parts_row row = Parts.the_row row Heap.the_row ghosts

-- the name of their struct
abbrev pub parts_name : RattleType → Sym
parts_name row = (Parts.the_type row Heap.the_row ghosts).name

-- what is owned of a box may go to another thread, if its value may
pub owned : (row : RattleType) → IsSend row → (full : Bool) (alloc : Global) (pointer : Ptr) (held : row.Denot)
    → Keyless (owns_if row full alloc pointer held)
owned row sends true alloc pointer held =
    (lies row sends pointer held, heap.frees.frees alloc (raw (lone row.mir)) pointer)
owned row sends false alloc pointer held = tt

-- an owner may go to another thread if its fields may, and what it owns beside them
pub sends_owned : (T : Owning) → AllSend (fields T) → ((d : T.D) → Keyless (T.heap d))
    → ((k : Kept) → T.exit k ≡ hidden (under (to T) (exits_of k (fields T)))) → IsSend (row_of T)
sends_owned T all keyless is = owning_send T all keyless (λ k. subst (λ (e : Exit T.D). Quiet e) (sym (is k))
    (quiet (to T) (exits_of k (fields T)) ((struct_send (shape T) all).leaving k)))
