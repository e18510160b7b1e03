use Rattle.std.proofs.Common.{◌≡◌, ◌-◌, ◌^◌, ◌<◌, ◌≤◌, drop}
use Rattle.cs_model.specs.Packed.{read_from}
use Rattle.cs_model.proofs.varint.varint_first.Given as goal

abbrev pub invariant-loop-byte : goal.invariant-loop-byte
invariant-loop-byte l = record {
  at : l.read ≡ l.byte-index;
  few : l.read ≤ 8;
  below : l.value < 128 ^ l.read;
  reads : read_from (8 - l.read) l.value l.read (drop l.read l.bytes) ≡ read_from 8 0 0 l.bytes;
}
