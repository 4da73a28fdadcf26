use Rattle.std.proofs.Common.{◌≡◌, length, vec_capacity}
use Rattle.hashtree.specs.Bits.{AreClear}
use Rattle.parts.proofs.room.clear_bits.Given as goal

abbrev pub invariant-bytes : goal.invariant-bytes
invariant-bytes l = record {
  clear : AreClear l.bits.items;
  count : length l.bits.items ≡ l._byte;
  capacity : vec_capacity l.bits ≡ vec_capacity l.fn.bits;
}
