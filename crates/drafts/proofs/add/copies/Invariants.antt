use Rattle.std.proofs.Common.{◌≡◌, length, take, vec_len}
use Rattle.std.specs.Vec.{vec_capacity}
use Rattle.drafts.proofs.add.copies.Given as goal

abbrev pub invariant-digests : goal.invariant-digests
invariant-digests g l = record {
  digests : l.copies.items ≡ take l.digest-index l.digests;
  count : vec_len l.copies ≡ l.digest-index;
  room : vec_capacity l.copies ≡ length l.digests;
}
