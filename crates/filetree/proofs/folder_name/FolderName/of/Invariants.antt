use Rattle.std.proofs.Common.{◌≡◌, length, take, vec_len}
use Rattle.std.specs.Vec.{vec_capacity}
use Rattle.filetree.proofs.folder_name.FolderName.of.Given as goal

abbrev pub invariant-bytes : goal.invariant-bytes
invariant-bytes l = record {
  bytes : l.bytes.items ≡ take l.byte-index l.name;
  count : vec_len l.bytes ≡ l.byte-index;
  room : vec_capacity l.bytes ≡ length l.name;
}
