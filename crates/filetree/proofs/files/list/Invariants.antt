use Rattle.std.proofs.Common.{◌≡◌, length, map, vec_len}
use Rattle.std.specs.Vec.{vec_capacity}
use Rattle.filetree.specs.FileTree.{file_of_walk}
use Rattle.filetree.specs.Walked.{walk_of}
use Rattle.filetree.proofs.files.list.Given as goal

abbrev pub invariant-files : goal.invariant-files
invariant-files l = record {
  files : l.listed.items ≡ map file_of_walk (map walk_of l.yielded);
  count : vec_len l.listed ≡ length l.yielded;
  room : vec_capacity l.listed ≡ length l.fn.files.items;
}
