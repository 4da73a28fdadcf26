use Rattle.std.proofs.Common.{◌≡◌, ◌+◌, ◌++◌, length, map, vec_len, vec_capacity}
use Rattle.std.specs.Vec.Iter.{into_iter_items}
use Rattle.opening.specs.Trees.{entries_from}
use Rattle.opening.specs.Seen.{file_entry}
use Rattle.opening.specs.Trees.{pieces_in}
use Rattle.opening.proofs.roots.place_files.Given as goal

abbrev pub invariant-listed : goal.invariant-listed
invariant-listed l = record {
  entries : entries_from l.piece_length l.roots 0 l.fn.listed.items ≡ map file_entry l.files.items ++ entries_from l.piece_length l.roots l.first_piece
      (into_iter_items l.file-iterator);
  pieces : l.first_piece + pieces_in l.piece_length (into_iter_items l.file-iterator) ≡ pieces_in l.piece_length l.fn.listed.items;
  count : vec_len l.files + length (into_iter_items l.file-iterator) ≡ length l.fn.listed.items;
  room : vec_capacity l.files ≡ length l.fn.listed.items;
}
