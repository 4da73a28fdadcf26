use Rattle.std.proofs.Common.{refl, rules}
use Rattle.opening.specs.Seen.{tree_entry}
use Rattle.memory_tests.proofs.TorrentFiles.{fits_layer}
use Rattle.memory_tests.proofs.drafting.add_files.Goals as goal

pub add_again-requires : goal.add_again-requires
add_again-requires c = record {
  cuts = search rules;
  fits = fits_layer c.files.draft _ (tree_entry c.tree_of-tree.result) c.args.torrent.now.piece_length refl refl c.files.invariant c.tree_of-tree.ensures;
}
