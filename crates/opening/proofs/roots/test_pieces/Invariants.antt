use Rattle.std.proofs.Common.{◌≡◌, ◌+◌, ◌<◌, ◌^◌, drop}
use Rattle.opening.specs.Trees.{pieces_in}
use Rattle.opening.proofs.roots.test_pieces.Given as goal

abbrev pub invariant-files : goal.invariant-files
invariant-files l = (l.pieces + pieces_in l.piece_length (drop l.file-index l.files) ≡ pieces_in l.piece_length l.files) × (l.pieces < 2 ^ 32)
