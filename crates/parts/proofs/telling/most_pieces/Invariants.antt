use Rattle.std.proofs.Common.{◌≡◌, ◌<◌, ◌≤◌, ℕ, Some, slice_get}
use Rattle.opening.specs.Description.{FileEntry}
use Rattle.parts.specs.Parts.{piece_count}
use Rattle.parts.proofs.telling.most_pieces.Given as goal

abbrev pub invariant-files : goal.invariant-files
invariant-files l = (k : ℕ) (f : FileEntry) → k < l.file-index → slice_get l.torrent.files k ≡ Some f → piece_count l.torrent f ≤ l.most
