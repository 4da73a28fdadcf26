use Rattle.std.proofs.Common.{◌≡◌, take, sum_by}
use Rattle.opening.specs.Description.{FileEntry}
use Rattle.parts.proofs.places.byte_count.Given as goal

abbrev pub invariant-files : goal.invariant-files
invariant-files l = l.bytes ≡ sum_by (λ (f : FileEntry). f.length) (take l.file-index l.torrent.files)
