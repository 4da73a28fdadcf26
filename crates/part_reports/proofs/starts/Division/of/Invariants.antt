use Rattle.std.proofs.Common.{◌≡◌, take, sum_by}
use Rattle.opening.specs.Description.{FileEntry}
use Rattle.parts.specs.Parts.{piece_count}
use Rattle.part_reports.proofs.starts.Division.of.Given as goal

abbrev pub invariant-files : goal.invariant-files
invariant-files l = record {
  bytes : l.bytes ≡ sum_by (λ (f : FileEntry). f.length) (take l.file-index l.torrent.files);
  pieces : l.pieces ≡ sum_by (λ (f : FileEntry). piece_count l.torrent f) (take l.file-index l.torrent.files);
}
