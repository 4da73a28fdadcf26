use Rattle.std.proofs.Common.{◌≡◌, ◌≤◌, ◌+◌, drop, length, take, sum_by}
use Rattle.opening.specs.Description.{FileEntry}
use Rattle.parts.specs.Parts.{place_count}
use Rattle.parts.specs.Shares.{piece_at_byte}
use Rattle.part_reports.proofs.starts.Division.start_at.Given as goal

-- the bytes of the files before this one were passed, and this many are left up to the byte
abbrev pub invariant-files : goal.invariant-files
invariant-files l = record {
  within : l.i ≤ length l.torrent.files;
  passed : l.left + sum_by (λ (f : FileEntry). f.length) (take l.i l.torrent.files) ≡ l.byte;
  place : piece_at_byte l.torrent.piece_length (place_count l.torrent) (drop l.i l.torrent.files) l.left
      ≡ piece_at_byte l.torrent.piece_length (place_count l.torrent) l.torrent.files l.byte;
}
