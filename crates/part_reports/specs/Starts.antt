-- Where the parts of a check begin, counted from one to the next.
use Rattle.std.specs.Prelude.{◌≡◌, ℕ, ◌+◌, ◌/◌, ◌≤◌, length, take, sum_by}
use Rattle.opening.specs.Description.{Description, FileEntry}
use Rattle.parts.specs.Parts.{place_count}
use Rattle.parts.specs.Shares.{all_bytes}
use Rattle.part_reports.specs.declared.starts.Division.{Division}
use Rattle.part_reports.specs.declared.starts.Start.{Start}

-- the torrent divided into this many parts
pub record IsDivision (t : Description) (parts : ℕ) (d : Division) : Type 0 where
  pub parts_is : d.parts ≡ parts
  pub bytes_is : d.part_bytes ≡ all_bytes t / parts
  pub pieces_is : d.pieces + 1 ≡ place_count t

-- the files before this start have this many bytes, and no more than this
pub record IsPassed (t : Description) (s : Start) (byte : ℕ) : Type 0 where
  pub within : s.file ≤ length t.files
  pub bytes_is : s.bytes ≡ sum_by (λ (f : FileEntry). f.length) (take s.file t.files)
  pub before : s.bytes ≤ byte
