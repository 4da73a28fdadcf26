-- What runs in a stream that is cut: the bytes behind the cuts whose digests were told. Public
-- clauses do not name these.
use Rattle.std.specs.Prelude.{◌≡◌, ℕ, ◌+◌, ◌*◌, ◌/◌, ◌<◌, ◌≤◌, min, List, [], ◌++◌, drop, length, take, Option, Some, None}
use Rattle.sha1.specs.Sha1.{sha1}
use Rattle.pieces.specs.Cuts.{filled_up}
use Rattle.pieces.specs.Cutting.{IsCutting}
use Rattle.pieces.specs.NextCuts.{KnowsCuts, cuts_told}
use Rattle.pieces.specs.Running.{IsRunning, bytes_untold, told_in}
use Rattle.pieces.specs.declared.cut_stream.CutStream.{CutStream}
use Rattle.pieces.specs.declared.next_cuts.NextCuts.{NextCuts}

-- how many bytes run
abbrev pub bytes_running : CutStream → ℕ
bytes_running s = s.cutter.filled + bytes_untold s.stages s.cutter.piece_length

-- these bytes run, in cuts of this length
pub record Runs (s : CutStream) (piece_length : ℕ) (running : List ℕ) : Type 0 where
  pub piece_length_is : s.cutter.piece_length ≡ piece_length
  pub held : IsRunning s.cutter s.stages piece_length running

-- more bytes came, and the digest of the first running cut is told, or none
pub record TellsCut (old : CutStream) (bytes : List ℕ) (digest : Option (List ℕ)) (new : CutStream)
    : Type 0 where
  pub piece_length : new.cutter.piece_length ≡ old.cutter.piece_length
  pub told : told_in new.stages ≤ told_in old.stages + cuts_told digest
  pub count : bytes_running new + old.cutter.piece_length * cuts_told digest
      ≡ bytes_running old + length bytes
  pub runs : (n : ℕ) (running : List ℕ) → Runs old n running
      → Runs new n (drop (n * cuts_told digest) (running ++ bytes))
  pub digest_is : (n : ℕ) (running : List ℕ) → Runs old n running
      → (d : List ℕ) → digest ≡ Some d
      → (n ≤ length (running ++ bytes)) × (d ≡ sha1 (take n (running ++ bytes)))

-- how often a stream is asked at most, until this many bytes are taken
abbrev pub turns : CutStream → ℕ → ℕ
turns s bytes = 2 * bytes + s.cutter.filled / s.cutter.piece_length

-- ---- the end of a stream

-- of the bytes that run, the digests of the first cuts are known, and the others are in the cutter
pub record IsLeft (s : CutStream) (left : NextCuts) (piece_length : ℕ) (running : List ℕ)
    : Type 0 where
  pub piece_length_is : s.cutter.piece_length ≡ piece_length
  pub known : KnowsCuts left piece_length running
  pub behind : IsCutting s.cutter (drop (left.left * piece_length) running)

-- how many cuts are left
abbrev pub cuts_left : CutStream → NextCuts → ℕ
cuts_left s left = left.left + min s.cutter.filled 1

-- the digest of the first cut that is left is told, or none is left
pub record TellsLeft (old : CutStream) (known : NextCuts) (digest : Option (List ℕ))
    (new : CutStream) (rest : NextCuts) : Type 0 where
  pub count : cuts_left new rest + cuts_told digest ≡ cuts_left old known
  pub none : (n : ℕ) (running : List ℕ) → IsLeft old known n running → digest ≡ None
      → running ≡ []
  pub some : (n : ℕ) (running : List ℕ) → IsLeft old known n running
      → (d : List ℕ) → digest ≡ Some d
      → (0 < length running) × (d ≡ sha1 (take n running)) × IsLeft new rest n (drop n running)

-- the digest of these bytes filled up with zeros, or there are none
pub record IsLastFilled (piece_length : ℕ) (bytes : List ℕ) (digest : Option (List ℕ))
    : Type 0 where
  pub none : digest ≡ None → bytes ≡ []
  pub some : (d : List ℕ) → digest ≡ Some d
      → (0 < length bytes) × (length bytes ≤ piece_length)
      × (d ≡ sha1 (filled_up piece_length bytes))
