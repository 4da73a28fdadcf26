-- The cuts of several files that stand in a buffer (BEP 3, "pieces"; BEP 47, "Padding Files").
use Rattle.std.specs.Prelude.{◌≡◌, ℕ, ◌+◌, ◌-◌, ◌*◌, ◌<◌, ◌≤◌, min, List, length, slice_get, slice_index, Some}
pub use Rattle.lanes.specs.Lanes.{bytes_at}
use Rattle.pieces.specs.Cuts.{cut, filled_up}
use Rattle.pieces.specs.Pieces.{pieces_of}
use Rattle.sha1.specs.Sha1.{sha1}
use Rattle.file_windows.specs.Digests.{IsDigest, IsOwnDigest}
use Rattle.file_windows.specs.declared.cuts.window.CutWindow.{CutWindow}

-- how many cuts there are
abbrev pub cut_total : CutWindow → ℕ
cut_total w = w.count

-- how many bytes a cut has, with the zeros after it
abbrev pub length_of_cuts : CutWindow → ℕ
length_of_cuts w = w.piece_length

-- cut j of a file of this size at this byte of the buffer stands there
pub record IsCut (w : CutWindow) (first start size j : ℕ) : Type 0 where
  pub start_is : slice_index w.starts (first + j) ≡ start + w.piece_length * j
  pub size_is : slice_index w.sizes (first + j) ≡ min (size - w.piece_length * j) w.piece_length

-- a file of this size at this byte of the buffer has the cuts from this one on
pub record HasCuts (w : CutWindow) (first start size : ℕ) : Type 0 where
  pub within : first + pieces_of w.piece_length size ≤ w.count
  pub cuts : (j : ℕ) → j < pieces_of w.piece_length size → IsCut w first start size j

-- a cut stands in a buffer of this size, and is no longer than a piece
pub record StandsIn (w : CutWindow) (bytes i : ℕ) : Type 0 where
  pub inside : slice_index w.starts i + slice_index w.sizes i ≤ bytes
  pub fits : slice_index w.sizes i ≤ w.piece_length

-- and so do all cuts
abbrev pub AreCutsWithin : CutWindow → ℕ → Type 0
AreCutsWithin w bytes = (i : ℕ) → i < w.count → StandsIn w bytes i

-- each digest is that of a cut in this buffer, filled up with zeros
abbrev pub AreCutsHashed : CutWindow → List ℕ → Type 0
AreCutsHashed w buffer = (i : ℕ) → i < w.count
    → IsDigest buffer w.piece_length w.starts w.sizes w.digests i

-- each own digest is that of a cut in this buffer, as it is
abbrev pub AreOwnHashed : CutWindow → List ℕ → Type 0
AreOwnHashed w buffer = (i : ℕ) → i < w.count → IsOwnDigest buffer w.starts w.sizes w.own i

-- for the cuts of this file, each filled up with zeros to the piece length, these digests are
-- listed, as far as the list goes
abbrev pub AreFileCutsListed : ℕ → List (List ℕ) → List ℕ → Type 0
AreFileCutsListed piece_length listed file = (k : ℕ) → k < length listed
    → k < pieces_of piece_length (length file)
    → slice_get listed k ≡ Some (sha1 (filled_up piece_length (cut piece_length file k)))
