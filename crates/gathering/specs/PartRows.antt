-- What is found of some pieces of a file in a row, and how it is written (BEP 52, "piece layers",
-- "pieces root"; BEP 3, "pieces"; BEP 47, "Padding Files").
use Rattle.std.specs.Prelude.{◌≡◌, ◌⊎◌, ℕ, ◌+◌, ◌<◌, Bool, true, false, nat_le, if◌then◌else◌, List, [], ◌∷◌, ◌++◌, length, Option, Some, None, Result, Ok, Err}
use Rattle.std.specs.Io.KnownBytes.{IsAtEnd}
use Rattle.std.specs.List.{flat_map}
use Rattle.sha1.specs.Sha1.{sha1}
use Rattle.benc.specs.Device.{SourceSeen, one_more}
use Rattle.folders.specs.TakeAll.{IsReadWithin}
use Rattle.folders.specs.declared.taking.ReadFault.{ReadFault}
use Rattle.folders.specs.declared.taking.ReadFault.TheVariants as fault
use Rattle.gathering.specs.Hashing.{AreHashesOf}
use Rattle.gathering.specs.declared.hashing.FileHashes.{FileHashes}
use Rattle.hashtree.specs.Pieces.{piece_nodes}
use Rattle.hashtree.specs.Tree.{root_of}
use Rattle.opening.specs.PieceLayers.{piece_layer}
use Rattle.pieces.specs.Cuts.{cut_digests, filled_up, last_cut_of}
use Rattle.wire.specs.Reading.{Gave}

-- the nodes over some pieces of a file of n bytes: those of the layer in which one hash covers a
-- piece, or the root of a file that is no longer than a piece
abbrev pub row_nodes : ℕ → ℕ → List ℕ → List (List ℕ)
row_nodes piece_length n row =
    if nat_le n piece_length then root_of row ∷ [] else piece_nodes (piece_layer piece_length) row

-- a hybrid's digests of these pieces, and at last that of the last one filled up with zeros
abbrev pub row_cuts : ℕ → Bool → List ℕ → List (List ℕ)
row_cuts piece_length hybrid row =
    if hybrid then cut_digests piece_length row
    ++ sha1 (filled_up piece_length (last_cut_of piece_length row)) ∷ [] else []

-- hashes one behind the other
abbrev pub joined_hashes : List (List ℕ) → List ℕ
joined_hashes hashes = flat_map (λ x. x) hashes

-- what is written of a row of pieces: nothing if there is none
abbrev pub row_text : ℕ → Bool → ℕ → List ℕ → List ℕ
row_text piece_length hybrid n [] = []
row_text piece_length hybrid n (b ∷ bytes) =
    joined_hashes (row_nodes piece_length n (b ∷ bytes))
    ++ joined_hashes (row_cuts piece_length hybrid (b ∷ bytes))

-- ---- reading

-- a source gave this row of this many bytes, and nothing else; there it ended, if it was to
pub record GivesRow (size : ℕ) (ends : Bool) (old new : SourceSeen) (row : List ℕ) : Type 0 where
  pub size_is : length row ≡ size
  pub gave : Gave old new row
  pub ended : ends ≡ true → IsAtEnd new.left

-- a source ended before this many bytes, or had one more where it was to end
pub record EndsElsewhere (size : ℕ) (ends : Bool) (old new : SourceSeen) : Type 0 where
  pub bytes : List ℕ
  pub gave : Gave old new bytes
  pub why : ((length bytes < size) × IsAtEnd new.left)
      ⊎ ((ends ≡ true) × (length bytes ≡ size + 1))

-- whether a source is over, if it is to end here: it gave one byte if not
abbrev pub EndsHere : Bool → SourceSeen → SourceSeen → Bool → Type 0
EndsHere ends old new true = Gave old new [] × (ends ≡ true → IsAtEnd new.left)
EndsHere ends old new false =
    (ends ≡ true) × (bytes : List ℕ) × Gave old new bytes × (length bytes ≡ 1)

-- a source gave a row, and these are its hashes
pub record ReadsRowHashes (piece_length : ℕ) (hybrid : Bool) (size : ℕ) (ends : Bool)
    (old new : SourceSeen) (found : FileHashes) : Type 0 where
  pub row : List ℕ
  pub gives : GivesRow size ends old new row
  pub hashes : AreHashesOf piece_length hybrid row found

-- what came of reading a row: its hashes; or the source ends elsewhere; or a read failed, before a
-- byte behind the row; or memory was refused, once the row was read. A failed read is one fault
abbrev pub ReadsCounted : ℕ → Bool → ℕ → Bool → Result (Option FileHashes) ReadFault → SourceSeen
    → SourceSeen → Type 0
ReadsCounted piece_length hybrid size ends (Ok (Some found)) old new =
    ReadsRowHashes piece_length hybrid size ends old new found × (new.faults ≡ old.faults)
ReadsCounted piece_length hybrid size ends (Ok None) old new =
    EndsElsewhere size ends old new × (new.faults ≡ old.faults)
ReadsCounted piece_length hybrid size ends (Err fault.Device) old new =
    IsReadWithin size old new × (new.faults ≡ one_more old.faults)
ReadsCounted piece_length hybrid size ends (Err fault.NoMemory) old new =
    ((row : List ℕ) × GivesRow size ends old new row) × (new.faults ≡ old.faults)
