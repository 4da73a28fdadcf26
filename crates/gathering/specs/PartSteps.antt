-- What came of hashing the rows of a part, one by one. Public clauses do not name these.
use Rattle.std.specs.Prelude.{◌≡◌, ℕ, Bool, List, ◌++◌, Option, Some, None, Result, Ok, Err}
use Rattle.benc.specs.Device.{SourceSeen}
use Rattle.benc.specs.declared.device.DeviceFault.{DeviceFault}
use Rattle.chains.specs.Chain.{Chain}
use Rattle.folders.specs.declared.shelf.Shelf.{Ghosts}
use Rattle.folders.specs.declared.taking.ReadFault.{ReadFault}
use Rattle.folders.specs.declared.taking.ReadFault.TheVariants as reading
use Rattle.gathering.specs.Hashing.{AreHashesOf}
use Rattle.gathering.specs.declared.hashing.FileHashes.{FileHashes}
use Rattle.part_texts.specs.Listings.{Listed}
use Rattle.gathering.specs.Parts.{AreRows, IsRow, rows_text}
use Rattle.gathering.specs.PartRows.{row_text}
use Rattle.gathering.specs.PartVisits.{FailsAtShare, LacksMemoryAtShare, MissesShare, Share, StopsIn, VisitsShare, shares_of}
use Rattle.gathering.specs.declared.part_fault.PartFault.{PartFault}
use Rattle.gathering.specs.declared.part_fault.PartFault.TheVariants as fault

-- what was hashed of the file at this place, or why nothing was, by what came of a visit
abbrev pub found_by : ℕ → Result (Option (Result (Option FileHashes) ReadFault)) DeviceFault
    → Result FileHashes PartFault
found_by place (Ok (Some (Ok (Some found)))) = Ok found
found_by place (Ok (Some (Ok None))) = Err (fault.Changed place)
found_by place (Ok (Some (Err reading.NoMemory))) = Err fault.NoMemory
found_by place (Ok (Some (Err reading.Device))) = Err (fault.Device place)
found_by place (Ok None) = Err (fault.Changed place)
found_by place (Err e) = Err (fault.Device place)

module _ {S F : Type 0} (shelf : Ghosts S F)
    (opens_at : S → List (List ℕ) → ℕ → Result (Option F) DeviceFault → S → Type 0)
    (seen : F → SourceSeen) (piece_length : ℕ) (hybrid : Bool) where
  -- ---- one share

  -- why the share of the file at this place was not hashed
  abbrev pub FaultsAtShare : ℕ → PartFault → S → Share → S → Type 0
  FaultsAtShare n fault.PieceLength s x s' = ⊥
  FaultsAtShare n (fault.Device place) s x s' =
      (place ≡ n) × FailsAtShare shelf opens_at seen piece_length s x s'
  FaultsAtShare n (fault.Changed place) s x s' =
      (place ≡ n) × MissesShare shelf opens_at seen piece_length s x s'
  FaultsAtShare n fault.NoMemory s x s' =
      LacksMemoryAtShare shelf opens_at seen piece_length s x s'

  -- a row was read of a share, which is that of the file as far as it is known, and this was hashed
  -- of it
  pub record FindsRow (s : S) (x : Share) (s' : S) (found : FileHashes) : Type 0 where
    pub row : List ℕ
    pub visits : VisitsShare shelf opens_at seen piece_length s x row s'
    pub is : IsRow (shelf.contents s).under piece_length x.file x.span row
    pub hashes : AreHashesOf piece_length hybrid row found

  abbrev pub FindsShare : ℕ → S → Share → S → Result FileHashes PartFault → Type 0
  FindsShare place s x s' (Ok found) = FindsRow s x s' found
  FindsShare place s x s' (Err f) = FaultsAtShare place f s x s'

  -- the same, and what was hashed came behind a text
  pub record PutsRow (s : S) (x : Share) (s' : S) (old new : List ℕ) : Type 0 where
    pub row : List ℕ
    pub visits : VisitsShare shelf opens_at seen piece_length s x row s'
    pub is : IsRow (shelf.contents s).under piece_length x.file x.span row
    pub text_is : new ≡ old ++ row_text piece_length hybrid x.file.bytes row

  abbrev pub PutsShare : ℕ → S → Share → S → (old new : List ℕ) → Result (Unit {0}) PartFault
      → Type 0
  PutsShare place s x s' old new (Ok u) = PutsRow s x s' old new
  PutsShare place s x s' old new (Err f) = FaultsAtShare place f s x s'

  -- ---- all shares

  module _ (total parts part : ℕ) (files : List Listed) where
    -- the shares of all files were visited, and what was hashed of them came behind a text
    pub record PutsAll (s s' : S) (old new : List ℕ) : Type 0 where
      pub rows : List (List ℕ)
      pub are : AreRows (shelf.contents s).under piece_length total parts part 0 files rows
      pub text_is : new ≡ old ++ rows_text piece_length hybrid files rows
      pub visited : Chain (VisitsShare shelf opens_at seen piece_length) s
          (shares_of piece_length total parts part 0 files) rows s'
      pub quiet : shelf.faults s' ≡ shelf.faults s

    abbrev pub PutsRows : (s s' : S) → (old new : List ℕ) → Result (Unit {0}) PartFault → Type 0
    PutsRows s s' old new (Ok u) = PutsAll s s' old new
    PutsRows s s' old new (Err f) = StopsIn shelf opens_at seen piece_length
        (shares_of piece_length total parts part 0 files) s s' f
