-- What stands behind the fronts of parts' texts. Public clauses do not name these.
use Rattle.std.specs.Prelude.{◌≡◌, ◌≢◌, ℕ, ◌+◌, ◌-◌, ◌<◌, ◌≤◌, Bool, List, length, map, slice_get, Some}
use Rattle.part_texts.specs.Divisions.{first_piece}
use Rattle.part_texts.specs.Listings.{Listed}
use Rattle.part_texts.specs.declared.reading.ListingFault.{ListingFault}
use Rattle.part_texts.specs.declared.reading.ListingFault.TheVariants as listing
use Rattle.assembling.specs.Sizes.{row_size, rows_size}
use Rattle.assembling.specs.declared.fault.AssembleFault.{AssembleFault}
use Rattle.assembling.specs.declared.fault.AssembleFault.TheVariants as fault
use Rattle.assembling.specs.declared.numbers.Parts.{Parts}

-- what stands behind the fronts, in the order of the parts
abbrev pub behind : Parts → List (List ℕ)
behind p = map (λ r. r.now) p.rows.items

-- how many bytes a part says of a file of this length, before which there are this many bytes
abbrev pub said_size : (piece_length : ℕ) → Bool → (total parts before bytes part : ℕ) → ℕ
said_size piece_length hybrid total parts before bytes part =
    row_size hybrid (first_piece piece_length total parts before bytes (part + 1)
    - first_piece piece_length total parts before bytes part)

-- behind each front there is room for what this part says of such a file
abbrev pub HaveRoom : (piece_length : ℕ) → Bool → (total parts before bytes : ℕ) → List (List ℕ)
    → Type 0
HaveRoom piece_length hybrid total parts before bytes rests =
    (part : ℕ) (rest : List ℕ) → slice_get rests part ≡ Some rest
    → said_size piece_length hybrid total parts before bytes part ≤ length rest

-- behind each front stand as many bytes as this part says of these files
abbrev pub AreLong : (piece_length : ℕ) → Bool → (total parts before : ℕ) → List Listed
    → List (List ℕ) → Type 0
AreLong piece_length hybrid total parts before files rests =
    (part : ℕ) (rest : List ℕ) → slice_get rests part ≡ Some rest
    → length rest ≡ rows_size piece_length hybrid total parts part before files

-- the text at this place is the first, in the order of the parts, that has another number of bytes
-- behind its front than its part says of these files
pub record IsFirstOther (piece_length : ℕ) (hybrid : Bool) (total parts : ℕ) (files : List Listed)
    (p : Parts) (place : ℕ) : Type 0 where
  pub part : ℕ
  pub rest : List ℕ
  pub at : slice_get p.places.items part ≡ Some place
  pub there : slice_get (behind p) part ≡ Some rest
  pub other : length rest ≢ rows_size piece_length hybrid total parts part 0 files
  pub before : (q : ℕ) (earlier : List ℕ) → q < part → slice_get (behind p) q ≡ Some earlier
      → length earlier ≡ rows_size piece_length hybrid total parts q 0 files

-- such a text is named, and nothing else
abbrev pub NamesFirstOther : (piece_length : ℕ) → Bool → (total parts : ℕ) → List Listed → Parts
    → AssembleFault → Type 0
NamesFirstOther piece_length hybrid total parts files p (fault.NoPart place) =
    IsFirstOther piece_length hybrid total parts files p place
NamesFirstOther piece_length hybrid total parts files p e = ⊥

-- the fault of a listing that was not read, of the text at this place
abbrev pub unread_as : ListingFault → ℕ → AssembleFault
unread_as listing.None place = fault.NoPart place
unread_as listing.NoMemory place = fault.NoMemory
