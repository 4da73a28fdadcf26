-- What is read again of what a part says.
use Rattle.std.specs.Prelude.{◌≡◌, ℕ, ◌^◌, ◌<◌, List, [], ◌++◌, length, slice_index_or, Result, Ok, Err, ⊤}
use Rattle.std.specs.List.{flat_map}
use Rattle.std.specs.Str.{IsUtf8}
use Rattle.part_texts.specs.Listings.{Inventory, Listed}
use Rattle.part_texts.specs.declared.reading.ListingFault.{ListingFault}
use Rattle.part_texts.specs.declared.reading.ListingFault.TheVariants as fault

-- a text in UTF-8, the number of whose bytes is of 64 bits
pub record IsText (text : List ℕ) : Type 0 where
  pub small : length text < 2 ^ 64
  pub utf8 : IsUtf8 text

-- the components of a path are texts, and their number is of 64 bits
pub record ArePath (path : List (List ℕ)) : Type 0 where
  pub few : length path < 2 ^ 64
  pub texts : (i : ℕ) → i < length path → IsText (slice_index_or path i [])

-- a file whose path is so, and whose length is of 64 bits
pub record IsFile (f : Listed) : Type 0 where
  pub small : f.bytes < 2 ^ 64
  pub path : ArePath f.path

-- files that are so, and whose number is of 64 bits
pub record AreFilesOfListing (files : List Listed) : Type 0 where
  pub few : length files < 2 ^ 64
  pub each : (i : ℕ) (d : Listed) → i < length files → IsFile (slice_index_or files i d)

-- what a folder may be found to hold
pub record CanBeListed (l : Inventory) : Type 0 where
  pub piece_length : l.piece_length < 2 ^ 64
  pub name : IsText l.name
  pub files : AreFilesOfListing l.files

-- this was read, unless memory was refused
abbrev pub ReadsUnlessNoMemory : {A : Type 0} → Result A ListingFault → (A → Type 0) → Type 0
ReadsUnlessNoMemory (Ok a) P = P a
ReadsUnlessNoMemory (Err fault.None) P = ⊥
ReadsUnlessNoMemory (Err fault.NoMemory) P = ⊤

-- the text begins with what is written of these, which are this many and each of which may be; this
-- is what stands behind them
pub record IsRun {A : Type 0} (write : A → List ℕ) (MayBe : A → Type 0) (text : List ℕ) (count : ℕ)
    (run : List A) (rest : List ℕ) : Type 0 where
  pub count_is : length run ≡ count
  pub each : (i : ℕ) (d : A) → i < length run → MayBe (slice_index_or run i d)
  pub text_is : text ≡ flat_map write run ++ rest
