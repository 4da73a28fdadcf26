-- What is assembled of parts that were each hashed on a machine with files of its own.
use Rattle.std.specs.Prelude.{◌≡◌, ℕ, ◌^◌, ◌<◌, ◌≤◌, List, [], ◌∷◌, length, take, drop, slice_get, Some, Result, IfErr}
use Rattle.drafts.specs.Outline.{Outline}
use Rattle.gathering.specs.Parts.{IsPartText, KnownPaths}
use Rattle.part_texts.specs.Divisions.{bytes_of, capped, hashed, offset_of, span_of, total_of}
use Rattle.part_texts.specs.Listings.{Inventory, Listed}
use Rattle.part_texts.specs.Readings.{CanBeListed}
use Rattle.part_texts.specs.Texts.{listing_text}
use Rattle.pieces.specs.Pieces.{IsPieceLength}
use Rattle.assembling.specs.AllTexts.{AreAllNumbers}
use Rattle.assembling.specs.Assembly.{Assembles}
use Rattle.assembling.specs.Outcome.{BlamesNoText, IsAssembled}
use Rattle.assembling.specs.declared.fault.AssembleFault.{AssembleFault}

-- each text is that of the part of this number, counted from 0, and true of what is known of the
-- files of the part's own machine
abbrev pub AreTextsApart : (ℕ → KnownPaths) → Inventory → (parts : ℕ) → List ℕ → List (List ℕ)
    → Type 0
AreTextsApart own l parts [] [] = Unit {0}
AreTextsApart own l parts [] (t ∷ ts) = ⊥
AreTextsApart own l parts (n ∷ ns) [] = ⊥
AreTextsApart own l parts (n ∷ ns) (t ∷ ts) =
    (n < parts) × IsPartText (own n) l n parts t × AreTextsApart own l parts ns ts

-- no two files have one path
abbrev pub HavePathsApart : List Listed → Type 0
HavePathsApart files = (i j : ℕ) (f g : Listed) → slice_get files i ≡ Some f
    → slice_get files j ≡ Some g → f.path ≡ g.path → i ≡ j

-- a file's content has the length that is listed, and of each part the bytes of its pieces are
-- those that the file has on the part's own machine, if its content there is known
pub record IsSpliced (own : ℕ → KnownPaths) (piece_length total parts before : ℕ) (f : Listed)
    (content : List ℕ) : Type 0 where
  pub size : f.bytes ≤ 2 ^ 46 → length content ≡ f.bytes
  pub pieces : (n : ℕ) (there : List ℕ) → n < parts → own n f.path ≡ Some (Some there)
      → let s = span_of piece_length total parts before f.bytes n in
      take (bytes_of piece_length f.bytes s) (drop (offset_of piece_length s) content)
      ≡ take (bytes_of piece_length f.bytes s) (drop (offset_of piece_length s) there)

-- so are the contents of these files, before which there are this many bytes
abbrev pub AreSpliced : (ℕ → KnownPaths) → (piece_length total parts before : ℕ) → List Listed
    → List (List ℕ) → Type 0
AreSpliced own piece_length total parts before [] [] = Unit {0}
AreSpliced own piece_length total parts before [] (c ∷ cs) = ⊥
AreSpliced own piece_length total parts before (f ∷ fs) [] = ⊥
AreSpliced own piece_length total parts before (f ∷ fs) (c ∷ cs) =
    IsSpliced own piece_length total parts before f c
    × AreSpliced own piece_length total parts (capped before (hashed f.bytes)) fs cs

-- Of the texts of all parts, in any order, which were each hashed on a machine with files of its
-- own, the draft is assembled that is gathered of the files whose pieces are those of the parts'
-- machines; or what such a draft refuses is refused, or memory is. The paths are those of a folder,
-- each once.
abbrev pub AllTextsAssembleApart : Type 0
AllTextsAssembleApart = (own : ℕ → KnownPaths) (l : Inventory) (parts : ℕ) (numbers : List ℕ)
    (texts : List (List ℕ)) (result : Result Outline AssembleFault) → CanBeListed l
    → length (listing_text l) < 2 ^ 64 → parts < 2 ^ 64 → IsPieceLength l.piece_length
    → HavePathsApart l.files → AreAllNumbers parts numbers → AreTextsApart own l parts numbers texts
    → IsAssembled texts result → (contents : List (List ℕ))
    × AreSpliced own l.piece_length (total_of l.files) parts 0 l.files contents
    × Assembles l contents result × IfErr result BlamesNoText
