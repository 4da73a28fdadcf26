-- The texts of keys, and the numbers, names and texts of refusals.
use Rattle.std.specs.Prelude.{ℕ, List, [], ◌++◌, codes, decimal}
use Rattle.benc.specs.Messages.{kind_name}
use Rattle.filetree.specs.declared.refusal.Key.{Key}
use Rattle.filetree.specs.declared.refusal.Key.TheVariants as keys
use Rattle.filetree.specs.declared.refusal.Refusal.{Refusal}
use Rattle.filetree.specs.declared.refusal.Refusal.TheVariants as refusals

-- a key as a torrent file spells it (BEP 52, "metainfo files"); `top` stands for the top value
abbrev pub key_spelling : Key → List ℕ
key_spelling keys.Top = codes "top"
key_spelling keys.Info = codes "info"
key_spelling keys.MetaVersion = codes "meta version"
key_spelling keys.FileTree = codes "file tree"
key_spelling keys.Name = codes "name"
key_spelling keys.PieceLength = codes "piece length"
key_spelling keys.PieceLayers = codes "piece layers"

-- the printed number of a refusal of a torrent
abbrev pub refusal_number : Refusal → ℕ
refusal_number refusals.TooLarge = 1
refusal_number (refusals.NotBencode f) = 2
refusal_number (refusals.Missing k) = 3
refusal_number (refusals.WrongType k) = 4
refusal_number refusals.Version = 5
refusal_number refusals.PieceLength = 6
refusal_number refusals.Shape = 7
refusal_number refusals.Path = 8
refusal_number refusals.Symlink = 9
refusal_number refusals.Length = 10
refusal_number refusals.Root = 11
refusal_number refusals.RootReused = 12
refusal_number refusals.NoFiles = 13
refusal_number refusals.TooManyPieces = 14
refusal_number refusals.LayerMissing = 15
refusal_number refusals.LayerSize = 16
refusal_number refusals.LayerMismatch = 17
refusal_number refusals.HybridFiles = 18
refusal_number refusals.HybridAlign = 19
refusal_number refusals.HybridPieces = 20
refusal_number refusals.NoMemory = 21
refusal_number refusals.PathClash = 22
refusal_number refusals.Write = 23

-- the printed name of a refusal of a torrent
abbrev pub refusal_name : Refusal → List ℕ
refusal_name refusals.TooLarge = codes "TooLarge"
refusal_name (refusals.NotBencode f) = codes "NotBencode"
refusal_name (refusals.Missing k) = codes "Missing"
refusal_name (refusals.WrongType k) = codes "WrongType"
refusal_name refusals.Version = codes "Version"
refusal_name refusals.PieceLength = codes "PieceLength"
refusal_name refusals.Shape = codes "Shape"
refusal_name refusals.Path = codes "Path"
refusal_name refusals.Symlink = codes "Symlink"
refusal_name refusals.Length = codes "Length"
refusal_name refusals.Root = codes "Root"
refusal_name refusals.RootReused = codes "RootReused"
refusal_name refusals.NoFiles = codes "NoFiles"
refusal_name refusals.TooManyPieces = codes "TooManyPieces"
refusal_name refusals.LayerMissing = codes "LayerMissing"
refusal_name refusals.LayerSize = codes "LayerSize"
refusal_name refusals.LayerMismatch = codes "LayerMismatch"
refusal_name refusals.HybridFiles = codes "HybridFiles"
refusal_name refusals.HybridAlign = codes "HybridAlign"
refusal_name refusals.HybridPieces = codes "HybridPieces"
refusal_name refusals.NoMemory = codes "NoMemory"
refusal_name refusals.PathClash = codes "PathClash"
refusal_name refusals.Write = codes "Write"

-- what is printed after the name: the kind of a fault of bencoding and where it is, or a key
abbrev pub refusal_detail : Refusal → List ℕ
refusal_detail (refusals.NotBencode f) =
    codes " " ++ (kind_name f.kind ++ (codes " " ++ decimal f.offset))
refusal_detail (refusals.Missing k) = codes " " ++ key_spelling k
refusal_detail (refusals.WrongType k) = codes " " ++ key_spelling k
refusal_detail _ = []

-- the printed text of a refusal: its number, its name, and what belongs to it
abbrev pub refusal_words : Refusal → List ℕ
refusal_words r =
    decimal (refusal_number r) ++ (codes " " ++ (refusal_name r ++ refusal_detail r))
