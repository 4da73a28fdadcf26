-- The numbers, names and texts of refusals, as they are printed.
use Rattle.std.specs.Prelude.{ℕ, List, codes}
use Rattle.partial_tree.specs.declared.refusal.HashRefusal.{HashRefusal}
use Rattle.partial_tree.specs.declared.refusal.HashRefusal.TheVariants.{UnknownRoot, BadRange, BadCount, BadPad, Unanchored, Mismatch, NoMemory, Unasked}
use Rattle.partial_tree.specs.declared.refusal.BlockRefusal.{BlockRefusal}
use Rattle.partial_tree.specs.declared.refusal.BlockRefusal.TheVariants.{BadPlace, BadSize, Unproved, BadBlock}
use Rattle.partial_tree.specs.declared.refusal.PieceRefusal.{PieceRefusal}
use Rattle.partial_tree.specs.declared.refusal.PieceRefusal.TheVariants as piece

-- the number of a refusal of hashes, which is the order of the tests of a tree
abbrev pub hash_refusal_number : HashRefusal → ℕ
hash_refusal_number UnknownRoot = 1
hash_refusal_number BadRange = 2
hash_refusal_number BadCount = 3
hash_refusal_number BadPad = 4
hash_refusal_number Unanchored = 5
hash_refusal_number Mismatch = 6
hash_refusal_number NoMemory = 7
hash_refusal_number Unasked = 8

-- the printed name of a refusal of hashes
abbrev pub hash_refusal_name : HashRefusal → List ℕ
hash_refusal_name UnknownRoot = codes "UnknownRoot"
hash_refusal_name BadRange = codes "BadRange"
hash_refusal_name BadCount = codes "BadCount"
hash_refusal_name BadPad = codes "BadPad"
hash_refusal_name Unanchored = codes "Unanchored"
hash_refusal_name Mismatch = codes "Mismatch"
hash_refusal_name NoMemory = codes "NoMemory"
hash_refusal_name Unasked = codes "Unasked"

-- the printed number of a refusal of a block
abbrev pub block_refusal_number : BlockRefusal → ℕ
block_refusal_number BadPlace = 1
block_refusal_number BadSize = 2
block_refusal_number Unproved = 3
block_refusal_number BadBlock = 4

-- the printed name of a refusal of a block
abbrev pub block_refusal_name : BlockRefusal → List ℕ
block_refusal_name BadPlace = codes "BadPlace"
block_refusal_name BadSize = codes "BadSize"
block_refusal_name Unproved = codes "Unproved"
block_refusal_name BadBlock = codes "BadBlock"

-- what `{}` prints of a refusal of hashes
abbrev pub hash_refusal_text : HashRefusal → List ℕ
hash_refusal_text UnknownRoot = codes "no tree of the torrent has this root"
hash_refusal_text BadRange = codes "the hashes are for no range of the tree"
hash_refusal_text BadCount = codes "the number of hashes is wrong"
hash_refusal_text BadPad = codes "a hash past the end of the file is not the one over pads"
hash_refusal_text Unanchored = codes "the hashes lead to no known node"
hash_refusal_text Mismatch = codes "a hash differs from a known one"
hash_refusal_text NoMemory = codes "out of memory"
hash_refusal_text Unasked = codes "nobody asked for the hashes"

-- what `{}` prints of a refusal of a block
abbrev pub block_refusal_text : BlockRefusal → List ℕ
block_refusal_text BadPlace = codes "there is no block at this place"
block_refusal_text BadSize = codes "the block has another size"
block_refusal_text Unproved = codes "the hash of the block is not known yet"
block_refusal_text BadBlock = codes "the block has another hash"

-- what `{}` prints of a refusal of a piece
abbrev pub piece_refusal_text : PieceRefusal → List ℕ
piece_refusal_text piece.BadPlace = codes "there is no piece of this number"
piece_refusal_text piece.BadSize = codes "the piece has another size"
piece_refusal_text piece.Unproved = codes "the hash of the piece is not known yet"
piece_refusal_text piece.NoMemory = codes "out of memory"
piece_refusal_text piece.BadPiece = codes "the piece has another hash"
