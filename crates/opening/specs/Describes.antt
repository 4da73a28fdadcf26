-- What torrent a torrent file describes.
use Rattle.std.specs.Prelude.{◌≡◌, ℕ, ◌≤◌, List, length, map}
use Rattle.sha1.specs.Sha1.{sha1}
use Rattle.sha2.specs.Sha256.{sha256}
use Rattle.benc.specs.Value.{Bencode}
use Rattle.benc.specs.Spelling.{Spells}
use Rattle.benc.specs.Text.{spelling}
use Rattle.opening.specs.Description.{Description}
use Rattle.opening.specs.Legal.{IsLegal}
use Rattle.opening.specs.Refusals.{max_torrent, info_in, files_of, layers_in, piece_length_in, name_in, parts_of_torrent}
use Rattle.opening.specs.Trees.{AreFiles, roots_in}
use Rattle.opening.specs.PieceLayers.{tree_at}
use Rattle.opening.specs.Stream.{version1_in}

-- what the value says
pub record IsDescribed (value : Bencode) (t : Description) : Type 0 where
  pub name : t.name ≡ name_in value
  pub piece_length : t.piece_length ≡ piece_length_in value
  pub files : AreFiles (piece_length_in value) (files_of value) t.files
  pub trees : t.trees
      ≡ map (tree_at (piece_length_in value) (layers_in value)) (roots_in (files_of value))
  pub info_hash_v2 : t.info_hash_v2 ≡ sha256 (spelling (info_in value))
  pub info_hash_v1 : t.info_hash_v1 ≡ sha1 (spelling (info_in value))
  pub v1 : t.v1 ≡ version1_in (piece_length_in value) (parts_of_torrent value) (info_in value)

-- the bytes spell a value that is legal, and t is what it says
pub record Describes (bytes : List ℕ) (t : Description) : Type 0 where
  pub small : length bytes ≤ max_torrent
  pub value : Bencode
  pub spelled : Spells value bytes
  pub legal : IsLegal value
  pub described : IsDescribed value t
