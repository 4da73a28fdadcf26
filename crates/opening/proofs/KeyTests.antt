-- What the keys of a torrent file say.
use Rattle.std.proofs.Common.{◌≡◌, List, ℕ, Some, refl, arith, codes}
use Rattle.benc.specs.Text.{Fits, IsCanonical}
use Rattle.benc.specs.Value.{Bencode, dict}
use Rattle.filetree.specs.Dictionary.{get, value_under_key}
use Rattle.filetree.proofs.Ascending.{pairs_fit, value_fits}
use Rattle.opening.specs.Refusals.{file_tree_in, info_in}

pub value_found : (key : List ℕ) (v w : Bencode) → get key v ≡ Some w → value_under_key key v ≡ w
value_found key v w is = rw is refl

-- the file tree may be part of a spelled value
pub tree_fits : (v : Bencode) → IsCanonical v → Fits 126 (dict (file_tree_in v))
tree_fits v fits =
    pairs_fit 126 (value_under_key (codes "file tree") (info_in v)) (omega arith)
    (value_fits 127 (codes "file tree") (info_in v) (omega arith) (value_fits 128 (codes "info") v (omega arith) fits))
