-- What names one tree of a torrent: its pieces root and the length of its files (BEP 52, "pieces
-- root").
use Rattle.std.specs.Prelude.{ℕ}
pub use Rattle.hashtree.specs.Tree.{Fits}
use Rattle.node_maps.specs.Digest.{Hash}

-- a tree's root and the length of its files
pub record TreeRoot : Type 0 where
  pub root : Hash
  pub length : ℕ
