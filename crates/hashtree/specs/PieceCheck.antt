-- What a check of pieces was given. Contracts of users cite these, and need nothing of how
-- `IsFedRow` and `IsFedCheck` are defined.
use Rattle.std.specs.Prelude.{◌≡◌, ℕ, ◌+◌, ◌++◌, ◌≤◌, [], List, Option, length}
use Rattle.hashtree.specs.Tree.{block_count, first_pad, height, layer_of}
use Rattle.hashtree.specs.Bits.{AreClear, AreMarked}
use Rattle.hashtree.specs.Difference.{IsCompared, IsComparison}
use Rattle.hashtree.specs.Complete.{complete_nodes}
use Rattle.hashtree.specs.RootBuilder.{IsFed}
use Rattle.hashtree.specs.RootBuilder as root
use Rattle.hashtree.specs.declared.piece_check.PieceCheck.{PieceCheck}

-- how many bytes the check was given
abbrev pub check_byte_count : PieceCheck → ℕ
check_byte_count c = root.byte_count c.builder

-- how many bytes the pieces have
abbrev pub chosen_shape : PieceCheck → ℕ
chosen_shape c = c.shape

-- the layer that is checked
abbrev pub chosen_layer : PieceCheck → ℕ
chosen_layer c = c.layer

-- the hashes that the pieces are to have
abbrev pub given_hashes : PieceCheck → List (List ℕ)
given_hashes c = c.hashes.now

-- the check was given this content, has compared the nodes over its pieces that are complete, and
-- has marked those that are the given hashes
pub record IsFedRow (c : PieceCheck) (good : List ℕ) (content : List ℕ) : Type 0 where
  pub fed : IsFed c.builder content
  pub whole : length c.hashes.now ≡ first_pad (block_count c.shape) c.layer
  pub nodes : IsCompared c.hashes.now (complete_nodes content c.layer) c.place c.other
  pub marked : AreMarked good c.hashes.now (complete_nodes content c.layer)

-- nothing was given yet to a check of a row of this many bytes against these hashes of this layer
pub record BeginsRow (size layer : ℕ) (hashes : List (List ℕ)) (c : PieceCheck) : Type 0 where
  pub count : check_byte_count c ≡ 0
  pub shape_is : chosen_shape c ≡ size
  pub layer_is : chosen_layer c ≡ layer
  pub hashes_are : given_hashes c ≡ hashes
  pub fed : (good : List ℕ) → AreClear good → IsFedRow c good []

-- a check of the same row, of which nothing was given yet, if there is a hash for each piece
pub record BeginsAnew (old new : PieceCheck) : Type 0 where
  pub count : check_byte_count new ≡ 0
  pub shape : chosen_shape new ≡ chosen_shape old
  pub layer : chosen_layer new ≡ chosen_layer old
  pub hashes : given_hashes new ≡ given_hashes old
  pub fed : (marked bytes : List ℕ) → IsFedRow old marked bytes
      → (good : List ℕ) → AreClear good → IsFedRow new good []

-- the check was given these further bytes, and marked the bits
pub record FeedsRow (old : PieceCheck) (marked : List ℕ) (bytes : List ℕ) (new : PieceCheck)
    (marks : List ℕ) : Type 0 where
  pub count : check_byte_count new ≡ check_byte_count old + length bytes
  pub shape : chosen_shape new ≡ chosen_shape old
  pub layer : chosen_layer new ≡ chosen_layer old
  pub hashes : given_hashes new ≡ given_hashes old
  pub bits : length marks ≡ length marked
  pub fed : (file : List ℕ) → IsFedRow old marked file → IsFedRow new marks (file ++ bytes)

-- ---- all pieces of a file

-- the check was given this content, and has compared the nodes of its layer that are complete
pub record IsFedCheck (c : PieceCheck) (content : List ℕ) : Type 0 where
  pub fed : IsFed c.builder content
  pub in_tree : c.layer ≤ height (block_count c.shape)
  pub whole : length c.hashes.now ≡ first_pad (block_count c.shape) c.layer
  pub nodes : IsCompared c.hashes.now (complete_nodes content c.layer) c.place c.other

-- nothing was given yet to a check of a file of this length against the hashes of this layer
pub record BeginsCheck (shape layer : ℕ) (hashes : List (List ℕ)) (c : PieceCheck) : Type 0 where
  pub count : check_byte_count c ≡ 0
  pub shape_is : chosen_shape c ≡ shape
  pub layer_is : chosen_layer c ≡ layer
  pub hashes_are : given_hashes c ≡ hashes
  pub fed : IsFedCheck c []

-- the check was given these further bytes
pub record FeedsCheck (old : PieceCheck) (bytes : List ℕ) (new : PieceCheck) : Type 0 where
  pub count : check_byte_count new ≡ check_byte_count old + length bytes
  pub shape : chosen_shape new ≡ chosen_shape old
  pub layer : chosen_layer new ≡ chosen_layer old
  pub hashes : given_hashes new ≡ given_hashes old
  pub fed : (file : List ℕ) → IsFedCheck old file → IsFedCheck new (file ++ bytes)

-- the first place of the checked layer of this file whose node is not the given hash, if any
pub record IsFirstBadNode (c : PieceCheck) (file : List ℕ) (other : Option ℕ) : Type 0 where
  pub size_is : length (layer_of file c.layer) ≡ length c.hashes.now
  pub compared : IsComparison (layer_of file c.layer) c.hashes.now other
