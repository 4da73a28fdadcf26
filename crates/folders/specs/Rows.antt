-- How the check of a row of pieces ends.
use Rattle.std.specs.Prelude.{◌≡◌, ℕ, List, Option, length}
use Rattle.hashtree.specs.Tree.{root_of}
use Rattle.hashtree.specs.Judging.{IsJudgedRow}
use Rattle.hashtree.specs.PieceCheck.{IsFedRow, chosen_layer, given_hashes}
use Rattle.hashtree.specs.declared.piece_check.PieceCheck.{PieceCheck}
use Rattle.pieces.specs.Marks.{AreMarkedWhole}

-- the root and the first other place of whatever bytes the check was given, and their marks
pub record EndsRow (c : PieceCheck) (marked root : List ℕ) (other : Option ℕ) (good : List ℕ)
    : Type 0 where
  pub found : (bytes : List ℕ) → IsFedRow c marked bytes → (root ≡ root_of bytes)
      × IsJudgedRow (chosen_layer c) (given_hashes c) bytes good other
  pub bits : length good ≡ length marked

-- the marks of the whole pieces of whatever bytes the check was given
pub record EndsEarly (c : PieceCheck) (marked good : List ℕ) : Type 0 where
  pub found : (bytes : List ℕ) → IsFedRow c marked bytes
      → AreMarkedWhole good (given_hashes c) (chosen_layer c) bytes
  pub bits : length good ≡ length marked
