-- A check of a whole file is that of the row of all its pieces.
use Rattle.std.proofs.Common.{arith, ◌≡◌, ℕ, ◌≤◌, List, [], ◌++◌, sym, subst}
use Rattle.std.proofs.lemmas.List.{nil_from_length}
use Rattle.hashtree.specs.declared.piece_check.PieceCheck.{PieceCheck}
use Rattle.hashtree.specs.Tree.{block_count, height}
use Rattle.hashtree.specs.PieceCheck.{FeedsCheck, FeedsRow, IsFedCheck, IsFedRow}

-- without a bitmap nothing is marked
pub as_row : (c : PieceCheck) (content : List ℕ) → IsFedCheck c content → IsFedRow c [] content
as_row c content at = record { fed = at.fed; whole = at.whole; nodes = at.nodes; marked = λ k lt. absurd (omega (arith, lt)) }

pub as_check : (c : PieceCheck) (content : List ℕ) → IsFedRow c [] content → c.layer ≤ height (block_count c.shape) → IsFedCheck c content
as_check c content at in_tree = record { fed = at.fed; in_tree = in_tree; whole = at.whole; nodes = at.nodes }

pub check_fed : (old new : PieceCheck) (bytes good : List ℕ) → FeedsRow old [] bytes new good → FeedsCheck old bytes new
check_fed old new bytes good feeds = record {
  count = feeds.count;
  shape = feeds.shape;
  layer = feeds.layer;
  hashes = feeds.hashes;
  fed = λ file at.
      let none : good ≡ [] = nil_from_length good feeds.bits in
      let high : old.layer ≤ height (block_count new.shape) = subst (λ s. old.layer ≤ height (block_count s)) (sym feeds.shape) at.in_tree in
      as_check new (file ++ bytes) (subst (λ t. IsFedRow new t (file ++ bytes)) none (feeds.fed file (as_row old file at)))
      (subst (λ l. l ≤ height (block_count new.shape)) (sym feeds.layer) high);
}
