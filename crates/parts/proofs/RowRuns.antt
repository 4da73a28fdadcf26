-- The runs of bad pieces of a file, from the bits of some of its pieces in a row.
use Rattle.std.proofs.Common.{◌≡◌, ℕ, ◌+◌, ◌-◌, ◌*◌, ◌<◌, ◌≤◌, List, length, sym, ap, ◌∙◌, subst, arith}
use Rattle.std.specs.Prelude.{◌↔◌}
use Rattle.hashtree.specs.Bits.{IsClearRun, bit_of}
use Rattle.opening.specs.Description.{Description, FileEntry}
use Rattle.parts.specs.Parts.{piece_count}
use Rattle.parts.specs.RowBits.{AreBitsOf, HasGoodPiece}
use Rattle.parts.specs.Runs.{AreBadRuns, AreClearRuns, IsSetIfIn, Run}
use Rattle.parts.proofs.Runs.{IsNextRun, same_runs}

-- ---- runs of a row, by the numbers of the file

pub clear_next : (count bit from to at first end : ℕ) (bits : List ℕ) → from ≤ to → to ≤ count → bit ≤ at
    → IsClearRun bits at (bit + (to - from)) first end
    → IsNextRun (IsSetIfIn bit from to bits) (from + (at - bit)) count (from + (first - bit)) (from + (end - bit))
clear_next count bit from to at first end bits order inside begun run = record {
  low = omega (arith, run.low);
  some = omega (arith, run.some, run.low, begun);
  within = omega (arith, run.within, order, inside);
  before = λ k low high begins more. run.before (k - from + bit) (omega (arith, low, begins)) (omega (arith, high, low, begins));
  bad = λ k low high set. run.clear (k - from + bit) (omega (arith, low, begun, run.low)) (omega (arith, high, low))
      (set (omega (arith, low)) (omega (arith, high, run.within, order)));
  ends = λ more begins high.
      let same : end ≡ from + (end - bit) - from + bit = omega (arith, begun, run.low, run.some) in
      subst (λ n. bit_of bits n ≡ 1) same (run.ends (omega (arith, high, same)));
}

-- ---- the runs of a file

-- the pieces of a row, and a bit for each
pub record IsRow (t : Description) (f : FileEntry) (from to : ℕ) (bits : List ℕ) : Type 0 where
  pub order : from ≤ to
  pub inside : to ≤ piece_count t f
  pub room : to - from ≤ 8 * length bits

-- a bit tells whether a piece of the row is good
tells : (t : Description) (f : FileEntry) (from to : ℕ) (bytes bits : List ℕ) → IsRow t f from to bits → AreBitsOf t f from to bytes bits → (k : ℕ)
    → IsSetIfIn 0 from to bits k ↔ (from ≤ k → k < to → HasGoodPiece t f bytes k)
tells t f from to bytes bits row are k =
    let zero : k - from + 0 ≡ k - from = omega arith in
    let same = ap (bit_of bits) zero in (
      λ set low high.
          let there : from + (k - from) ≡ k = omega (arith, low) in
          subst (HasGoodPiece t f bytes) there ((are (k - from) (omega (arith, low, high, row.room))).0 (sym same ∙ set low high)).1,
      λ good low high.
          let there : from + (k - from) ≡ k = omega (arith, low) in
          same ∙ (are (k - from) (omega (arith, low, high, row.room))).1
          (omega (arith, low, high), subst (HasGoodPiece t f bytes) (sym there) (good low high)),
    )

-- of which pieces of a file it is asked whether they are good: those of a row
abbrev pub AsksOfRow : Description → FileEntry → ℕ → ℕ → (List ℕ → ℕ → Type 0) → Type 0
AsksOfRow t f from to IsGood = (bytes : List ℕ) (k : ℕ) → k < piece_count t f
    → (from ≤ k → k < to → HasGoodPiece t f bytes k) ↔ IsGood bytes k

-- the runs of bits are those of bad pieces
pub row_runs : (t : Description) (f : FileEntry) (from to end : ℕ) (IsGood : List ℕ → ℕ → Type 0) (bytes bits : List ℕ) (runs : List Run)
    → IsRow t f from to bits → AsksOfRow t f from to IsGood → end ≤ piece_count t f → AreBitsOf t f from to bytes bits
    → AreClearRuns t f from to bits end runs
    → AreBadRuns (piece_count t f) end (IsGood bytes) runs
row_runs t f from to end IsGood bytes bits runs row asks le bits_are are =
    same_runs (piece_count t f) end (IsSetIfIn 0 from to bits) (IsGood bytes) runs le
    (λ k lt. (
      λ set. (asks bytes k lt).0 ((tells t f from to bytes bits row bits_are k).0 set),
      λ good. (tells t f from to bytes bits row bits_are k).1 ((asks bytes k lt).1 good),
    ))
    are
