-- The bits of marked pieces, and the runs of those that are not set.
use Rattle.std.proofs.Common.{◌≡◌, ◌≢◌, inl, inr, ℕ, ◌+◌, ◌-◌, ◌*◌, ◌/◌, ◌%◌, ◌^◌, ◌<◌, ◌≤◌, List, length, drop, get_or, set}
use Rattle.std.proofs.Common.{sym, ap, ◌∙◌, arith, w8, bit_and}
use Rattle.std.specs.Global.{Vec}
use Rattle.std.specs.Int.{bit_at, bit_not}
use Rattle.std.specs.Vec.{with_items}
use Rattle.std.proofs.lemmas.Bool.{cases_eq, cases_lt}
use Rattle.std.proofs.lemmas.List.{get_or-set_other, get_or-set_same, take_at}
use Rattle.std.proofs.lemmas.Nat.Bits.{bit_at-lt, bit_at_clear_other, bit_at_clear_same, bit_at_ones}
use Rattle.hashtree.specs.Bits.{bit_of}
use Rattle.opening.specs.Description.{Description, FileEntry}
use Rattle.parts.specs.Parts.{piece_count}
use Rattle.parts.specs.Runs.{AreBadRuns, IsSetIfIn, Run}
use Rattle.parts.proofs.Runs.{same_runs}
use Rattle.part_reports.specs.Marks.{MarksMore}
use Rattle.part_reports.specs.WholeLines.{AreRunsOfMarks, IsNotBad}
use Rattle.part_reports.specs.declared.marked_report.BadPieces.{BadPieces}

-- ---- a bit

-- all bits of such a byte are set
pub set_in : (bits : List ℕ) (k : ℕ) → get_or bits (k / 8) 0 ≡ 255 → bit_of bits k ≡ 1
set_in bits k is = ap (λ byte. bit_at byte (7 - k % 8)) is ∙ bit_at_ones 8 (7 - k % 8) (omega arith)

-- a byte with one bit less
abbrev without : List ℕ → ℕ → ℕ
without bits p = bit_and (get_or bits (p / 8) 0) (bit_not w8 (1 * 2 ^ (7 - p % 8) % 256))

pub bit_is_clear : (bits : List ℕ) (p : ℕ) → p < 8 * length bits → bit_of (set bits (p / 8) (without bits p)) p ≡ 0
bit_is_clear bits p lt =
    ap (λ byte. bit_at byte (7 - p % 8)) (get_or-set_same bits (p / 8) (without bits p) 0 (omega (arith, lt)))
    ∙ bit_at_clear_same w8 (get_or bits (p / 8) 0) (7 - p % 8) (omega arith)

pub bit_stays : (bits : List ℕ) (p k : ℕ) → p < 8 * length bits → k ≢ p → bit_of (set bits (p / 8) (without bits p)) k ≡ bit_of bits k
bit_stays bits p k lt ne = elim (cases_eq (k / 8) (p / 8)) [
  | inl same ↦
      let apart : 7 - k % 8 ≢ 7 - p % 8 = λ e. ne (omega (arith, e, same)) in
      ap (λ i. bit_at (get_or (set bits (p / 8) (without bits p)) i 0) (7 - k % 8)) same
      ∙ ap (λ byte. bit_at byte (7 - k % 8)) (get_or-set_same bits (p / 8) (without bits p) 0 (omega (arith, lt)))
      ∙ bit_at_clear_other w8 (get_or bits (p / 8) 0) (7 - p % 8) (omega arith) (7 - k % 8) (omega arith) apart
      ∙ ap (λ i. bit_at (get_or bits i 0) (7 - k % 8)) (sym same)
  | inr apart ↦ ap (λ byte. bit_at byte (7 - k % 8)) (get_or-set_other bits (p / 8) (k / 8) (without bits p) 0 apart)
]

-- bytes that were written whole are those that were written
pub filled_items : (bits : Vec ℕ) (bytes : List ℕ) → length bytes ≡ length bits.items → (with_items bits bytes).items ≡ bytes
filled_items bits bytes same = take_at bytes (drop (length bytes) bits.items) bits.len (omega (arith, same, bits.ok.0))

-- ---- marks

-- one more piece is marked
pub one_marked : (old new : BadPieces) (piece : ℕ) → piece < 8 * length old.bits.items → length new.bits.items ≡ length old.bits.items
    → bit_of new.bits.items piece ≡ 0 → ((k : ℕ) → k ≢ piece → bit_of new.bits.items k ≡ bit_of old.bits.items k) → MarksMore (λ q. q ≡ piece) old new
one_marked old new piece there count clear others = record {
  count = count;
  each = λ q. (
    λ on. elim (cases_eq q piece) [
      | inl same ↦ inr same
      | inr apart ↦ inl (omega (arith, on.0, count), sym (others q apart) ∙ on.1)
    ],
    λ is. elim (cases_eq q piece) [
      | inl same ↦ (omega (arith, there, count, same), ap (bit_of new.bits.items) same ∙ clear)
      | inr apart ↦ elim is [
        | inl on ↦ (omega (arith, on.0, count), others q apart ∙ on.1)
        | inr same ↦ absurd (apart same)
      ]
    ],
  );
}

-- the runs of bits that are not set are those of marked pieces
pub marked_runs : (t : Description) (bad : BadPieces) (f : FileEntry) (count to : ℕ) (bits : List ℕ) (runs : List Run) → count ≡ piece_count t f
    → bits ≡ bad.bits.items → f.first_piece + piece_count t f ≤ 8 * length bad.bits.items → to ≤ piece_count t f
    → AreBadRuns (piece_count t f) to (IsSetIfIn f.first_piece 0 count bits) runs → AreRunsOfMarks t bad f to runs
marked_runs t bad f count to bits runs whole are room le =
    same_runs (piece_count t f) to (IsSetIfIn f.first_piece 0 count bits) (IsNotBad bad f) runs le (λ k lt.
    let p : ℕ = f.first_piece + k in
    let place : k - 0 + f.first_piece ≡ p = omega arith in
    let same = ap (λ l. bit_of l (k - 0 + f.first_piece)) are ∙ ap (bit_of bad.bits.items) place in (
      λ on marked. (let set = sym same ∙ on (omega arith) (omega (arith, lt, whole)) in omega (arith, set, marked.1)),
      λ good low high. elim (cases_lt (bit_of bad.bits.items p) 1) [
        | inl clear ↦ absurd (good (omega (arith, lt, room), omega (arith, clear)))
        | inr more ↦
            let is : bit_of bad.bits.items p ≡ 1 = omega (arith, more, bit_at-lt (get_or bad.bits.items (p / 8) 0) (7 - p % 8)) in
            same ∙ is
      ],
    ))
