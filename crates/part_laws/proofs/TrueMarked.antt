-- What a part tells of bad pieces that is true of its contents can be read.
use Rattle.std.proofs.Common.{◌≡◌, inl, inr, ℕ, zero, suc, ◌+◌, ◌<◌, ◌≤◌, List, [], ◌∷◌, slice_get, Option, Some}
use Rattle.std.proofs.Common.{refl, sym, ap, ◌∙◌, subst, arith}
use Rattle.std.proofs.lemmas.Bool.{cases_lt}
use Rattle.std.proofs.lemmas.Option.{none-some, same_Some}
use Rattle.opening.specs.Description.{Description, FileEntry}
use Rattle.opening.specs.Sound.{IsSound}
use Rattle.folders.specs.declared.report.FileVerdict.{FileVerdict}
use Rattle.folders.specs.declared.report.FileVerdict.TheVariants as file
use Rattle.parts.specs.Parts.{Holds, IsBadIn, IsPartVerdict, piece_count}
use Rattle.parts.specs.Runs.{AreRunsIn, IsBadRun, IsGoodIfIn, Run}
use Rattle.parts.specs.Shares.{share}
use Rattle.parts.specs.Spans.{end_in, first_in}
use Rattle.parts.specs.Telling.{AreMarkedRuns, has_runs}
use Rattle.parts.specs.declared.places.Places.{Places}
use Rattle.part_reports.specs.Marks.{AreRunsWithin, BeginsAtBad, CanTell}
use Rattle.part_reports.proofs.MarkedFiles.{verdict_at}
use Rattle.part_reports.proofs.Texts.{can_report}
use Rattle.part_laws.specs.MarkedTexts.{TrueMarkedPartsReport}
use Rattle.part_laws.proofs.MarkedPieces.{good_piece, long_in, own_good}
use Rattle.part_laws.proofs.RunsApart.{runs_within}
use Rattle.part_laws.proofs.SplicedBytes.{IsLong}

-- ---- runs among places

module _ (t : Description) (r : Places) (f : FileEntry) (bytes : List ℕ) where
  -- a piece of a run is among the places
  held_bad : (k : ℕ) → (IsGoodIfIn t r f bytes k → ⊥) → Holds r (f.first_piece + k)
  held_bad k bad = elim (cases_lt (f.first_piece + k) r.from) [
    | inl before ↦ absurd (bad (λ held. absurd (omega (arith, before, held.0))))
    | inr from ↦ elim (cases_lt (f.first_piece + k) r.to) [
      | inl inside ↦ (from, inside)
      | inr past ↦ absurd (bad (λ held. absurd (omega (arith, past, held.1))))
    ]
  ]

  run_inside : (x : Run) → IsBadRun (piece_count t f) (IsGoodIfIn t r f bytes) x → (first_in r f ≤ x.first) × (x.last < end_in t r f)
  run_inside x is =
      let first = held_bad x.first (is.bad x.first (omega arith) is.order) in
      let last = held_bad x.last (is.bad x.last is.order (omega arith)) in
      (omega (arith, first.0), omega (arith, last.1, is.inside))

  told_inside : (runs : List Run) → AreRunsIn t r f bytes runs → AreRunsWithin (first_in r f) (end_in t r f) runs
  told_inside runs are =
      runs_within (piece_count t f) (first_in r f) (end_in t r f) (piece_count t f) _ runs are (λ i x at. run_inside x (are.each i x at).0)

  -- ---- the first run

  -- runs of which one has the first bad piece begin with that piece
  begins : (k i : ℕ) (runs : List Run) (x : Run) → AreRunsIn t r f bytes runs → ((j : ℕ) → j < k → IsGoodIfIn t r f bytes j)
      → slice_get runs i ≡ Some x → x.first ≤ k → (y : Run) × (slice_get runs 0 ≡ Some y) × (y.first ≡ k)
  begins k i [] x are good at low = absurd (none-some x at)
  begins k i (y ∷ runs) x are good at low =
      let one = (are.each 0 y refl).0 in (
        y,
        refl,
        elim (cases_lt y.first k) [
          | inl early ↦ absurd (one.bad y.first (omega arith) one.order (good y.first early))
          | inr late ↦ first_one i at late
        ],
      )
    where
      first_one : (i : ℕ) → slice_get (y ∷ runs) i ≡ Some x → k ≤ y.first → y.first ≡ k
      first_one zero at late = (let same : y.first ≡ x.first = ap (λ (z : Run). z.first) (same_Some y x at) in omega (arith, late, low, same))
      first_one (suc i) at late =
          let after = are.ascend 0 (suc i) y x (omega arith) refl at in
          absurd (omega (arith, after, late, low, (are.each 0 y refl).0.order))

-- if the verdict names a bad piece, the runs begin with it
begins_at_bad : (t : Description) (n : ℕ) (r : Places) (f : FileEntry) (bytes : List ℕ) (p : ℕ) (runs : List Run) → IsSound t
    → slice_get t.files n ≡ Some f → IsBadIn t r f bytes p → AreRunsIn t r f bytes runs → BeginsAtBad f (file.Bad p) runs
begins_at_bad t n r f bytes p runs sound there bad are =
    let k : ℕ = bad.place in
    let held : Holds r (f.first_piece + k) = subst (Holds r) bad.place_is bad.held in
    let one = are.all k bad.inside (λ good. bad.differs (own_good t n f sound there k bad.inside bytes (long k bad.inside held) (good held).good)) in
    let first = begins t r f bytes k one.0 runs one.1 are before one.2 one.3 in
    (first.0, first.1, omega (arith, first.2, bad.place_is))
  where
    long : (k : ℕ) → k < piece_count t f → Holds r (f.first_piece + k) → IsLong t.piece_length f.length k bytes
    long k lt held = long_in t n f sound there k lt r bytes bad.end (bad.whole k lt held) held

    before : (j : ℕ) → j < bad.place → IsGoodIfIn t r f bytes j
    before j lt held =
        let inside : j < piece_count t f = omega (arith, lt, bad.inside) in
        good_piece t n f sound there j inside bytes (long j inside held) (bad.same_before j lt held)

-- ---- what a part tells

can_tell : (t : Description) (n : ℕ) (r : Places) (f : FileEntry) (content : Option (List ℕ)) (v : FileVerdict) (runs : List Run) → IsSound t
    → slice_get t.files n ≡ Some f → IsPartVerdict t r f content v → AreMarkedRuns t r f content v runs → CanTell t r f v (has_runs v) runs
can_tell t n r f content file.WrongLength runs sound there is told = (told_inside t r f told.0 runs told.2, tt)
can_tell t n r f content (file.Bad p) runs sound there is told =
    let same : is.0 ≡ told.0 = same_Some is.0 told.0 (sym is.1 ∙ told.1) in
    let bad = subst (λ b. IsBadIn t r f b p) same is.2 in
    (told_inside t r f told.0 runs told.2, begins_at_bad t n r f told.0 p runs sound there bad told.2)
can_tell t n r f content v runs sound there is told = told

pub true_marked_parts_report : TrueMarkedPartsReport
true_marked_parts_report t contents part count marked v1 sound there small are runs off = record {
  there = there;
  small = small;
  said = record { places = share t part count; marked = marked; v1 = v1 };
  places = refl;
  can = record {
    says = can_report t contents (share t part count) _ v1 are off;
    marks = λ n f x f_at x_at. can_tell t n (share t part count) f (contents n) x.0 x.1 sound f_at
        (are.each n f x.0 f_at (verdict_at marked n x x_at)) (runs n f x f_at x_at);
  };
  is = refl;
}
