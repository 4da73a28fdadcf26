use Rattle.std.proofs.Common.{◌≡◌, ℕ, ◌<◌, ◌≤◌, length, slice_get, Some}
use Rattle.folders.specs.declared.report.FileVerdict.{FileVerdict}
use Rattle.parts.specs.Worse.{worse}
use Rattle.parts.proofs.verdicts.join.Given as goal

abbrev pub invariant-files : goal.invariant-files
invariant-files l = record {
  own : length l.report.files.items ≡ l.count;
  other : length l.part.files.items ≡ l.count;
  done : (n : ℕ) (v w : FileVerdict) → n < l.i → slice_get l.fn.report.files.items n ≡ Some v → slice_get l.part.files.items n ≡ Some w
      → slice_get l.report.files.items n ≡ Some (worse v w);
  rest : (n : ℕ) → l.i ≤ n → slice_get l.report.files.items n ≡ slice_get l.fn.report.files.items n;
  stays : l.report.v1 ≡ l.fn.report.v1;
}
