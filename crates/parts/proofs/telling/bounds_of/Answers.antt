use Rattle.std.proofs.Common.{◌≡◌, ◌+◌, ◌-◌, ◌*◌, ◌^◌, ◌<◌, ◌≤◌, ◌∙◌, ℕ, ap, arith}
use Rattle.opening.specs.Description.{Description, FileEntry}
use Rattle.opening.specs.Seen.{file_entry}
use Rattle.opening.specs.Sound.{IsSound}
use Rattle.folders.specs.Verdicts.{IsFileOf}
use Rattle.parts.specs.Parts.{piece_count}
use Rattle.parts.proofs.GoodPieces.{piece_fits}
use Rattle.parts.proofs.telling.bounds_of.Goals as goal

-- the pieces from one up to another lie in the torrent and in the file, and the file is small
record Fit (t : Description) (f : FileEntry) (from to : ℕ) : Type 0 where
  first : f.first_piece + from < 2 ^ 32
  last : f.first_piece + (to - 1) < 2 ^ 32
  begins : t.piece_length * from < 2 ^ 46
  ends : t.piece_length * to < 2 ^ 47

fits : (t : Description) (f : FileEntry) (from to : ℕ) → IsSound t → IsFileOf t f → from < to → to ≤ piece_count t f → Fit t f from to
fits t f from to sound file lt le =
    let pl : ℕ = t.piece_length in
    let low = piece_fits t file.0 f from sound file.1 (omega (arith, lt, le)) in
    let high = piece_fits t file.0 f (to - 1) sound file.1 (omega (arith, lt, le)) in
    let bound = (sound.files file.0 f file.1).bound in
    let end : to ≡ (to - 1) + 1 = omega (arith, lt) in
    let k : ℕ = to - 1 in
    let next : pl * to ≡ pl * k + pl = ap (λ n. pl * n) end ∙ (let e : pl * (k + 1) ≡ pl * k + pl = omega arith in e) in
    record {
      first = low.0;
      last = high.0;
      begins = omega (arith, low.2, bound);
      ends = omega (arith, next, high.2, high.3, bound);
    }

pub overflow_add-result : goal.overflow_add-result
overflow_add-result c = omega (
  arith,
  (fits c.args.torrent.now (file_entry c.args.file.now) c.args.from c.args.to c.recall_sound.ensures c.requires.file
      c.requires.some c.requires.inside).first,
)

pub overflow_add-result-2 : goal.overflow_add-result-2
overflow_add-result-2 c = omega (
  arith,
  (fits c.args.torrent.now (file_entry c.args.file.now) c.args.from c.args.to c.recall_sound.ensures c.requires.file
      c.requires.some c.requires.inside).last,
)

pub overflow_mul-result : goal.overflow_mul-result
overflow_mul-result c =
    let same = ap (λ p. p * c.args.from) c.piece_length-piece_length.ensures in
    let fit = fits c.args.torrent.now (file_entry c.args.file.now) c.args.from c.args.to c.recall_sound.ensures c.requires.file c.requires.some
    c.requires.inside in
    omega (arith, same, fit.begins)

pub overflow_mul-piece_length : goal.overflow_mul-piece_length
overflow_mul-piece_length c =
    let same = ap (λ p. p * c.args.to) c.piece_length-piece_length.ensures in
    let fit = fits c.args.torrent.now (file_entry c.args.file.now) c.args.from c.args.to c.recall_sound.ensures c.requires.file c.requires.some
    c.requires.inside in
    omega (arith, same, fit.ends)
