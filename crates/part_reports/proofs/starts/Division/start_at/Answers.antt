use Rattle.std.proofs.Common.{◌≡◌, ◌+◌, ◌-◌, ◌/◌, ◌≤◌, ℕ, take, drop, sum_by, slice_get, Some, sym, ap, subst, ◌∙◌, arith}
use Rattle.std.proofs.Math.Nat.{div-le_self}
use Rattle.std.proofs.lemmas.Option.{slice_get_within}
use Rattle.opening.specs.Description.{FileEntry}
use Rattle.opening.specs.Seen.{file_entry}
use Rattle.opening.proofs.Placing.{file_there}
use Rattle.parts.specs.Parts.{place_count, piece_count}
use Rattle.parts.specs.Shares.{piece_at_byte}
use Rattle.parts.proofs.SharedPlaces.{place_here, place_later, sum_next}
use Rattle.part_reports.proofs.PassedFiles.{byte_length, place_behind}
use Rattle.part_reports.proofs.starts.Division.start_at.Goals.{After-index-files-i}
use Rattle.part_reports.proofs.starts.Division.start_at.Goals as goal

pub files-init : goal.files-init
files-init c =
    let t = c.args.torrent.now in
    let file = c.args.before.file in
    let passed = c.requires.passed in
    let pl = t.piece_length in
    let past = place_count t in
    let sum : ℕ = sum_by byte_length (take file t.files) in
    let le : sum ≤ c.args.byte = omega (arith, passed.bytes_is, passed.before) in
    record {
      within = passed.within;
      passed = omega (arith, passed.bytes_is, passed.before);
      place = subst (λ k. piece_at_byte pl past (drop file t.files) (c.args.byte - k) ≡ piece_at_byte pl past t.files c.args.byte)
          (sym passed.bytes_is) (place_behind pl past t.files file c.args.byte passed.within le);
    }

-- the file that is looked at
module _ (c : After-index-files-i) where
  abbrev f : FileEntry
  f = file_entry c.index-files-i.result

  there : slice_get c.args.torrent.now.files c.files.i ≡ Some f
  there = file_there c.args.torrent.now c.files-files.result.now c.files.i c.index-files-i.result c.files-files.ensures c.files-test.true c.index-files-i.is

pub overflow_add-result : goal.overflow_add-result
overflow_add-result c =
    let t = c.args.torrent.now in
    let i = c.files.i in
    let file = (goal.at.overflow_add-result c).After-index-files-i in
    let end = sum_next (λ (g : FileEntry). piece_count t g) t i (f file) (there file) in
    let within : c.files.left / c.piece_length-piece_length.result ≤ c.files.left = div-le_self c.files.left c.piece_length-piece_length.result in
    omega (
      arith,
      end.1,
      c.recall_sound.ensures.laid_out.first_pieces i (f file) (there file),
      c.recall_sound.ensures.laid_out.pieces,
      within,
      (c.recall_sound.ensures.files i (f file) (there file)).bound,
      c.if-left-file.true,
    )

pub returns-then-left-file-clause-place : goal.returns-then-left-file-clause-place
returns-then-left-file-clause-place c =
    let t = c.args.torrent.now in
    let file = (goal.at.returns-then-left-file-clause-place c).After-index-files-i in
    ap (λ p. (f file).first_piece + c.files.left / p) c.piece_length-piece_length.ensures
    ∙ sym (place_here t.piece_length (place_count t) t.files c.files.i c.files.left (f file) (there file) c.if-left-file.true)
    ∙ c.files.invariant.place

pub files-preserved : goal.files-preserved
files-preserved c =
    let t = c.args.torrent.now in
    let i = c.files.i in
    let file = (goal.at.files-preserved c).After-index-files-i in
    let le = c.if-left-file.false in
    record {
      within = omega (arith, slice_get_within t.files i (f file) (there file));
      passed = omega (arith, (sum_next byte_length t i (f file) (there file)).0, le, c.files.invariant.passed);
      place = sym (place_later t.piece_length (place_count t) t.files i c.files.left (f file) (there file) le) ∙ c.files.invariant.place;
    }
