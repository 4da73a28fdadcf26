use Rattle.std.proofs.Common.{◌≡◌, ◌+◌, ◌∷◌, ◌++◌, ◌∙◌, [], Some, length, slice_get, refl, sym, ap, subst, arith}
use Rattle.std.proofs.lemmas.Grind.{flat_map-append}
use Rattle.std.proofs.lemmas.List.{length-append}
use Rattle.std.proofs.lemmas.Option.{get_or_from_slice_get}
use Rattle.std.proofs.lemmas.Result.{err_from_is_err_and}
use Rattle.benc.proofs.Known.{Appends_nothing}
use Rattle.benc.proofs.Out.{Broke-append, Sent-append}
use Rattle.benc.specs.Device.{Broke, Sent}
use Rattle.chains.proofs.Cases.{item_at}
use Rattle.opening.specs.Description.{FileEntry}
use Rattle.lines.specs.Rows.{spell}
use Rattle.opening.specs.Seen.{file_entry}
use Rattle.parts.specs.Parts.{piece_count}
use Rattle.parts.proofs.SharedPlaces.{sum_next}
use Rattle.part_reports.specs.WholeLines.{SaysFiles, file_and_runs, whole_lines_rows}
use Rattle.opening.proofs.Placing.{file_there}
use Rattle.part_reports.proofs.WholePrints.{all_first, lines_push, none_first, one_first}
use Rattle.part_reports.proofs.Windows.{seen_length}
use Rattle.part_reports.proofs.whole_lines.say_files.Given.{Over}
use Rattle.part_reports.proofs.whole_lines.say_files.Goals.{After-index-files-i}
use Rattle.part_reports.proofs.whole_lines.say_files.Goals as goal

pub files-init : goal.files-init
files-init g c =
    ([], refl, none_first c.args.torrent.now c.args.joined.now, record { bytes = Appends_nothing _; faults = refl; flushes = refl })

-- the file whose lines are said, and its verdict
module _ (g : Over) (c : After-index-files-i g) where
  abbrev own : FileEntry
  own = file_entry c.index-files-i.result

  there : slice_get c.args.torrent.now.files c.files.i ≡ Some own
  there = file_there c.args.torrent.now c.files-files.result.now c.files.i c.index-files-i.result c.files-files.ensures c.files-test.true c.index-files-i.is

  behind : slice_get c.args.torrent.now.files (length c.files.invariant.0) ≡ Some own
  behind = ap (slice_get c.args.torrent.now.files) c.files.invariant.1 ∙ there

  said : slice_get c.args.joined.now.report.files.items (length c.files.invariant.0) ≡ Some c.index.result.now
  said =
      let items = c.args.joined.now.report.files.items in
      let all = seen_length c.args.torrent.now c.files-files.result.now c.files-files.ensures in
      let a = item_at items c.files.i (omega (arith, c.files-test.true, all, c.requires.files)) in
      let is = c.index.ensures ∙ get_or_from_slice_get items c.files.i a.0 c.index.result.now a.1 in
      ap (slice_get items) c.files.invariant.1 ∙ a.1 ∙ ap Some (sym is)

pub say_file-requires-clause-room : goal.say_file-requires-clause-room
say_file-requires-clause-room g c =
    let s = (goal.at.say_file-requires-clause-room g c).After-index-files-i in
    let end = sum_next (λ (f : FileEntry). piece_count c.args.torrent.now f) c.args.torrent.now c.files.i (own g s) (there g s) in
    omega (arith, end.1, c.recall_sound.ensures.laid_out.first_pieces c.files.i (own g s) (there g s), c.requires.room)

pub returns-in_err-say_file : goal.returns-in_err-say_file
returns-in_err-say_file g c =
    let t = c.args.torrent.now in
    let joined = c.args.joined.now in
    let spelled = g.L.LineSink.spelled in
    let seen = g.L.LineSink.seen in
    let s = (goal.at.returns-in_err-say_file g c).After-index-files-i in
    let so_far = c.files.invariant in
    let p = err_from_is_err_and c.from_residual.result c.from_residual.ensures.1 in
    let done = c.in_err-say_file.ensures in
    subst (SaysFiles spelled t joined (seen c.args.out.now) (seen c.say_file.new.out)) (sym p.1) (record {
      before = so_far.0;
      shows = so_far.2;
      file = own g s;
      file_is = behind g s;
      verdict = c.index.result.now;
      verdict_is = said g s;
      runs = done.0;
      first = done.1;
      broke = subst (Broke (seen c.args.out.now) (seen c.say_file.new.out))
          (sym (flat_map-append spelled (whole_lines_rows t so_far.0 t.files) (file_and_runs t (own g s) c.index.result.now done.0)))
          (Broke-append (seen c.args.out.now) (seen c.files.out) (seen c.say_file.new.out) (spell spelled (whole_lines_rows t so_far.0 t.files))
          (spell spelled (file_and_runs t (own g s) c.index.result.now done.0)) so_far.3 done.2);
    })

pub files-preserved : goal.files-preserved
files-preserved g c =
    let t = c.args.torrent.now in
    let joined = c.args.joined.now in
    let spelled = g.L.LineSink.spelled in
    let seen = g.L.LineSink.seen in
    let s = (goal.at.files-preserved g c).After-index-files-i in
    let v = c.index.result.now in
    let so_far = c.files.invariant in
    let done = c.in_ok-say_file.ensures in (
      so_far.0 ++ (v, done.0) ∷ [],
      length-append so_far.0 ((v, done.0) ∷ []) ∙ ap (λ n. n + 1) so_far.1,
      one_first t joined so_far.0 v done.0 (own g s) (behind g s) (said g s) done.1 so_far.2,
      subst (Sent (seen c.args.out.now) (seen c.say_file.new.out)) (sym (lines_push spelled t so_far.0 t.files v done.0 (own g s) (behind g s)))
          (Sent-append (seen c.args.out.now) (seen c.files.out) (seen c.say_file.new.out) (spell spelled (whole_lines_rows t so_far.0 t.files))
          (spell spelled (file_and_runs t (own g s) v done.0)) so_far.3 done.2),
    )

pub returns : goal.returns
returns g c =
    let t = c.args.torrent.now in
    let joined = c.args.joined.now in
    let so_far = c.files.invariant in
    let all = seen_length t c.files-files.result.now c.files-files.ensures in
    let count : length so_far.0 ≡ length joined.report.files.items =
    omega (arith, so_far.1, c.files-test.false, c.files.auto.i-end, all, c.requires.files) in
    (so_far.0, all_first t joined so_far.0 count so_far.2, so_far.3)
