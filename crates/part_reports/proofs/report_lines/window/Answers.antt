use Rattle.std.proofs.Common.{arith}
use Rattle.part_reports.proofs.Windows.{off_before, off_behind, risen}
use Rattle.part_reports.proofs.report_lines.window.Goals as goal

pub returns-clause-before : goal.returns-clause-before
returns-clause-before c = λ n f lt there.
    let t = c.args.torrent.now in
    let xs = c.files-files.result.now in
    let begun = c.begun_before-begun.ensures in
    off_before t c.args.places xs c.begun_before-begun.result c.recall_sound.ensures c.files-files.ensures
    (begun.point (risen t xs c.recall_sound.ensures c.files-files.ensures)) begun.bound n f (omega (arith, lt, c.saturating_sub-first.ensures)) there

pub returns-clause-behind : goal.returns-clause-behind
returns-clause-behind c =
    off_behind c.args.torrent.now c.args.places c.files-files.result.now c.begun_before-end.result c.files-files.ensures
    (c.begun_before-end.ensures.point (risen c.args.torrent.now c.files-files.result.now c.recall_sound.ensures c.files-files.ensures))
