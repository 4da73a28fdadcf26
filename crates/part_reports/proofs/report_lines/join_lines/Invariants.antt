use Rattle.std.proofs.Common.{◌≡◌, ◌≤◌, length}
use Rattle.part_reports.proofs.SoFar.{LinesSoFar}
use Rattle.part_reports.proofs.report_lines.join_lines.Given as goal

-- the verdicts on the first files were read and joined
abbrev pub invariant-files : goal.invariant-files
invariant-files l = record {
  within : l.i ≤ length l.torrent.files;
  so_far : LinesSoFar l.kind l.torrent l.places l.fn.lines l.fn.joined.report.files.items l.joined.report.files.items l.fn.joined.bad l.joined.bad l.i
      l.worst l.rest;
  stays : l.joined.report.v1 ≡ l.fn.joined.report.v1;
}
