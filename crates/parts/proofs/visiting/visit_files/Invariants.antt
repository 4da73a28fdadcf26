use Rattle.std.proofs.Common.{◌≤◌, length, vec_capacity}
use Rattle.parts.specs.Checking.{shelf_and_sink}
use Rattle.parts.specs.Telling.{HasBits}
use Rattle.parts.proofs.ToldFirst.{IsToldFirst}
use Rattle.parts.proofs.visiting.visit_files.Given as goal

-- the first files were visited and told of
abbrev pub invariant-files : goal.invariant-files
invariant-files g l = record {
  room : length l.entries ≤ vec_capacity l.files;
  bits : HasBits l.torrent l.telling (vec_capacity l.bits);
  checked : IsToldFirst (g.V.Visitor.visiting l.visitor l.torrent) g.L.LineSink.spelled l.torrent l.telling
      (shelf_and_sink l.fn.shelf (g.L.LineSink.seen l.fn.out)) l.file-index
      l.files.items l.v1 (shelf_and_sink l.shelf (g.L.LineSink.seen l.out));
}
