use Rattle.std.proofs.Common.{◌≡◌, ◌*◌, List, length, map}
use Rattle.parts.specs.Joins.{IsJoin}
use Rattle.parts.specs.Shares.{start}
use Rattle.part_reports.specs.Joined.{AreReadAs}
use Rattle.part_reports.specs.Lines.{MarkedPart, part_of}
use Rattle.part_reports.specs.MarkedJoins.{AreMarksOf}
use Rattle.part_reports.specs.Marks.{HasMarkRoom}
use Rattle.part_reports.specs.Starts.{IsPassed}
use Rattle.part_reports.proofs.joining.join_parts.Given as goal

-- the reports of the first parts were read, and are joined; and the next part begins here
abbrev pub invariant-parts : goal.invariant-parts
invariant-parts l =
    (parts : List MarkedPart) × (length parts ≡ l.part) × AreReadAs l.kind l.torrent (map (λ x. x.now) l.texts) l.numbers.count parts
    × IsJoin l.torrent (map part_of parts) l.joined.report.files.items l.joined.report.v1
    × (l.start.place ≡ start l.torrent l.part l.numbers.count)
    × IsPassed l.torrent l.start (l.division.part_bytes * l.part)
    × AreMarksOf l.torrent parts l.joined
    × HasMarkRoom l.kind l.division.pieces l.joined.bad
