-- What the reasons of faults make together.
use Rattle.std.specs.Prelude.{◌≡◌, ℕ, List}
use Rattle.opening.specs.Description.{Description}
use Rattle.part_reports.specs.Reasons.{AreAllReportsOf, HasReasonOf}
use Rattle.part_reports.specs.declared.join_fault.JoinFault.{JoinFault}
use Rattle.part_reports.specs.declared.join_fault.JoinFault.TheVariants.{NoMemory}
use Rattle.part_reports.specs.declared.kind.Kind.{Kind}

-- for the reports of all parts of a check, of one kind, there is no reason of a fault but that
-- memory was refused
abbrev pub AllReportsAreJoined : Type 0
AllReportsAreJoined = (k : Kind) (t : Description) (texts : List (List ℕ)) (fault : JoinFault)
    → AreAllReportsOf k t texts → HasReasonOf k t texts fault → fault ≡ NoMemory
