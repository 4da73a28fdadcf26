-- What follows of a folder from a check.
use Rattle.std.specs.Prelude.{◌≢◌, ℕ, Bool, true, false, List, Option}
use Rattle.folders.specs.Folder.{Contents, GoodFolder}
use Rattle.folders.specs.Verdicts.{AgreeWith, AreTrueVerdicts, HasVerdicts, unreadable_count}
use Rattle.folders.specs.declared.report.FileVerdict.{FileVerdict}
use Rattle.folders.specs.declared.report.V1Verdict.{V1Verdict}
use Rattle.opening.specs.Description.{Description}
use Rattle.uses.specs.declared.judging.Holding.{Holding}
use Rattle.uses.specs.declared.judging.Holding.TheVariants.{All, NotAll, Unread}

-- what a shelf holds, by whether a check said yes and whether nothing failed
abbrev pub holding_of : Bool → Bool → Holding
holding_of true all_read = All
holding_of false true = NotAll
holding_of false false = Unread

-- this is what these contents hold of the torrent's files, by these verdicts
abbrev pub IsHolding : Description → Contents → List FileVerdict → Holding → Type 0
IsHolding t contents files All = GoodFolder t contents
IsHolding t contents files NotAll = ¬ GoodFolder t contents
IsHolding t contents files Unread = unreadable_count files ≢ 0

-- each file has a verdict, and so have a hybrid's version 1 pieces; there are contents, which are
-- those of the shelf where they are known; each verdict is true of them, and so is what the shelf
-- is said to hold: all, not all, or that a file was unreadable
pub record IsJudged (t : Description) (under : List (List ℕ) → Option (Option (List ℕ)))
    (files : List FileVerdict) (v1 : Option V1Verdict) (holding : Holding) : Type 0 where
  pub of_each : HasVerdicts t files v1
  pub contents : Contents
  pub agree : AgreeWith t under contents
  pub verdicts : AreTrueVerdicts t contents files v1
  pub holds : IsHolding t contents files holding
