-- What a check does whose lines go out as it goes, by its answer.
use Rattle.std.specs.Prelude.{◌≡◌, ◌⊎◌, List, Option, Result, Ok, Err}
use Rattle.benc.specs.Device.{BrokeOrUnflushed, SentAndFlushed, SinkSeen}
use Rattle.folders.specs.declared.report.FileVerdict.{FileVerdict}
use Rattle.folders.specs.declared.report.Report.{Report}
use Rattle.folders.specs.declared.report.V1Verdict.{V1Verdict}
use Rattle.lines.specs.Rows.{Row, Spelling, spell}
use Rattle.lines.specs.declared.out_fault.OutFault.{OutFault as CheckFault}
use Rattle.lines.specs.declared.out_fault.OutFault.TheVariants as stopped

-- the course of a check: what it does up to the last file, for these verdicts; how it stops on the
-- way; and the rows behind the files
pub record Course (S : Type 0) : Type 1 where
  pub all : List FileVerdict → Option V1Verdict → S × SinkSeen → S × SinkSeen → Type 0
  pub stops : S × SinkSeen → S × SinkSeen → Type 0
  pub end : List FileVerdict → Option V1Verdict → List Row

module _ {S : Type 0} (spelled : Spelling) (C : Course S) where
  -- all files were checked and told of, and then the last rows went out, with one flush
  pub record EndsWell (verdicts : List FileVerdict) (v1 : Option V1Verdict) (old new : S × SinkSeen)
      : Type 0 where
    pub mid : SinkSeen
    pub all : C.all verdicts v1 old (new.0, mid)
    pub end : SentAndFlushed mid new.1 (spell spelled (C.end verdicts v1))

  -- all files were, and the last rows broke off or were not flushed
  pub record StopsAtEnd (old new : S × SinkSeen) : Type 0 where
    pub verdicts : List FileVerdict
    pub v1 : Option V1Verdict
    pub mid : SinkSeen
    pub all : C.all verdicts v1 old (new.0, mid)
    pub broke : BrokeOrUnflushed mid new.1 (spell spelled (C.end verdicts v1))

  -- by the answer: after `Write` the sink failed, and after `NoMemory` nothing was done
  abbrev pub EndsAs : S × SinkSeen → S × SinkSeen → Result Report CheckFault → Type 0
  EndsAs old new (Ok report) = EndsWell report.files.items report.v1 old new
  EndsAs old new (Err stopped.Write) = C.stops old new ⊎ StopsAtEnd old new
  EndsAs old new (Err stopped.NoMemory) = (new.0 ≡ old.0) × (new.1 ≡ old.1)
