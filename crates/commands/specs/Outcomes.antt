-- What a command ends with: the exit status that follows from the library's answer, or the fault.
use Rattle.std.specs.Global.{Global, Vec}
use Rattle.std.specs.Prelude.{◌≡◌, ◌≢◌, ◌⊎◌, ◌≤◌, ◌+◌, ◌^◌, ℕ, Bool, true, false, List, [], Option, Result, Ok, Err, String, codes}
use Rattle.benc.specs.Device.{SourceSeen, SinkSeen, SentAndFlushed, BrokeOrUnflushed}
use Rattle.benc.specs.Text.{spelling}
use Rattle.conversions.specs.declared.fault.ConvertFault.{ConvertFault}
use Rattle.conversions.specs.declared.fault.ConvertFault.TheVariants as converting
use Rattle.conversions.specs.Converting.{Converts, FailsToConvert}
use Rattle.gathering.specs.declared.gather_fault.GatherFault.{GatherFault}
use Rattle.gathering.specs.declared.gather_fault.GatherFault.TheVariants as gathering
use Rattle.folders.specs.Root.{Blames, BreaksRootLine, PrintsRoot}
use Rattle.folders.specs.declared.root.RootFault.TheVariants as root
use Rattle.lines.specs.declared.out_fault.OutFault.{OutFault as SeedFault}
use Rattle.lines.specs.declared.out_fault.OutFault.TheVariants as seeding
use Rattle.folders.specs.declared.shelf_fault.ShelfFault.{ShelfFault}
use Rattle.folders.specs.declared.shelf_fault.ShelfFault.TheVariants as listing
use Rattle.folders.specs.declared.report_lines.Lines.{Lines}
use Rattle.folders.specs.declared.report.FileVerdict.{FileVerdict}
use Rattle.folders.specs.declared.report.V1Verdict.{V1Verdict}
use Rattle.printing.specs.declared.fault.Fault.{Fault}
use Rattle.printing.specs.declared.fault.Fault.TheVariants as faults
use Rattle.actions.specs.declared.command.Create.{Create}
use Rattle.opening.specs.Description.{Description}
use Rattle.drafts.specs.Finishing.{finish_rows}
use Rattle.drafts.specs.Outline.{Outline, empty_outline}
use Rattle.filetree.specs.declared.refusal.Refusal.{Refusal}
use Rattle.filetree.specs.declared.refusal.Refusal.TheVariants as refusals
use Rattle.filetree.specs.Tests.{First, NoneHolds, TestRow}
use Rattle.drafts.specs.Written.{value_of}
use Rattle.replays.specs.Outcome.{status_of}
use Rattle.folders.specs.Printed.{report_rows}
use Rattle.torrent_lines.specs.Refused.{refusal_text}
use Rattle.replays.specs.Replay.{IsReport, ReplaySeen}
use Rattle.replays.specs.Telling.{plain_as}
use Rattle.folders.specs.Shelf.{path_bytes}
use Rattle.folders.specs.Verdicts.{HasVerdicts, IsTrueOfFolder, is_yes}
use Rattle.folders.specs.declared.report_lines.Lines.TheVariants as lines
use Rattle.lines.specs.Rows.{Spelling, spell}
use Rattle.lines.specs.Table.{already_form_2_row}
use Rattle.lines.specs.Texts.{text_of}
use Rattle.part_reports.specs.Joined.{AreJoined}
use Rattle.part_reports.specs.MarkedJoins.{AreJoinedAs}
use Rattle.part_reports.specs.Reasons.{HasJoinReason, HasReasonOf}
use Rattle.part_reports.specs.WholeLines.{SaysWholeReport, StopsSaying}
use Rattle.part_reports.specs.declared.join_fault.JoinFault.{JoinFault}
use Rattle.part_reports.specs.declared.join_fault.JoinFault.TheVariants as joining
use Rattle.part_reports.specs.declared.kind.Kind.TheVariants as kind
use Rattle.part_reports.specs.declared.marked_report.MarkedReport.{MarkedReport}
use Rattle.parts.specs.Finding.{IsTrueOfPlaces}
use Rattle.parts.specs.PartLines.{part_rows}
use Rattle.parts.specs.Shares.{share}

-- ---- statuses

-- 0 for yes or done, 1 for no or a refusal
abbrev pub answer_status : Bool → ℕ
answer_status true = 0
answer_status false = 1

-- the report of a record went out, spelled so, with its answers if they are wanted; and the status
-- is that of the outcome
abbrev pub IsReplayed : Spelling → ReplaySeen (Unit {0}) → ReplaySeen (Unit {0}) → ℕ → Type 0
IsReplayed spelled old new status =
    (outcome : _) × IsReport (plain_as spelled) old new outcome × (status ≡ status_of outcome)

-- ---- faults

-- the fault is that the file with this path cannot be read
abbrev pub NamesSource : List ℕ → Fault → Type 0
NamesSource name (faults.Read path) = path.now ≡ name
NamesSource name fault = ⊥

-- the fault is that the file with this path cannot be written
abbrev pub NamesSink : List ℕ → Fault → Type 0
NamesSink name (faults.Write path) = path.now ≡ name
NamesSink name fault = ⊥

-- the fault is that standard output cannot be written
abbrev pub NamesOutput : Fault → Type 0
NamesOutput = NamesSink (codes "-")

-- no device failed, or the fault names the one that did: the source with this path, or standard
-- output
abbrev pub BlamesOne : List ℕ → SourceSeen → SourceSeen → SinkSeen → SinkSeen → Result ℕ Fault
    → Type 0
BlamesOne name source source' out out' (Ok status) =
    (source'.faults ≡ source.faults) × (out'.faults ≡ out.faults)
BlamesOne name source source' out out' (Err (faults.Read path)) =
    (path.now ≡ name) × Blames source source' out out' (Err root.Read)
BlamesOne name source source' out out' (Err (faults.Write path)) =
    (path.now ≡ codes "-") × Blames source source' out out' (Err root.Write)
BlamesOne name source source' out out' (Err fault) = ⊥

-- the line of a refusal was not printed: it is out of memory, which no line says, or the line
-- broke off
pub record IsUnprinted (r : Refusal) (text : List ℕ) (out out' : SinkSeen) (f : Fault)
    : Type 0 where
  pub memory : r ≡ refusals.NoMemory → (f ≡ faults.NoMemory) × (out' ≡ out)
  pub broke : r ≢ refusals.NoMemory → NamesOutput f × BrokeOrUnflushed out out' text

-- ---- root

-- What printing the root of a source's file did, by its answer: its line, as it is spelled, went
-- out, and the status is 0 exactly if the file is not too long; or the source failed before one
-- byte past the bound; or the line broke off.
abbrev pub EndsRoot : (List ℕ → List ℕ) → SourceSeen → SourceSeen → SinkSeen → SinkSeen
    → Result ℕ Fault → Type 0
EndsRoot line source source' out out' (Ok status) = (within : Bool)
    × PrintsRoot line source source' out out' within × (status ≡ answer_status within)
EndsRoot line source source' out out' (Err (faults.Read path)) =
    source.limit ≤ source'.limit + 2 ^ 46
EndsRoot line source source' out out' (Err (faults.Write path)) =
    BreaksRootLine line source source' out out'
EndsRoot line source source' out out' (Err fault) = ⊥

-- ---- check

-- What a check did, by its answer: it went to the shelf so, the wanted lines of a report on what
-- stands under the torrent's paths went out, and the status is that of the last one; or the lines
-- broke off so; or memory was refused before the first.
abbrev pub Checks : Spelling → Description → (List (List ℕ) → Option (Option (List ℕ)))
    → (List FileVerdict → Type 0) → Type 0 → Lines → SinkSeen → SinkSeen → Result ℕ Fault → Type 0
Checks spelled t under Went Broken lines out out' (Ok status) = (files : List FileVerdict)
    × (v1 : Option V1Verdict) × HasVerdicts t files v1 × IsTrueOfFolder t under files v1
    × Went files × SentAndFlushed out out' (spell spelled (report_rows lines t.files files v1))
    × (status ≡ answer_status (is_yes files v1))
Checks spelled t under Went Broken lines out out' (Err (faults.Write path)) =
    (path.now ≡ codes "-") × Broken
Checks spelled t under Went Broken lines out out' (Err faults.NoMemory) = out' ≡ out
Checks spelled t under Went Broken lines out out' (Err fault) = ⊥

-- ---- parts

-- What a part of a check did, by its answer: it went to the shelf so, the report of the part on
-- what stands under the torrent's paths went out, spelled so, and the status is that of its last
-- line; or that report broke off; or memory was refused before it.
abbrev pub ChecksPart : Spelling → Description → ℕ → ℕ
    → (List (List ℕ) → Option (Option (List ℕ))) → (List FileVerdict → Type 0) → SinkSeen
    → SinkSeen → Result ℕ Fault → Type 0
ChecksPart spelled t part count under Went out out' (Ok status) = (files : List FileVerdict)
    × (v1 : Option V1Verdict) × HasVerdicts t files v1
    × IsTrueOfPlaces t (share t part count) under files v1 × Went files
    × SentAndFlushed out out' (spell spelled (part_rows t part count files v1))
    × (status ≡ answer_status (is_yes files v1))
ChecksPart spelled t part count under Went out out' (Err (faults.Write path)) =
    (path.now ≡ codes "-")
    × (files : List FileVerdict) × (v1 : Option V1Verdict) × HasVerdicts t files v1
    × IsTrueOfPlaces t (share t part count) under files v1 × Went files
    × BrokeOrUnflushed out out' (spell spelled (part_rows t part count files v1))
ChecksPart spelled t part count under Went out out' (Err faults.NoMemory) = out' ≡ out
ChecksPart spelled t part count under Went out out' (Err fault) = ⊥

-- What joining reports did, by its answer: what they say together went out as the report of a
-- check, spelled so, and the status is that of its last line; or they cannot be joined for this
-- reason, and nothing was printed; or the report broke off; or memory was refused before it.
abbrev pub JoinsParts : Spelling → Description → List (List ℕ) → SinkSeen → SinkSeen
    → Result (Result ℕ JoinFault) Fault → Type 0
JoinsParts spelled t texts out out' (Ok (Ok status)) = (files : List FileVerdict)
    × (v1 : Option V1Verdict) × AreJoined t texts files v1
    × SentAndFlushed out out' (spell spelled (report_rows lines.All t.files files v1))
    × (status ≡ answer_status (is_yes files v1))
JoinsParts spelled t texts out out' (Ok (Err fault)) =
    (fault ≢ joining.NoMemory) × HasJoinReason t texts fault × (out' ≡ out)
JoinsParts spelled t texts out out' (Err (faults.Write path)) = (path.now ≡ codes "-")
    × (files : List FileVerdict) × (v1 : Option V1Verdict) × AreJoined t texts files v1
    × BrokeOrUnflushed out out' (spell spelled (report_rows lines.All t.files files v1))
JoinsParts spelled t texts out out' (Err faults.NoMemory) = out' ≡ out
JoinsParts spelled t texts out out' (Err fault) = ⊥

-- The same of marked reports: what they say together went out with the maximal runs of bad pieces
-- of each file that is bad or has another length.
abbrev pub JoinsMarkedParts : Spelling → Description → List (List ℕ) → SinkSeen → SinkSeen
    → Result (Result ℕ JoinFault) Fault → Type 0
JoinsMarkedParts spelled t texts out out' (Ok (Ok status)) = (joined : MarkedReport)
    × AreJoinedAs kind.Marked t texts joined × SaysWholeReport spelled t joined out out'
    × (status ≡ answer_status (is_yes joined.report.files.items joined.report.v1))
JoinsMarkedParts spelled t texts out out' (Ok (Err fault)) =
    (fault ≢ joining.NoMemory) × HasReasonOf kind.Marked t texts fault × (out' ≡ out)
JoinsMarkedParts spelled t texts out out' (Err (faults.Write path)) = (path.now ≡ codes "-")
    × (joined : MarkedReport) × AreJoinedAs kind.Marked t texts joined
    × StopsSaying spelled t joined out out'
JoinsMarkedParts spelled t texts out out' (Err faults.NoMemory) = out' ≡ out
JoinsMarkedParts spelled t texts out out' (Err fault) = ⊥

-- ---- seeds, new torrents and conversions

-- the fault that is reported if a session is not seeded
abbrev pub IsSeedingFault : SeedFault → Fault → Type 0
IsSeedingFault seeding.NoMemory f = f ≡ faults.NoMemory
IsSeedingFault seeding.Write f = NamesOutput f

-- the fault that is reported if a folder could not be listed: of its device, the given one
abbrev pub IsListingFault : Fault → ShelfFault → Fault → Type 0
IsListingFault unlisted listing.Device f = f ≡ unlisted
IsListingFault unlisted listing.Name f = f ≡ faults.NotUtf8
IsListingFault unlisted (listing.Special path) f = f ≡ faults.Special path
IsListingFault unlisted listing.NoMemory f = f ≡ faults.NoMemory

-- the fault that is reported if a folder is not gathered into a draft: the path of the file that
-- could not be read or was gone, or why the folder could not be listed
abbrev pub IsGatheringFault : Fault → SinkSeen → SinkSeen → GatherFault → Fault → Type 0
IsGatheringFault unlisted out out' (gathering.Refused r path) f =
    IsUnprinted r (refusal_text r (path_bytes path)) out out' f
IsGatheringFault unlisted out out' (gathering.Device path) f =
    (f ≡ faults.ReadBelow path) × (out' ≡ out)
IsGatheringFault unlisted out out' (gathering.Changed path) f =
    (f ≡ faults.ReadBelow path) × (out' ≡ out)
IsGatheringFault unlisted out out' (gathering.List fault) f =
    IsListingFault unlisted fault f × (out' ≡ out)
IsGatheringFault unlisted out out' gathering.NoMemory f = (f ≡ faults.NoMemory) × (out' ≡ out)

-- a draft of no files, as `create` was asked for it
abbrev pub wanted_draft : Create → Outline
wanted_draft asked = empty_outline asked.name.now asked.piece_length asked.hybrid

-- What making a draft of a folder did, by its answer: it gathered all files, and printed nothing;
-- or a refusal, which was printed, with status 1; or what the fault says.
abbrev pub MakesDraft : (Result Outline GatherFault → Type 0) → Fault → SinkSeen → SinkSeen
    → Result (Result Outline ℕ) Fault → Type 0
MakesDraft Gathered unlisted out out' (Ok (Ok draft)) = Gathered (Ok draft) × (out' ≡ out)
MakesDraft Gathered unlisted out out' (Ok (Err status)) = (status ≡ answer_status false)
    × (r : Refusal) × (path : Vec (String Global)) × Gathered (Err (gathering.Refused r path))
    × SentAndFlushed out out' (refusal_text r (path_bytes path))
MakesDraft Gathered unlisted out out' (Err f) = (g : GatherFault) × Gathered (Err g)
    × IsGatheringFault unlisted out out' g f

-- No test of a draft holds, but its torrent with this text broke off. Nothing was printed.
pub record IsTorrentCut (rows : List TestRow) (text path : List ℕ)
    (torrent torrent' out out' : SinkSeen) (f : Fault) : Type 0 where
  pub named : NamesSink path f
  pub passes : NoneHolds rows
  pub broke : BrokeOrUnflushed torrent torrent' text
  pub silent : out' ≡ out

-- The line of the first test of a draft that holds broke off. Nothing of a torrent was written.
pub record IsRefusalCut (rows : List TestRow) (torrent torrent' out out' : SinkSeen) (f : Fault)
    : Type 0 where
  pub named : NamesOutput f
  pub refusal : Refusal
  pub first : First rows refusal
  pub broke : BrokeOrUnflushed out out' (refusal_text refusal [])
  pub unwritten : torrent' ≡ torrent

-- What writing a draft's torrent to the sink with this path did, by its answer: the torrent went
-- out and nothing was printed, status 0; or the refusal was printed and no torrent written, status
-- 1; or the torrent broke off, or the line of the refusal did.
abbrev pub WritesTorrent : Outline → List ℕ → SinkSeen → SinkSeen → SinkSeen → SinkSeen
    → Result ℕ Fault → Type 0
WritesTorrent draft path torrent torrent' out out' (Ok status) =
    ((status ≡ answer_status true) × NoneHolds (finish_rows draft)
    × SentAndFlushed torrent torrent' (spelling (value_of draft)) × (out' ≡ out))
    ⊎ ((status ≡ answer_status false) × (torrent' ≡ torrent) × (r : Refusal)
    × First (finish_rows draft) r × SentAndFlushed out out' (refusal_text r []))
WritesTorrent draft path torrent torrent' out out' (Err f) =
    IsTorrentCut (finish_rows draft) (spelling (value_of draft)) path torrent torrent' out out' f
    ⊎ IsRefusalCut (finish_rows draft) torrent torrent' out out' f

-- what is printed of a record that is of form 2 already
abbrev pub form_2_text : List ℕ
form_2_text = text_of already_form_2_row

-- the fault is that the record with this path ends inside a frame
abbrev pub NamesCutRecord : List ℕ → Fault → Type 0
NamesCutRecord name (faults.Truncated path) = path.now ≡ name
NamesCutRecord name fault = ⊥

-- the fault that is reported if the record with the first path is not converted to the second
abbrev pub IsConvertingFault : List ℕ → List ℕ → SinkSeen → SinkSeen → ConvertFault → Fault
    → Type 0
IsConvertingFault from path out out' converting.Truncated f =
    NamesCutRecord from f × (out' ≡ out)
IsConvertingFault from path out out' converting.Read f = NamesSource from f × (out' ≡ out)
IsConvertingFault from path out out' converting.Write f = NamesSink path f × (out' ≡ out)
IsConvertingFault from path out out' converting.AlreadyForm2 f =
    NamesOutput f × BrokeOrUnflushed out out' form_2_text

-- What converting the record with the first path to the sink with the second did, by its answer:
-- the conversion went out and nothing was printed, status 0; or the record is of form 2, which was
-- printed, status 1; or what the fault says.
abbrev pub ConvertsRecord : List ℕ → List ℕ → SourceSeen → SourceSeen → SinkSeen → SinkSeen
    → SinkSeen → SinkSeen → Result ℕ Fault → Type 0
ConvertsRecord from path old new to to' out out' (Ok status) =
    ((status ≡ answer_status true) × Converts old new to to' × (out' ≡ out))
    ⊎ ((status ≡ answer_status false) × FailsToConvert old new to to' converting.AlreadyForm2
    × SentAndFlushed out out' form_2_text)
ConvertsRecord from path old new to to' out out' (Err f) = (e : ConvertFault)
    × FailsToConvert old new to to' e × IsConvertingFault from path out out' e f
