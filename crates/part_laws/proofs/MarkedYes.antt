-- What a yes of marked reports means.
use Rattle.std.proofs.Common.{◌≡◌, ℕ, List, map, slice_get, Some}
use Rattle.opening.specs.Description.{Description}
use Rattle.opening.specs.Sound.{IsSound}
use Rattle.folders.specs.Folder.{Contents}
use Rattle.parts.specs.Laws.{YesOfParts}
use Rattle.part_reports.specs.Lines.{part_of}
use Rattle.part_reports.specs.declared.kind.Kind.TheVariants.{Marked}
use Rattle.part_reports.proofs.Texts.{ReadsTrue, reported_by}
use Rattle.part_laws.specs.Apart.{YesOfPartsApart}
use Rattle.part_laws.specs.ApartTexts.{AreMarkedApart, YesOfMarkedTextsApart}
use Rattle.part_laws.specs.MarkedTexts.{YesOfMarkedTexts}
use Rattle.part_laws.proofs.ApartTexts.{reported_apart}
use Rattle.part_laws.proofs.MarkedReports.{read_marked}

all_true : (t : Description) (texts : List (List ℕ)) (own : ℕ → Contents) → IsSound t → AreMarkedApart t texts own → (i : ℕ) (text : List ℕ)
    → slice_get texts i ≡ Some text → ReadsTrue Marked t (own i) text
all_true t texts own sound are i text there part count report = (read_marked t (own i) text sound (are i text there) part count report).are_true

pub marked_apart : YesOfPartsApart → YesOfMarkedTextsApart
marked_apart law t texts own joined sound are j agreed =
    reported_apart Marked t texts own joined.report.files.items joined.report.v1 law sound (all_true t texts own sound are) j.verdicts agreed

pub marked_yes : YesOfParts → YesOfMarkedTexts
marked_yes law t contents texts joined sound are j agreed =
    let files = joined.report.files.items in
    let own : ℕ → Contents = λ number. contents in
    law t contents (map part_of j.verdicts.parts) files joined.report.v1 sound j.verdicts.all
    (λ i p at. (reported_by Marked t texts own files joined.report.v1 (all_true t texts own sound are) j.verdicts i p at).are_true) j.verdicts.join agreed
