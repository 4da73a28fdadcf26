-- The contents that the texts of reports make together if each part saw its own.
use Rattle.std.proofs.Common.{◌≡◌, ℕ, ◌+◌, true, List, length, map, slice_get, Option, Some, None, refl, sym, subst}
use Rattle.std.proofs.lemmas.Option.{none-some, same_Some}
use Rattle.opening.specs.Description.{Description, FileEntry}
use Rattle.opening.specs.Sound.{IsSound}
use Rattle.pieces.specs.Cuts.{cut}
use Rattle.folders.specs.Folder.{Contents, GoodFolder}
use Rattle.folders.specs.Verdicts.{is_yes}
use Rattle.folders.specs.declared.report.FileVerdict.{FileVerdict}
use Rattle.folders.specs.declared.report.V1Verdict.{V1Verdict}
use Rattle.parts.specs.Parts.{Holds, IsTruePart, PartReport}
use Rattle.part_reports.specs.Joined.{AreJoinedOf}
use Rattle.part_reports.specs.Lines.{part_of}
use Rattle.part_reports.specs.declared.kind.Kind.{Kind}
use Rattle.part_reports.specs.declared.kind.Kind.TheVariants.{Plain}
use Rattle.part_reports.proofs.Texts.{IsReportedBy, ReadsTrue, read_plainly, reported_by}
use Rattle.part_laws.specs.Apart.{AreMadeOf, AreTrueApart, YesOfPartsApart}
use Rattle.part_laws.specs.ApartTexts.{AreMadeOfTexts, HasReportedPiece, YesOfTextsApart}

module _ (k : Kind) (t : Description) (texts : List (List ℕ)) (own : ℕ → Contents) (count : ℕ) (reports : List PartReport)
    (each : (i : ℕ) (p : PartReport) → slice_get reports i ≡ Some p → IsReportedBy k t texts own i count p)
  where
    -- the number of the text that is the report of a part
    number_at : (i : ℕ) (o : Option PartReport) → slice_get reports i ≡ o → ℕ
    number_at i None is = 0
    number_at i (Some p) is = (each i p is).number

    of_part : ℕ → Contents
    of_part i = own (number_at i (slice_get reports i) refl)

    true_by : (i : ℕ) (p : PartReport) (o : Option PartReport) (is : slice_get reports i ≡ o) → o ≡ Some p → IsTruePart t (own (number_at i o is)) p
    unfolding number_at
    true_by i p None is at = absurd (none-some p at)
    true_by i p (Some q) is at = subst (IsTruePart t (own (each i q is).number)) (same_Some q p at) (each i q is).are_true

    apart_true : AreTrueApart t reports of_part
    unfolding of_part
    apart_true i p at = true_by i p (slice_get reports i) refl at

    piece_by : (n : ℕ) (f : FileEntry) (j : ℕ) (piece : List ℕ) (i : ℕ) (p : PartReport) (o : Option PartReport) (is : slice_get reports i ≡ o)
        → o ≡ Some p → Holds p.places (f.first_piece + j) → (bytes : List ℕ) → own (number_at i o is) n ≡ Some bytes → piece ≡ cut t.piece_length bytes j
        → HasReportedPiece k t texts own n f j piece
    unfolding number_at
    piece_by n f j piece i p None is at held bytes there piece_is = absurd (none-some p at)
    piece_by n f j piece i p (Some q) is at held bytes there piece_is =
        let read = each i q is in
        let own_held : Holds q.places (f.first_piece + j) = subst (λ (x : PartReport). Holds x.places (f.first_piece + j)) (sym (same_Some q p at)) held in
        record {
          number = read.number;
          text = read.text;
          text_is = read.there;
          part = i;
          count = count;
          head = read.head;
          held = subst (λ r. Holds r (f.first_piece + j)) read.places own_held;
          bytes = bytes;
          there = there;
          piece_is = piece_is;
        }

    told : (contents : Contents) → AreMadeOf t reports of_part contents → AreMadeOfTexts k t texts own contents
    unfolding of_part
    told contents made n f bytes j there is lt =
        let piece = made n f bytes j there is lt in
        piece_by n f j (cut t.piece_length bytes j) piece.number piece.part (slice_get reports piece.number) refl piece.part_is piece.held piece.bytes
        piece.there piece.piece_is

-- what parts make together whose reports are true, each of contents of its own
pub reported_apart : (k : Kind) (t : Description) (texts : List (List ℕ)) (own : ℕ → Contents) (files : List FileVerdict) (v1 : Option V1Verdict)
    → YesOfPartsApart → IsSound t → ((i : ℕ) (text : List ℕ) → slice_get texts i ≡ Some text → ReadsTrue k t (own i) text)
    → AreJoinedOf k t texts files v1 → is_yes files v1 ≡ true → (contents : Contents) × GoodFolder t contents × AreMadeOfTexts k t texts own contents
reported_apart k t texts own files v1 law sound are j agreed =
    let reports = map part_of j.parts in
    let each = reported_by k t texts own files v1 are j in
    let good = law t reports (of_part k t texts own (length j.parts) reports each) files v1 sound j.all
    (apart_true k t texts own (length j.parts) reports each) j.join agreed in
    (good.0, good.1, told k t texts own (length j.parts) reports each good.0 good.2)

pub texts_apart : YesOfPartsApart → YesOfTextsApart
texts_apart law t texts own files v1 sound are j agreed =
    reported_apart Plain t texts own files v1 law sound (λ i text there. read_plainly t (own i) text sound (are i text there)) j agreed
