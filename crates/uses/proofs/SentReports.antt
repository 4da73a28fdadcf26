-- The report of a part that went out.
use Rattle.std.proofs.Common.{◌≡◌, ℕ, ◌<◌, ◌^◌, true, false, List, slice_get, Option, Some, Result, Ok, Err, IfOk, refl, sym, subst}
use Rattle.benc.specs.Device.{SentAndFlushed, SinkSeen}
use Rattle.chains.specs.Chain.{Chain}
use Rattle.chains.proofs.Chains.{step_at}
use Rattle.commands.specs.Outcomes.{ChecksPart}
use Rattle.folders.specs.declared.report.FileVerdict.{FileVerdict}
use Rattle.folders.specs.declared.report.FileVerdict.TheVariants as file
use Rattle.lines.specs.Texts.{text_of}
use Rattle.opening.specs.Description.{Description, FileEntry}
use Rattle.part_reports.specs.Texts.{TruePartsReport}
use Rattle.parts.specs.Laws.{PlacesAreTested}
use Rattle.parts.specs.PartLines.{has_place}
use Rattle.parts.specs.Parts.{Touches}
use Rattle.parts.specs.Shares.{share}
use Rattle.printing.specs.declared.fault.Fault.{Fault}
use Rattle.uses.specs.PartsReported.{SendsReport}

-- what holds of each step of a chain
pub chain_at : {S I O : Type 0} (Step : S → I → O → S → Type 0) (P : I → O → Type 0) → ((a b : S) (i : I) (o : O) → Step a i o b → P i o)
    → (s s' : S) (is : List I) (os : List O) → Chain Step s is os s' → (n : ℕ) (i : I) (o : O) → slice_get is n ≡ Some i → slice_get os n ≡ Some o → P i o
chain_at Step P each s s' is os chain n i o at of =
    let here = step_at Step s is os n i o s' at of chain in each here.from here.to i o here.step

module _ (tested : PlacesAreTested) (reports : TruePartsReport) (t : Description) (part count : ℕ)
    (under : List (List ℕ) → Option (Option (List ℕ))) (Went : List FileVerdict → Type 0) (out out' : SinkSeen) (there : part < count) (small : count < 2 ^ 64)
    (off : (files : List FileVerdict) → Went files → (n : ℕ) (f : FileEntry) (v : FileVerdict) → slice_get t.files n ≡ Some f
    → slice_get files n ≡ Some v → (Touches t (share t part count) f → ⊥) → v ≡ file.Good)
  where
    pub report_sent : (result : Result ℕ Fault) → ChecksPart text_of t part count under Went out out' result
        → IfOk result (λ _. SendsReport t part count under out out')
    report_sent (Ok status) (files, v1, has, found, went, sent, is) = record {
      contents = found.contents;
      agree = found.agree;
      text = _;
      sent = sent;
      whole = reports t found.contents part count files v1 there small found.are_true
          (λ n f v at of none. off files went n f v at of (λ touched.
          let has_one : has_place t (share t part count) f ≡ true = (tested t (share t part count) f).1 touched in (let no : ⊥ = cc in no)));
      are_true = record {
        part = part;
        count = count;
        files = files;
        v1 = v1;
        there = there;
        small = small;
        are_true = found.are_true;
        is = refl;
      };
    }
    report_sent (Err fault) stops = tt
