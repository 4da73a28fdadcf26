-- The refusal of a file, of what is known of the adding.
use Rattle.std.proofs.Common.{◌≡◌, ◌≢◌, ℕ, ◌^◌, ◌≤◌, List, inl, inr, subst, sym}
use Rattle.std.specs.Prelude.{Err, Result}
use Rattle.drafts.specs.Adding.{add_rows}
use Rattle.drafts.specs.Outline.{Outline, OutlineFile}
use Rattle.filetree.specs.Tests.{First}
use Rattle.filetree.specs.declared.refusal.Refusal.{Refusal}
use Rattle.filetree.specs.declared.refusal.Refusal.TheVariants as refusals
use Rattle.part_texts.specs.Listings.{Listed}
use Rattle.assembling.specs.Adding.{AddsContent, IsFileTooLong, IsRefusal, RefusesAsWhole}
use Rattle.assembling.specs.Assembly.{RefusesListed}
use Rattle.assembling.specs.Late.{RefusesWhole}
use Rattle.assembling.specs.Whole.{IsWhole}
use Rattle.assembling.specs.declared.rows.FileRows.{FileRows}
use Rattle.assembling.specs.declared.one_file.FileFault.{FileFault}
use Rattle.assembling.specs.declared.one_file.FileFault.TheVariants as file

pub too_long : (x : FileFault) (r : Refusal) → x ≡ file.Refused r → IsFileTooLong (Err x) → r ≡ refusals.Length
too_long x r is long = subst (λ (y : FileFault). IsFileTooLong (Err y)) is long

pub refused_content : (d e : Outline) (f : Listed) (content : List ℕ) (x : FileFault) (r : Refusal) → x ≡ file.Refused r → AddsContent d f content e (Err x)
    → RefusesListed d f content r
refused_content d e f content x r is adds = subst (λ (y : FileFault). AddsContent d f content e (Err y)) is adds

pub refused_whole : (d : Outline) (f : Listed) (x : FileFault) (r : Refusal) → x ≡ file.Refused r → RefusesAsWhole d f (Err x) → RefusesWhole d f r
refused_whole d f x r is refused = subst (λ (y : FileFault). RefusesAsWhole d f (Err y)) is refused

-- what a draft refused of a file that it was given so
pub refused_given : (d : Outline) (f : Listed) (file : OutlineFile) (rows : FileRows) (r : Refusal) (x : FileFault) (result : Result (Unit {0}) FileFault)
    → result ≡ Err x → IsRefusal r x → f.bytes ≤ 2 ^ 46 → file.path ≡ f.path → file.length ≡ f.bytes
    → IsWhole d.piece_length d.hybrid f.bytes rows file.root → (r ≢ refusals.NoMemory → First (add_rows d file) r) → RefusesAsWhole d f result
refused_given d f file rows r x result at said short path bytes whole refused = subst (RefusesAsWhole d f) (sym at) (elim said [
  | inl lacks ↦ subst (λ y. RefusesAsWhole d f (Err y)) (sym lacks.1) tt
  | inr other ↦
      subst (λ y. RefusesAsWhole d f (Err y)) (sym other.1)
      (inr (short, record { given = file; rows = rows; path = path; bytes = bytes; whole = whole; first = refused other.0 }))
])
