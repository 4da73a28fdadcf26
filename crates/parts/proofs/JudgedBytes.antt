-- How a file is judged by its bytes.
use Rattle.std.proofs.Common.{◌≡◌, ◌∙◌, ◌*◌, ℕ, ◌+◌, inl, inr, true, List, [], drop, length, slice_get, Option, Some, None, Result, Ok}
use Rattle.std.proofs.Common.{refl, sym, ap, subst, arith}
use Rattle.std.proofs.lemmas.Option.{same_Some}
use Rattle.benc.specs.Device.{SourceSeen}
use Rattle.benc.specs.declared.device.DeviceFault.{DeviceFault}
use Rattle.hashtree.specs.Tree.{root_of}
use Rattle.opening.specs.Description.{Description, FileEntry, TreeEntry}
use Rattle.opening.specs.Sound.{IsSound}
use Rattle.folders.specs.Folder.{tree_entry_of}
use Rattle.folders.specs.TakeAll.{IsReadWithin}
use Rattle.folders.specs.Verdicts.{Agrees, is_whole}
use Rattle.parts.specs.FilePieces.{FindsPieces, FoundOfPieces, TakesRowBytes}
use Rattle.parts.specs.Finding.{FindsWhole}
use Rattle.parts.specs.Parts.{IsVersion1Good}
use Rattle.parts.specs.Passing.{AreCutsGood, JudgesAnswer, JudgesContent, IsJudgedGood, IsReadToCheck}
use Rattle.parts.specs.Saying.{SaysRead}
use Rattle.parts.specs.Spans.{IsWholeSpan, span_bytes}
use Rattle.parts.specs.declared.row.Found.{Found}
use Rattle.parts.specs.declared.places.Span.{Span}
use Rattle.parts.specs.declared.verdicts.Verdicts.{Verdicts}
use Rattle.parts.proofs.FoundFiles.{finds_read, row_is_whole}
use Rattle.parts.proofs.WholeFiles.{from_start, good_by_root, whole_extent_of, whole_judges, whole_meaning}
use Rattle.passes.specs.Held.{Answer, GivesContent, HeldSeen, content}
use Rattle.passes.specs.Passing.{ReadsFor, Want}

-- bytes with the root of the tree are the file, and good if its version 1 pieces are
pub judged_good : (t : Description) (n : ℕ) (f : FileEntry) (bytes : List ℕ) → IsSound t → slice_get t.files n ≡ Some f → length bytes ≡ f.length
    → AreCutsGood t f bytes → ((e : TreeEntry) → tree_entry_of t f ≡ Some e → root_of bytes ≡ e.root) → IsJudgedGood t f bytes
judged_good t n f bytes sound there long cuts root = record {
  long = long;
  finds = record {
    content = Some bytes;
    agrees = λ stands is. (let same : stands ≡ Some bytes = cc in same);
    verdict = (bytes, refl, good_by_root t n f bytes sound there long root);
    version1 = λ v hybrid k own has. subst (λ b. IsVersion1Good t v f b k) (same_Some bytes own has.content_is) (cuts v hybrid k has.inside);
    checked = refl;
    marks = λ runs. (let no : ⊥ = cc in absurd no);
  };
  whole = refl;
}

-- a file was read as a row of pieces
pub source_judged : (t : Description) (n : ℕ) (f : FileEntry) (bits : List ℕ) (s : Span) (found : Option Found) (v : Verdicts) (old new : SourceSeen)
    → IsSound t → slice_get t.files n ≡ Some f → IsWholeSpan t f s → bits ≡ [] → FindsPieces t f s old.left bits found
    → TakesRowBytes (span_bytes t f s) old new found → IsReadWithin (span_bytes t f s + 1) old new → SaysRead true f.first_piece (Ok found) v
    → (bytes : List ℕ) × GivesContent (IsReadToCheck f.length) bytes old new × JudgesContent t f bytes v
source_judged t n f bits s found v old new sound there whole none finds takes within says =
    let bytes : List ℕ = finds.rest in
    let start : drop (t.piece_length * s.from) bytes ≡ bytes = ap (λ k. drop k bytes) (from_start t f s whole) in
    by_found bytes found (whole_extent_of t f s sound whole).size_is finds.agrees (finds.each bytes start) takes says
  where
    by_found : (bytes : List ℕ) (found : Option Found) → span_bytes t f s ≡ f.length → Agrees old.left bytes → FoundOfPieces t f s bits found bytes
        → TakesRowBytes (span_bytes t f s) old new found → SaysRead true f.first_piece (Ok found) v
        → (bytes : List ℕ) × GivesContent (IsReadToCheck f.length) bytes old new × JudgesContent t f bytes v
    by_found bytes None size agrees so takes says = (
      bytes,
      record {
        agrees = agrees;
        is_read = record {
          within = omega (arith, within, size);
          taken = (λ long. absurd (so.other long), λ took. absurd (takes (omega (arith, took, size))));
        };
      },
      inr (so.other, says),
    )
    by_found bytes (Some x) size agrees so takes says =
        let long : length bytes ≡ f.length = so.ends whole.ends_is in (
          bytes,
          record {
            agrees = agrees;
            is_read = record { within = omega (arith, within, size); taken = (λ _. omega (arith, takes, size), λ _. long) };
          },
          inl (record {
            long = long;
            finds = subst (λ b. FindsWhole t f (Some (Some bytes)) b v) none
                (finds_read t f (whole_meaning t f) (Some (Some bytes)) bits v s true (Ok (Some x)) (whole_judges t n f s sound there whole)
                (record { bytes = bytes; agrees = λ other is. sym (same_Some (Some bytes) other is); so = so }) says);
            whole = ap is_whole says.0 ∙ row_is_whole true f.first_piece x;
          }),
        )

-- a place has one content
pub same_held : (answers : List Answer) (n : ℕ) (a b : List ℕ) → slice_get answers n ≡ Some (content a) → slice_get answers n ≡ Some (content b) → a ≡ b
same_held answers n a b one two =
    let is : content a ≡ content b = same_Some (content a) (content b) (sym one ∙ two) in
    let same : a ≡ b = cc in
    same

-- how a file is read, by the path that is wanted for it
pub reads_as : (t : Description) (f i : FileEntry) (w : Want) (old new : SourceSeen) (h h' : HeldSeen) (r : Result (Option Verdicts) DeviceFault) → f ≡ i
    → Some (record { path = i.path; most = i.length }) ≡ Some w → ReadsFor (JudgesAnswer t f) (IsReadToCheck f.length) f.length old new h h' r
    → ReadsFor (JudgesAnswer t i) (IsReadToCheck i.length) w.most old new h h' r
reads_as t f i w old new h h' r same wants reads =
    subst (λ (x : Want). ReadsFor (JudgesAnswer t i) (IsReadToCheck i.length) x.most old new h h' r)
    (same_Some (record { path = i.path; most = i.length }) w wants)
    (subst (λ (j : FileEntry). ReadsFor (JudgesAnswer t j) (IsReadToCheck j.length) j.length old new h h' r) same reads)
