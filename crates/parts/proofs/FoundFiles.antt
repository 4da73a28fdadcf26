-- What a check found of one file, by how its reading was answered.
use Rattle.std.proofs.Common.{◌≡◌, ◌≢◌, ℕ, ◌+◌, ◌*◌, ◌<◌, ◌≤◌, min, ◌++◌, IsTrue, Bool, true, false, ◌&&◌, List, length, drop, replicate, slice_get}
use Rattle.std.proofs.Common.{Option, Some, None, Result, Ok, Err, IfOk, IfSome, refl, ap, ap₂, sym, ◌∙◌, subst, drop_at, arith}
use Rattle.std.specs.Option.{unwrap_or}
use Rattle.std.proofs.Math.Nat.{mul-le-mul_left}
use Rattle.std.proofs.lemmas.List.{length-replicate}
use Rattle.std.proofs.lemmas.Option.{same_Some}
use Rattle.benc.specs.declared.device.DeviceFault.{DeviceFault}
use Rattle.opening.specs.Description.{Description, FileEntry, Version1}
use Rattle.opening.specs.Sound.{IsSound}
use Rattle.folders.specs.Seeking.{from_offset}
use Rattle.folders.specs.Shelf.{IsFound}
use Rattle.folders.specs.Verdicts.{Agrees, is_checked, is_whole}
use Rattle.folders.specs.declared.report.FileVerdict.{FileVerdict}
use Rattle.folders.specs.declared.report.FileVerdict.TheVariants as file
use Rattle.folders.specs.declared.report.V1Verdict.{V1Verdict}
use Rattle.folders.specs.declared.report.V1Verdict.TheVariants as version1
use Rattle.parts.specs.FilePieces.{FoundOfPieces, FoundPieces, HasNumbersBelow, IsBelow, IsFirstBadNumber}
use Rattle.parts.specs.Finding.{FindsAs, IsFileV1}
use Rattle.parts.specs.Parts.{Holds, IsPartVerdict, IsPieceGood, IsVersion1Good, Touches, piece_count}
use Rattle.parts.specs.Saying.{HasSmallPieces, IsNotWhole, IsSmallFrom, SaysRead, file_says, row_says, v1_says}
use Rattle.parts.specs.RowBits.{AreBitsOf}
use Rattle.parts.specs.Spans.{IsSpan, IsSpanOf, end_in, first_in}
use Rattle.parts.specs.Telling.{MarksIn}
use Rattle.parts.specs.declared.row.Found.{Found}
use Rattle.parts.specs.declared.places.Places.{Places}
use Rattle.parts.specs.declared.places.Span.{Span}
use Rattle.parts.specs.declared.verdicts.Verdicts.{Verdicts}
use Rattle.parts.proofs.GoodPieces.{piece_fits}
use Rattle.parts.proofs.HeldPieces.{between_held, held_between, piece_touches}

-- ---- contents

-- what a shelf holds under a path, or nothing
abbrev pub known : Option (Option (List ℕ)) → Option (List ℕ)
known stated = unwrap_or stated None

pub known_agrees : (stated : Option (Option (List ℕ))) → Agrees stated (known stated)
known_agrees stated there is = sym (ap (λ o. unwrap_or o None) is)

-- the content that goes on so from an offset, and is the one that a shelf holds
pub record GoesOn (stated : Option (Option (List ℕ))) (offset : ℕ) (rest : List ℕ) : Type 0 where
  pub bytes : List ℕ
  pub agrees : Agrees stated (Some bytes)
  pub from_there : drop offset bytes ≡ rest

pub goes_on_so : (stated : Option (Option (List ℕ))) (offset : ℕ) (left : Option (List ℕ)) (rest : List ℕ) → IsFound (from_offset offset stated) (Some left)
    → Agrees left rest → GoesOn stated offset rest
goes_on_so None offset left rest found gave = record {
  bytes = replicate offset 0 ++ rest;
  agrees = λ there is. (let no : ⊥ = cc in absurd no);
  from_there = drop_at (replicate offset 0) rest offset (length-replicate {A = ℕ} offset 0);
}
goes_on_so (Some None) offset left rest found gave = let no : ⊥ = cc in absurd no
goes_on_so (Some (Some there)) offset left rest found gave = record {
  bytes = there;
  agrees = λ other is. sym (same_Some (Some there) other is);
  from_there = gave (drop offset there) (same_Some left (Some (drop offset there)) found);
}

-- nothing has the name
pub none_from : (stated : Option (Option (List ℕ))) (offset : ℕ) → IsFound (from_offset offset stated) None → Agrees stated None
none_from None offset found there is = let no : ⊥ = cc in absurd no
none_from (Some None) offset found there is = sym (same_Some None there is)
none_from (Some (Some bytes)) offset found there is = let no : ⊥ = cc in absurd no

-- what is known from the first byte on is what is known
pub from_none : (stated : Option (Option (List ℕ))) → stated ≡ from_offset 0 stated
from_none None = refl
from_none (Some None) = refl
from_none (Some (Some bytes)) = refl

-- ---- the verdicts

-- the pieces among the places are there whole
whole_in : (t : Description) (r : Places) (f : FileEntry) (s : Span) (bytes : List ℕ) → IsSpanOf t r f s
    → min (t.piece_length * s.to) f.length ≤ length bytes → (k : ℕ) → k < piece_count t f → Holds r (f.first_piece + k)
    → min (t.piece_length * (k + 1)) f.length ≤ length bytes
whole_in t r f s bytes span whole k lt held =
    let b = held_between t r f s k span lt held in
    let low : t.piece_length * (k + 1) ≤ t.piece_length * s.to = mul-le-mul_left t.piece_length (let le : k + 1 ≤ s.to = omega (arith, b.1) in le) in
    omega (arith, low, whole)

-- the file is as the verdict of a part says
good_or_bad : (t : Description) (r : Places) (f : FileEntry) (s : Span) (bytes : List ℕ) (bad : Option ℕ) → IsSpanOf t r f s
    → (IsTrue s.ends → length bytes ≡ f.length) → min (t.piece_length * s.to) f.length ≤ length bytes → IsFirstBadNumber s.from s.to (IsPieceGood t f bytes) bad
    → IsPartVerdict t r f (Some bytes) (file_says f.first_piece false bad)
good_or_bad t r f s bytes None span ends whole all = λ touched. (
  bytes,
  refl,
  record {
    end = λ held. ends (span.ends.1 held);
    whole = whole_in t r f s bytes span whole;
    pieces = λ k lt held. (let b = held_between t r f s k span lt held in all k b.0 b.1);
  },
)
good_or_bad t r f s bytes (Some p) span ends whole first =
    let in_span = between_held t r f s p span first.0 first.1 in (
      bytes,
      refl,
      record {
        end = λ held. ends (span.ends.1 held);
        whole = whole_in t r f s bytes span whole;
        place = p;
        place_is = refl;
        inside = in_span.0;
        held = in_span.1;
        same_before = λ k lt held. (let b = held_between t r f s k span (omega (arith, lt, in_span.0)) held in first.3 k b.0 lt);
        differs = first.2;
      },
    )

-- and so are the version 1 pieces
pub v1_good_or_bad : (t : Description) (v : Version1) (r : Places) (f : FileEntry) (s : Span) (bytes : List ℕ) (bad : Option ℕ) → IsSpanOf t r f s
    → IsFirstBadNumber s.from s.to (IsVersion1Good t v f bytes) bad → IsFileV1 t v r f (Some bytes) (v1_says f.first_piece bad)
v1_good_or_bad t v r f s bytes None span all = λ k own has.
    let b = held_between t r f s k span has.inside has.held in
    subst (λ bs. IsVersion1Good t v f bs k) (same_Some bytes own has.content_is) (all k b.0 b.1)
v1_good_or_bad t v r f s bytes (Some p) span first =
    let in_span = between_held t r f s p span first.0 first.1 in (
      p,
      bytes,
      refl,
      record { content_is = refl; inside = in_span.0; held = in_span.1 },
      first.2,
      λ j lt has. (let b = held_between t r f s j span has.inside has.held in first.3 j b.0 lt),
    )

-- pieces that were read are of a file that was read whole
pub row_is_whole : (by_root : Bool) (first : ℕ) (x : Found) → is_whole (row_says by_root first x) ≡ true
row_is_whole by_root first x = whole (by_root && x.root_is) x.bad
  where
    whole : (root_is : Bool) (bad : Option ℕ) → is_whole (file_says first root_is bad) ≡ true
    whole true bad = refl
    whole false None = refl
    whole false (Some p) = refl

v1_checked : (first : ℕ) (bad : Option ℕ) → is_checked (v1_says first bad) ≡ true
v1_checked first None = refl
v1_checked first (Some q) = refl

-- ---- what was found

-- the verdicts are these two
abbrev both : FileVerdict → V1Verdict → Verdicts
both a b = record { file = a; v1 = b }

both_are : (v : Verdicts) (a : FileVerdict) (b : V1Verdict) → v.file ≡ a → v.v1 ≡ b → both a b ≡ v
both_are v a b at bt = ap₂ both (sym at) (sym bt)

-- what the verdicts of a check mean for a file
pub record Meaning (t : Description) (f : FileEntry) : Type 1 where
  pub places : Places
  pub says : FileEntry → Option (List ℕ) → FileVerdict → Type 0
  pub missing : says f None file.Missing
  pub unread : (content : Option (List ℕ)) → says f content file.Unreadable
  pub other : (bytes : List ℕ) → length bytes ≢ f.length → says f (Some bytes) file.WrongLength

-- those of a part
abbrev pub part_meaning : (t : Description) → Places → (f : FileEntry) → Meaning t f
part_meaning t r f = record {
  places = r;
  says = IsPartVerdict t r;
  missing = refl;
  unread = λ content. tt;
  other = λ bytes other. (bytes, refl, other);
}

-- the verdict on pieces of a file in a row follows from what was found of them
pub record Judges (t : Description) (f : FileEntry) (m : Meaning t f) (s : Span) (by_root : Bool) : Type 0 where
  pub span : IsSpanOf t m.places f s
  pub row : (bits bytes : List ℕ) (x : Found) → FoundPieces t f s bits x bytes → m.says f (Some bytes) (row_says by_root f.first_piece x)

pub part_judges : (t : Description) (r : Places) (f : FileEntry) (s : Span) → IsSpanOf t r f s → Judges t f (part_meaning t r f) s false
part_judges t r f s span = record {
  span = span;
  row = λ bits bytes x so. good_or_bad t r f s bytes x.bad span so.ends so.whole so.judged.0;
}

-- the bits of the row are those of the pieces among the places
row_marks : (t : Description) (r : Places) (f : FileEntry) (s : Span) (bytes bits : List ℕ) → IsSpanOf t r f s → AreBitsOf t f s.from s.to bytes bits
    → AreBitsOf t f (first_in r f) (end_in t r f) bytes bits
row_marks t r f s bytes bits span is =
    subst (λ from. AreBitsOf t f from (end_in t r f) bytes bits) span.from_is (subst (λ to. AreBitsOf t f s.from to bytes bits) span.to_is is)

-- a shelf holds this content, of which this was found
pub record HoldsFound (stated : Option (Option (List ℕ))) (t : Description) (f : FileEntry) (s : Span) (bits : List ℕ) (found : Option Found) : Type 0 where
  pub bytes : List ℕ
  pub agrees : Agrees stated (Some bytes)
  pub so : FoundOfPieces t f s bits found bytes

module _ (t : Description) (f : FileEntry) (m : Meaning t f) (stated : Option (Option (List ℕ))) (bits : List ℕ) (v : Verdicts) where
  abbrev pub FindsIt : Type 0
  FindsIt = FindsAs m.places m.says t f stated bits v

  -- the file was not read whole
  pub finds_not_whole : (w : FileVerdict) (content : Option (List ℕ)) → is_whole w ≡ false → Agrees stated content → m.says f content w
      → MarksIn t m.places f content w bits → IsNotWhole w v → FindsIt
  finds_not_whole w content off agrees says marks is =
      subst (FindsAs m.places m.says t f stated bits) (both_are v w version1.NotChecked is.0 is.1) (record {
        content = content;
        agrees = agrees;
        verdict = says;
        version1 = λ w hybrid. tt;
        checked = sym off;
        marks = marks;
      })

  -- it is unreadable, and may have any content
  pub finds_unreadable : IsNotWhole file.Unreadable v → FindsIt
  finds_unreadable = finds_not_whole file.Unreadable (known stated) refl (known_agrees stated) (m.unread (known stated))
      (λ runs. (let no : ⊥ = cc in absurd no))

  -- nothing has its name
  pub finds_missing : Agrees stated None → IsNotWhole file.Missing v → FindsIt
  finds_missing agrees = finds_not_whole file.Missing None refl agrees m.missing (λ runs. (let no : ⊥ = cc in absurd no))

  -- its content is not as long as stated
  pub finds_other_length : (bytes : List ℕ) → length bytes ≢ f.length → Agrees stated (Some bytes) → MarksIn t m.places f (Some bytes) file.WrongLength bits
      → IsNotWhole file.WrongLength v → FindsIt
  finds_other_length bytes other agrees = finds_not_whole file.WrongLength (Some bytes) refl agrees (m.other bytes other)

  -- the file was opened and read
  pub finds_read : (s : Span) (by_root : Bool) (answer : Result (Option Found) DeviceFault) → Judges t f m s by_root
      → IfOk answer (HoldsFound stated t f s bits) → SaysRead by_root f.first_piece answer v → FindsIt
  finds_read s by_root (Ok (Some x)) j got is =
      subst (FindsAs m.places m.says t f stated bits) (both_are v (row_says by_root f.first_piece x) (v1_says f.first_piece x.bad_cut) is.0 is.1) (record {
        content = Some got.bytes;
        agrees = got.agrees;
        verdict = j.row bits got.bytes x got.so;
        version1 = λ w hybrid. v1_good_or_bad t w m.places f s got.bytes x.bad_cut j.span (got.so.judged.1 w hybrid);
        checked = v1_checked f.first_piece x.bad_cut ∙ sym (row_is_whole by_root f.first_piece x);
        marks = λ runs. (got.bytes, refl, row_marks t m.places f s got.bytes bits j.span got.so.bits_of);
      })
  finds_read s by_root (Ok None) j got is = finds_other_length got.bytes got.so.other got.agrees
      (λ runs. (got.bytes, refl, row_marks t m.places f s got.bytes bits j.span got.so.bits_of)) is
  finds_read s by_root (Err e) j got is = finds_unreadable is

-- the file has no place in the part
pub finds_other : (t : Description) (r : Places) (f : FileEntry) (stated : Option (Option (List ℕ))) (bits : List ℕ) (v : Verdicts) → (Touches t r f → ⊥)
    → v.file ≡ file.Good → v.v1 ≡ version1.Good → FindsAs r (IsPartVerdict t r) t f stated bits v
finds_other t r f stated bits v other at bt = subst (FindsAs r (IsPartVerdict t r) t f stated bits) (both_are v file.Good version1.Good at bt) (record {
  content = known stated;
  agrees = known_agrees stated;
  verdict = λ touched. absurd (other touched);
  version1 = λ w hybrid k bytes has. absurd (other (piece_touches t r f k has.inside has.held));
  checked = refl;
  marks = λ runs. (let no : ⊥ = cc in absurd no);
})

-- ---- numbers

small_from : (t : Description) (n : ℕ) (f : FileEntry) (s : Span) (o : Option ℕ) → IsSound t → slice_get t.files n ≡ Some f → IsSpan t f s → IsBelow s.to o
    → IsSmallFrom f.first_piece o
small_from t n f s None sound there span below = tt
small_from t n f s (Some k) sound there span below =
    let few = (piece_fits t n f k sound there (omega (arith, below, span.inside))).0 in
    omega (arith, few)

-- the numbers of pieces that were found fit
pub small_pieces : (t : Description) (n : ℕ) (f : FileEntry) (s : Span) (answer : Result (Option Found) DeviceFault) → IsSound t → slice_get t.files n ≡ Some f
    → IsSpan t f s → IfOk answer (λ found. IfSome found (HasNumbersBelow s.to)) → HasSmallPieces f.first_piece answer
small_pieces t n f s (Ok (Some found)) sound there span below =
    (small_from t n f s found.bad sound there span below.0, small_from t n f s found.bad_cut sound there span below.1)
small_pieces t n f s (Ok None) sound there span below = tt
small_pieces t n f s (Err e) sound there span below = tt
