-- A whole file as all of its pieces in a row, judged by its root.
use Rattle.std.proofs.Common.{◌≡◌, ℕ, ◌+◌, ◌-◌, ◌*◌, ◌<◌, ◌≤◌, Bool}
use Rattle.std.proofs.Common.{true, false, List, length, IsTrue, slice_get, Option, Some, None, refl, ap, sym, ◌∙◌, subst, arith}
use Rattle.std.proofs.lemmas.List.{nil_from_length}
use Rattle.std.proofs.lemmas.List.Sums.{sum_by-take-le}
use Rattle.opening.specs.Description.{Description, FileEntry, TreeEntry}
use Rattle.opening.specs.Sound.{IsSound}
use Rattle.pieces.specs.Pieces.{pieces_of}
use Rattle.hashtree.specs.Tree.{root_of}
use Rattle.folders.specs.Folder.{IsGoodFile, tree_entry_of}
use Rattle.folders.specs.Verdicts.{IsVerdict}
use Rattle.folders.specs.Visits.{whole_extent}
use Rattle.folders.proofs.Places.{pieces_are_positive, pieces_next}
use Rattle.folders.proofs.Reports.{has_tree}
use Rattle.pieces.proofs.Cutting.{pieces_cover}
use Rattle.parts.specs.FilePieces.{IsFirstBadNumber}
use Rattle.parts.specs.Finding.{all_places}
use Rattle.parts.specs.Parts.{IsPieceGood, last_place, piece_count, place_count}
use Rattle.parts.specs.Saying.{file_says}
use Rattle.parts.specs.Spans.{IsSpan, IsSpanOf, IsWholeSpan}
use Rattle.parts.specs.declared.places.Span.{Span}
use Rattle.parts.proofs.Files.{tree_of_file}
use Rattle.parts.proofs.FileReads.{IsExtentOf}
use Rattle.parts.proofs.FoundFiles.{Judges, Meaning}
use Rattle.parts.proofs.Joined.{first_bad_piece, root_from_pieces}
use Rattle.parts.proofs.Streams.{in_pieces}

pub whole_shape : (t : Description) (f : FileEntry) (s : Span) → IsWholeSpan t f s → IsSpan t f s
whole_shape t f s whole = record {
  order = omega (arith, whole.from_is);
  inside = omega (arith, whole.to_is);
  some = λ some. absurd (omega (arith, some, whole.from_is));
  ends = (λ on. whole.to_is, λ all. whole.ends_is);
}

-- the file's pieces are places of the torrent
file_places : (t : Description) (n : ℕ) (f : FileEntry) → IsSound t → slice_get t.files n ≡ Some f → f.first_piece + piece_count t f ≤ place_count t - 1
file_places t n f sound there =
    omega (
      arith,
      sound.laid_out.first_pieces n f there,
      pieces_next t n f there,
      sum_by-take-le (λ (g : FileEntry). pieces_of t.piece_length g.length) t.files (n + 1),
    )

-- all of a file's pieces are among all places
pub whole_span : (t : Description) (n : ℕ) (f : FileEntry) (s : Span) → IsSound t → slice_get t.files n ≡ Some f → IsWholeSpan t f s
    → IsSpanOf t (all_places t) f s
whole_span t n f s sound there whole =
    let fits = file_places t n f sound there in
    let below : f.first_piece < place_count t = omega (arith, fits) in
    let last : last_place t f < place_count t = omega (arith, fits) in
    record {
      touches = (f.first_piece, omega arith, omega arith, (omega arith, below));
      from_is = omega (arith, whole.from_is);
      to_is = omega (arith, whole.to_is, fits);
      ends = (λ on. (omega arith, last), λ held. whole.ends_is);
    }

-- ---- the verdict

-- a content of the stated length whose root is the tree's, or of an empty file, is the file
pub good_by_root : (t : Description) (n : ℕ) (f : FileEntry) (bytes : List ℕ) → IsSound t → slice_get t.files n ≡ Some f → length bytes ≡ f.length
    → ((e : TreeEntry) → tree_entry_of t f ≡ Some e → root_of bytes ≡ e.root) → IsGoodFile t f bytes
good_by_root t n f bytes sound there len root = record {
  empty = λ none. nil_from_length bytes (len ∙ none);
  fits = λ some.
      let tree = tree_of_file t n f sound there some in
      (tree.0, tree.1, record { same_length = len ∙ sym (has_tree t n f tree.0 sound there tree.1).0; same_root = root tree.0 tree.1 });
}

-- what the verdicts of a check of whole files mean
abbrev pub whole_meaning : (t : Description) (f : FileEntry) → Meaning t f
whole_meaning t f = record {
  places = all_places t;
  says = IsVerdict t;
  missing = refl;
  unread = λ content. tt;
  other = λ bytes other. (bytes, refl, other);
}

pub whole_judges : (t : Description) (n : ℕ) (f : FileEntry) (s : Span) → IsSound t → slice_get t.files n ≡ Some f → IsWholeSpan t f s
    → Judges t f (whole_meaning t f) s true
whole_judges t n f s sound there whole = record {
  span = whole_span t n f s sound there whole;
  row = λ bits bytes found so.
      by_root bytes found.root_is found.bad (λ e is. so.root whole.from_is whole.ends_is e is)
      (subst (λ from. IsFirstBadNumber from s.to (IsPieceGood t f bytes) found.bad) whole.from_is so.judged.0)
      (so.ends whole.ends_is);
}
  where
    by_root : (bytes : List ℕ) (root_is : Bool) (bad : Option ℕ)
        → ((e : TreeEntry) → tree_entry_of t f ≡ Some e → (IsTrue root_is → root_of bytes ≡ e.root) × (root_of bytes ≡ e.root → IsTrue root_is))
        → IsFirstBadNumber 0 s.to (IsPieceGood t f bytes) bad → length bytes ≡ f.length → IsVerdict t f (Some bytes) (file_says f.first_piece root_is bad)
    by_root bytes true bad root first len = (bytes, refl, good_by_root t n f bytes sound there len (λ e is. (root e is).0 refl))
    by_root bytes false None root all len = (
      bytes,
      refl,
      good_by_root t n f bytes sound there len
          (λ e is. root_from_pieces t n f e bytes sound there is len (λ k lt. all k (omega arith) (omega (arith, lt, whole.to_is)))),
    )
    by_root bytes false (Some k) root first len =
        let inside : k < piece_count t f = omega (arith, first.1, whole.to_is) in
        let some : 0 < f.length = omega (arith, in_pieces t.piece_length k f.length (pieces_are_positive t sound) inside) in
        let tree = tree_of_file t n f sound there some in (
          bytes,
          refl,
          record {
            tree = tree.0;
            tree_is = tree.1;
            length_is = len;
            root_differs = λ same. let on : false ≡ true = (root tree.0 tree.1).1 same in (let no : ⊥ = cc in no);
            place = k;
            place_is = refl;
            first = first_bad_piece t n f tree.0 bytes k sound there tree.1 inside (λ j lt. first.3 j (omega arith) lt) first.2;
          },
        )

-- ---- how it is read

-- it begins at its first byte
pub from_start : (t : Description) (f : FileEntry) (s : Span) → IsWholeSpan t f s → t.piece_length * s.from ≡ 0
from_start t f s whole = ap (λ n. t.piece_length * n) whole.from_is ∙ omega arith

-- all pieces have all bytes
pub whole_extent_of : (t : Description) (f : FileEntry) (s : Span) → IsSound t → IsWholeSpan t f s → IsExtentOf t f s (whole_extent f)
whole_extent_of t f s sound whole =
    let most : f.length ≤ piece_count t f * t.piece_length = pieces_cover t.piece_length f.length (pieces_are_positive t sound) in
    let end : t.piece_length * s.to ≡ piece_count t f * t.piece_length = ap (λ n. t.piece_length * n) whole.to_is ∙ omega arith in
    record {
      offset_is = from_start t f s whole;
      size_is = omega (arith, most, end, from_start t f s whole);
      ends_there = λ on. tt;
    }
