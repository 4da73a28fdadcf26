-- The contents that parts make together of which each saw its own.
use Rattle.std.proofs.Common.{◌≡◌, ℕ, ◌+◌, ◌-◌, ◌<◌, true, is_some, List, length, slice_get, Option, Some, None, refl, ap, sym, ◌∙◌, subst, arith}
use Rattle.std.specs.List.{list_all}
use Rattle.std.specs.Option.{unwrap_or}
use Rattle.std.proofs.lemmas.Bool.{and_parts}
use Rattle.std.proofs.lemmas.Option.{none-some, same_Some, slice_get_within}
use Rattle.chains.proofs.Cases.{item_at, some_of}
use Rattle.opening.specs.Description.{Description, FileEntry, Version1}
use Rattle.opening.specs.Sound.{IsSound}
use Rattle.pieces.specs.Cuts.{cut}
use Rattle.folders.specs.Folder.{Contents, GoodFolder}
use Rattle.folders.specs.Verdicts.{is_good, is_yes, stream_is_good}
use Rattle.folders.specs.declared.report.FileVerdict.{FileVerdict}
use Rattle.folders.specs.declared.report.FileVerdict.TheVariants as file
use Rattle.folders.specs.declared.report.V1Verdict.{V1Verdict}
use Rattle.folders.specs.declared.report.V1Verdict.TheVariants as version1
use Rattle.folders.proofs.Places.{pieces_are_positive}
use Rattle.folders.proofs.Reports.{all_at}
use Rattle.parts.specs.Joins.{IsJoin, NoWorse, NoWorseV1, says_of, says_of_v1}
use Rattle.parts.specs.Laws.{YesOfParts}
use Rattle.parts.specs.Parts.{AreAllPlaces, Holds, IsPartV1, IsPartVerdict, IsPieceGood, IsTruePart, IsVersion1Good, PartReport}
use Rattle.parts.specs.Parts.{piece_count}
use Rattle.parts.proofs.Files.{none_better}
use Rattle.parts.proofs.HeldPieces.{piece_touches}
use Rattle.parts.proofs.Streams.{place_of_piece}
use Rattle.parts.proofs.Worst.{good_v1}
use Rattle.part_laws.specs.Apart.{AreMadeOf, AreTrueApart, HasOwnPiece, YesOfPartsApart}
use Rattle.part_laws.proofs.SplicedBytes.{IsLong, all_pieces, long_file}
use Rattle.part_laws.proofs.SplicedPieces.{good_too, version1_too}

good_verdict : (w : FileVerdict) → is_good w ≡ true → w ≡ file.Good
good_verdict file.Good good = refl
good_verdict w good = let no : ⊥ = cc in absurd no

good_stream : (w : V1Verdict) → stream_is_good (Some w) ≡ true → w ≡ version1.Good
good_stream version1.Good good = refl
good_stream w good = let no : ⊥ = cc in absurd no

module _ (t : Description) (parts : List PartReport) (own : ℕ → Contents) (files : List FileVerdict) (v1 : Option V1Verdict) (sound : IsSound t)
    (all : AreAllPlaces t parts) (are_true : AreTrueApart t parts own) (join : IsJoin t parts files v1) (agreed : is_yes files v1 ≡ true)
  where
    -- ---- what each part says

    goods : (list_all is_good files ≡ true) × (stream_is_good v1 ≡ true)
    goods = and_parts (list_all is_good files) (stream_is_good v1) agreed

    says_good : (i : ℕ) (p : PartReport) → slice_get parts i ≡ Some p → (n : ℕ) → n < length t.files → says_of n p ≡ file.Good
    says_good i p at n lt =
        let w = item_at files n (omega (arith, lt, join.count)) in
        let best : w.0 ≡ file.Good = good_verdict w.0 (all_at is_good files n w.0 goods.0 w.1) in
        none_better (says_of n p) (subst (NoWorse (says_of n p)) best ((join.each n w.0 w.1).no_worse i p at))

    verdict_good : (i : ℕ) (p : PartReport) → slice_get parts i ≡ Some p → (n : ℕ) → n < length t.files → (v : FileVerdict) → slice_get p.files n ≡ Some v
        → v ≡ file.Good
    verdict_good i p at n lt v is = sym (ap (λ o. unwrap_or o file.Good) is) ∙ says_good i p at n lt

    file_said : (i : ℕ) (p : PartReport) → slice_get parts i ≡ Some p → (n : ℕ) → n < length t.files → slice_get p.files n ≡ Some file.Good
    file_said i p at n lt =
        let found = item_at p.files n (omega (arith, lt, (are_true i p at).count)) in
        found.1 ∙ ap Some (verdict_good i p at n lt found.0 found.1)

    says_good_v1 : (i : ℕ) (p : PartReport) → slice_get parts i ≡ Some p → (v : Version1) → t.v1 ≡ Some v → (w : V1Verdict) → p.v1 ≡ Some w
        → w ≡ version1.Good
    says_good_v1 i p at v hybrid w is =
        let said = some_of v1 (join.hybrid ∙ ap is_some hybrid) in
        let best : said.0 ≡ version1.Good = good_stream said.0 (ap stream_is_good (sym said.1) ∙ goods.1) in
        let worst : NoWorseV1 (says_of_v1 p) version1.Good = subst (NoWorseV1 (says_of_v1 p)) best ((join.version1 said.0 said.1).no_worse i p at) in
        sym (ap (λ o. unwrap_or o version1.Good) is) ∙ good_v1 (says_of_v1 p) worst

    -- ---- one piece

    -- a part's own content has this piece of a file, and it is good
    record IsOwn (n : ℕ) (f : FileEntry) (k : ℕ) (bytes : List ℕ) : Type 0 where
      number : ℕ
      part : PartReport
      part_is : slice_get parts number ≡ Some part
      held : Holds part.places (f.first_piece + k)
      there : own number n ≡ Some bytes
      long : IsLong t.piece_length f.length k bytes
      good : IsPieceGood t f bytes k
      good_v1 : (v : Version1) → t.v1 ≡ Some v → IsVersion1Good t v f bytes k

    own_piece : (n : ℕ) (f : FileEntry) → slice_get t.files n ≡ Some f → (k : ℕ) → k < piece_count t f → (bytes : List ℕ) × IsOwn n f k bytes
    own_piece n f there k lt =
        let place = all (f.first_piece + k) (place_of_piece t n f (f.first_piece + k) sound there (omega (arith, lt))) in
        let low : n < length t.files = slice_get_within t.files n f there in
        let part = are_true place.0 place.1 place.2 in
        let said = part.each n f file.Good there (file_said place.0 place.1 place.2 n low) (piece_touches t place.1.places f k lt place.3) in (
          said.0,
          record {
            number = place.0;
            part = place.1;
            part_is = place.2;
            held = place.3;
            there = said.1;
            long = record {
              whole = said.2.whole k lt place.3;
              last = λ end. said.2.end (let last : f.first_piece + k ≡ f.first_piece + (piece_count t f - 1) = omega (arith, end) in
                  subst (Holds place.1.places) last place.3);
            };
            good = said.2.pieces k lt place.3;
            good_v1 = λ v hybrid.
                let w = some_of place.1.v1 (part.hybrid ∙ ap is_some hybrid) in
                let is : place.1.v1 ≡ Some version1.Good = w.1 ∙ ap Some (says_good_v1 place.0 place.1 place.2 v hybrid w.0 w.1) in
                part.version1 v version1.Good hybrid is (f.first_piece + k) n k f said.0
                (record { there = there; content = said.1; inside = lt; piece_is = refl }) place.3;
          },
        )

    -- ---- one file

    -- bytes as long as the file, all of whose pieces are good, and each a part's own
    record IsWhole (n : ℕ) (f : FileEntry) (bytes : List ℕ) : Type 0 where
      len : length bytes ≡ f.length
      good : (k : ℕ) → k < piece_count t f → IsPieceGood t f bytes k
      good_v1 : (v : Version1) → t.v1 ≡ Some v → (k : ℕ) → k < piece_count t f → IsVersion1Good t v f bytes k
      made : (k : ℕ) → k < piece_count t f → HasOwnPiece t parts own n f k (cut t.piece_length bytes k)

    whole_file : (n : ℕ) (f : FileEntry) → slice_get t.files n ≡ Some f → (bytes : List ℕ) × IsWhole n f bytes
    whole_file n f there =
        let joined = all_pieces t.piece_length f.length (pieces_are_positive t sound) (IsOwn n f) (own_piece n f there) (λ k bytes o. o.long) in (
          joined.0.bytes,
          record {
            len = joined.1;
            good = λ k lt.
                let o = joined.0.each k lt in
                good_too t n f sound there k lt joined.0.bytes o.0 (long_file t.piece_length f.length k joined.0.bytes joined.1) o.1.long o.2 o.1.good;
            good_v1 = λ v hybrid k lt.
                let o = joined.0.each k lt in
                version1_too t n f sound there k lt joined.0.bytes o.0 (long_file t.piece_length f.length k joined.0.bytes joined.1) o.1.long o.2 v
                (o.1.good_v1 v hybrid);
            made = λ k lt.
                let o = joined.0.each k lt in
                record {
                  number = o.1.number;
                  part = o.1.part;
                  part_is = o.1.part_is;
                  held = o.1.held;
                  bytes = o.0;
                  there = o.1.there;
                  piece_is = o.2;
                };
          },
        )

    -- ---- all files

    content_of : (n : ℕ) (o : Option FileEntry) → slice_get t.files n ≡ o → Option (List ℕ)
    content_of n None is = None
    content_of n (Some f) is = Some (whole_file n f is).0

    together : Contents
    together n = content_of n (slice_get t.files n) refl

    of_entry : (n : ℕ) (f : FileEntry) (o : Option FileEntry) (is : slice_get t.files n ≡ o) → o ≡ Some f
        → (bytes : List ℕ) × (content_of n o is ≡ Some bytes) × IsWhole n f bytes
    unfolding content_of
    of_entry n f None is there = absurd (none-some f there)
    of_entry n f (Some g) is there =
        subst (λ h. (bytes : List ℕ) × (content_of n (Some g) is ≡ Some bytes) × IsWhole n h bytes) (same_Some g f there)
        ((whole_file n g is).0, refl, (whole_file n g is).1)

    content_at : (n : ℕ) (f : FileEntry) → slice_get t.files n ≡ Some f → (bytes : List ℕ) × (together n ≡ Some bytes) × IsWhole n f bytes
    unfolding together
    content_at n f there = of_entry n f (slice_get t.files n) refl there

    whole_at : (n : ℕ) (f : FileEntry) (bytes : List ℕ) → slice_get t.files n ≡ Some f → together n ≡ Some bytes → IsWhole n f bytes
    whole_at n f bytes there is =
        let at = content_at n f there in
        subst (IsWhole n f) (same_Some at.0 bytes (sym at.1 ∙ is)) at.2

    made : AreMadeOf t parts own together
    made n f bytes k there is lt = (whole_at n f bytes there is).made k lt

    part_true : (i : ℕ) (p : PartReport) → slice_get parts i ≡ Some p → IsTruePart t together p
    part_true i p at =
        let said = are_true i p at in
        record {
          count = said.count;
          hybrid = said.hybrid;
          checked = said.checked;
          each = λ n f v there is.
              let whole = content_at n f there in
              let good : IsPartVerdict t p.places f (together n) file.Good = λ touched. (
                whole.0,
                whole.1,
                record {
                  end = λ held. whole.2.len;
                  whole = λ k lt held. (let len = whole.2.len in omega (arith, len));
                  pieces = λ k lt held. whole.2.good k lt;
                },
              ) in
              subst (IsPartVerdict t p.places f (together n)) (sym (verdict_good i p at n (slice_get_within t.files n f there) v is)) good;
          version1 = λ v w hybrid is.
              let good : IsPartV1 t v p.places together version1.Good = λ q n k f bytes piece held.
              (whole_at n f bytes piece.there piece.content).good_v1 v hybrid k piece.inside in
              subst (IsPartV1 t v p.places together) (sym (says_good_v1 i p at v hybrid w is)) good;
        }

    pub apart : YesOfParts → (contents : Contents) × GoodFolder t contents × AreMadeOf t parts own contents
    apart law = (together, law t together parts files v1 sound all part_true join agreed, made)

pub yes_apart : YesOfParts → YesOfPartsApart
yes_apart law t parts own files v1 sound all are_true join agreed = apart t parts own files v1 sound all are_true join agreed law
