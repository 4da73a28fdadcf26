-- The verdict on the version 1 pieces, from what is known of each piece of a file.
use Rattle.std.proofs.Common.{◌≡◌, ◌⊎◌, inl, inr, ℕ, ◌+◌, ◌-◌, ◌*◌, ◌<◌, ◌≤◌, true, List, length, slice_get, sum_by, Some, refl, ap, sym, ◌∙◌, subst, arith}
use Rattle.std.proofs.lemmas.List.Sums.{sum_by-take-le}
use Rattle.pieces.specs.Cuts.{cut_digests}
use Rattle.pieces.specs.Pieces.{pieces_of}
use Rattle.pieces.proofs.Cutting.{length-cut_digests}
use Rattle.opening.specs.Description.{Description, FileEntry, Version1}
use Rattle.opening.specs.Sound.{IsSound}
use Rattle.folders.specs.Folder.{Contents, IsStream}
use Rattle.folders.specs.Verdicts.{IsV1Verdict, is_checked}
use Rattle.folders.specs.declared.report.V1Verdict.{V1Verdict}
use Rattle.folders.specs.declared.report.V1Verdict.TheVariants as version1
use Rattle.folders.proofs.Places.{pieces_are_positive, pieces_next}
use Rattle.parts.specs.Parts.{IsPieceAt, IsVersion1Good, place_count}
use Rattle.parts.proofs.Streams.{AreWhole, digest_is, has_piece, stream_there}
use Rattle.parts.proofs.Worst.{by_places, few_pieces}

-- a piece of which a verdict says that it is good
abbrev pub IsBefore : V1Verdict → ℕ → Type 0
IsBefore said p = (said ≡ version1.Good) ⊎ ((q : ℕ) × (said ≡ version1.Bad q) × (p < q))

-- a piece of a file is one of the torrent's
pub place_inside : (t : Description) (contents : Contents) (p n k : ℕ) (f : FileEntry) (bytes : List ℕ) → IsSound t → IsPieceAt t contents p n k f bytes
    → p < place_count t - 1
place_inside t contents p n k f bytes sound at =
    omega (
      arith,
      at.piece_is,
      at.inside,
      sound.laid_out.first_pieces n f at.there,
      pieces_next t n f at.there,
      sum_by-take-le (λ (g : FileEntry). pieces_of t.piece_length g.length) t.files (n + 1),
    )

module _ (t : Description) (contents : Contents) (v : Version1) (sound : IsSound t) (hybrid : t.v1 ≡ Some v) (said : V1Verdict)
    (whole_if : is_checked said ≡ true → AreWhole t contents)
    (good : AreWhole t contents → (p n k : ℕ) (f : FileEntry) (bytes : List ℕ) → IsPieceAt t contents p n k f bytes → IsBefore said p
    → IsVersion1Good t v f bytes k)
    (bad : (q : ℕ) → said ≡ version1.Bad q → (q < place_count t - 1)
    × ((n k : ℕ) (f : FileEntry) (bytes : List ℕ) → IsPieceAt t contents q n k f bytes → IsVersion1Good t v f bytes k → ⊥)) where
  -- the pieces are where the stream has its cuts
  piece_at : AreWhole t contents → (p : ℕ) → p < place_count t - 1 → (n : ℕ) × (k : ℕ) × (f : FileEntry) × (bytes : List ℕ)
      × IsPieceAt t contents p n k f bytes
  piece_at whole p lt =
      let h = has_piece t p sound lt in
      let found = whole h.number h.file h.there in
      (h.number, h.piece, h.file, found.0, record { there = h.there; content = found.1; inside = h.inside; piece_is = h.piece_is })

  same_digest : AreWhole t contents → (stream : List ℕ) → IsStream t contents v.total stream → (p : ℕ) → p < place_count t - 1 → IsBefore said p
      → slice_get (cut_digests t.piece_length stream) p ≡ slice_get v.pieces p
  same_digest whole stream of p lt which =
      let at = piece_at whole p lt in
      digest_is t contents v stream p at.0 at.1 at.2 at.3 sound hybrid whole of at.4
      ∙ sym (good whole p at.0 at.1 at.2 at.3 at.4 which)
      ∙ ap (slice_get v.pieces) (sym at.4.piece_is)

  count_is : (stream : List ℕ) → IsStream t contents v.total stream → length (cut_digests t.piece_length stream) ≡ pieces_of t.piece_length v.total
  count_is stream of = length-cut_digests t.piece_length stream ∙ ap (pieces_of t.piece_length) of.length_is

  few : pieces_of t.piece_length v.total ≤ place_count t - 1
  few =
      let all_pieces : ℕ = sum_by (λ (g : FileEntry). pieces_of t.piece_length g.length) t.files in
      let count : all_pieces ≡ place_count t - 1 = omega arith in
      few_pieces t.piece_length v.total (place_count t - 1) (pieces_are_positive t sound)
      (subst (λ k. v.total ≤ k * t.piece_length) count (sound.in_pieces v hybrid))

  by_verdict : (w : V1Verdict) → said ≡ w → IsV1Verdict t v contents w
  by_verdict version1.NotChecked is = tt
  by_verdict version1.Good is =
      let whole = whole_if (ap is_checked is) in
      let s = stream_there t contents v sound hybrid whole in (
        s.0,
        s.1,
        by_places (cut_digests t.piece_length s.0) v.pieces (count_is s.0 s.1 ∙ sym (sound.cuts v hybrid))
            (λ p lt. same_digest whole s.0 s.1 p (omega (arith, lt, few, count_is s.0 s.1)) (inl is)),
      )
  by_verdict (version1.Bad q) is =
      let whole = whole_if (ap is_checked is) in
      let s = stream_there t contents v sound hybrid whole in
      let other = bad q is in
      let at = piece_at whole q other.0 in (
        s.0,
        s.1,
        record {
          same_before = λ p lt. same_digest whole s.0 s.1 p (omega (arith, lt, other.0)) (inr (q, is, lt));
          differs = λ same. other.1 at.0 at.1 at.2 at.3 at.4
              (ap (slice_get v.pieces) (sym at.4.piece_is) ∙ sym same ∙ digest_is t contents v s.0 q at.0 at.1 at.2 at.3 sound hybrid whole s.1 at.4);
        },
      )

  pub said_of_stream : IsV1Verdict t v contents said
  said_of_stream = by_verdict said refl
