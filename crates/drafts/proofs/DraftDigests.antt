-- A draft has one version 1 digest for each piece of its stream.
use Rattle.std.proofs.Common.{◌≡◌, ℕ, zero, suc, ◌+◌, ◌-◌, ◌*◌, ◌<◌, Bool, true, false, if◌then◌else◌, List, [], ◌∷◌, ◌++◌}
use Rattle.std.proofs.Common.{length, map, take, Some, slice_get, inl, inr, refl, sym, ap, ◌∙◌, arith, length-append}
use Rattle.std.proofs.Common.{add-zero}
use Rattle.std.proofs.lemmas.List.{length-take}
use Rattle.std.proofs.lemmas.List.Sums.{sum_by-cons}
use Rattle.filetree.specs.declared.files.ListedFile.{ListedFile}
use Rattle.opening.specs.Trees.{pieces_in}
use Rattle.std.specs.Prelude.{nat_lt}
use Rattle.std.proofs.lemmas.Bool.{or_parts}
use Rattle.drafts.proofs.Building.{AreOutlineFiles}
use Rattle.drafts.specs.Outline.{AreOfLength, IsOutlineFile, OutlineFile, listed_file}
use Rattle.drafts.specs.Written.{digests_in, digests_of, filled_cuts, has_content}
use Rattle.drafts.specs.Written.{stream_of}
use Rattle.filetree.proofs.Bytes.{true_or_false}
use Rattle.pieces.proofs.Cutting.{cut_count_none, some_pieces, more_pieces}
use Rattle.pieces.specs.Pieces.{pieces_of}

of_length_append : (width : ℕ) (xs ys : List (List ℕ)) → AreOfLength width xs → AreOfLength width ys → AreOfLength width (xs ++ ys)
of_length_append width [] ys a b = b
of_length_append width (x ∷ xs) ys a b = (a.0, of_length_append width xs ys a.1 b)

of_length_take : (width n : ℕ) (xs : List (List ℕ)) → AreOfLength width xs → AreOfLength width (take n xs)
of_length_take width zero xs a = tt
of_length_take width (suc n) [] a = tt
of_length_take width (suc n) (x ∷ xs) a = (a.0, of_length_take width n xs a.1)

digests_in_length : (p : ℕ) (f : OutlineFile) (fs : List OutlineFile) → IsOutlineFile f → AreOfLength 20 (digests_in f fs)
digests_in_length p f fs o =
    elim (true_or_false (nat_lt 0 f.length)) [
      | inl some ↦ elim (true_or_false (has_content fs)) [
        | inl content ↦ rw (some, content) (of_length_append 20 (take (length f.cuts - 1) f.cuts) (f.padded ∷ [])
            (of_length_take 20 (length f.cuts - 1) f.cuts o.cut_lengths) (o.padded_length, tt))
        | inr bare ↦ rw (some, bare) (o.cut_lengths)
      ]
      | inr none ↦ rw none tt
    ]

pub digests_length : (p : ℕ) (fs : List OutlineFile) → AreOutlineFiles p fs → AreOfLength 20 (digests_of fs)
digests_length p [] files = tt
digests_length p (f ∷ fs) files = of_length_append 20 (digests_in f fs) (digests_of fs) (digests_in_length p f fs (files 0 f refl))
    (digests_length p fs (λ n g e. files (suc n) g e))

-- each file that is not empty has its cuts
abbrev pub HaveCuts : ℕ → List OutlineFile → Type 0
HaveCuts p fs = (n : ℕ) (f : OutlineFile) → slice_get fs n ≡ Some f → 0 < f.length → length f.cuts ≡ pieces_of p f.length

digests_in_count : (p : ℕ) (f : OutlineFile) (fs : List OutlineFile) → 0 < p → (0 < f.length → length f.cuts ≡ pieces_of p f.length)
    → length (digests_in f fs) ≡ pieces_of p f.length
digests_in_count p f fs legal cuts =
    elim (true_or_false (nat_lt 0 f.length)) [
      | inl some ↦
          let more : 0 < f.length = grind (arith, some) in
          let count : length f.cuts ≡ pieces_of p f.length = cuts more in
          let pieces = some_pieces p f.length legal more in
          let both = length-append (take (length f.cuts - 1) f.cuts) (f.padded ∷ []) in
          let front = length-take (length f.cuts - 1) f.cuts in
          let full : length (filled_cuts f) ≡ pieces_of p f.length = omega (arith, count, pieces, both, front) in
          elim (true_or_false (has_content fs)) [ inl content ↦ rw (some, content) full | inr bare ↦ rw (some, bare) count ]
      | inr none ↦ let empty : f.length ≡ 0 = grind (arith, none) in rw none (sym (ap (pieces_of p) empty ∙ cut_count_none p legal))
    ]

-- there is one digest a piece
pub digests_in_all : (p : ℕ) (fs : List OutlineFile) → 0 < p → HaveCuts p fs → length (digests_of fs) ≡ pieces_in p (map listed_file fs)
digests_in_all p [] legal cuts = refl
digests_in_all p (f ∷ fs) legal cuts =
    let rest = digests_in_all p fs legal (λ n g e. cuts (suc n) g e) in
    let first = digests_in_count p f fs legal (cuts 0 f refl) in
    let both = length-append (digests_in f fs) (digests_of fs) in
    let all = sum_by-cons (λ (g : ListedFile). pieces_of p g.length) (listed_file f) (map listed_file fs) in omega (arith, rest, first, both, all)

no_stream : (p : ℕ) (fs : List OutlineFile) → has_content fs ≡ false → stream_of p fs ≡ 0
no_stream p [] none = refl
no_stream p (f ∷ fs) none =
    let parts = or_parts (nat_lt 0 f.length) (has_content fs) none in
    let empty : f.length ≡ 0 = let e : nat_lt 0 f.length ≡ false = parts.0 in grind (arith, e) in
    let bare : has_content fs ≡ false = parts.1 in
    rw bare (ap (λ n. n + stream_of p fs) empty ∙ ap (λ n. 0 + n) (no_stream p fs bare))

pub digests_count : (p : ℕ) (fs : List OutlineFile) → 0 < p → HaveCuts p fs → length (digests_of fs) ≡ pieces_of p (stream_of p fs)
digests_count p [] legal cuts = sym (cut_count_none p legal)
digests_count p (f ∷ fs) legal cuts =
    let rest : length (digests_of fs) ≡ pieces_of p (stream_of p fs) = digests_count p fs legal (λ n g e. cuts (suc n) g e) in
    let first : length (digests_in f fs) ≡ pieces_of p f.length = digests_in_count p f fs legal (cuts 0 f refl) in
    let both : length (digests_of (f ∷ fs)) ≡ pieces_of p f.length + pieces_of p (stream_of p fs) = length-append (digests_in f fs) (digests_of fs)
    ∙ ap (λ n. n + length (digests_of fs)) first ∙ ap (λ n. pieces_of p f.length + n) rest in
    both ∙ sym (stream_step (has_content fs) refl)
  where
    stream_step : (b : Bool) → has_content fs ≡ b → pieces_of p (stream_of p (f ∷ fs)) ≡ pieces_of p f.length + pieces_of p (stream_of p fs)
    stream_step true content = ap (λ b. pieces_of p (if b then pieces_of p f.length * p + stream_of p fs else f.length + stream_of p fs)) content
        ∙ more_pieces p (pieces_of p f.length) (stream_of p fs) legal
    stream_step false bare =
        let nothing : stream_of p fs ≡ 0 = no_stream p fs bare in
        ap (λ b. pieces_of p (if b then pieces_of p f.length * p + stream_of p fs else f.length + stream_of p fs)) bare
        ∙ ap (λ n. pieces_of p (f.length + n)) nothing ∙ ap (pieces_of p) (add-zero f.length)
        ∙ sym (ap (λ n. pieces_of p f.length + pieces_of p n) nothing ∙ ap (λ n. pieces_of p f.length + n) (cut_count_none p legal)
        ∙ add-zero (pieces_of p f.length))

-- ---- the list that the info dictionary has
