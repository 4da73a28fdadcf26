-- The version 1 list of a draft's files: its parts, their order, and where each begins in the stream.
use Rattle.std.proofs.Common.{◌≡◌, ◌≢◌, ℕ, zero, suc, ◌+◌, ◌*◌, ◌<◌, ◌≤◌, ◌^◌, Bool, true, false, ◌&&◌, if◌then◌else◌, List, [], ◌∷◌}
use Rattle.std.proofs.Common.{map, take, Option, Some, slice_get, sum_by, inl, inr, refl, sym, ap, subst, ◌∙◌, arith}
use Rattle.std.proofs.Common.{add_assoc}
use Rattle.std.proofs.lemmas.Bool.{or_right}
use Rattle.std.proofs.Math.Nat.{add-mul}
use Rattle.std.proofs.lemmas.List.Sums.{sum_by-cons}
use Rattle.std.specs.Fmt.{decimal}
use Rattle.std.specs.List.{list_any}
use Rattle.std.specs.Prelude.{codes, nat_lt, nat_le, option_and_then}
use Rattle.benc.specs.Value.{list}
use Rattle.drafts.proofs.Building.{AreOutlineFiles}
use Rattle.drafts.proofs.Tidy.{gap_below, legal_some}
use Rattle.drafts.specs.Outline.{IsOutlineFile, OutlineFile, listed_file}
use Rattle.drafts.specs.Written.{entries_value, entry_value, gap, has_content}
use Rattle.drafts.specs.Written.{needs_pad, pad_value, stream_of, texts_value}
use Rattle.filetree.proofs.Bytes.{true_or_false}
use Rattle.filetree.specs.FileTree.{length_at}
use Rattle.opening.specs.Stream.{Named, Part, as_path, files_in, is_broken, length_in, named}
use Rattle.opening.specs.Stream.{named_part, entry_part, parts_of, some_texts, stream_length, texts_in}
use Rattle.pieces.specs.Pieces.{IsPieceLength, pieces_of}
use Rattle.pieces.proofs.Cutting.{pieces_cover}

-- ---- the list of a draft

abbrev pub file_part : OutlineFile → Part
file_part f = record { is_pad = false; length = Some f.length; path = Some f.path }

abbrev pub pad_part : ℕ → Part
pad_part n = record { is_pad = true; length = Some n; path = Some (codes ".pad" ∷ decimal n ∷ []) }

abbrev pub draft_parts : ℕ → List OutlineFile → List Part
draft_parts p [] = []
draft_parts p (f ∷ fs) = file_part f ∷ (if needs_pad p f fs then pad_part (gap p f.length) ∷ draft_parts p fs else draft_parts p fs)

texts_are : (ks : List (List ℕ)) → texts_in (texts_value ks) ≡ Some ks
texts_are [] = refl
texts_are (k ∷ ks) = ap (λ o. option_and_then (λ (ss : List (List ℕ)). Some (k ∷ ss)) o) (texts_are ks)

some_path : (ks : List (List ℕ)) → ks ≢ [] → some_texts ks ≡ Some ks
some_path [] some = absurd (some refl)
some_path (k ∷ ks) some = refl

path_is : (ks : List (List ℕ)) → ks ≢ [] → as_path (list (texts_value ks)) ≡ Some ks
path_is ks some = ap (λ o. option_and_then some_texts o) (texts_are ks) ∙ some_path ks some

file_part_is : (p : ℕ) (f : OutlineFile) → IsOutlineFile f → entry_part (entry_value f) ≡ file_part f
file_part_is p f o =
    let e : nat_le f.length (2 ^ 46) ≡ true = let bound = o.bound in grind arith in
    let size : length_at (entry_value f) ≡ Some f.length = rw e refl in
    ap (λ (s : Option ℕ). record { is_pad = false; length = s; path = as_path (list (texts_value f.path)) }) size
    ∙ ap (λ (x : Option (List (List ℕ))). record { is_pad = false; length = Some f.length; path = x }) (path_is f.path o.path.some)

pad_part_is : (n : ℕ) → n ≤ 2 ^ 46 → entry_part (pad_value n) ≡ pad_part n
pad_part_is n bound =
    let e : nat_le n (2 ^ 46) ≡ true = grind arith in
    let size : length_at (pad_value n) ≡ Some n = rw e refl in
    ap (λ (s : Option ℕ). record { is_pad = true; length = s; path = Some (codes ".pad" ∷ decimal n ∷ []) }) size

gap_bound : (p n : ℕ) → IsPieceLength p → gap p n ≤ 2 ^ 46
gap_bound p n legal = let some = legal_some p legal in let less = gap_below p n some.0 in let most : p ≤ 2 ^ 30 = some.1 in omega (arith, less, most)

pub parts_are : (p : ℕ) (fs : List OutlineFile) → IsPieceLength p → AreOutlineFiles p fs → parts_of (entries_value p fs) ≡ Some (draft_parts p fs)
parts_are p [] legal files = refl
parts_are p (f ∷ fs) legal files =
    let rest = parts_are p fs legal (λ n g e. files (suc n) g e) in
    let first = file_part_is p f (files 0 f refl) in
    elim (true_or_false (needs_pad p f fs)) [
      | inl pad ↦
          rw pad (ap (λ o. option_and_then (λ (xs : List Part). Some (entry_part (entry_value f) ∷ xs))
          (option_and_then (λ (xs : List Part). Some (entry_part (pad_value (gap p f.length)) ∷ xs)) o)) rest
          ∙ ap (λ (x : Part). Some (x ∷ entry_part (pad_value (gap p f.length)) ∷ draft_parts p fs)) first
          ∙ ap (λ (x : Part). Some (file_part f ∷ x ∷ draft_parts p fs)) (pad_part_is (gap p f.length) (gap_bound p f.length legal)))
      | inr none ↦
          rw none (ap (λ o. option_and_then (λ (xs : List Part). Some (entry_part (entry_value f) ∷ xs)) o) rest
          ∙ ap (λ (x : Part). Some (x ∷ draft_parts p fs)) first)
    ]

-- ---- HybridFiles

pub unbroken : (p : ℕ) (fs : List OutlineFile) → list_any is_broken (draft_parts p fs) ≡ false
unbroken p [] = refl
unbroken p (f ∷ fs) = elim (true_or_false (needs_pad p f fs)) [ inl pad ↦ rw pad (unbroken p fs) | inr none ↦ rw none (unbroken p fs) ]

pub files_are : (p : ℕ) (fs : List OutlineFile) → files_in (draft_parts p fs) ≡ map named (map listed_file fs)
files_are p [] = refl
files_are p (f ∷ fs) =
    elim (true_or_false (needs_pad p f fs)) [
      | inl pad ↦ rw pad (ap (λ ns. named (listed_file f) ∷ ns) (files_are p fs))
      | inr none ↦ rw none (ap (λ ns. named (listed_file f) ∷ ns) (files_are p fs))
    ]

-- ---- HybridAlign

abbrev pieces_end : ℕ → List Part → ℕ
pieces_end p ps = sum_by (λ f. pieces_of p f.length) (files_in ps) * p

stream_more : (x : Part) (ps : List Part) → stream_length (x ∷ ps) ≡ length_in x + stream_length ps
stream_more x ps = sum_by-cons length_in x ps

end_file : (p : ℕ) (f : OutlineFile) (ps : List Part) → pieces_end p (file_part f ∷ ps) ≡ pieces_of p f.length * p + pieces_end p ps
end_file p f ps =
    ap (λ n. n * p) (sum_by-cons (λ (x : Named). pieces_of p x.length) (named_part (file_part f)) (files_in ps))
    ∙ add-mul (pieces_of p f.length) (sum_by (λ f. pieces_of p f.length) (files_in ps)) p

filled : (p n : ℕ) → 0 < p → n + gap p n ≡ pieces_of p n * p
filled p n some = let cover = pieces_cover p n some in omega (arith, cover)

no_gap : (p n : ℕ) → 0 < p → nat_lt 0 (gap p n) ≡ false → n ≡ pieces_of p n * p
no_gap p n some none = let cover = filled p n some in let zero_gap : gap p n ≡ 0 = grind (arith, none) in omega (arith, cover, zero_gap)

-- what holds at each place of the rest of a list holds behind a pad too, which is no file
behind_pad : (p n : ℕ) (f : OutlineFile) (fs : List OutlineFile) (part : Part) (Q : ℕ → Type 0) → part.is_pad ≡ false
    → ((k : ℕ) → slice_get (draft_parts p fs) k ≡ Some part → Q (suc k)) → slice_get (pad_part (gap p f.length) ∷ draft_parts p fs) n ≡ Some part → Q n
behind_pad p zero f fs part Q no_pad rest at =
    let same : pad_part (gap p f.length) ≡ part = cc in let bad : true ≡ false = ap (λ (x : Part). x.is_pad) same ∙ no_pad in cc
behind_pad p (suc n) f fs part Q no_pad rest at = rest n at

-- a part with content is that of a file with content
content_at : (p : ℕ) (fs : List OutlineFile) (n : ℕ) (part : Part) → slice_get (draft_parts p fs) n ≡ Some part → part.is_pad ≡ false → 0 < length_in part
    → has_content fs ≡ true
content_at p [] n part at no_pad some = cc
content_at p (f ∷ fs) zero part at no_pad some =
    let same : file_part f ≡ part = cc in
    let more : 0 < f.length = subst (λ (x : Part). 0 < length_in x) (sym same) some in
    let e : nat_lt 0 f.length ≡ true = grind arith in rw e refl
content_at p (f ∷ fs) (suc n) part at no_pad some =
    or_right (nat_lt 0 f.length) (has_content fs) (elim (true_or_false (needs_pad p f fs)) [
      | inl pad ↦ behind_pad p n f fs part (λ k. has_content fs ≡ true) no_pad (λ k there. content_at p fs k part there no_pad some) (rw pad at at)
      | inr none ↦ content_at p fs n part (rw none at at) no_pad some
    ])

-- each part of a file with content begins where its first piece does
pub aligned_at : (p : ℕ) (fs : List OutlineFile) (n : ℕ) (part : Part) → 0 < p → slice_get (draft_parts p fs) n ≡ Some part → part.is_pad ≡ false
    → 0 < length_in part
    → stream_length (take n (draft_parts p fs)) ≡ pieces_end p (take n (draft_parts p fs))
aligned_at p [] n part legal at no_pad some = cc
aligned_at p (f ∷ fs) zero part legal at no_pad some = omega arith
aligned_at p (f ∷ fs) (suc n) part legal at no_pad some =
    elim (true_or_false (needs_pad p f fs)) [
      | inl pad ↦
          rw pad (behind_pad p n f fs part (λ k. stream_length (file_part f ∷ take k (pad_part (gap p f.length) ∷ draft_parts p fs)) ≡ pieces_end p
          (file_part f ∷ take k (pad_part (gap p f.length) ∷ draft_parts p fs))) no_pad
          (λ k there. padded k (aligned_at p fs k part legal there no_pad some)) (rw pad at at))
      | inr none ↦
          let there : slice_get (draft_parts p fs) n ≡ Some part = rw none at at in
          let content : has_content fs ≡ true = content_at p fs n part there no_pad some in
          let flush : nat_lt 0 (gap p f.length) ≡ false = no_and (nat_lt 0 (gap p f.length)) (has_content fs) content none in
          rw none (plain n flush (aligned_at p fs n part legal there no_pad some))
    ]
  where
    no_and : (a b : Bool) → b ≡ true → a && b ≡ false → a ≡ false
    no_and true b e h = let bad : true ≡ false = sym e ∙ h in cc
    no_and false b e h = refl

    padded : (k : ℕ) → stream_length (take k (draft_parts p fs)) ≡ pieces_end p (take k (draft_parts p fs))
        → stream_length (file_part f ∷ pad_part (gap p f.length) ∷ take k (draft_parts p fs)) ≡ pieces_end p
        (file_part f ∷ pad_part (gap p f.length) ∷ take k (draft_parts p fs))
    padded k same =
        let ps : List Part = take k (draft_parts p fs) in
        let one = stream_more (file_part f) (pad_part (gap p f.length) ∷ take k (draft_parts p fs)) in
        let two = stream_more (pad_part (gap p f.length)) (take k (draft_parts p fs)) in
        let ends : pieces_end p (file_part f ∷ pad_part (gap p f.length) ∷ take k (draft_parts p fs)) ≡ pieces_of p f.length * p + pieces_end p
        (take k (draft_parts p fs)) = end_file p f (pad_part (gap p f.length) ∷ take k (draft_parts p fs)) in
        let full : f.length + gap p f.length ≡ pieces_of p f.length * p = filled p f.length legal in
        one ∙ ap (λ n. f.length + n) two ∙ sym (add_assoc f.length (gap p f.length) (stream_length (take k (draft_parts p fs))))
        ∙ ap (λ n. n + stream_length (take k (draft_parts p fs))) full ∙ ap (λ n. pieces_of p f.length * p + n) same ∙ sym ends

    plain : (k : ℕ) → nat_lt 0 (gap p f.length) ≡ false → stream_length (take k (draft_parts p fs)) ≡ pieces_end p (take k (draft_parts p fs))
        → stream_length (file_part f ∷ take k (draft_parts p fs)) ≡ pieces_end p (file_part f ∷ take k (draft_parts p fs))
    plain k flush same =
        stream_more (file_part f) (take k (draft_parts p fs)) ∙ ap (λ n. n + stream_length (take k (draft_parts p fs))) (no_gap p f.length legal flush)
        ∙ ap (λ n. pieces_of p f.length * p + n) same ∙ sym (end_file p f (take k (draft_parts p fs)))

pub no_right : (a b : Bool) → b ≡ false → a && b ≡ false
no_right true b e = e
no_right false b e = refl

-- the length of the stream
pub stream_is : (p : ℕ) (fs : List OutlineFile) → 0 < p → stream_length (draft_parts p fs) ≡ stream_of p fs
stream_is p [] legal = refl
stream_is p (f ∷ fs) legal =
    elim (true_or_false (has_content fs)) [
      | inl content ↦ elim (true_or_false (nat_lt 0 (gap p f.length))) [
        | inl pad ↦
            let full : f.length + gap p f.length ≡ pieces_of p f.length * p = filled p f.length legal in
            rw (content, pad) (stream_more (file_part f) (pad_part (gap p f.length) ∷ draft_parts p fs)
            ∙ ap (λ n. f.length + n) (stream_more (pad_part (gap p f.length)) (draft_parts p fs))
            ∙ sym (add_assoc f.length (gap p f.length) (stream_length (draft_parts p fs))) ∙ ap (λ n. n + stream_length (draft_parts p fs)) full
            ∙ ap (λ n. pieces_of p f.length * p + n) (stream_is p fs legal))
        | inr flush ↦
            rw (content, flush) (stream_more (file_part f) (draft_parts p fs) ∙ ap (λ n. n + stream_length (draft_parts p fs)) (no_gap p f.length legal flush)
            ∙ ap (λ n. pieces_of p f.length * p + n) (stream_is p fs legal))
      ]
      | inr bare ↦
          let none : needs_pad p f fs ≡ false = no_right (nat_lt 0 (gap p f.length)) (has_content fs) bare in
          rw (none, bare) (stream_more (file_part f) (draft_parts p fs) ∙ ap (λ n. f.length + n) (stream_is p fs legal))
    ]

-- the stream does not go on after the last piece
pub stream_within : (p : ℕ) (fs : List OutlineFile) → 0 < p → stream_of p fs ≤ sum_by (λ f. pieces_of p f.length) (files_in (draft_parts p fs)) * p
stream_within p [] legal = omega arith
stream_within p (f ∷ fs) legal =
    let rest = stream_within p fs legal in
    let cover = pieces_cover p f.length legal in
    let step : pieces_end p (draft_parts p (f ∷ fs)) ≡ pieces_of p f.length * p + pieces_end p (draft_parts p fs) = elim (true_or_false (needs_pad p f fs)) [
      | inl pad ↦ rw pad (end_file p f (pad_part (gap p f.length) ∷ draft_parts p fs))
      | inr none ↦ rw none (end_file p f (draft_parts p fs))
    ] in
    let first : stream_of p (f ∷ fs) ≤ pieces_of p f.length * p + stream_of p fs =
    choice (has_content fs) (pieces_of p f.length * p + stream_of p fs) (f.length + stream_of p fs) (pieces_of p f.length * p + stream_of p fs) (omega arith)
    (omega (arith, cover)) in
    omega (arith, rest, step, first)
  where
    choice : (b : Bool) (m n k : ℕ) → m ≤ k → n ≤ k → (if b then m else n) ≤ k
    choice true m n k x y = x
    choice false m n k x y = y
