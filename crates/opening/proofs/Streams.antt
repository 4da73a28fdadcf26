-- The three tests of a hybrid's version 1 part, by the stream's length as it is read.
use Rattle.std.proofs.Common.{zero-add, zero-mul, inl, inr, ◌⊎◌, ◌≡◌, ◌≢◌, ℕ, zero, suc, ◌*◌, ◌<◌, ◌≤◌, ◌^◌, Bool, true, false, ◌&&◌, ◌||◌, if◌then◌else◌}
use Rattle.std.proofs.Common.{nat_lt, is_some, is_none, List, [], ◌∷◌, take, map, Option, Some, None, option_and_then, unwrap_or, Result, Ok, Err, refl, sym}
use Rattle.std.proofs.Common.{ap, ◌∙◌, subst, arith, codes, slice_get, sum_by, IsTrue}
use Rattle.std.specs.List.{list_any}
use Rattle.std.proofs.lemmas.Slice.Eq.{bytes_eq-Decides}
use Rattle.std.proofs.lemmas.Bool.{and_from, and_parts}
use borrow.Author.Tests.{ltb-true}
use Rattle.benc.specs.Value.{Bencode, int, text, list, dict, Items}
use Rattle.opening.specs.Description.{FileEntry, Version1}
use Rattle.filetree.specs.Dictionary.{get, as_list}
use Rattle.filetree.specs.FileTree.{length_at}
use Rattle.filetree.specs.declared.files.ListedFile.{ListedFile}
use Rattle.opening.specs.Matching.{aligned_length, are_same, ends_of, is_length, many_lengths, named_entry, nowhere, one_length, or_else, stream_under}
use Rattle.opening.specs.PieceLayers.{as_digests}
use Rattle.filetree.specs.Tests.{First, NoneHolds}
use Rattle.opening.specs.Refusals.{hybrid_rows}
use Rattle.opening.specs.Stream.{is_named, Part, Named, DiffersFromFiles, IsMisplaced, IsTooLong, IsVersion1, cuts_in, files_in, is_broken, is_hybrid, named}
use Rattle.opening.specs.Stream.{named_part, parts_in, parts_of, stream_length, the_parts, version1_of}
use Rattle.pieces.specs.Pieces.{pieces_of}
use Rattle.pieces.proofs.Cutting.{pieces_cover}
use Rattle.filetree.specs.declared.refusal.Refusal.{Refusal}
use Rattle.filetree.specs.declared.refusal.Refusal.TheVariants as refusals
use Rattle.opening.specs.declared.version1.Ends.{Ends}
use Rattle.opening.proofs.Aligned.{AreEnds, IsEnd, ends_are, pieces_end}
use Rattle.opening.proofs.Hybrids.{AreParts, length_back, length_is, other_parts, same_parts}

-- the stream's length, or the first of the first two tests that holds
abbrev pub Streamed : ℕ → List ListedFile → Option (List Part) → Result ℕ Refusal → Type 0
Streamed k fs ps (Ok n) =
    (DiffersFromFiles fs ps → ⊥) × ((IsMisplaced k (the_parts ps) ⊎ IsTooLong k (the_parts ps)) → ⊥) × (n ≡ stream_length (the_parts ps))
Streamed k fs ps (Err r) =
    ((r ≡ refusals.HybridFiles) × DiffersFromFiles fs ps)
    ⊎ ((r ≡ refusals.HybridAlign) × (DiffersFromFiles fs ps → ⊥) × (IsMisplaced k (the_parts ps) ⊎ IsTooLong k (the_parts ps)))

-- ---- the entries of `files`

differs_by : (fs : List ListedFile) (es : List FileEntry) (vs : Items) (o : Option (List Part)) → map named_entry es ≡ map named fs → are_same vs es ≡ false
    → parts_of vs ≡ o → DiffersFromFiles fs o
differs_by fs es vs None names other at = tt
differs_by fs es vs (Some ps) names other at = by_broken (list_any is_broken ps) refl
  where
    by_broken : (b : Bool) → list_any is_broken ps ≡ b → IsTrue (list_any is_broken ps) ⊎ (files_in ps ≢ map named fs)
    by_broken true e = inl e
    by_broken false e = inr (λ same. other_parts vs es other ps at e (same ∙ sym names))

is_same_list : (fs : List ListedFile) (es : List FileEntry) (vs : Items) → map named_entry es ≡ map named fs → (h : AreParts vs es)
    → DiffersFromFiles fs (Some h.parts) → ⊥
is_same_list fs es vs names h (inl broken) = let bad : true ≡ false = sym broken ∙ h.whole in let no_way : ⊥ = cc in no_way
is_same_list fs es vs names h (inr differ) = differ (h.same ∙ names)

-- how the stream's end and the pieces' end compare
by_ends : (k : ℕ) (fs : List ListedFile) (ps : List Part) (o : Option Ends) → (DiffersFromFiles fs (Some ps) → ⊥) → pieces_end k ps < 2 ^ 64 → AreEnds k ps o
    → Streamed k fs (Some ps) (or_else (aligned_length o) refusals.HybridAlign)
by_ends k fs ps None same fits h = inr (refl, same, inl h)
by_ends k fs ps (Some e) same fits h = by_order (nat_lt e.pieces e.stream) (nat_lt e.stream (2 ^ 64)) refl refl
  where
    by_order : (late small : Bool) → nat_lt e.pieces e.stream ≡ late → nat_lt e.stream (2 ^ 64) ≡ small
        → Streamed k fs (Some ps) (or_else (if late then None else (if small then Some e.stream else None)) refusals.HybridAlign)
    by_order true small late is =
        let after : e.pieces < e.stream = ltb-true e.pieces e.stream late in
        let long : pieces_end k ps < stream_length ps = omega (arith, h.0, h.1) in
        inr (refl, same, inr long)
    by_order false true early is =
        let order : e.stream ≤ e.pieces = grind (arith, early) in
        let not_long : (pieces_end k ps < stream_length ps) → ⊥ = λ long. absurd (omega (arith, h.0, h.1)) in
        (same, (λ wrong. elim wrong [ inl m ↦ h.2 m | inr long ↦ not_long long ]), h.0)
    by_order false false early is =
        let order : e.stream ≤ e.pieces = grind (arith, early) in
        let large : 2 ^ 64 ≤ e.stream = grind (arith, is) in
        absurd (omega (arith, h.1))

many : (k : ℕ) (fs : List ListedFile) (es : List FileEntry) (vs : Items) → map named_entry es ≡ map named fs
    → sum_by (λ (f : Named). pieces_of k f.length) (map named fs) * k < 2 ^ 64 → Streamed k fs (parts_of vs) (many_lengths k vs es)
many k fs es vs names fits = by_test (are_same vs es) refl
  where
    by_test : (b : Bool) → are_same vs es ≡ b
        → Streamed k fs (parts_of vs) (if b then or_else (aligned_length (ends_of k vs nowhere)) refusals.HybridAlign else Err refusals.HybridFiles)
    by_test false other = inl (refl, differs_by fs es vs (parts_of vs) names other refl)
    by_test true is =
        let h = same_parts vs es is in
        let ps = h.parts in
        let end : pieces_end k ps ≡ sum_by (λ (f : Named). pieces_of k f.length) (map named fs) * k =
        ap (λ t. sum_by (λ (f : Named). pieces_of k f.length) t * k) (h.same ∙ names) in
        let start : IsEnd k ps 0 nowhere = record { stream_is = refl; pieces_is = sym (zero-mul k); placed = λ j p lt at file some. absurd (omega arith) } in
        subst (λ (o : Option (List Part)). Streamed k fs o (or_else (aligned_length (ends_of k vs nowhere)) refusals.HybridAlign)) (sym h.listed)
        (by_ends k fs ps (ends_of k vs nowhere) (is_same_list fs es vs names h) (omega (arith, end)) (ends_are k vs ps 0 nowhere h.listed start))

-- ---- the one file of `length`

abbrev one_part : Bencode → List ℕ → Part
one_part info name = record { is_pad = false; length = length_at info; path = Some (name ∷ []) }

named_is : (name : List ℕ) (path : List (List ℕ)) → is_named name path ≡ true → path ≡ name ∷ []
named_is name [] e = let bad : ⊥ = cc in absurd bad
named_is name (s ∷ []) e = ap (λ t. t ∷ []) ((bytes_eq-Decides s name).0 e)
named_is name (s ∷ (t ∷ ts)) e = let bad : ⊥ = cc in absurd bad

named_back : (name : List ℕ) (path : List (List ℕ)) → path ≡ name ∷ [] → is_named name path ≡ true
named_back name path e = ap (is_named name) e ∙ (bytes_eq-Decides name name).1 refl

-- whole pieces are at least as long as what they hold

one_fits : (k : ℕ) (fs : List ListedFile) (f : FileEntry) (info : Bencode) (name : List ℕ) → 0 < k → map named_entry (f ∷ []) ≡ map named fs
    → length_at info ≡ Some f.length → f.path ≡ name ∷ [] → Streamed k fs (Some (one_part info name ∷ [])) (Ok f.length)
one_fits k fs f info name some names size path = (
  (λ differs. elim differs [
    | inl broken ↦ (let whole : list_any is_broken (one_part info name ∷ []) ≡ false = ap (λ (o : Option ℕ). (is_none o || false) || false) size in
        let bad : true ≡ false = sym broken ∙ whole in let no_way : ⊥ = cc in no_way)
    | inr differ ↦ differ (ap (λ (t : Named). t ∷ []) same ∙ names)
  ]),
  (λ wrong. elim wrong [
    | inl m ↦ misplaced m.number m.there m.elsewhere
    | inr long ↦ absurd (omega (
      arith,
      long,
      pieces_cover k f.length some,
      length_is_one,
      pieces_are,
    ))
  ]),
  sym length_is_one,
)
  where
    same : named_part (one_part info name) ≡ named_entry f
    same = ap (λ (o : Option ℕ). let r : Named = record { path = name ∷ []; length = unwrap_or o 0 } in r) size
        ∙ ap (λ p. let r : Named = record { path = p; length = f.length } in r) (sym path)

    length_is_one : stream_length (one_part info name ∷ []) ≡ f.length
    length_is_one = zero-add (unwrap_or (length_at info) 0) ∙ ap (λ (o : Option ℕ). unwrap_or o 0) size

    pieces_are : pieces_end k (one_part info name ∷ []) ≡ pieces_of k f.length * k
    pieces_are = ap (λ t. t * k) (zero-add (pieces_of k (unwrap_or (length_at info) 0))) ∙ ap (λ (o : Option ℕ). pieces_of k (unwrap_or o 0) * k) size

    misplaced : (number : ℕ) {p : Part} → slice_get (one_part info name ∷ []) number ≡ Some p
        → stream_length (take number (one_part info name ∷ [])) ≢ pieces_end k (take number (one_part info name ∷ [])) → ⊥
    misplaced zero there elsewhere = elsewhere (sym (zero-mul k))
    misplaced (suc n) there elsewhere = let bad : ⊥ = cc in bad

one_differs : (k : ℕ) (fs : List ListedFile) (f : FileEntry) (info : Bencode) (name : List ℕ) → map named_entry (f ∷ []) ≡ map named fs
    → (is_length f.length (length_at info) && is_named name f.path) ≡ false → DiffersFromFiles fs (Some (one_part info name ∷ []))
one_differs k fs f info name names other = by_length (length_at info) refl
  where
    by_length : (o : Option ℕ) → length_at info ≡ o → DiffersFromFiles fs (Some (one_part info name ∷ []))
    by_length None e = inl (ap (λ (o : Option ℕ). (is_none o || false) || false) e)
    by_length (Some n) e = inr (λ same.
        let both : named_part (one_part info name) ∷ [] ≡ named_entry f ∷ [] = same ∙ sym names in
        let head : named_part (one_part info name) ≡ named_entry f = cc in
        let path : name ∷ [] ≡ f.path = ap (λ (t : Named). t.path) head in
        let size : unwrap_or (length_at info) 0 ≡ f.length = ap (λ (t : Named). t.length) head in
        let at : length_at info ≡ Some f.length = e ∙ ap Some (ap (λ (o : Option ℕ). unwrap_or o 0) (sym e) ∙ size) in
        let bad : true ≡ false = sym (and_from _ _ (length_back f.length (length_at info) at) (named_back name f.path (sym path))) ∙ other in
        let no_way : ⊥ = cc in no_way)

one : (k : ℕ) (fs : List ListedFile) (es : List FileEntry) (info : Bencode) (name : List ℕ) → 0 < k → map named_entry es ≡ map named fs
    → Streamed k fs (Some (one_part info name ∷ [])) (or_else (one_length info name es) refusals.HybridFiles)
one k fs [] info name some names = inl (
  refl,
  inr (λ same. let bad_list : named_part (one_part info name) ∷ [] ≡ [] = same
      ∙ sym names in let bad : ⊥ = cc in bad),
)
one k fs (f ∷ []) info name some names = by_test (is_length f.length (length_at info) && is_named name f.path) refl
  where
    by_test : (b : Bool) → (is_length f.length (length_at info) && is_named name f.path) ≡ b
        → Streamed k fs (Some (one_part info name ∷ [])) (or_else (if b then Some f.length else None) refusals.HybridFiles)
    by_test true is =
        let both = and_parts _ _ is in
        one_fits k fs f info name some names (length_is f.length (length_at info) both.0) (named_is name f.path both.1)
    by_test false other = inl (refl, one_differs k fs f info name names other)
one k fs (f ∷ (g ∷ es)) info name some names =
    inl (
      refl,
      inr (λ same. let bad_list : named_part (one_part info name) ∷ [] ≡ named_entry f ∷ (named_entry g ∷ map named_entry es) = same
          ∙ sym names in let bad : ⊥ = cc in bad),
    )

-- ---- either

abbrev parts_under : Bencode → List ℕ → Option Bencode → Option Bencode → Option (List Part)
parts_under info name n v =
    if is_some n then (if is_some v then None else Some (one_part info name ∷ []))
    else option_and_then parts_of (option_and_then as_list v)

under : (k : ℕ) (fs : List ListedFile) (es : List FileEntry) (info : Bencode) (name : List ℕ) → 0 < k → map named_entry es ≡ map named fs
    → sum_by (λ (f : Named). pieces_of k f.length) (map named fs) * k < 2 ^ 64 → (n v : Option Bencode)
    → Streamed k fs (parts_under info name n v) (stream_under k info name es n v)
under k fs es info name some names fits None None = inl (refl, tt)
under k fs es info name some names fits None (Some (int z)) = inl (refl, tt)
under k fs es info name some names fits None (Some (text s)) = inl (refl, tt)
under k fs es info name some names fits None (Some (list vs)) = many k fs es vs names fits
under k fs es info name some names fits None (Some (dict ps)) = inl (refl, tt)
under k fs es info name some names fits (Some n) None = one k fs es info name some names
under k fs es info name some names fits (Some n) (Some v) = inl (refl, tt)

pub streamed : (k : ℕ) (fs : List ListedFile) (es : List FileEntry) (info : Bencode) (name : List ℕ) → 0 < k → map named_entry es ≡ map named fs
    → sum_by (λ (f : Named). pieces_of k f.length) (map named fs) * k < 2 ^ 64
    → Streamed k fs (parts_in info name) (stream_under k info name es (get (codes "length") info) (get (codes "files") info))
streamed k fs es info name some names fits = under k fs es info name some names fits (get (codes "length") info) (get (codes "files") info)

-- ---- the digests

-- a torrent with no `pieces` is no hybrid
pub no_hybrid : (k : ℕ) (info : Bencode) (name : List ℕ) (fs : List ListedFile) → get (codes "pieces") info ≡ None
    → NoneHolds (hybrid_rows k info name fs) × IsVersion1 k info name None
no_hybrid k info name fs absent = (
  ((λ h. never h.0), ((λ h. never h.0), ((λ h. never h.0), tt))),
  sym (ap (λ (o : Option Bencode). if is_some o then Some (version1_of k (the_parts (parts_in info name)) info) else None) absent),
)
  where
    never : IsTrue (is_hybrid info) → ⊥
    never h = let bad : true ≡ false = sym h ∙ ap is_some absent in let no_way : ⊥ = cc in no_way

pub stream_refused : (k : ℕ) (info pieces : Bencode) (name : List ℕ) (fs : List ListedFile) (r : Refusal) → get (codes "pieces") info ≡ Some pieces
    → Streamed k fs (parts_in info name) (Err r) → First (hybrid_rows k info name fs) r
stream_refused k info pieces name fs r there (inl (is, differs)) = inl ((ap is_some there, differs), is)
stream_refused k info pieces name fs r there (inr (is, same, wrong)) = inr ((λ h. same h.1), inl ((ap is_some there, wrong), is))

pub cuts_refused : (k : ℕ) (info pieces : Bencode) (name : List ℕ) (fs : List ListedFile) (n : ℕ) → get (codes "pieces") info ≡ Some pieces
    → Streamed k fs (parts_in info name) (Ok n) → as_digests 20 (pieces_of k n) pieces ≡ None → First (hybrid_rows k info name fs) refusals.HybridPieces
cuts_refused k info pieces name fs n there known none =
    inr ((λ h. known.0 h.1), inr ((λ h. known.1 h.1), inl ((ap is_some there, no_cuts), refl)))
  where
    no_cuts : cuts_in k (the_parts (parts_in info name)) info ≡ None
    no_cuts = ap (option_and_then (as_digests 20 (pieces_of k (stream_length (the_parts (parts_in info name)))))) there
        ∙ ap (λ m. as_digests 20 (pieces_of k m) pieces) (sym known.2) ∙ none

pub hybrid_read : (k : ℕ) (info pieces : Bencode) (name : List ℕ) (fs : List ListedFile) (n : ℕ) (ds : List (List ℕ)) → get (codes "pieces") info ≡ Some pieces
    → Streamed k fs (parts_in info name) (Ok n) → as_digests 20 (pieces_of k n) pieces ≡ Some ds
    → NoneHolds (hybrid_rows k info name fs) × IsVersion1 k info name (Some (record { pieces = ds; total = n }))
hybrid_read k info pieces name fs n ds there known some = (
  ((λ h. known.0 h.1), ((λ h. known.1 h.1), ((λ h. let bad : None ≡ Some ds = sym h.1 ∙ cuts in let no_way : ⊥ = cc in no_way), tt))),
  ap Some part ∙ sym (ap (λ (o : Option Bencode). if is_some o then Some (version1_of k (the_parts (parts_in info name)) info) else None) there),
)
  where
    cuts : cuts_in k (the_parts (parts_in info name)) info ≡ Some ds
    cuts = ap (option_and_then (as_digests 20 (pieces_of k (stream_length (the_parts (parts_in info name)))))) there
        ∙ ap (λ m. as_digests 20 (pieces_of k m) pieces) (sym known.2) ∙ some

    part : record { pieces = ds; total = n } ≡ version1_of k (the_parts (parts_in info name)) info
    part = ap (λ m. let r : Version1 = record { pieces = ds; total = m } in r) known.2
        ∙ ap (λ (o : Option (List (List ℕ))). let r : Version1 = record { pieces = unwrap_or o []; total = stream_length (the_parts (parts_in info name)) } in
        r) (sym cuts)
