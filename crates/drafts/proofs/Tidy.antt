-- A draft's value is canonical where its spelling is not too long.
use Rattle.std.proofs.Common.{◌≡◌, ℕ, suc, ◌+◌, ◌-◌, ◌*◌, ◌/◌, ◌%◌, ◌<◌, ◌≤◌, ◌^◌, Bool, true, false, if◌then◌else◌, List, [], ◌∷◌, ◌++◌, length, map, Option}
use Rattle.std.proofs.Common.{Some, None, slice_get, pow_mono, inl, inr, refl, subst, arith, length-append}
use Rattle.std.specs.Cmp.Lexicographic.{slice_cmp}
use Rattle.std.specs.List.Sorted.{IsStrictlySortedBy}
use Rattle.std.specs.Ordering.{nat_cmp}
use Rattle.std.specs.Prelude.{FitsSigned, pos, codes}
use Rattle.std.specs.Fmt.{decimal}
use Rattle.std.specs.Int.{w64}
use Rattle.benc.specs.Value.{Bencode, int, text, list, dict, Items, no_items, item, Pairs, no_pairs, pair}
use Rattle.benc.specs.Spelling.{string, IsAbove}
use Rattle.benc.specs.Text.{spelling, items_spelling, pairs_spelling, Fits, ItemsFit, PairsFit, IsCanonical}
use Rattle.drafts.proofs.Building.{AreOutlineFiles, above_less, built_tidy, file_tree_built, length_fits}
use Rattle.drafts.proofs.BuiltTrees.{AreTidy, IsTidy, ArePairsTidy}
use Rattle.drafts.specs.Outline.{Outline, OutlineFile, OutlineLayer, IsOutline}
use Rattle.drafts.specs.Written.{file_tree_of, pairs_of_layers, entry_value, pad_value, texts_value, entries_value, gap, needs_pad, list_pair, last_pairs}
use Rattle.drafts.specs.Written.{is_single, first_length, info_value, value_of}
use Rattle.filetree.proofs.Bytes.{true_or_false}
use Rattle.pieces.specs.Pieces.{IsPieceLength}

text_short : (s rest : List ℕ) (n : ℕ) → length (string s ++ rest) < n → length s < n
text_short s rest n h = omega (arith, h, length-append (string s) rest, length-append (decimal (length s)) (58 ∷ s))

text_alone : (s : List ℕ) (n : ℕ) → length (string s) < n → length s < n
text_alone s n h = omega (arith, h, length-append (decimal (length s)) (58 ∷ s))

rest_short : (s rest : List ℕ) (n : ℕ) → length (s ++ rest) < n → length rest < n
rest_short s rest n h = omega (arith, h, length-append s rest)

first_short : (s rest : List ℕ) (n : ℕ) → length (s ++ rest) < n → length s < n
first_short s rest n h = omega (arith, h, length-append s rest)

inner_short : (c : ℕ) (s : List ℕ) (n : ℕ) → length (c ∷ (s ++ 101 ∷ [])) < n → length s < n
inner_short c s n h = omega (arith, h, length-append s (101 ∷ []))

mutual
  pub fits_short : (room : ℕ) (v : Bencode) → IsTidy room v → length (spelling v) < 10 ^ 10 → Fits room v
  fits_short room (int z) tidy short = tidy
  fits_short room (text s) tidy short = text_alone s (10 ^ 10) short
  fits_short room (list vs) tidy short = (tidy.0, items_short (room - 1) vs tidy.1 (inner_short 108 (items_spelling vs) (10 ^ 10) short))
  fits_short room (dict ps) tidy short = (tidy.0, pairs_short (room - 1) None ps tidy.1 (inner_short 100 (pairs_spelling ps) (10 ^ 10) short))

  items_short : (room : ℕ) (vs : Items) → AreTidy room vs → length (items_spelling vs) < 10 ^ 10 → ItemsFit room vs
  items_short room no_items tidy short = tt
  items_short room (item v vs) tidy short = (
    fits_short room v tidy.0 (first_short (spelling v) (items_spelling vs) (10 ^ 10) short),
    items_short room vs tidy.1 (rest_short (spelling v) (items_spelling vs) (10 ^ 10) short),
  )

  pairs_short : (room : ℕ) (before : Option (List ℕ)) (ps : Pairs) → ArePairsTidy room before ps → length (pairs_spelling ps) < 10 ^ 10
      → PairsFit room before ps
  pairs_short room before no_pairs tidy short = tt
  pairs_short room before (pair k v ps) tidy short =
      let rest : length (spelling v ++ pairs_spelling ps) < 10 ^ 10 = rest_short (string k) (spelling v ++ pairs_spelling ps) (10 ^ 10) short in (
        text_short k (spelling v ++ pairs_spelling ps) (10 ^ 10) short,
        tidy.0,
        fits_short room v tidy.1 (first_short (spelling v) (pairs_spelling ps) (10 ^ 10) rest),
        pairs_short room (Some k) ps tidy.2 (rest_short (spelling v) (pairs_spelling ps) (10 ^ 10) rest),
      )

-- ---- the value of a draft

layers_tidy : (room : ℕ) (before : Option (List ℕ)) (es : List OutlineLayer) → IsStrictlySortedBy (slice_cmp nat_cmp) (map (λ (e : OutlineLayer). e.root) es)
    → ((e : OutlineLayer) → slice_get es 0 ≡ Some e → IsAbove e.root before) → ArePairsTidy room before (pairs_of_layers es)
unfolding IsStrictlySortedBy
layers_tidy room before [] order first = tt
layers_tidy room before (e ∷ []) order first = (first e refl, tt, tt)
layers_tidy room before (e ∷ (f ∷ es)) order first = (
  first e refl,
  tt,
  layers_tidy room (Some e.root) (f ∷ es) order.1 (λ g at. let same : f ≡ g = cc in
      subst (λ (x : OutlineLayer). IsAbove x.root (Some e.root)) same (above_less e.root f.root order.0.0)),
)

texts_tidy : (room : ℕ) (ks : List (List ℕ)) → AreTidy room (texts_value ks)
texts_tidy room [] = tt
texts_tidy room (k ∷ ks) = (tt, texts_tidy room ks)

pub gap_below : (p n : ℕ) → 0 < p → gap p n < p
gap_below p n h =
    let all : p * ((n + (p - 1)) / p) + (n + (p - 1)) % p ≡ n + (p - 1) = omega (arith, h) in
    omega (arith, h, all)

pub legal_some : (p : ℕ) → IsPieceLength p → (0 < p) × (p ≤ 2 ^ 30)
legal_some p (k, low, high, is) =
    let least : 2 ^ 14 ≤ 2 ^ k = pow_mono low in
    let most : 2 ^ k ≤ 2 ^ 30 = pow_mono high in
    (omega (arith, least, is), omega (arith, most, is))

gap_fits : (p n : ℕ) → IsPieceLength p → FitsSigned w64 (pos (gap p n))
gap_fits p n legal =
    let some = legal_some p legal in
    length_fits (gap p n) (let less = gap_below p n some.0 in let most : p ≤ 2 ^ 30 = some.1 in omega (arith, less, most))

entry_tidy : (f : OutlineFile) → f.length ≤ 2 ^ 46 → IsTidy 125 (entry_value f)
entry_tidy f bound = (omega arith, (tt, length_fits f.length bound, (refl, (omega arith, texts_tidy 123 f.path), tt)))

pad_tidy : (p n : ℕ) → IsPieceLength p → IsTidy 125 (pad_value (gap p n))
pad_tidy p n legal = (omega arith, (tt, tt, (refl, gap_fits p n legal, (refl, (omega arith, (tt, (tt, tt))), tt))))

entries_tidy : (p : ℕ) (fs : List OutlineFile) → IsPieceLength p → AreOutlineFiles p fs → AreTidy 125 (entries_value p fs)
entries_tidy p [] legal files = tt
entries_tidy p (f ∷ fs) legal files =
    let this = files 0 f refl in
    let rest = entries_tidy p fs legal (λ n g e. files (suc n) g e) in (
      entry_tidy f this.bound,
      elim (true_or_false (needs_pad p f fs)) [
        | inl pad ↦ rw pad (pad_tidy p f.length legal, rest)
        | inr none ↦ rw none rest
      ],
    )

first_bound : (p : ℕ) (fs : List OutlineFile) → AreOutlineFiles p fs → first_length fs ≤ 2 ^ 46
first_bound p [] files = omega arith
first_bound p (f ∷ fs) files = (files 0 f refl).bound

-- what stands behind the file tree, after a key that is below
last_tidy : (d : Outline) (before : List ℕ) → IsPieceLength d.piece_length → IsAbove (codes "meta version") (Some before)
    → ArePairsTidy 126 (Some before) (last_pairs d)
last_tidy d before legal above =
    let most = (legal_some d.piece_length legal).1 in (
      above,
      length_fits 2 (omega arith),
      (
        refl,
        tt,
        (
          refl,
          length_fits d.piece_length (omega (arith, most)),
          elim (true_or_false d.hybrid) [
            | inl hybrid ↦ rw hybrid (refl, tt, tt)
            | inr plain ↦ rw plain tt
          ],
        ),
      ),
    )

list_tidy : (d : Outline) → IsPieceLength d.piece_length → AreOutlineFiles d.piece_length d.files
    → ArePairsTidy 126 (Some (codes "file tree")) (list_pair d (last_pairs d))
list_tidy d legal files =
    elim (true_or_false (is_single d.name d.files)) [
      | inl single ↦ rw single (refl, length_fits (first_length d.files) (first_bound d.piece_length d.files files), last_tidy d (codes "length") legal refl)
      | inr many ↦ rw many (refl, (omega arith, entries_tidy d.piece_length d.files legal files), last_tidy d (codes "files") legal refl)
    ]

either_tidy : (room : ℕ) (before : Option (List ℕ)) (b : Bool) (ps qs : Pairs) → ArePairsTidy room before ps → ArePairsTidy room before qs
    → ArePairsTidy room before (if b then ps else qs)
either_tidy room before true ps qs x y = x
either_tidy room before false ps qs x y = y

info_tidy : (d : Outline) → IsOutline d → IsTidy 127 (info_value d)
info_tidy d o = (
  omega arith,
  (
    tt,
    (omega arith, built_tidy 125 None (file_tree_of d.files) (file_tree_built d.piece_length 125 d.files o.in_order o.files (omega arith))),
    either_tidy 126 (Some (codes "file tree")) d.hybrid (list_pair d (last_pairs d)) (last_pairs d) (list_tidy d o.legal o.files)
        (last_tidy d (codes "file tree") o.legal refl),
  ),
)

pub value_tidy : (d : Outline) → IsOutline d → IsTidy 128 (value_of d)
value_tidy d o = (omega arith, (tt, info_tidy d o, (refl, (omega arith, layers_tidy 126 None d.layers o.layers_ascend (λ e at. tt)), tt)))

pub value_canonical : (d : Outline) → IsOutline d → length (spelling (value_of d)) < 10 ^ 10 → IsCanonical (value_of d)
value_canonical d o short = fits_short 128 (value_of d) (value_tidy d o) short
