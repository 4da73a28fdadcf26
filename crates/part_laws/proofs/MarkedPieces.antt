-- Good pieces of a file, and the file of a piece.
use Rattle.std.proofs.Common.{◌≡◌, ◌⊎◌, inl, inr, ℕ, ◌+◌, ◌-◌, ◌*◌, ◌<◌, ◌≤◌, min, List, length, take, drop, sum_by, slice_get, Option, Some, None}
use Rattle.std.proofs.Common.{refl, sym, ap, ◌∙◌, subst, arith}
use Rattle.std.proofs.lemmas.Bool.{cases_lt}
use Rattle.std.proofs.lemmas.List.{length-take, take-append-drop, take-take, take_all}
use Rattle.std.proofs.lemmas.List.Sums.{sum_by-take-le}
use Rattle.std.proofs.lemmas.Option.{none-some, same_Some}
use Rattle.chains.proofs.Cases.{same_or_not}
use Rattle.hashtree.specs.Tree.{node, root_of}
use Rattle.opening.specs.Description.{Description, FileEntry, TreeEntry}
use Rattle.opening.specs.Sound.{IsSound, piece_layer}
use Rattle.pieces.specs.Cuts.{cut}
use Rattle.folders.specs.Verdicts.{IsListedNode}
use Rattle.folders.proofs.Places.{pieces_are_positive}
use Rattle.parts.specs.Parts.{EndsRight, Holds, IsGoodIn, IsPieceGood, piece_count}
use Rattle.parts.specs.RowBits.{HasGoodPiece}
use Rattle.parts.specs.declared.places.Places.{Places}
use Rattle.parts.proofs.Files.{tree_of_file}
use Rattle.parts.proofs.Joined.{good_node, good_root}
use Rattle.parts.proofs.SharedPlaces.{sum_next}
use Rattle.parts.proofs.Streams.{in_pieces}
use Rattle.part_laws.proofs.SplicedBytes.{IsLong, cut_more, long_file}
use Rattle.part_laws.proofs.SplicedPieces.{good_too}

-- ---- a piece is good or not

node_or_not : (pl : ℕ) (e : TreeEntry) (bytes : List ℕ) (k : ℕ) → IsListedNode pl e bytes k ⊎ (IsListedNode pl e bytes k → ⊥)
node_or_not pl e bytes k = by_item (slice_get e.layer k) refl
  where
    by_item : (o : Option (List ℕ)) → slice_get e.layer k ≡ o → IsListedNode pl e bytes k ⊎ (IsListedNode pl e bytes k → ⊥)
    by_item None is = inr (λ listed. none-some (node bytes (piece_layer pl) k) (sym is ∙ listed))
    by_item (Some h) is = elim (same_or_not h (node bytes (piece_layer pl) k)) [
      | inl same ↦ inl (is ∙ ap Some same)
      | inr other ↦ inr (λ listed. other (same_Some h (node bytes (piece_layer pl) k) (sym is ∙ listed)))
    ]

module _ (t : Description) (n : ℕ) (f : FileEntry) (sound : IsSound t) (there : slice_get t.files n ≡ Some f) (k : ℕ) (lt : k < piece_count t f) where
  begins : t.piece_length * k < f.length
  begins = in_pieces t.piece_length k f.length (pieces_are_positive t sound) lt

  piece_or_not : (bytes : List ℕ) → IsPieceGood t f bytes k ⊎ (IsPieceGood t f bytes k → ⊥)
  piece_or_not bytes =
      let e = tree_of_file t n f sound there (omega (arith, begins)) in
      elim (cases_lt t.piece_length e.0.length) [
        | inl long ↦ elim (node_or_not t.piece_length e.0 bytes k) [
          | inl listed ↦ inl (record { tree = e.0; tree_is = e.1; only = λ short. absurd (omega (arith, short, long)); listed = λ _. listed })
          | inr other ↦ inr (λ good. other (good_node t f e.0 bytes k e.1 good long))
        ]
        | inr short ↦ elim (same_or_not (root_of bytes) e.0.root) [
          | inl same ↦ inl (record { tree = e.0; tree_is = e.1; only = λ _. same; listed = λ long. absurd (omega (arith, short, long)) })
          | inr other ↦ inr (λ good. other (good_root t f e.0 bytes k e.1 good short))
        ]
      ]

  pub good_or_not : (bytes : List ℕ) → HasGoodPiece t f bytes k ⊎ (HasGoodPiece t f bytes k → ⊥)
  good_or_not bytes = elim (cases_lt (length bytes) (min (t.piece_length * (k + 1)) f.length)) [
    | inl few ↦ inr (λ good. omega (arith, few, good.whole))
    | inr enough ↦ elim (piece_or_not (take f.length bytes)) [
      | inl good ↦ inl (record { whole = enough; good = good })
      | inr other ↦ inr (λ good. other good.good)
    ]
  ]

  -- ---- a piece of bytes that may go on behind the file's length

  -- it is that of the bytes up to there
  stated_cut : (bytes : List ℕ) → IsLong t.piece_length f.length k bytes → f.length < length bytes
      → cut t.piece_length (take f.length bytes) k ≡ cut t.piece_length bytes k
  stated_cut bytes long more =
      let stated : List ℕ = take f.length bytes in
      let len : length stated ≡ f.length = omega (arith, more, length-take f.length bytes) in
      let next : k + 1 < piece_count t f = elim (cases_lt (k + 1) (piece_count t f)) [
        | inl inside ↦ inside
        | inr past ↦ absurd (omega (arith, more, long.last (omega (arith, past, lt))))
      ] in
      let inside : t.piece_length * (k + 1) < f.length = in_pieces t.piece_length (k + 1) f.length (pieces_are_positive t sound) next in
      sym (cut_more t.piece_length stated (drop f.length bytes) k (omega (arith, inside, len)))
      ∙ ap (λ b. cut t.piece_length b k) (take-append-drop f.length bytes)

  stated_long : (bytes : List ℕ) → f.length < length bytes → IsLong t.piece_length f.length k (take f.length bytes)
  stated_long bytes more = long_file t.piece_length f.length k (take f.length bytes) (omega (arith, more, length-take f.length bytes))

  -- so both are good
  stated_good : (bytes : List ℕ) → IsLong t.piece_length f.length k bytes → IsPieceGood t f bytes k → IsPieceGood t f (take f.length bytes) k
  stated_good bytes long good = elim (cases_lt f.length (length bytes)) [
    | inr short ↦ subst (λ b. IsPieceGood t f b k) (sym (take_all f.length bytes short)) good
    | inl more ↦ good_too t n f sound there k lt (take f.length bytes) bytes (stated_long bytes more) long (stated_cut bytes long more) good
  ]

  pub own_good : (bytes : List ℕ) → IsLong t.piece_length f.length k bytes → IsPieceGood t f (take f.length bytes) k → IsPieceGood t f bytes k
  own_good bytes long good = elim (cases_lt f.length (length bytes)) [
    | inr short ↦ subst (λ b. IsPieceGood t f b k) (take_all f.length bytes short) good
    | inl more ↦ good_too t n f sound there k lt bytes (take f.length bytes) long (stated_long bytes more) (sym (stated_cut bytes long more)) good
  ]

  -- ---- what a part says

  -- bytes that end rightly have a piece that is among the places whole
  pub long_in : (r : Places) (bytes : List ℕ) → EndsRight t r f bytes → min (t.piece_length * (k + 1)) f.length ≤ length bytes
      → Holds r (f.first_piece + k) → IsLong t.piece_length f.length k bytes
  long_in r bytes ends whole held = record {
    whole = whole;
    last = λ end. ends (let last : f.first_piece + k ≡ f.first_piece + (piece_count t f - 1) = omega (arith, end) in subst (Holds r) last held);
  }

  pub good_piece : (bytes : List ℕ) → IsLong t.piece_length f.length k bytes → IsPieceGood t f bytes k → HasGoodPiece t f bytes k
  good_piece bytes long good = record { whole = long.whole; good = stated_good bytes long good }

  -- a piece among the places of a part that calls the file good
  pub good_in : (r : Places) (bytes : List ℕ) → IsGoodIn t r f bytes → Holds r (f.first_piece + k) → HasGoodPiece t f bytes k
  good_in r bytes is held = good_piece bytes (long_in r bytes is.end (is.whole k lt held) held) (is.pieces k lt held)

-- ---- the file of a piece

-- the pieces of a file come before those of a later one
pieces_before : (t : Description) (n m : ℕ) (f g : FileEntry) → IsSound t → slice_get t.files n ≡ Some f → slice_get t.files m ≡ Some g → n < m
    → f.first_piece + piece_count t f ≤ g.first_piece
pieces_before t n m f g sound f_at g_at lt =
    let pieces : FileEntry → ℕ = λ h. piece_count t h in
    let next = (sum_next pieces t n f f_at).0 in
    let less : sum_by pieces (take (n + 1) (take m t.files)) ≤ sum_by pieces (take m t.files) = sum_by-take-le pieces (take m t.files) (n + 1) in
    let both : take (n + 1) (take m t.files) ≡ take (n + 1) t.files = take-take (n + 1) m t.files (omega (arith, lt)) in
    let less_here : sum_by pieces (take (n + 1) t.files) ≤ sum_by pieces (take m t.files) =
    subst (λ fs. sum_by pieces fs ≤ sum_by pieces (take m t.files)) both less in
    omega (arith, next, less_here, sound.laid_out.first_pieces n f f_at, sound.laid_out.first_pieces m g g_at)

-- a piece is one of one file
pub one_file : (t : Description) (n m : ℕ) (f g : FileEntry) (k j : ℕ) → IsSound t → slice_get t.files n ≡ Some f → slice_get t.files m ≡ Some g
    → k < piece_count t f → j < piece_count t g → f.first_piece + k ≡ g.first_piece + j → m ≡ n
one_file t n m f g k j sound f_at g_at k_lt j_lt same = elim (cases_lt n m) [
  | inl before ↦ absurd (omega (arith, pieces_before t n m f g sound f_at g_at before, same, k_lt))
  | inr not_before ↦ elim (cases_lt m n) [
    | inl after ↦ absurd (omega (arith, pieces_before t m n g f sound g_at f_at after, same, j_lt))
    | inr not_after ↦ omega (arith, not_before, not_after)
  ]
]
