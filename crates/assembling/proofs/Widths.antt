-- The widths of nodes and of digests, and how many there are.
use Rattle.std.proofs.Common.{◌≡◌, inl, inr, ℕ, zero, suc, ◌+◌, ◌-◌, ◌*◌, ◌^◌, ◌<◌, ◌≤◌, Bool, true, false, List, [], ◌∷◌, ◌++◌, length, map, take, drop}
use Rattle.std.proofs.Common.{replicate, get_or}
use Rattle.std.proofs.Common.{refl, sym, ap, ◌∙◌, subst, arith, if◌then◌else◌}
use Rattle.std.specs.List.{range_with_len}
use Rattle.std.proofs.lemmas.Bool.{cases_lt, le-leb, lt-leb}
use Rattle.std.proofs.lemmas.List.{get_or_append_left, length-drop, length-take}
use Rattle.std.proofs.lemmas.List.FromFn.{get_or-map-range_with_len}
use Rattle.std.proofs.lemmas.Nat.{pow_pos}
use Rattle.sha1.specs.Sha1.{digest_bytes, sha1}
use Rattle.sha2.specs.Sha256.{sha256}
use Rattle.sha2.proofs.Facts256.{length-sha256}
use Rattle.drafts.specs.Outline.{AreOfLength}
use Rattle.folders.proofs.Layers.{whole_layer}
use Rattle.hashtree.proofs.Blocks.{length-block_hashes}
use Rattle.hashtree.proofs.Heights.{first_pad-place}
use Rattle.hashtree.proofs.Marking.{length-piece_nodes}
use Rattle.hashtree.proofs.PieceNodes.{root_over_piece}
use Rattle.hashtree.specs.Pieces.{padded_row, piece_at, piece_node, piece_nodes}
use Rattle.hashtree.specs.Tree.{block, block_count, block_hashes, first_pad, height, pad_leaf, root_of, tree}
use Rattle.opening.specs.PieceLayers.{piece_layer}
use Rattle.gathering.proofs.RowFound.{cuts_joined, row_is}
use Rattle.gathering.specs.PartRows.{joined_hashes, row_nodes, row_text}
use Rattle.pieces.proofs.Cutting.{cut_count_is, length-cut_digests}
use Rattle.pieces.specs.Cuts.{cut_digests, cuts, filled_up, last_cut_of}
use Rattle.pieces.specs.Pieces.{IsPieceLength, pieces_of}
use Rattle.assembling.specs.Said.{FitsCount, RowSaid, said_text}

-- ---- digests

length-digest : (h : List ℕ) → length (digest_bytes h 5) ≡ 20
unfolding digest_bytes
length-digest h = refl

pub length-sha1 : (m : List ℕ) → length (sha1 m) ≡ 20
unfolding sha1
length-sha1 m = length-digest _

sha1_widths : (xs : List (List ℕ)) → AreOfLength 20 (map sha1 xs)
sha1_widths [] = tt
sha1_widths (x ∷ xs) = (length-sha1 x, sha1_widths xs)

-- ---- nodes

length-tree : (m : ℕ) (xs : List (List ℕ)) → length (get_or xs 0 []) ≡ 32 → length (tree m xs) ≡ 32
unfolding tree
length-tree zero xs first = first
length-tree (suc m) xs first = length-sha256 (tree m (take (2 ^ m) xs) ++ tree m (drop (2 ^ m) xs))

pub length-piece_node : (layer : ℕ) (piece : List ℕ) → 0 < length piece → length (piece_node layer piece) ≡ 32
length-piece_node layer piece some =
    let n : ℕ = block_count (length piece) in
    let hs : List (List ℕ) = block_hashes piece n in
    let any : 0 < n = omega (arith, some) in
    length-tree layer (padded_row layer hs)
    (ap length (get_or_append_left hs (replicate (2 ^ layer - length hs) pad_leaf) [] 0 (omega (arith, any, length-block_hashes piece n))
    ∙ get_or-map-range_with_len (λ j. sha256 (block piece j)) 0 n 0 0 [] any (omega arith))
    ∙ length-sha256 (block piece 0))

each_of : (width : ℕ) (f : ℕ → List ℕ) (a n : ℕ) → ((i : ℕ) → i < a + n → length (f i) ≡ width) → AreOfLength width (map f (range_with_len a n))
each_of width f a zero each = tt
each_of width f a (suc n) each = (each a (omega arith), each_of width f (a + 1) n (λ i lt. each i (omega (arith, lt))))

some_piece : (row : List ℕ) (layer i : ℕ) → i < first_pad (block_count (length row)) layer → 0 < length (piece_at layer row i)
some_piece row layer i lt =
    let w : ℕ = 2 ^ layer in
    let inside : i * w < block_count (length row) = (first_pad-place (block_count (length row)) layer i).0 lt in
    let start : 16384 * (i * w) < length row = omega (arith, inside) in
    let size = length-take (16384 * w) (drop (16384 * (i * w)) row) in
    let rest = length-drop (16384 * (i * w)) row in
    let wide = pow_pos layer in
    omega (arith, start, size, rest, wide)

pub node_widths : (layer : ℕ) (row : List ℕ) → AreOfLength 32 (piece_nodes layer row)
node_widths layer row =
    each_of 32 (λ i. piece_node layer (piece_at layer row i)) 0 (first_pad (block_count (length row)) layer)
    (λ i lt. length-piece_node layer (piece_at layer row i) (some_piece row layer i (omega (arith, lt))))

pub length-root : (row : List ℕ) → 0 < length row → length (root_of row) ≡ 32
length-root row some = ap length (root_over_piece row) ∙ length-piece_node (height (block_count (length row))) row some

pub node_count : (p : ℕ) (row : List ℕ) → IsPieceLength p → length (piece_nodes (piece_layer p) row) ≡ pieces_of p (length row)
node_count p row legal =
    length-piece_nodes (piece_layer p) row
    ∙ sym (whole_layer (length row) p legal.0 (piece_layer p) (pieces_of p (length row)) legal.1 legal.3 refl refl)

-- ---- what is said of a row of pieces

abbrev pub row_said : ℕ → ℕ → List ℕ → RowSaid
row_said p n row = record {
  nodes = row_nodes p n row;
  cuts = cut_digests p row;
  padded = sha1 (filled_up p (last_cut_of p row));
}

pub one_node : (p n : ℕ) (row : List ℕ) → n ≤ p → row_nodes p n row ≡ root_of row ∷ []
one_node p n row few = ap (λ b. (if b then root_of row ∷ [] else piece_nodes (piece_layer p) row)) (le-leb n p few)

pub many_nodes : (p n : ℕ) (row : List ℕ) → p < n → row_nodes p n row ≡ piece_nodes (piece_layer p) row
many_nodes p n row over = ap (λ b. (if b then root_of row ∷ [] else piece_nodes (piece_layer p) row)) (lt-leb n p over)

pub row_fits : (p n count : ℕ) (row : List ℕ) → IsPieceLength p → 0 < length row → (n ≤ p → length row ≤ p) → pieces_of p (length row) ≡ count
    → FitsCount count (row_said p n row)
row_fits p n count row legal some short is = elim (cases_lt p n) [
  | inl over ↦ record {
    nodes = ap length (many_nodes p n row over) ∙ node_count p row legal ∙ is;
    node_widths = subst (AreOfLength 32) (sym (many_nodes p n row over)) (node_widths (piece_layer p) row);
    cuts = length-cut_digests p row ∙ is;
    cut_widths = sha1_widths (cuts p row);
    padded_width = length-sha1 (filled_up p (last_cut_of p row));
  }
  | inr within ↦ record {
    nodes = ap length (one_node p n row within) ∙ sym (cut_count_is p 0 (length row) some (short within)) ∙ ap (pieces_of p) (omega arith) ∙ is;
    node_widths = subst (AreOfLength 32) (sym (one_node p n row within)) (length-root row some, tt);
    cuts = length-cut_digests p row ∙ is;
    cut_widths = sha1_widths (cuts p row);
    padded_width = length-sha1 (filled_up p (last_cut_of p row));
  }
]

pub row_written : (p n : ℕ) (hybrid : Bool) (row : List ℕ) → 0 < length row → row_text p hybrid n row ≡ said_text hybrid (row_said p n row)
row_written p n true row some =
    row_is p true n row some
    ∙ ap (λ l. joined_hashes (row_nodes p n row) ++ l) (cuts_joined (cut_digests p row) (sha1 (filled_up p (last_cut_of p row))))
row_written p n false row some = row_is p false n row some
