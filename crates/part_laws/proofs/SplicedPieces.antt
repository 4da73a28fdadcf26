-- A good piece of one content is good in another that has the same bytes there.
use Rattle.std.proofs.Common.{◌≡◌, ℕ, ◌+◌, ◌-◌, ◌*◌, ◌^◌, ◌<◌, ◌≤◌, min, List, ◌++◌, length, take, drop, replicate, slice_get, Some, refl, ap}
use Rattle.std.proofs.Common.{sym, ◌∙◌, subst, arith}
use Rattle.std.proofs.lemmas.List.{take_all}
use Rattle.sha1.specs.Sha1.{sha1}
use Rattle.hashtree.specs.Tree.{block_count, height, node, root_of}
use Rattle.hashtree.specs.Pieces.{piece_at, piece_node}
use Rattle.hashtree.proofs.Heights.{first_pad-fits, first_pad-place, height_enough}
use Rattle.hashtree.proofs.PieceNodes.{node_is_over_piece}
use Rattle.opening.specs.Description.{Description, FileEntry, Version1}
use Rattle.opening.specs.Sound.{IsSound, piece_layer}
use Rattle.pieces.specs.Cuts.{cut}
use Rattle.folders.proofs.Layers.{layer_is_low}
use Rattle.folders.proofs.Places.{pieces_are_positive}
use Rattle.folders.proofs.Reports.{has_tree}
use Rattle.parts.specs.Parts.{IsPieceGood, IsVersion1Good, piece_count}
use Rattle.parts.proofs.Files.{one_piece}
use Rattle.parts.proofs.RowTells.{blocks_of}
use Rattle.parts.proofs.Streams.{in_pieces}
use Rattle.part_laws.proofs.SplicedBytes.{IsLong}

-- ---- nodes

-- a piece is what one node of the piece layer covers
piece_is_cut : (pl q k : ℕ) (bytes : List ℕ) → pl ≡ 16384 * 2 ^ q → piece_at q bytes k ≡ cut pl bytes k
piece_is_cut pl q k bytes is =
    let start : 16384 * (k * 2 ^ q) ≡ pl * k = (let a : 16384 * (k * 2 ^ q) ≡ 16384 * 2 ^ q * k = omega arith in a) ∙ ap (λ n. n * k) (sym is) in
    ap (λ n. take n (drop (16384 * (k * 2 ^ q)) bytes)) (sym is) ∙ ap (λ n. take pl (drop n bytes)) start

-- the tree of a content that has a byte of the piece has the node over it
node_place : (pl q k len : ℕ) → pl ≡ 16384 * 2 ^ q → q ≡ height (block_count pl) → pl ≤ len → pl * k < len
    → (q ≤ height (block_count len)) × (k < 2 ^ (height (block_count len) - q))
node_place pl q k len is layer long begins =
    let n : ℕ = block_count len in
    let low : q ≤ height n = subst (λ l. l ≤ height n) (sym layer) (layer_is_low pl len long) in
    let start : pl * k ≡ 16384 * (k * 2 ^ q) = ap (λ m. m * k) is ∙ omega arith in
    let covers : k * 2 ^ q < n = omega (arith, begins, start) in
    (low, omega (arith, (first_pad-place n q k).1 covers, first_pad-fits n (height n) q low (height_enough n)))

same_node : (pl k : ℕ) (xs ys : List ℕ) → pl ≡ 16384 * 2 ^ piece_layer pl → pl ≤ length xs → pl * k < length xs → pl ≤ length ys → pl * k < length ys
    → cut pl xs k ≡ cut pl ys k → node xs (piece_layer pl) k ≡ node ys (piece_layer pl) k
same_node pl k xs ys is long_x begins_x long_y begins_y same =
    let q : ℕ = piece_layer pl in
    let x = node_place pl q k (length xs) is refl long_x begins_x in
    let y = node_place pl q k (length ys) is refl long_y begins_y in
    node_is_over_piece xs q k x.0 x.1
    ∙ ap (piece_node q) (piece_is_cut pl q k xs is ∙ same ∙ sym (piece_is_cut pl q k ys is))
    ∙ sym (node_is_over_piece ys q k y.0 y.1)

-- ---- a file's pieces

module _ (t : Description) (n : ℕ) (f : FileEntry) (sound : IsSound t) (there : slice_get t.files n ≡ Some f) (k : ℕ) (lt : k < piece_count t f)
    (bytes own : List ℕ) (whole : IsLong t.piece_length f.length k bytes) (long : IsLong t.piece_length f.length k own)
    (same : cut t.piece_length bytes k ≡ cut t.piece_length own k)
  where
    some : 0 < t.piece_length
    some = pieces_are_positive t sound

    begins : t.piece_length * k < f.length
    begins = in_pieces t.piece_length k f.length some lt

    -- the only piece is the file
    same_file : 0 < f.length → f.length ≤ t.piece_length → bytes ≡ own
    same_file filled short =
        let one : piece_count t f ≤ 1 = one_piece t.piece_length f.length some short in
        let first : k ≡ 0 = omega (arith, lt, one) in
        let last : k + 1 ≡ piece_count t f = omega (arith, lt, one) in
        let all : (xs : List ℕ) → length xs ≡ f.length → cut t.piece_length xs k ≡ xs = λ xs is.
        ap (λ j. take t.piece_length (drop j xs)) (ap (λ j. t.piece_length * j) first ∙ (let a : t.piece_length * 0 ≡ 0 = omega arith in a))
        ∙ take_all t.piece_length xs (omega (arith, is, short)) in
        sym (all bytes (whole.last last)) ∙ same ∙ all own (long.last last)

    pub good_too : IsPieceGood t f own k → IsPieceGood t f bytes k
    good_too good =
        let tree = has_tree t n f good.tree sound there good.tree_is in
        record {
          tree = good.tree;
          tree_is = good.tree_is;
          only = λ short. ap root_of (same_file tree.1 (omega (arith, short, tree.0))) ∙ good.only short;
          listed = λ more.
              let pl : ℕ = t.piece_length in
              let next : pl * (k + 1) ≡ pl * k + pl = omega arith in
              let at : node own (piece_layer pl) k ≡ node bytes (piece_layer pl) k =
              same_node pl k own bytes (blocks_of t sound) (omega (arith, long.whole, next, more, tree.0)) (omega (arith, long.whole, next, some, begins))
              (omega (arith, whole.whole, next, more, tree.0)) (omega (arith, whole.whole, next, some, begins)) (sym same) in
              good.listed more ∙ ap Some at;
        }

    pub version1_too : (v : Version1) → IsVersion1Good t v f own k → IsVersion1Good t v f bytes k
    version1_too v good =
        let size : ℕ = min t.piece_length (v.total - t.piece_length * (f.first_piece + k)) in
        good ∙ ap (λ c. Some (sha1 (c ++ replicate (size - length c) 0))) (sym same)
