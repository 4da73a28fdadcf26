-- The bits of a row in which the content ends tell which pieces of a torrent's file are good.
use Rattle.std.proofs.Common.{◌≡◌, inl, ℕ, ◌+◌, ◌-◌, ◌*◌, ◌^◌, ◌<◌, ◌≤◌, min, List, [], length, take, drop, get_or, slice_get, Some}
use Rattle.std.proofs.Common.{ap, sym, subst, inr, ◌∙◌, append-nil, arith}
use Rattle.std.specs.Prelude.{slice_range}
use Rattle.std.proofs.Math.Nat.{mul-le-mul_left}
use Rattle.std.proofs.lemmas.Bool.{cases_lt}
use Rattle.std.proofs.lemmas.List.{length-drop, take_all}
use Rattle.std.proofs.lemmas.Option.{same_Some, slice_get-get_or}
use Rattle.hashtree.specs.Tree.{block_count, height, node}
use Rattle.hashtree.specs.Pieces.{piece_nodes}
use Rattle.hashtree.proofs.Heights.{first_pad-place, height_enough}
use Rattle.hashtree.proofs.Marking.{length-piece_nodes}
use Rattle.hashtree.proofs.RowNodes.{row_node}
use Rattle.opening.specs.Description.{Description, FileEntry, TreeEntry}
use Rattle.opening.specs.Sound.{IsSound, piece_layer}
use Rattle.folders.specs.Folder.{tree_entry_of}
use Rattle.pieces.specs.Marks.{AreMarkedWhole}
use Rattle.folders.proofs.Layers.{layer_is_low}
use Rattle.folders.proofs.Places.{pieces_are_positive}
use Rattle.folders.proofs.Reports.{has_tree}
use Rattle.parts.specs.Parts.{IsPieceGood, piece_count}
use Rattle.parts.specs.RowBits.{AreBitsOf}
use Rattle.parts.specs.RowChecks.{IsRowOf, row_bytes}
use Rattle.parts.proofs.Files.{one_piece}
use Rattle.parts.proofs.GoodPieces.{in_layer}
use Rattle.parts.proofs.Joined.{good_node}
use Rattle.parts.proofs.RowPieces.{in_range}
use Rattle.parts.proofs.RowTells.{blocks_of}

-- the numbers of a row that is cut
cut_short : (pl len from to own all : ℕ) → own < min (pl * to) len - pl * from → all - pl * from ≡ own → all < len
cut_short pl len from to own all short lens = omega (arith, short, lens)

cut_ends : (pl from j own all : ℕ) → 0 < pl → all - pl * from ≡ own → pl * (j + 1) ≤ own → pl * (from + j + 1) ≤ all
cut_ends pl from j own all some lens le =
    let next : pl * (from + j + 1) ≡ pl * from + pl * (j + 1) = omega arith in
    let after : pl * (j + 1) ≡ pl * j + pl = omega arith in
    omega (arith, le, lens, next, after, some)

cut_whole : (pl from j own all : ℕ) → all - pl * from ≡ own → pl * (from + j + 1) ≤ all → pl * (j + 1) ≤ own
cut_whole pl from j own all lens le =
    let next : pl * (from + j + 1) ≡ pl * from + pl * (j + 1) = omega arith in
    omega (arith, le, lens, next)

-- a piece that is whole is one of the row
cut_inside : (pl len from to j own : ℕ) → own < min (pl * to) len - pl * from → pl * (j + 1) ≤ own → from + j < to
cut_inside pl len from to j own short le = elim (cases_lt (from + j) to) [
  | inl lt ↦ lt
  | inr past ↦
      let next : pl * (from + j + 1) ≡ pl * from + pl * (j + 1) = omega arith in
      let most : pl * to ≤ pl * (from + j + 1) = mul-le-mul_left pl (let a : to ≤ from + j + 1 = omega (arith, past) in a) in
      absurd (omega (arith, short, le, next, most))
]

-- of a file that is longer than a piece
cut_at_pieces : (t : Description) (n : ℕ) (f : FileEntry) (e : TreeEntry) (from to : ℕ) (bytes own good : List ℕ) → IsSound t
    → slice_get t.files n ≡ Some f → tree_entry_of t f ≡ Some e → t.piece_length < f.length → to ≤ piece_count t f → length own < row_bytes t f from to
    → drop (t.piece_length * from) bytes ≡ own → AreMarkedWhole good (slice_range e.layer from to) (piece_layer t.piece_length) own
    → AreBitsOf t f from to bytes good
cut_at_pieces t n f e from to bytes own good sound there is long inside short at marked = λ j bit.
    let pl : ℕ = t.piece_length in
    let l : ℕ = piece_layer t.piece_length in
    let some : 0 < t.piece_length = pieces_are_positive t sound in
    let size = blocks_of t sound in
    let lens : length bytes - t.piece_length * from ≡ length own = sym (length-drop (pl * from) bytes) ∙ ap length at in
    let less : length bytes < f.length = cut_short pl f.length from to (length own) (length bytes) short lens in
    let all : take f.length bytes ≡ bytes = take_all f.length bytes (omega (arith, less)) in
    let start : t.piece_length * from ≡ 16384 * (from * 2 ^ piece_layer t.piece_length) = ap (λ p. p * from) size ∙ omega arith in
    let next : t.piece_length * (j + 1) ≡ 16384 * ((j + 1) * 2 ^ piece_layer t.piece_length) = ap (λ p. p * (j + 1)) size ∙ omega arith in
    let after : (j + 1) * 2 ^ piece_layer t.piece_length ≡ j * 2 ^ piece_layer t.piece_length + 2 ^ piece_layer t.piece_length = omega arith in
    let node_is : t.piece_length * (j + 1) ≤ length own → get_or (piece_nodes l own) j [] ≡ node bytes l (from + j) = λ le.
    let piece : 16384 * ((j + 1) * 2 ^ piece_layer t.piece_length) ≤ length own = omega (arith, le, next) in
    let covered : j * 2 ^ piece_layer t.piece_length < block_count (length own) = omega (arith, piece, after, size, some) in
    let in_row : j < length (piece_nodes (piece_layer t.piece_length) own) =
    omega (arith, (first_pad-place (block_count (length own)) l j).1 covered, length-piece_nodes l own) in
    let one : t.piece_length * (from + j + 1) ≤ length bytes = cut_ends pl from j (length own) (length bytes) some lens le in
    let least : t.piece_length * 1 ≤ t.piece_length * (from + j + 1) = mul-le-mul_left pl (let le : 1 ≤ from + j + 1 = omega arith in le) in
    row_node bytes own [] l from j (ap (λ i. drop i bytes) (sym start) ∙ at ∙ sym (append-nil own))
    (layer_is_low pl (length bytes) (omega (arith, one, least))) in_row (inl piece) in
    let listed : from + j < to → slice_get e.layer (from + j) ≡ Some (get_or (slice_range e.layer from to) j []) = λ lt.
    slice_get-get_or e.layer (from + j) [] (in_layer t n f e (from + j) sound there is long (omega (arith, lt, inside)))
    ∙ ap Some (sym (in_range e.layer from to j lt)) in
    let tells = marked j bit in
    let tree_long : t.piece_length < e.length = omega (arith, (has_tree t n f e sound there is).0, long) in (
      λ set.
          let found = tells.0 set in
          let le : t.piece_length * (j + 1) ≤ length own = omega (arith, found.0, next) in
          let lt = cut_inside pl f.length from to j (length own) short le in (
            lt,
            record {
              whole = omega (arith, cut_ends pl from j (length own) (length bytes) some lens le);
              good = subst (λ b. IsPieceGood t f b (from + j)) (sym all) (record {
                tree = e;
                tree_is = is;
                only = λ short. absurd (omega (arith, short, tree_long));
                listed = λ _. listed lt ∙ ap Some (sym found.1 ∙ node_is le);
              });
            },
          ),
      λ has.
          let whole : t.piece_length * (from + j + 1) ≤ length bytes = omega (arith, has.1.whole, less) in
          let le : t.piece_length * (j + 1) ≤ length own = cut_whole pl from j (length own) (length bytes) lens whole in
          let good_there = subst (λ b. IsPieceGood t f b (from + j)) all has.1.good in
          tells.1 (
            omega (arith, le, next),
            node_is le ∙ same_Some _ _
                (sym (good_node t f e bytes (from + j) is good_there tree_long) ∙ listed has.0),
          ),
    )

-- of a file of one piece: it has none
cut_at_root : (t : Description) (f : FileEntry) (hashes : List (List ℕ)) (from to : ℕ) (bytes own good : List ℕ) → 0 < t.piece_length
    → f.length ≤ t.piece_length → to ≤ piece_count t f → length own < row_bytes t f from to → drop (t.piece_length * from) bytes ≡ own
    → AreMarkedWhole good hashes (height (block_count f.length)) own → AreBitsOf t f from to bytes good
cut_at_root t f hashes from to bytes own good some one inside short at marked = λ j bit.
    let pl : ℕ = t.piece_length in
    let lens : length bytes - t.piece_length * from ≡ length own = sym (length-drop (pl * from) bytes) ∙ ap length at in
    let less : length bytes < f.length = cut_short pl f.length from to (length own) (length bytes) short lens in
    let most : f.length ≤ 16384 * 2 ^ height (block_count f.length) = omega (arith, height_enough (block_count f.length)) in
    let own_less : length own < f.length = omega (arith, short) in
    let after : (j + 1) * 2 ^ height (block_count f.length) ≡ j * 2 ^ height (block_count f.length) + 2 ^ height (block_count f.length) = omega arith in
    let tells = marked j bit in (
      λ set. absurd (omega (arith, (tells.0 set).0, own_less, most, after)),
      λ has.
          let few : piece_count t f ≤ 1 = one_piece pl f.length some one in
          let first : from + j + 1 ≡ 1 = omega (arith, has.0, inside, few) in
          let end : t.piece_length * (from + j + 1) ≡ t.piece_length = ap (λ n. pl * n) first ∙ omega arith in
          absurd (omega (arith, has.1.whole, end, one, less)),
    )

-- the bits of a row in which the content ends
pub row_bits_cut : (t : Description) (n : ℕ) (f : FileEntry) (e : TreeEntry) (from to layer : ℕ) (hashes : List (List ℕ)) (bytes own good : List ℕ)
    → IsSound t → slice_get t.files n ≡ Some f → tree_entry_of t f ≡ Some e → to ≤ piece_count t f → IsRowOf t f e from to layer hashes
    → length own < row_bytes t f from to → drop (t.piece_length * from) bytes ≡ own → AreMarkedWhole good hashes layer own
    → AreBitsOf t f from to bytes good
row_bits_cut t n f e from to layer hashes bytes own good sound there is inside of short at marked = elim (cases_lt t.piece_length f.length) [
  | inl long ↦
      let o = of.at_pieces long in
      cut_at_pieces t n f e from to bytes own good sound there is long inside short at
      (subst (λ h. AreMarkedWhole good h (piece_layer t.piece_length) own) o.1 (subst (λ l. AreMarkedWhole good hashes l own) o.0 marked))
  | inr one ↦
      cut_at_root t f hashes from to bytes own good (pieces_are_positive t sound) one inside short at
      (subst (λ l. AreMarkedWhole good hashes l own) (of.at_root one).0 marked)
]
