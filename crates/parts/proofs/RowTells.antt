-- The nodes of a row tell which pieces of a torrent's file are good.
use Rattle.std.proofs.Common.{◌≡◌, ◌⊎◌, inl, inr, ℕ, ◌+◌, ◌-◌, ◌*◌, ◌^◌, ◌<◌, ◌≤◌, min, List, [], ◌∷◌, ◌++◌, length, drop, get_or, slice_get, Some}
use Rattle.std.proofs.Common.{refl, ap, sym, subst, ◌∙◌, append-nil, arith}
use Rattle.std.specs.Prelude.{slice_range, ◌↔◌}
use Rattle.std.proofs.Math.Nat.{mul-le-mul_left}
use Rattle.std.proofs.lemmas.Bool.{cases_lt}
use Rattle.std.proofs.lemmas.List.{length-append, length-drop, nil_from_length}
use Rattle.std.proofs.lemmas.Option.{same_Some, slice_get-get_or}
use Rattle.hashtree.specs.Tree.{block_count, first_pad, height, layer_of, node, root_of}
use Rattle.hashtree.specs.Pieces.{piece_nodes}
use Rattle.hashtree.proofs.Heights.{first_pad-place}
use Rattle.hashtree.proofs.Marking.{length-piece_nodes}
use Rattle.hashtree.proofs.Nodes.{top_is_root}
use Rattle.hashtree.proofs.PieceNodes.{layer_is_pieces}
use Rattle.hashtree.proofs.RowNodes.{row_node}
use Rattle.opening.specs.Description.{Description, FileEntry, TreeEntry}
use Rattle.opening.specs.Sound.{IsSound, piece_layer}
use Rattle.folders.specs.Folder.{tree_entry_of}
use Rattle.folders.proofs.Layers.{layer_is_low, layer_of_at, one_at_root, piece_is_blocks}
use Rattle.folders.proofs.Places.{pieces_are_positive}
use Rattle.folders.proofs.Reports.{has_tree}
use Rattle.parts.specs.Parts.{IsPieceGood, piece_count}
use Rattle.parts.specs.RowChecks.{IsRowOf}
use Rattle.parts.proofs.Files.{one_piece}
use Rattle.parts.proofs.GoodPieces.{in_layer}
use Rattle.parts.proofs.Joined.{good_node, good_root}
use Rattle.parts.proofs.RowPieces.{IsRow, in_range, last_begins, range_length, row_listed}
use Rattle.parts.proofs.Streams.{in_pieces}

-- what stands at place j of the row and of its hashes is the same exactly if piece from + j is good
pub record Tells (t : Description) (f : FileEntry) (file : List ℕ) (layer : ℕ) (hashes : List (List ℕ)) (own : List ℕ) (from j : ℕ) : Type 0 where
  pub inside : j < length (piece_nodes layer own)
  pub whole : min (t.piece_length * (from + j + 1)) f.length ≤ length file
  pub same : (get_or (piece_nodes layer own) j [] ≡ get_or hashes j []) ↔ IsPieceGood t f file (from + j)

-- ---- a file that is longer than a piece

-- the numbers of a row: where its piece j begins and ends
record Numbers (pl len from j own all rest : ℕ) : Type 0 where
  pub begins : pl * j < own
  pub end : min (pl * (from + j + 1)) len ≤ all
  pub long : pl ≤ all
  pub ends : (pl * (j + 1) ≤ own) ⊎ (rest ≡ 0)

numbers : (pl len from to j own all rest : ℕ) → 0 < pl → pl < len → from + j < to → pl * (from + j) < len → own ≡ min (pl * to) len - pl * from
    → all - pl * from ≡ own + rest → (len < pl * (from + j + 1) → all ≡ len) → Numbers pl len from j own all rest
numbers pl len from to j own all rest some long lt first count lens end =
    let at : pl * (from + j) ≡ pl * from + pl * j = omega arith in
    let next : pl * (from + j + 1) ≡ pl * (from + j) + pl = omega arith in
    let after : pl * (j + 1) ≡ pl * j + pl = omega arith in
    let within : pl * (from + j + 1) ≤ pl * to = mul-le-mul_left pl (let le : from + j + 1 ≤ to = omega (arith, lt) in le) in
    let one : pl * 1 ≤ pl * (from + j + 1) = mul-le-mul_left pl (let le : 1 ≤ from + j + 1 = omega arith in le) in
    record {
      begins = omega (arith, count, first, at, next, within, some);
      end = omega (arith, count, lens, first, at, next, within, some);
      long = omega (arith, count, lens, first, at, next, within, some, one, long);
      ends = elim (cases_lt len (pl * (from + j + 1))) [
        | inr inside ↦ inl (omega (arith, count, inside, at, next, after, within))
        | inl last ↦ inr (omega (arith, count, lens, end last, last, within, first, at))
      ];
    }

-- the numbers of a piece's bytes, in leaves
pub blocks_of : (t : Description) → IsSound t → t.piece_length ≡ 16384 * 2 ^ piece_layer t.piece_length
blocks_of t sound =
    let e0 : ℕ = sound.legal.0 in
    let m : ℕ = e0 - 14 in
    let blocks = piece_is_blocks m e0 t.piece_length (let low = sound.legal.1 in let s : e0 ≡ m + 14 = omega arith in s) sound.legal.3 in
    blocks.0 ∙ ap (λ i. 16384 * 2 ^ i) (sym blocks.1)

tells_at_pieces : (t : Description) (n : ℕ) (f : FileEntry) (e : TreeEntry) (from to j : ℕ) (file own rest : List ℕ) → IsSound t
    → slice_get t.files n ≡ Some f → tree_entry_of t f ≡ Some e → t.piece_length < f.length → IsRow t f from to own
    → drop (t.piece_length * from) file ≡ own ++ rest → (to ≡ piece_count t f → length file ≡ f.length) → from + j < to
    → Tells t f file (piece_layer t.piece_length) (slice_range e.layer from to) own from j
tells_at_pieces t n f e from to j file own rest sound there is long row at end lt =
    let pl : ℕ = t.piece_length in
    let l : ℕ = piece_layer t.piece_length in
    let some : 0 < t.piece_length = pieces_are_positive t sound in
    let size = blocks_of t sound in
    let within : from + j < piece_count t f = omega (arith, lt, row.inside) in
    let lens : length file - t.piece_length * from ≡ length own + length rest =
    sym (length-drop (pl * from) file) ∙ ap length at ∙ length-append own rest in
    let last : f.length < t.piece_length * (from + j + 1) → length file ≡ f.length = λ over. elim (cases_lt to (piece_count t f)) [
      | inr all ↦ end (omega (arith, all, row.inside))
      | inl more ↦
          let next : t.piece_length * to < f.length = in_pieces pl to f.length some more in
          let le : t.piece_length * (from + j + 1) ≤ t.piece_length * to = mul-le-mul_left pl (let a : from + j + 1 ≤ to = omega (arith, lt) in a) in
          absurd (omega (arith, next, le, over))
    ] in
    let num = numbers pl f.length from to j (length own) (length file) (length rest) some long lt (in_pieces pl (from + j) f.length some within) row.count
    lens last in
    let start : t.piece_length * from ≡ 16384 * (from * 2 ^ piece_layer t.piece_length) = ap (λ p. p * from) size ∙ omega arith in
    let begins : t.piece_length * j ≡ 16384 * (j * 2 ^ piece_layer t.piece_length) = ap (λ p. p * j) size ∙ omega arith in
    let next : t.piece_length * (j + 1) ≡ 16384 * ((j + 1) * 2 ^ piece_layer t.piece_length) = ap (λ p. p * (j + 1)) size ∙ omega arith in
    let covered : j * 2 ^ piece_layer t.piece_length < block_count (length own) = omega (arith, num.begins, begins) in
    let in_row : j < length (piece_nodes (piece_layer t.piece_length) own) =
    omega (arith, (first_pad-place (block_count (length own)) l j).1 covered, length-piece_nodes l own) in
    let whole : (16384 * ((j + 1) * 2 ^ piece_layer t.piece_length) ≤ length own) ⊎ (rest ≡ []) = elim num.ends [
      | inl piece ↦ inl (omega (arith, piece, next))
      | inr none ↦ inr (nil_from_length rest none)
    ] in
    let same : get_or (piece_nodes l own) j [] ≡ node file l (from + j) =
    row_node file own rest l from j (ap (λ i. drop i file) (sym start) ∙ at) (layer_is_low pl (length file) num.long) in_row whole in
    let listed : slice_get e.layer (from + j) ≡ Some (get_or (slice_range e.layer from to) j []) =
    slice_get-get_or e.layer (from + j) [] (in_layer t n f e (from + j) sound there is long within) ∙ ap Some (sym (in_range e.layer from to j lt)) in
    let tree_long : t.piece_length < e.length = omega (arith, (has_tree t n f e sound there is).0, long) in
    record {
      inside = in_row;
      whole = num.end;
      same = (
        λ e_same. record {
          tree = e;
          tree_is = is;
          only = λ short. absurd (omega (arith, short, tree_long));
          listed = λ _. listed ∙ ap Some (sym e_same ∙ same);
        },
        λ good. same ∙ same_Some _ _ (sym (good_node t f e file (from + j) is good tree_long) ∙ listed),
      );
    }

-- ---- a file of one piece

-- the node over the only piece is the root
only_node : (own : List ℕ) (len : ℕ) → length own ≡ len → 0 < len
    → (length (piece_nodes (height (block_count len)) own) ≡ 1) × (get_or (piece_nodes (height (block_count len)) own) 0 [] ≡ root_of own)
only_node own len is some =
    let h : ℕ = height (block_count len) in
    let same : height (block_count (length own)) ≡ height (block_count len) = ap (λ n. height (block_count n)) is in
    let low : height (block_count len) ≤ height (block_count (length own)) = omega (arith, same) in
    let row = layer_is_pieces own h low in
    let one : length (piece_nodes (height (block_count len)) own) ≡ 1 =
    length-piece_nodes h own ∙ ap (λ n. first_pad (block_count n) h) is ∙ one_at_root len some in
    let there : 0 < length (layer_of own (height (block_count len))) = omega (arith, one, ap length row) in (
      one,
      ap (λ l. get_or l 0 []) (sym row) ∙ layer_of_at own h 0 there ∙ ap (λ l. node own l 0) (sym same) ∙ top_is_root own,
    )

-- the only piece is the row
pub record IsOnly (t : Description) (f : FileEntry) (from to : ℕ) (own : List ℕ) : Type 0 where
  pub first : from ≡ 0
  pub last : to ≡ 1
  pub all : to ≡ piece_count t f
  pub some : 0 < f.length
  pub count : length own ≡ f.length

pub is_only : (t : Description) (f : FileEntry) (from to : ℕ) (own : List ℕ) → 0 < t.piece_length → f.length ≤ t.piece_length → IsRow t f from to own
    → IsOnly t f from to own
is_only t f from to own some short row =
    let pl : ℕ = t.piece_length in
    let one : piece_count t f ≤ 1 = one_piece pl f.length some short in
    let first : from ≡ 0 = omega (arith, one, row.piece, row.inside) in
    let last : to ≡ 1 = omega (arith, one, row.piece, row.inside) in
    let begins : t.piece_length * (to - 1) < f.length = last_begins t f from to some row.piece row.inside in
    let none : t.piece_length * from ≡ 0 = ap (λ n. pl * n) first ∙ omega arith in
    let end : t.piece_length * to ≡ t.piece_length = ap (λ n. pl * n) last ∙ omega arith in
    record {
      first = first;
      last = last;
      all = omega (arith, one, row.piece, row.inside);
      some = omega (arith, begins);
      count = omega (arith, row.count, none, end, short);
    }

tells_at_root : (t : Description) (n : ℕ) (f : FileEntry) (e : TreeEntry) (from to j : ℕ) (file own rest : List ℕ) → IsSound t
    → slice_get t.files n ≡ Some f → tree_entry_of t f ≡ Some e → f.length ≤ t.piece_length → IsRow t f from to own
    → drop (t.piece_length * from) file ≡ own ++ rest → (to ≡ piece_count t f → length file ≡ f.length) → from + j < to
    → Tells t f file (height (block_count f.length)) (e.root ∷ []) own from j
tells_at_root t n f e from to j file own rest sound there is short row at end lt =
    let pl : ℕ = t.piece_length in
    let only = is_only t f from to own (pieces_are_positive t sound) short row in
    let none : t.piece_length * from ≡ 0 = ap (λ k. pl * k) only.first ∙ omega arith in
    let len : length file ≡ f.length = end only.all in
    let lens : length file - t.piece_length * from ≡ length own + length rest =
    sym (length-drop (pl * from) file) ∙ ap length at ∙ length-append own rest in
    let file_is : file ≡ own =
    ap (λ k. drop k file) (sym none) ∙ at ∙ ap (λ r. own ++ r) (nil_from_length rest (omega (arith, lens, len, none, only.count))) ∙ append-nil own in
    let here = only_node own f.length only.count only.some in
    let zero : j ≡ 0 = omega (arith, lt, only.last) in
    let place : from + j ≡ 0 = omega (arith, zero, only.first) in
    let tree_short : e.length ≤ t.piece_length = omega (arith, (has_tree t n f e sound there is).0, short) in
    let nodes : List (List ℕ) = piece_nodes (height (block_count f.length)) own in
    record {
      inside = omega (arith, zero, here.0);
      whole = omega (arith, len);
      same = (
        λ same. record {
          tree = e;
          tree_is = is;
          only = λ _. ap root_of file_is ∙ sym here.1 ∙ ap (λ i. get_or nodes i []) (sym zero) ∙ same ∙ ap (λ i. get_or (e.root ∷ []) i []) zero;
          listed = λ long. absurd (omega (arith, long, tree_short));
        },
        λ good.
            ap (λ i. get_or nodes i []) zero ∙ here.1 ∙ ap root_of (sym file_is) ∙ good_root t f e file (from + j) is good tree_short
            ∙ ap (λ i. get_or (e.root ∷ []) i []) (sym zero),
      );
    }

-- ---- both

pub row_tells : (t : Description) (n : ℕ) (f : FileEntry) (e : TreeEntry) (from to j layer : ℕ) (hashes : List (List ℕ)) (file own rest : List ℕ)
    → IsSound t → slice_get t.files n ≡ Some f → tree_entry_of t f ≡ Some e → IsRow t f from to own → IsRowOf t f e from to layer hashes
    → drop (t.piece_length * from) file ≡ own ++ rest → (to ≡ piece_count t f → length file ≡ f.length) → from + j < to
    → Tells t f file layer hashes own from j
row_tells t n f e from to j layer hashes file own rest sound there is row of at end lt = elim (cases_lt t.piece_length f.length) [
  | inl long ↦
      let o = of.at_pieces long in
      subst (λ l. Tells t f file l hashes own from j) (sym o.0) (subst (λ h. Tells t f file (piece_layer t.piece_length) h own from j) (sym o.1)
      (tells_at_pieces t n f e from to j file own rest sound there is long row at end lt))
  | inr short ↦
      let o = of.at_root short in
      subst (λ l. Tells t f file l hashes own from j) (sym o.0) (subst (λ h. Tells t f file (height (block_count f.length)) h own from j) (sym o.1)
      (tells_at_root t n f e from to j file own rest sound there is short row at end lt))
]

-- there is a hash for each piece of the row
pub hash_count : (t : Description) (n : ℕ) (f : FileEntry) (e : TreeEntry) (from to layer : ℕ) (hashes : List (List ℕ)) (own : List ℕ)
    → IsSound t → slice_get t.files n ≡ Some f → tree_entry_of t f ≡ Some e → IsRow t f from to own → IsRowOf t f e from to layer hashes
    → length hashes ≡ to - from
hash_count t n f e from to layer hashes own sound there is row of = elim (cases_lt t.piece_length f.length) [
  | inl long ↦ ap length (of.at_pieces long).1 ∙ range_length e.layer from to (row_listed t n f e from to sound there is long row.piece row.inside)
  | inr short ↦
      let only = is_only t f from to own (pieces_are_positive t sound) short row in
      let one : length (e.root ∷ []) ≡ 1 = refl in
      ap length (of.at_root short).1 ∙ one ∙ omega (arith, only.first, only.last)
]
