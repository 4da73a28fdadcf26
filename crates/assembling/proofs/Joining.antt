-- What all parts say of one file: the nodes over its pieces, and a hybrid's digests of its cuts.
use Rattle.std.proofs.Common.{◌≡◌, inl, inr, ℕ, zero, suc, ◌+◌, ◌-◌, ◌*◌, ◌^◌, ◌<◌, ◌≤◌, min, Bool, true, List, [], ◌∷◌, ◌++◌, length, map, take, drop}
use Rattle.std.proofs.Common.{refl, sym, ap, ◌∙◌, arith, length-append}
use Rattle.std.proofs.Math.Seq.{drop-append-add, take-add}
use Rattle.std.specs.List.{range_with_len}
use Rattle.std.proofs.lemmas.Bool.{cases_lt}
use Rattle.std.proofs.lemmas.List.{length-take-le, map-append, nil_from_length, take_all}
use Rattle.std.proofs.lemmas.Nat.{pow_pos}
use Rattle.folders.proofs.Layers.{layer_is_low, piece_is_blocks}
use Rattle.hashtree.proofs.PieceNodes.{layer_is_pieces}
use Rattle.hashtree.proofs.RowNodes.{rows_join}
use Rattle.hashtree.specs.Pieces.{piece_nodes}
use Rattle.hashtree.specs.Tree.{root_of}
use Rattle.opening.specs.PieceLayers.{piece_layer}
use Rattle.gathering.specs.PartRows.{row_nodes}
use Rattle.pieces.proofs.Cutting.{cut_append, cut_count_is, cut_count_none, cut_ends, more_pieces, pieces_cover, some_pieces}
use Rattle.pieces.specs.Cuts.{cut, cut_digests, filled_up, last_cut_of}
use Rattle.pieces.specs.Pieces.{IsPieceLength, pieces_of}
use Rattle.sha1.specs.Sha1.{sha1}
use Rattle.assembling.specs.Taking.{IsOfContent}
use Rattle.assembling.specs.declared.rows.FileRows.{FileRows}
use Rattle.assembling.proofs.Shares.{piece_begins}
use Rattle.assembling.proofs.Widths.{many_nodes, node_count, one_node}

-- ---- cuts behind whole cuts

range_split : (a n m : ℕ) → range_with_len a (n + m) ≡ range_with_len a n ++ range_with_len (a + n) m
range_split a zero m =
    let none : 0 + m ≡ m = omega arith in
    let at : a ≡ a + 0 = omega arith in ap (range_with_len a) none ∙ ap (λ b. range_with_len b m) at
range_split a (suc n) m =
    let more : suc n + m ≡ suc (n + m) = omega arith in
    let at : (a + 1) + n ≡ a + suc n = omega arith in
    ap (range_with_len a) more ∙ ap (λ xs. a ∷ xs) (range_split (a + 1) n m) ∙ ap (λ b. a ∷ (range_with_len (a + 1) n ++ range_with_len b m)) at

moved : {A : Type 0} (f g : ℕ → A) (a b m : ℕ) → ((j : ℕ) → j < m → f (a + j) ≡ g (b + j)) → map f (range_with_len a m) ≡ map g (range_with_len b m)
moved f g a b zero each = refl
moved f g a b (suc m) each =
    let first : f a ≡ g b = let x : a + 0 ≡ a = omega arith in let y : b + 0 ≡ b = omega arith in ap f (sym x) ∙ each 0 (omega arith) ∙ ap g y in
    ap (λ x. x ∷ map f (range_with_len (a + 1) m)) first
    ∙ ap (λ xs. g b ∷ xs) (moved f g (a + 1) (b + 1) m (λ j less. let x : (a + 1) + j ≡ a + suc j = omega arith in let y : b + suc j ≡ (b + 1) + j =
    omega arith in ap f x ∙ each (suc j) (omega (arith, less)) ∙ ap g y))

cut_behind : (p n j : ℕ) (front rest : List ℕ) → length front ≡ p * n → cut p (front ++ rest) (n + j) ≡ cut p rest j
cut_behind p n j front rest whole =
    let at : p * (n + j) ≡ length front + p * j = omega (arith, whole) in
    ap (λ k. take p (drop k (front ++ rest))) at ∙ ap (take p) (drop-append-add front rest (p * j))

count_both : (p n : ℕ) (front rest : List ℕ) → 0 < p → length front ≡ p * n → pieces_of p (length (front ++ rest)) ≡ n + pieces_of p (length rest)
count_both p n front rest some whole =
    let turned : p * n + length rest ≡ n * p + length rest = omega arith in
    ap (pieces_of p) (length-append front rest ∙ ap (λ k. k + length rest) whole ∙ turned) ∙ more_pieces p n (length rest) some

digests_append : (p n : ℕ) (front rest : List ℕ) → 0 < p → length front ≡ p * n → cut_digests p (front ++ rest) ≡ cut_digests p front ++ cut_digests p rest
digests_append p n front rest some whole =
    let m = pieces_of p (length rest) in
    let bare : p * n ≡ n * p + 0 = omega arith in
    let none : n + 0 ≡ n = omega arith in
    let before : pieces_of p (length front) ≡ n = ap (pieces_of p) (whole ∙ bare) ∙ more_pieces p n 0 some ∙ ap (λ k. n + k) (cut_count_none p some) ∙ none in
    let first : map (cut p (front ++ rest)) (range_with_len 0 n) ≡ map (cut p front) (range_with_len 0 n) =
    moved (cut p (front ++ rest)) (cut p front) 0 0 n (λ j less. cut_append p front rest (0 + j) (let ends = cut_ends p (0 + j) n (omega (arith, less)) in
    omega (arith, ends, whole))) in
    let second : map (cut p (front ++ rest)) (range_with_len (0 + n) m) ≡ map (cut p rest) (range_with_len 0 m) =
    moved (cut p (front ++ rest)) (cut p rest) (0 + n) 0 m (λ j less. let x : (0 + n) + j ≡ n + j = omega arith in let y : j ≡ 0 + j = omega arith in
    ap (cut p (front ++ rest)) x ∙ cut_behind p n j front rest whole ∙ ap (cut p rest) y) in
    ap (λ k. map sha1 (map (cut p (front ++ rest)) (range_with_len 0 k))) (count_both p n front rest some whole)
    ∙ ap (λ r. map sha1 (map (cut p (front ++ rest)) r)) (range_split 0 n m)
    ∙ ap (map sha1) (map-append (cut p (front ++ rest)) (range_with_len 0 n) (range_with_len (0 + n) m))
    ∙ map-append sha1 (map (cut p (front ++ rest)) (range_with_len 0 n)) (map (cut p (front ++ rest)) (range_with_len (0 + n) m))
    ∙ ap (λ xs. map sha1 xs ++ map sha1 (map (cut p (front ++ rest)) (range_with_len (0 + n) m))) first
    ∙ ap (λ ys. map sha1 (map (cut p front) (range_with_len 0 n)) ++ map sha1 ys) second
    ∙ ap (λ k. map sha1 (map (cut p front) (range_with_len 0 k)) ++ cut_digests p rest) (sym before)

last_behind : (p n : ℕ) (front rest : List ℕ) → 0 < p → length front ≡ p * n → 0 < length rest → last_cut_of p (front ++ rest) ≡ last_cut_of p rest
last_behind p n front rest some whole more =
    let any = some_pieces p (length rest) some more in
    let at : pieces_of p (length (front ++ rest)) - 1 ≡ n + (pieces_of p (length rest) - 1) = omega (arith, count_both p n front rest some whole, any) in
    ap (cut p (front ++ rest)) at ∙ cut_behind p n (pieces_of p (length rest) - 1) front rest whole

-- ---- the first pieces of a content

abbrev pub first_of : ℕ → List ℕ → ℕ → List ℕ
first_of p c k = take (k * p) c

-- what is there once the first k pieces of a content were said
pub record Upto (p : ℕ) (hybrid : Bool) (c : List ℕ) (k : ℕ) (nodes cuts : List (List ℕ)) (padded : List ℕ) : Type 0 where
  pub many : p < length c → nodes ≡ piece_nodes (piece_layer p) (first_of p c k)
  pub none : length c ≤ p → k ≡ 0 → nodes ≡ []
  pub one : length c ≤ p → 0 < k → nodes ≡ root_of c ∷ []
  pub cuts_are : hybrid ≡ true → cuts ≡ cut_digests p (first_of p c k)
  pub padded_is : hybrid ≡ true → 0 < k → padded ≡ sha1 (filled_up p (last_cut_of p (first_of p c k)))

-- whole pieces
pub legal_some : (p : ℕ) → IsPieceLength p → 0 < p
legal_some p legal = omega (arith, pow_pos legal.0, legal.3)

no_bytes : (p : ℕ) (c : List ℕ) → first_of p c 0 ≡ []
no_bytes p c = let none : 0 * p ≡ 0 = omega arith in ap (λ k. take k c) none

whole_pieces : (p k : ℕ) (c : List ℕ) → k * p ≤ length c → length (first_of p c k) ≡ p * k
whole_pieces p k c le = length-take-le (k * p) c le ∙ omega arith

-- the next pieces behind the first ones
joined_is : (p k l : ℕ) (c row : List ℕ) → k * p < min (l * p) (length c) → row ≡ take (length row) (drop (k * p) c)
    → length row ≡ min (l * p) (length c) - k * p → first_of p c l ≡ first_of p c k ++ row
joined_is p k l c row from is size = elim (cases_lt (length c) (l * p)) [
  | inl short ↦
      let all : k * p + length row ≡ length c = omega (arith, size, from, short) in
      take_all (l * p) c (omega (arith, short)) ∙ sym (take_all (k * p + length row) c (omega (arith, all))) ∙ both
  | inr long ↦
      let end : l * p ≡ k * p + length row = omega (arith, size, from, long) in
      ap (λ n. take n c) end ∙ both
]
  where
    both : take (k * p + length row) c ≡ first_of p c k ++ row
    both = take-add (k * p) (length row) c ∙ ap (λ r. first_of p c k ++ r) (sym is)

pub upto_none : (p : ℕ) (hybrid : Bool) (c padded : List ℕ) → IsPieceLength p → Upto p hybrid c 0 [] [] padded
upto_none p hybrid c padded legal = record {
  many = λ over.
      sym (ap (piece_nodes (piece_layer p)) (no_bytes p c)
      ∙ nil_from_length (piece_nodes (piece_layer p) []) (node_count p [] legal ∙ cut_count_none p (legal_some p legal)));
  none = λ few is. refl;
  one = λ few some. absurd (omega (arith, some));
  cuts_are = λ is.
      sym (ap (cut_digests p) (no_bytes p c) ∙ ap (λ n. map sha1 (map (cut p []) (range_with_len 0 n))) (cut_count_none p (legal_some p legal)));
  padded_is = λ is some. absurd (omega (arith, some));
}

pub upto_more : (p : ℕ) (hybrid : Bool) (c : List ℕ) (k l : ℕ) (row : List ℕ) (nodes cuts : List (List ℕ)) (padded : List ℕ) → IsPieceLength p → k < l
    → l ≤ pieces_of p (length c) → row ≡ take (length row) (drop (k * p) c) → length row ≡ min (l * p) (length c) - k * p
    → Upto p hybrid c k nodes cuts padded
    → Upto p hybrid c l (nodes ++ row_nodes p (length c) row) (cuts ++ cut_digests p row) (sha1 (filled_up p (last_cut_of p row)))
upto_more p hybrid c k l row nodes cuts padded legal lt le is size so_far = record {
  many = λ over.
      ap (λ x. x ++ row_nodes p (length c) row) (so_far.many over)
      ∙ ap (λ y. piece_nodes layer (first_of p c k) ++ y) (many_nodes p (length c) row over)
      ∙ sym (rows_join (first_of p c k) row layer k aligned)
      ∙ ap (piece_nodes layer) (sym next);
  none = λ few zeroth. absurd (omega (arith, zeroth, lt));
  one = λ few more.
      let single : pieces_of p (length c) ≡ 1 = ap (pieces_of p) (omega arith) ∙ cut_count_is p 0 (length c) (omega (arith, begins)) few in
      let first : k ≡ 0 = omega (arith, lt, le, single) in
      let last : l ≡ 1 = omega (arith, lt, le, single) in
      let start : k * p ≡ 0 = ap (λ n. n * p) first ∙ omega arith in
      let end : l * p ≡ p = ap (λ n. n * p) last ∙ omega arith in
      let whole : length row ≡ length c = omega (arith, size, start, end, few) in
      let same : row ≡ c = is ∙ ap (λ n. take n (drop (k * p) c)) whole ∙ ap (λ n. take (length c) (drop n c)) start ∙ take_all (length c) c (omega arith) in
      ap (λ x. x ++ row_nodes p (length c) row) (so_far.none few first) ∙ one_node p (length c) row few ∙ ap (λ r. root_of r ∷ []) same;
  cuts_are = λ both.
      ap (λ x. x ++ cut_digests p row) (so_far.cuts_are both) ∙ sym (digests_append p k (first_of p c k) row some front) ∙ ap (cut_digests p) (sym next);
  padded_is = λ both more. ap (λ b. sha1 (filled_up p b)) (sym (last_behind p k (first_of p c k) row some front has_bytes) ∙ ap (last_cut_of p) (sym next));
}
  where
    layer : ℕ
    layer = piece_layer p

    some : 0 < p
    some = legal_some p legal

    begins : k * p < length c
    begins = piece_begins p (length c) k some (omega (arith, lt, le))

    further : k * p < l * p
    further = grind (arith, some, lt)

    from : k * p < min (l * p) (length c)
    from = omega (arith, begins, further)

    has_bytes : 0 < length row
    has_bytes = omega (arith, from, size)

    next : first_of p c l ≡ first_of p c k ++ row
    next = joined_is p k l c row from is size

    front : length (first_of p c k) ≡ p * k
    front = whole_pieces p k c (omega (arith, begins))

    aligned : length (first_of p c k) ≡ 16384 * (k * 2 ^ layer)
    aligned =
        let blocks = piece_is_blocks (legal.0 - 14) legal.0 p (omega (arith, legal.1)) legal.3 in
        front ∙ ap (λ n. n * k) (blocks.0 ∙ ap (λ m. 16384 * 2 ^ m) (sym blocks.1)) ∙ omega arith

-- once all pieces were said, the whole content was
pub upto_all : (p : ℕ) (hybrid : Bool) (c : List ℕ) (rows : FileRows) → IsPieceLength p
    → Upto p hybrid c (pieces_of p (length c)) rows.nodes.items rows.v1.cuts.items rows.v1.padded → IsOfContent p hybrid c rows
upto_all p hybrid c rows legal all = record {
  many = λ over. all.many over ∙ ap (piece_nodes (piece_layer p)) whole
      ∙ sym (layer_is_pieces c (piece_layer p) (layer_is_low p (length c) (omega (arith, over))));
  one = λ any few. all.one few (some_pieces p (length c) some any);
  v1 = λ both any. record {
    cuts = all.cuts_are both ∙ ap (cut_digests p) whole;
    padded = λ more. all.padded_is both (some_pieces p (length c) some any) ∙ ap (λ x. sha1 (filled_up p (last_cut_of p x))) whole;
  };
}
  where
    some : 0 < p
    some = legal_some p legal

    whole : first_of p c (pieces_of p (length c)) ≡ c
    whole = take_all (pieces_of p (length c) * p) c (pieces_cover p (length c) some)
