-- What the check of a file's pieces takes, and what it finds at the end.
use Rattle.std.proofs.Common.{inl, inr, ◌≡◌, ◌≢◌, ◌↔◌, ℕ, ◌+◌, ◌-◌, ◌*◌, ◌^◌, ◌<◌, ◌≤◌, min, List, [], length, slice_range}
use Rattle.std.proofs.Common.{Option, Some, None, refl, sym, ap, ◌∙◌, subst, subst₂, arith}
use Rattle.std.specs.Prelude.{option_map}
use Rattle.std.proofs.lemmas.Bool.{cases_lt}
use Rattle.std.proofs.lemmas.List.{take_all}
use Rattle.std.proofs.lemmas.Option.{none-some, same_Some, slice_get_past}
use Rattle.hashtree.specs.Bits.{bit_of}
use Rattle.hashtree.specs.Difference.{IsComparison, IsFirstDifference}
use Rattle.hashtree.specs.Judging.{IsJudgedRow}
use Rattle.hashtree.specs.Pieces.{piece_nodes}
use Rattle.hashtree.specs.Tree.{block_count, first_pad, height, root_of}
use Rattle.hashtree.proofs.Complete.{length-complete_nodes}
use Rattle.hashtree.proofs.Marking.{length-piece_nodes}
use Rattle.hashtree.proofs.PieceNodes.{layer_is_pieces}
use Rattle.opening.specs.Description.{TreeEntry}
use Rattle.opening.specs.PieceLayers.{piece_layer}
use Rattle.short_pushes.specs.RowChecks as rows
use Rattle.short_pushes.specs.declared.row_check.RowCheck.{RowCheck}
use Rattle.btcheck_c.specs.FileChecks.{BeginsFileAnew, IsAgainst, IsFileVerdict, IsFirstFrom, IsRootVerdict}
use Rattle.btcheck_c.specs.FileChecks.{check_bytes_left, row_length}
use Rattle.btcheck_c.specs.declared.file_check.FileCheck.{FileCheck}
use Rattle.btcheck_c.proofs.FilePieces.{layer_inside, not_complete, one_node, one_whole, only_piece, range_whole, some_length, whole_file}

-- ---- beginning anew

-- the same pieces, and nothing was given yet
pub anew : (c d : FileCheck) → d.first ≡ c.first → d.root ≡ c.root → rows.BeginsPushesAnew c.check d.check → BeginsFileAnew c d
anew c d first root begun = λ p e from to a. record {
  against = record {
    order = a.order;
    within = a.within;
    first = first ∙ a.first;
    size = begun.shape_is ∙ a.size;
    layer = begun.layer_is ∙ a.layer;
    one = λ short. let o = a.one short in (root ∙ o.0, ap length begun.hashes_are ∙ o.1);
    many = λ longer. let m = a.many longer in record { root = root ∙ m.root; listed = m.listed; hashes = begun.hashes_are ∙ m.hashes };
  };
  count = begun.count;
  given = begun.given;
}

-- ---- the end

-- nothing is still to come
pub whole_of : (c : FileCheck) → check_bytes_left c ≡ 0 → rows.row_byte_count c.check ≡ rows.shape_of_row c.check
whole_of c none = let given : rows.row_byte_count c.check ≤ rows.shape_of_row c.check = c.check.given in omega (arith, none, given)

-- a check by a root is of the only piece of a file, and any other is of a longer file
by_which : (p : ℕ) (e : TreeEntry) (from to : ℕ) (c : FileCheck) (r : List ℕ) → IsAgainst p e from to c → c.root ≡ Some r → (e.length ≤ p) × (r ≡ e.root)
by_which p e from to c r a is = elim (cases_lt p e.length) [
  | inl longer ↦ absurd (none-some r (sym (a.many longer).root ∙ is))
  | inr short ↦ (short, same_Some r e.root (sym is ∙ (a.one short).0))
]

is_longer : (p : ℕ) (e : TreeEntry) (from to : ℕ) (c : FileCheck) → IsAgainst p e from to c → c.root ≡ None → p < e.length
is_longer p e from to c a is = elim (cases_lt p e.length) [ inl longer ↦ longer | inr short ↦ absurd (none-some e.root (sym is ∙ (a.one short).0)) ]

-- no bit is set before the end of an only piece
none_marked : (c : FileCheck) (marked content : List ℕ) → length (rows.hashes_of_row c.check) ≡ 1 → length content ≤ rows.shape_of_row c.check
    → rows.IsGivenRow c.check marked content → (k : ℕ) → k < 8 * length marked → bit_of marked k ≡ 1 → ⊥
none_marked c marked content lone few given k lt is =
    let layer = rows.layer_of_row c.check in
    let one : rows.shape_of_row c.check ≤ 16384 * 2 ^ layer = one_node (rows.shape_of_row c.check) layer (sym c.check.whole ∙ lone) in
    let at = ((given.marked k lt).0 is).0 in
    not_complete (length content) layer k (omega (arith, one, few)) (omega (arith, at, length-complete_nodes content layer))

-- the same content, without marks
unmarked : (c : RowCheck) (marked content : List ℕ) → rows.IsGivenRow c marked content → rows.IsGivenRow c [] content
unmarked c marked content g = record {
  length_is = g.length_is;
  taken = g.taken;
  content_is = g.content_is;
  fed = g.fed;
  marked = λ k lt. absurd (omega (arith, lt));
}

-- what the root says of the only piece is the verdict
pub by_root : (c : FileCheck) (r : List ℕ) (n : ℕ) (root lent marked good : List ℕ) (place bad : Option ℕ) → c.root ≡ Some r
    → check_bytes_left c ≡ 0
    → ((content : List ℕ) → rows.IsGivenRow c.check [] content → (n ≡ length content) × (root ≡ root_of content)
    × IsJudgedRow (rows.layer_of_row c.check) (rows.hashes_of_row c.check) content lent place)
    → ((e : TreeEntry) (content : List ℕ) → r ≡ e.root → root ≡ root_of content → IsRootVerdict e content bad)
    → (((k : ℕ) → k < 8 * length marked → bit_of marked k ≡ 1 → ⊥) → (k : ℕ) → k < 8 * length good → (bit_of good k ≡ 1) ↔ ((k ≡ 0) × (root ≡ r)))
    → IsFileVerdict c marked good bad
by_root c r n root lent marked good place bad is none ends judged bits = λ p e from to content a given.
    let which = by_which p e from to c r a is in let short : e.length ≤ p = which.0 in
    let lone = only_piece p e.length from to (some_length p e.length (omega (arith, a.order, a.within))) short a.order a.within in
    let end = ends content (unmarked c.check marked content given) in
    let size : length content ≡ rows.shape_of_row c.check = sym given.length_is ∙ whole_of c none in
    let all : row_length p e.length from to ≡ e.length =
    subst₂ (λ x y. row_length p e.length x y ≡ e.length) (sym lone.0) (sym lone.1) (one_whole p e.length short) in
    let blank = none_marked c marked content (a.one short).1 (omega (arith, size)) given in
    record {
      whole = size ∙ a.size;
      bits = record {
        one = λ _ k lt. let b = bits blank k lt in (λ i. let h = b.0 i in (h.0, sym end.1 ∙ h.1 ∙ which.1), λ i. b.1 (i.0, end.1 ∙ i.1 ∙ sym which.1));
        many = λ longer. absurd (omega (arith, longer, short));
      };
      first = λ longer. absurd (omega (arith, longer, short));
      file = λ none all_pieces. record {
        whole = size ∙ a.size ∙ all;
        one = λ _. judged e content which.1 end.1;
        many = λ longer. absurd (omega (arith, longer, short));
      };
    }

-- the root is the tree's, and the first bit is set
pub good_root : (c : FileCheck) (r : List ℕ) (n : ℕ) (root lent marked good : List ℕ) (place : Option ℕ) → c.root ≡ Some r
    → check_bytes_left c ≡ 0
    → ((content : List ℕ) → rows.IsGivenRow c.check [] content → (n ≡ length content) × (root ≡ root_of content)
    × IsJudgedRow (rows.layer_of_row c.check) (rows.hashes_of_row c.check) content lent place)
    → root ≡ r → length good ≡ length marked → (0 < length marked → bit_of good 0 ≡ 1) → ((k : ℕ) → k ≢ 0 → bit_of good k ≡ bit_of marked k)
    → IsFileVerdict c marked good None
good_root c r n root lent marked good place is none ends equal size set others =
    by_root c r n root lent marked good place None is none ends (λ e content trees found. sym found ∙ equal ∙ trees)
    (λ blank k lt. elim (cases_lt 0 k) [
      | inl more ↦ (
        λ i. absurd (blank k (omega (arith, lt, size)) (sym (others k (λ zero. absurd (omega (arith, more, zero)))) ∙ i)),
        λ i. absurd (omega (arith, more, i.0)),
      )
      | inr first ↦
          let is_first : k ≡ 0 = omega (arith, first) in (
            λ i. (is_first, equal),
            λ i. subst (λ j. bit_of good j ≡ 1) (sym is_first) (set (omega (arith, lt, size))),
          )
    ])

-- it is another, and the bits stay
pub bad_root : (c : FileCheck) (r : List ℕ) (n : ℕ) (root lent good : List ℕ) (place : Option ℕ) → c.root ≡ Some r → check_bytes_left c ≡ 0
    → ((content : List ℕ) → rows.IsGivenRow c.check [] content → (n ≡ length content) × (root ≡ root_of content)
    × IsJudgedRow (rows.layer_of_row c.check) (rows.hashes_of_row c.check) content lent place)
    → root ≢ r → IsFileVerdict c good good (Some 0)
bad_root c r n root lent good place is none ends differs = by_root c r n root lent good good place (Some 0) is none ends
    (λ e content trees found. (refl, λ equal. differs (found ∙ equal ∙ sym trees)))
    (λ blank k lt. (λ i. absurd (blank k lt i), λ i. absurd (differs i.1)))

-- a place at which two lists of one length differ is one of theirs
difference_within : (xs ys : List (List ℕ)) (i : ℕ) → length xs ≡ length ys → IsFirstDifference xs ys i → i < length ys
difference_within xs ys i same first = elim (cases_lt i (length ys)) [
  | inl lt ↦ lt
  | inr past ↦ absurd (first.differs (slice_get_past xs i (omega (arith, past, same)) ∙ sym (slice_get_past ys i past)))
]

-- the place in a row is the number in the file
first_from : (first from : ℕ) (nodes hashes : List (List ℕ)) (place bad : Option ℕ) → first ≡ from → first + length hashes ≤ 2 ^ 47
    → length nodes ≡ length hashes → IsComparison nodes hashes place → bad ≡ option_map (λ n. min (first + n) (2 ^ 64 - 1)) place
    → IsFirstFrom from nodes hashes bad
first_from first from nodes hashes None bad same few count compared is = subst (IsFirstFrom from nodes hashes) (sym is) compared
first_from first from nodes hashes (Some i) bad same few count compared is =
    let inside : i < length hashes = difference_within nodes hashes i count compared in
    subst (IsFirstFrom from nodes hashes) (sym is) (i, omega (arith, inside, few, same), compared)

comparison_from : (nodes hashes : List (List ℕ)) (bad : Option ℕ) → IsFirstFrom 0 nodes hashes bad → IsComparison nodes hashes bad
comparison_from nodes hashes None found = found
comparison_from nodes hashes (Some i) found =
    let same : found.0 ≡ i = omega (arith, found.1) in
    subst (IsFirstDifference nodes hashes) same found.2

-- what the nodes say of pieces of a longer file is the verdict
pub by_layer : (c : FileCheck) (n : ℕ) (root marked good : List ℕ) (place bad : Option ℕ) → c.root ≡ None → check_bytes_left c ≡ 0
    → ((content : List ℕ) → rows.IsGivenRow c.check marked content → (n ≡ length content) × (root ≡ root_of content)
    × IsJudgedRow (rows.layer_of_row c.check) (rows.hashes_of_row c.check) content good place)
    → bad ≡ option_map (λ k. min (c.first + k) (2 ^ 64 - 1)) place → IsFileVerdict c marked good bad
by_layer c n root marked good place bad is none ends numbered = λ p e from to content a given.
    let longer : p < e.length = is_longer p e from to c a is in let m = a.many longer in
    let hashes : List (List ℕ) = slice_range e.layer from to in
    let layer : ℕ = piece_layer p in
    let found : IsJudgedRow layer hashes content good place =
    subst₂ (λ l h. IsJudgedRow l h content good place) a.layer m.hashes (ends content given).2 in
    let size : length content ≡ rows.shape_of_row c.check = sym given.length_is ∙ whole_of c none in
    let count : length (piece_nodes layer content) ≡ length hashes = length-piece_nodes layer content
    ∙ ap (λ k. first_pad (block_count k) layer) size ∙ ap (first_pad (block_count (rows.shape_of_row c.check))) (sym a.layer) ∙ sym c.check.whole
    ∙ ap length m.hashes in
    let compared : IsComparison (piece_nodes layer content) hashes place = subst (λ h. IsComparison (piece_nodes layer content) h place)
    (take_all (length (piece_nodes layer content)) hashes (omega (arith, count))) found.compared in
    let first : IsFirstFrom from (piece_nodes layer content) hashes bad = first_from c.first from (piece_nodes layer content) hashes place bad a.first
    (omega (arith, c.few, ap length m.hashes)) count compared numbered in record {
      whole = size ∙ a.size;
      bits = record { one = λ short. absurd (omega (arith, short, longer)); many = λ _. found.marked };
      first = λ _. first;
      file = λ begins ends_there.
          let all : length content ≡ e.length = size ∙ a.size ∙ subst₂ (λ x y. row_length p e.length x y ≡ e.length) (sym begins) (sym ends_there)
          (whole_file p e.length (some_length p e.length (omega (arith, a.order, a.within)))) in
          let low : layer ≤ height (block_count (length content)) = layer_inside p e.length p (length content) layer longer refl all refl in
          let listed : hashes ≡ e.layer = ap (λ x. slice_range e.layer x to) begins ∙ ap (slice_range e.layer 0) (ends_there ∙ sym m.listed)
          ∙ range_whole e.layer in
          record {
            whole = all;
            one = λ short. absurd (omega (arith, short, longer));
            many = λ _. subst₂ (λ xs ys. IsComparison xs ys bad) (sym (layer_is_pieces content layer low)) listed
                (comparison_from (piece_nodes layer content) hashes bad (subst (λ x. IsFirstFrom x (piece_nodes layer content) hashes bad) begins first));
          };
    }
