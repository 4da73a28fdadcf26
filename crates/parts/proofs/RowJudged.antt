-- What a row that was judged says of a torrent's file.
use Rattle.std.proofs.Common.{◌≡◌, ℕ, ◌+◌, ◌-◌, ◌*◌, ◌<◌, ◌≤◌, List, [], ◌++◌, length, take, drop, slice_get, Some, Option}
use Rattle.std.proofs.Common.{IfSome, ap, sym, subst, ◌∙◌, append-nil, drop_at, replicate, arith}
use Rattle.std.specs.Option.{option_map}
use Rattle.std.proofs.Math.Nat.{mul-le-mul_left}
use Rattle.std.proofs.Math.Seq.{take-append-add}
use Rattle.std.proofs.lemmas.List.{drop-take, length-append, length-drop, length-replicate, length-take, take_all}
use Rattle.hashtree.specs.Difference.{IsComparison}
use Rattle.hashtree.specs.Judging.{IsJudgedRow}
use Rattle.hashtree.specs.Pieces.{piece_nodes}
use Rattle.opening.specs.Description.{Description, FileEntry, TreeEntry}
use Rattle.opening.specs.Sound.{IsSound}
use Rattle.folders.specs.Folder.{tree_entry_of}
use Rattle.folders.proofs.Places.{pieces_are_positive}
use Rattle.parts.specs.FilePieces.{IsFirstBadNumber}
use Rattle.parts.specs.Parts.{IsPieceGood, piece_count}
use Rattle.parts.specs.RowBits.{AreBitsOf}
use Rattle.parts.specs.RowChecks.{IsRowOf}
use Rattle.parts.proofs.RowPieces.{IsRow, first_of_rows, last_begins, within_rows}
use Rattle.parts.proofs.SoFar.{all_read}
use Rattle.parts.proofs.RowTells.{Tells, hash_count, row_tells}

-- the content that has the row there, up to the file's stated length
pub record Stated (t : Description) (f : FileEntry) (from to : ℕ) (bytes own : List ℕ) : Type 0 where
  pub rest : List ℕ
  pub at : drop (t.piece_length * from) (take f.length bytes) ≡ own ++ rest
  pub end : to ≡ piece_count t f → length (take f.length bytes) ≡ f.length

pub stated : (t : Description) (f : FileEntry) (from to : ℕ) (bytes own rest : List ℕ) → 0 < t.piece_length → IsRow t f from to own
    → drop (t.piece_length * from) bytes ≡ own ++ rest → Stated t f from to bytes own
stated t f from to bytes own rest some row at =
    let pl : ℕ = t.piece_length in
    let left : ℕ = f.length - t.piece_length * from in
    let more : ℕ = left - length own in
    let last : t.piece_length * (to - 1) < f.length = last_begins t f from to some row.piece row.inside in
    let low : t.piece_length * from ≤ t.piece_length * (to - 1) = mul-le-mul_left pl (let a : from ≤ to - 1 = omega (arith, row.piece) in a) in
    let sum : t.piece_length * from + left ≡ f.length = omega (arith, last, low) in
    let split : length own + more ≡ left = omega (arith, row.count) in
    let lens : length bytes - t.piece_length * from ≡ length own + length rest =
    sym (length-drop (pl * from) bytes) ∙ ap length at ∙ length-append own rest in
    record {
      rest = take more rest;
      at = ap (λ m. drop (pl * from) (take m bytes)) (sym sum) ∙ drop-take (pl * from) left bytes ∙ ap (take left) at
          ∙ ap (λ m. take m (own ++ rest)) (sym split) ∙ take-append-add own rest more;
      end = λ all.
          let over : f.length ≤ t.piece_length * to = all_read t f to some all in
          omega (arith, length-take f.length bytes, lens, row.count, over, last, low);
    }

-- ---- what a judged row says

-- the row has as many nodes as pieces
pub node_count : (t : Description) (n : ℕ) (f : FileEntry) (e : TreeEntry) (from to layer : ℕ) (hashes : List (List ℕ)) (own : List ℕ)
    → IsSound t → slice_get t.files n ≡ Some f → tree_entry_of t f ≡ Some e → IsRow t f from to own → IsRowOf t f e from to layer hashes
    → length (piece_nodes layer own) ≤ length hashes → length (piece_nodes layer own) ≡ to - from
node_count t n f e from to layer hashes own sound there is row of few =
    let some = pieces_are_positive t sound in
    let file : List ℕ = replicate (t.piece_length * from) 0 ++ own in
    let count = hash_count t n f e from to layer hashes own sound there is row of in
    let at : drop (t.piece_length * from) file ≡ own ++ [] = drop_padded (t.piece_length * from) own ∙ sym (append-nil own) in
    let end : to ≡ piece_count t f → length file ≡ f.length = λ all.
    let over : f.length ≤ t.piece_length * to = all_read t f to some all in
    let last : t.piece_length * (to - 1) < f.length = last_begins t f from to some row.piece row.inside in
    let low : t.piece_length * from ≤ t.piece_length * (to - 1) = mul-le-mul_left t.piece_length (let a : from ≤ to - 1 = omega (arith, row.piece) in a) in
    omega (arith, length-append (replicate (t.piece_length * from) 0) own, length-replicate {A = ℕ} (t.piece_length * from) 0, row.count, over, last, low) in
    let last = row_tells t n f e from to (to - from - 1) layer hashes file own [] sound there is row of at end (omega (arith, row.piece)) in
    omega (arith, few, count, last.inside, row.piece)
  where
    drop_padded : (k : ℕ) (own : List ℕ) → drop k (replicate k 0 ++ own) ≡ own
    drop_padded k own = drop_at (replicate k 0) own k (length-replicate {A = ℕ} k 0)

-- the first place that differs is that of the first bad piece
pub row_first : (t : Description) (n : ℕ) (f : FileEntry) (e : TreeEntry) (from to layer : ℕ) (hashes : List (List ℕ)) (bytes own rest good : List ℕ)
    (other : Option ℕ) → IsSound t → slice_get t.files n ≡ Some f → tree_entry_of t f ≡ Some e → IsRow t f from to own
    → IsRowOf t f e from to layer hashes → IsJudgedRow layer hashes own good other
    → drop (t.piece_length * from) bytes ≡ own ++ rest → (to ≡ piece_count t f → length bytes ≡ f.length)
    → IsFirstBadNumber from to (IsPieceGood t f bytes) (option_map (λ j. from + j) other)
row_first t n f e from to layer hashes bytes own rest good other sound there is row of judged at end =
    let nodes : List (List ℕ) = piece_nodes layer own in
    let count = hash_count t n f e from to layer hashes own sound there is row of in
    let size = node_count t n f e from to layer hashes own sound there is row of judged.few in
    let all : take (length nodes) hashes ≡ hashes = take_all (length nodes) hashes (omega (arith, size, count)) in
    first_of_rows nodes hashes other from to (to - from) (IsPieceGood t f bytes) (omega (arith, row.piece)) size count
    (subst (λ h. IsComparison nodes h other) all judged.compared)
    (λ j lt same. (row_tells t n f e from to j layer hashes bytes own rest sound there is row of at end (omega (arith, lt))).same.0 same)
    (λ j lt good. (row_tells t n f e from to j layer hashes bytes own rest sound there is row of at end (omega (arith, lt))).same.1 good)

-- which is one of the row
pub other_within : (t : Description) (n : ℕ) (f : FileEntry) (e : TreeEntry) (from to layer : ℕ) (hashes : List (List ℕ)) (own good : List ℕ)
    (other : Option ℕ) → IsSound t → slice_get t.files n ≡ Some f → tree_entry_of t f ≡ Some e → IsRow t f from to own
    → IsRowOf t f e from to layer hashes → IsJudgedRow layer hashes own good other → IfSome other (λ p. p < to - from)
other_within t n f e from to layer hashes own good other sound there is row of judged =
    let nodes : List (List ℕ) = piece_nodes layer own in
    let count = hash_count t n f e from to layer hashes own sound there is row of in
    let size = node_count t n f e from to layer hashes own sound there is row of judged.few in
    let all : take (length nodes) hashes ≡ hashes = take_all (length nodes) hashes (omega (arith, size, count)) in
    within_rows nodes hashes other (to - from) size count (subst (λ h. IsComparison nodes h other) all judged.compared)

-- the bits of a row that was read whole
pub row_bits : (t : Description) (n : ℕ) (f : FileEntry) (e : TreeEntry) (from to layer : ℕ) (hashes : List (List ℕ)) (bytes own rest good : List ℕ)
    (other : Option ℕ) → IsSound t → slice_get t.files n ≡ Some f → tree_entry_of t f ≡ Some e → IsRow t f from to own
    → IsRowOf t f e from to layer hashes → IsJudgedRow layer hashes own good other
    → drop (t.piece_length * from) bytes ≡ own ++ rest → AreBitsOf t f from to bytes good
row_bits t n f e from to layer hashes bytes own rest good other sound there is row of judged at = λ j bit.
    let so = stated t f from to bytes own rest (pieces_are_positive t sound) row at in
    let size = node_count t n f e from to layer hashes own sound there is row of judged.few in
    let tells : from + j < to → Tells t f (take f.length bytes) layer hashes own from j = λ lt.
    row_tells t n f e from to j layer hashes (take f.length bytes) own so.rest sound there is row of so.at so.end lt in
    let marked = judged.marked j bit in (
      λ set.
          let one = marked.0 set in
          let lt : from + j < to = omega (arith, one.0, size) in
          (lt, record { whole = omega (arith, (tells lt).whole, length-take f.length bytes); good = (tells lt).same.0 one.1 }),
      λ has. marked.1 ((tells has.0).inside, (tells has.0).same.1 has.1.good),
    )
