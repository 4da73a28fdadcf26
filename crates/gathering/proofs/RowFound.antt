-- What is found of a row of pieces, and how it is written.
use Rattle.std.proofs.Common.{◌≡◌, ℕ, ◌+◌, ◌-◌, ◌*◌, ◌^◌, ◌<◌, ◌≤◌, Bool, true, false, List, [], ◌∷◌, ◌++◌, length, map, take, drop}
use Rattle.std.proofs.Common.{Option, Some, None, Result, Ok, Err, if◌then◌else◌, is_ok, OnOk}
use Rattle.std.specs.Prelude.{nat_le}
use Rattle.std.proofs.Common.{refl, ap, sym, ◌∙◌, subst, append-nil, arith}
use Rattle.std.specs.Io.KnownBytes.{Consumes, IsAtEnd}
use Rattle.std.specs.List.{range_with_len}
use Rattle.std.proofs.Math.Nat.{div-eq_of_lt-le}
use Rattle.std.proofs.Math.Pow.{pow_mono}
use Rattle.std.proofs.lemmas.List.{length-append, length-drop, take-append-le, take_all}
use Rattle.std.proofs.lemmas.List.Concat.{flat_map-append}
use Rattle.std.proofs.lemmas.Bool.{lt-leb}
use Rattle.sha1.specs.Sha1.{sha1}
use Rattle.benc.specs.Device.{SourceSeen}
use Rattle.folders.specs.Seeking.{from_offset}
use Rattle.folders.specs.Shelf.{IsFound}
use Rattle.hashtree.specs.Pieces.{piece_at, piece_node, piece_nodes}
use Rattle.hashtree.specs.Tree.{block_count, first_pad, height, layer_of, root_of}
use Rattle.hashtree.proofs.PieceNodes.{layer_is_pieces}
use Rattle.opening.specs.PieceLayers.{piece_layer}
use Rattle.hashtree.proofs.Heights.{height_enough}
use Rattle.pieces.specs.Cuts.{cut_digests, filled_up, last_cut_of}
use Rattle.part_texts.specs.Divisions.{bytes_of, offset_of}
use Rattle.part_texts.specs.Listings.{Listed}
use Rattle.part_texts.specs.declared.division.Span.{Span}
use Rattle.gathering.specs.Parts.{IsRow, KnownPaths}
use Rattle.gathering.specs.PartRows.{GivesRow, joined_hashes, row_cuts, row_nodes, row_text}

-- ---- the nodes over one piece

pub only_node : (row : List ℕ) (layer : ℕ) → 0 < length row → height (block_count (length row)) ≤ layer
    → piece_nodes layer row ≡ piece_node layer row ∷ []
only_node row layer some low =
    let n : ℕ = block_count (length row) in
    let w : ℕ = 2 ^ layer in
    let up : 2 ^ height n ≤ w = pow_mono {i = height n} {j = layer} low in
    let few : n ≤ w = omega (arith, up, height_enough n) in
    let one : first_pad n layer ≡ 1 = div-eq_of_lt-le {k = 1} w {m = n + (w - 1)} (omega (arith, few, some)) (omega (arith, few, some)) in
    let from : 16384 * (0 * w) ≡ 0 = omega arith in
    let whole : piece_at layer row (0) ≡ row =
    ap (λ k. take (16384 * w) (drop k row)) from ∙ take_all (16384 * w) row (omega (arith, few)) in
    ap (λ c. map (λ i. piece_node layer (piece_at layer row i)) (range_with_len 0 c)) one
    ∙ ap (λ p. piece_node layer p ∷ []) whole

-- ---- the text of a row

pub row_is : (piece_length : ℕ) (hybrid : Bool) (n : ℕ) (row : List ℕ) → 0 < length row
    → row_text piece_length hybrid n row ≡ joined_hashes (row_nodes piece_length n row) ++ joined_hashes (row_cuts piece_length hybrid row)
row_is piece_length hybrid n [] some = absurd (omega (arith, some))
row_is piece_length hybrid n (b ∷ bytes) some = refl

pub cuts_joined : (cuts : List (List ℕ)) (padded : List ℕ) → joined_hashes (cuts ++ padded ∷ []) ≡ joined_hashes cuts ++ padded
cuts_joined cuts padded = flat_map-append (λ x. x) cuts (padded ∷ []) ∙ ap (λ l. joined_hashes cuts ++ l) (append-nil padded)

over_piece : (n piece_length : ℕ) (xs ys : List (List ℕ)) → piece_length < n → (if nat_le n piece_length then xs else ys) ≡ ys
over_piece n piece_length xs ys over = ap (λ b. (if b then xs else ys)) (lt-leb n piece_length over)

pub nodes_of_one : (piece_length n : ℕ) (row : List ℕ) (layer : ℕ) (node : List ℕ) → piece_length < n → layer ≡ piece_layer piece_length → 0 < length row
    → height (block_count (length row)) ≤ layer → node ≡ piece_node layer row → node ≡ joined_hashes (row_nodes piece_length n row)
nodes_of_one piece_length n row layer node over is some low there =
    there ∙ sym (append-nil (piece_node layer row)) ∙ ap joined_hashes (sym (only_node row layer some low)) ∙ ap (λ l. joined_hashes (piece_nodes l row)) is
    ∙ ap joined_hashes (sym (over_piece n piece_length (root_of row ∷ []) (piece_nodes (piece_layer piece_length) row) over))

pub nodes_of_many : (piece_length n : ℕ) (row : List ℕ) (layer : ℕ) (nodes : List (List ℕ)) → piece_length < n → layer ≡ piece_layer piece_length
    → layer ≤ height (block_count (length row)) → nodes ≡ layer_of row (piece_layer piece_length)
    → joined_hashes nodes ≡ joined_hashes (row_nodes piece_length n row)
nodes_of_many piece_length n row layer nodes over is low are =
    ap joined_hashes (are ∙ layer_is_pieces row (piece_layer piece_length) (subst (λ l. l ≤ height (block_count (length row))) is low)
    ∙ sym (over_piece n piece_length (root_of row ∷ []) (piece_nodes (piece_layer piece_length) row) over))

-- what was put behind a text, if it was
pub put_ok : {E : Type 0} (r : Result (Unit {0}) E) (old new more : List ℕ) (Q : Type 0) → new ≡ (if is_ok r then old ++ more else old)
    → (new ≡ old ++ more → Q)
    → OnOk r Q
put_ok (Ok u) old new more Q is then_so = then_so is
put_ok (Err e) old new more Q is then_so = tt

pub cuts_of : (piece_length : ℕ) (hybrid : Bool) (row : List ℕ) (cuts : List (List ℕ)) (padded : List ℕ) → hybrid ≡ true → cuts ≡ cut_digests piece_length row
    → padded ≡ sha1 (filled_up piece_length (last_cut_of piece_length row)) → joined_hashes cuts ++ padded ≡ joined_hashes (row_cuts piece_length hybrid row)
cuts_of piece_length hybrid row cuts padded is cuts_are padded_is =
    sym (cuts_joined cuts padded)
    ∙ ap (λ l. joined_hashes (l ++ padded ∷ [])) cuts_are
    ∙ ap (λ x. joined_hashes (cut_digests piece_length row ++ x ∷ [])) padded_is
    ∙ ap (λ h. joined_hashes (if h then cut_digests piece_length row ++ sha1 (filled_up piece_length (last_cut_of piece_length row)) ∷ [] else [])) (sym is)

-- ---- a row of a file

known_row : (shown : Option (Option (List ℕ))) (left after : Option (List ℕ)) (offset : ℕ) (row : List ℕ) → IsFound (from_offset offset shown) (Some left)
    → Consumes left after row → (content : List ℕ) → shown ≡ Some (Some content)
    → (row ≡ take (length row) (drop offset content)) × (IsAtEnd after → length content - offset ≡ length row)
known_row None left after offset row found gave content is = let no : ⊥ = cc in absurd no
known_row (Some None) left after offset row found gave content is = let no : ⊥ = cc in absurd no
known_row (Some (Some x)) None after offset row found gave content is = let no : ⊥ = cc in absurd no
known_row (Some (Some x)) (Some y) None offset row found gave content is = absurd gave
known_row (Some (Some x)) (Some y) (Some z) offset row found gave content is =
    let from : y ≡ drop offset content = cc in
    let rest : drop offset content ≡ row ++ z = sym from ∙ gave in
    let front : take (length row) (drop offset content) ≡ row =
    ap (take (length row)) rest ∙ take-append-le (length row) row z (omega arith) ∙ take_all (length row) row (omega arith) in (
      sym front,
      λ none.
          let all : length (drop offset content) ≡ length row + length z = ap length rest ∙ length-append row z in
          omega (arith, all, length-drop offset content, ap length none),
    )

pub row_known : (under : KnownPaths) (piece_length : ℕ) (f : Listed) (s : Span) (old new : SourceSeen) (row : List ℕ)
    → IsFound (from_offset (offset_of piece_length s) (under f.path)) (Some old.left) → GivesRow (bytes_of piece_length f.bytes s) s.ends old new row
    → IsRow under piece_length f s row
row_known under piece_length f s old new row opened gives =
    let known = known_row (under f.path) old.left new.left (offset_of piece_length s) row opened gives.gave.given in
    record {
      size = gives.size_is;
      agrees = λ content is. (known content is).0;
      ended = λ ends content is. (known content is).1 (gives.ended ends);
    }

-- of no bytes there is no row
pub nothing_found : (under : KnownPaths) (piece_length : ℕ) (f : Listed) (s : Span) → 0 ≡ bytes_of piece_length f.bytes s → s.ends ≡ false
    → IsRow under piece_length f s []
nothing_found under piece_length f s none no_end = record {
  size = none;
  agrees = λ content is. refl;
  ended = λ ends content is. let no : ⊥ = cc in absurd no;
}
