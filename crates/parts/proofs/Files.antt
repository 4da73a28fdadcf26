-- The verdict on one file, from the verdicts of the parts.
use Rattle.std.proofs.Common.{◌≡◌, ◌⊎◌, inl, inr, ℕ, zero, suc, ◌+◌, ◌-◌, ◌*◌, ◌^◌, ◌<◌, ◌≤◌, List, [], length, replicate, get_or}
use Rattle.std.proofs.Common.{slice_get, Option, Some, None, option_and_then, refl, ap, sym, ◌∙◌, subst, arith}
use Rattle.std.proofs.Math.Nat.{div-mul-le_self}
use Rattle.std.proofs.lemmas.Bool.{cases_lt}
use Rattle.std.proofs.lemmas.List.{length-append, length-replicate, get_or_append_left, get_or-append_right, get_or-replicate}
use Rattle.std.proofs.lemmas.List.FromFn.{fill_by_all}
use Rattle.sha2.proofs.Facts256.{length-sha256}
use Rattle.std.proofs.lemmas.Option.{slice_get-get_or, get_or_from_slice_get}
use Rattle.hashtree.specs.Tree.{Fits, block_count, filled, first_pad, height, layer_count, layer_of, node, root_of, root_over, tree, zero_hash}
use Rattle.hashtree.proofs.Comparing.{length-layer_of}
use Rattle.hashtree.proofs.Heights.{first_pad-fits, height_enough}
use Rattle.hashtree.proofs.Leading.{layers_lead_to_root, length-layer_count}
use Rattle.opening.specs.Description.{Description, FileEntry, TreeEntry}
use Rattle.pieces.specs.Pieces.{IsPieceLength, pieces_of}
use Rattle.opening.specs.Sound.{IsSound, IsSoundTree, piece_layer}
use Rattle.folders.specs.Folder.{tree_entry_of}
use Rattle.folders.specs.Verdicts.{IsListedNode}
use Rattle.folders.specs.declared.report.FileVerdict.{FileVerdict}
use Rattle.folders.specs.declared.report.FileVerdict.TheVariants as file
use Rattle.folders.proofs.Layers.{layer_is_low, layer_of_at, whole_layer}
use Rattle.parts.specs.Collisions.{RowsCollide}
use Rattle.parts.specs.Joins.{NoWorse}
use Rattle.parts.proofs.Rows.{AreHashes, length-node, same_rows}

-- ---- verdicts

pub none_better : (v : FileVerdict) → NoWorse v file.Good → v ≡ file.Good
none_better file.Good h = refl
none_better (file.Bad q) h = absurd h
none_better file.WrongLength h = absurd h
none_better file.Unreadable h = absurd h
none_better file.Missing h = absurd h

pub at_most_bad : (v : FileVerdict) (p : ℕ) → NoWorse v (file.Bad p) → (v ≡ file.Good) ⊎ ((q : ℕ) × (v ≡ file.Bad q) × (p ≤ q))
at_most_bad file.Good p h = inl refl
at_most_bad (file.Bad q) p h = inr (q, refl, h)
at_most_bad file.WrongLength p h = absurd h
at_most_bad file.Unreadable p h = absurd h
at_most_bad file.Missing p h = absurd h

-- ---- a file's tree and its layer

-- a file that is not empty has a tree
pub tree_of_file : (t : Description) (n : ℕ) (f : FileEntry) → IsSound t → slice_get t.files n ≡ Some f → 0 < f.length → (e : TreeEntry)
    × (tree_entry_of t f ≡ Some e)
tree_of_file t n f sound there some = by_tree f.tree refl
  where
    by_tree : (o : Option ℕ) → f.tree ≡ o → (e : TreeEntry) × (tree_entry_of t f ≡ Some e)
    by_tree None is = absurd (omega (arith, (sound.files n f there).no_tree is, some))
    by_tree (Some k) is =
        let tree = (sound.files n f there).tree_there k is in
        (tree.0, ap (option_and_then (slice_get t.trees)) is ∙ tree.1)

-- the piece layer of a file that is longer than a piece
record Layered (pl : ℕ) (e : TreeEntry) (bytes : List ℕ) : Type 0 where
  pub low : piece_layer pl ≤ height (block_count e.length)
  pub own_count : length (layer_of bytes (piece_layer pl)) ≡ length e.layer
  pub pad_count : length e.layer ≡ first_pad (block_count e.length) (piece_layer pl)

layered : (pl : ℕ) (e : TreeEntry) (bytes : List ℕ) → IsPieceLength pl → IsSoundTree pl e → length bytes ≡ e.length → pl < e.length → Layered pl e bytes
layered pl e bytes legal sound len long =
    let low : piece_layer pl ≤ height (block_count e.length) = layer_is_low pl e.length (omega (arith, long)) in
    let pads : length e.layer ≡ first_pad (block_count e.length) (piece_layer pl) =
    whole_layer e.length pl legal.0 (piece_layer pl) (length e.layer) legal.1 legal.3 refl (sound.layer_length long) in
    record {
      low = low;
      own_count = length-layer_of bytes e.length (piece_layer pl) len low ∙ sym pads;
      pad_count = pads;
    }

-- all its nodes are listed: it has the tree's root
pub all_listed : (pl : ℕ) (e : TreeEntry) (bytes : List ℕ) → IsPieceLength pl → IsSoundTree pl e → length bytes ≡ e.length → pl < e.length
    → ((k : ℕ) → k < length e.layer → IsListedNode pl e bytes k) → root_of bytes ≡ e.root
all_listed pl e bytes legal sound len long each =
    let l = layered pl e bytes legal sound len long in
    let m : ℕ = piece_layer pl in
    let same : layer_of bytes m ≡ e.layer =
    sym (fill_by_all (node bytes m) e.layer (layer_count (block_count (length bytes)) m) [] (sym l.own_count ∙ length-layer_count bytes m)
    (λ k lt. get_or_from_slice_get e.layer k (node bytes m k) [] (each k (omega (arith, lt, l.own_count, length-layer_count bytes m))))) in
    let low : piece_layer pl ≤ height (block_count (length bytes)) = omega (arith, l.low, ap (λ n. height (block_count n)) len) in
    sym (layers_lead_to_root bytes m low) ∙ ap (root_over (height (block_count (length bytes))) m) same
    ∙ ap (λ n. root_over (height (block_count n)) m e.layer) len ∙ sound.layer_root long

zero-is_hash : (m : ℕ) → length (zero_hash m) ≡ 32
unfolding tree
zero-is_hash zero = refl
zero-is_hash (suc m) = length-sha256 _

-- the row over a layer, filled up
length-filled : (h m : ℕ) (xs : List (List ℕ)) → length xs ≤ 2 ^ (h - m) → length (filled h m xs) ≡ 2 ^ (h - m)
length-filled h m xs le =
    omega (arith, le, length-append xs (replicate (2 ^ (h - m) - length xs) (zero_hash m)), length-replicate (2 ^ (h - m) - length xs) (zero_hash m))

filled_hashes : (h m : ℕ) (xs : List (List ℕ)) → AreHashes xs → length xs ≤ 2 ^ (h - m) → AreHashes (filled h m xs)
filled_hashes h m xs all le j lt = elim (cases_lt j (length xs)) [
  | inl there ↦ ap length (get_or_append_left xs (replicate (2 ^ (h - m) - length xs) (zero_hash m)) [] j there) ∙ all j there
  | inr past ↦
      ap length (get_or-append_right xs (replicate (2 ^ (h - m) - length xs) (zero_hash m)) (length xs) j [] refl past
      ∙ get_or-replicate (2 ^ (h - m) - length xs) (j - length xs) (zero_hash m) [] (omega (arith, lt, past, length-filled h m xs le)))
      ∙ zero-is_hash m
]

-- a file that fits its tree, and a node of it that is not the listed one: the rows collide
pub other_collides : (pl : ℕ) (e : TreeEntry) (bytes : List ℕ) (k : ℕ) → IsPieceLength pl → IsSoundTree pl e → Fits bytes e.length e.root → pl < e.length
    → k < length e.layer → (IsListedNode pl e bytes k → ⊥)
    → RowsCollide (filled (height (block_count e.length)) (piece_layer pl) (layer_of bytes (piece_layer pl)))
    (filled (height (block_count e.length)) (piece_layer pl) e.layer)
other_collides pl e bytes k legal sound fits long lt differs =
    let l = layered pl e bytes legal sound fits.same_length long in
    let m : ℕ = piece_layer pl in
    let h : ℕ = height (block_count e.length) in
    let own : List (List ℕ) = layer_of bytes m in
    let room : first_pad (block_count e.length) m ≤ 2 ^ (h - m) = first_pad-fits (block_count e.length) h m l.low (height_enough (block_count e.length)) in
    let room_e : length e.layer ≤ 2 ^ (h - m) = omega (arith, room, l.pad_count) in
    let room_own : length own ≤ 2 ^ (h - m) = omega (arith, room_e, l.own_count) in
    let same_h : height (block_count (length bytes)) ≡ h = ap (λ n. height (block_count n)) fits.same_length in
    let roots : tree (h - m) (filled h m own) ≡ tree (h - m) (filled h m e.layer) =
    ap (λ g. root_over g m own) (sym same_h) ∙ layers_lead_to_root bytes m (subst (λ g. m ≤ g) (sym same_h) l.low) ∙ fits.same_root
    ∙ sym (sound.layer_root long) in
    elim (same_rows (h - m) (filled h m own) (filled h m e.layer) (length-filled h m own room_own) (length-filled h m e.layer room_e)
    (filled_hashes h m own (own_hashes e bytes m fits.same_length l.low l.own_count l.pad_count) room_own)
    (filled_hashes h m e.layer (λ j inside. sound.hash_lengths j (get_or e.layer j []) (slice_get-get_or e.layer j [] inside)) room_e) roots) [
      | inr other ↦ other
      | inl each ↦
          let here : get_or own k [] ≡ get_or e.layer k [] =
          sym (get_or_append_left own (replicate (2 ^ (h - m) - length own) (zero_hash m)) [] k (omega (arith, lt, l.own_count)))
          ∙ each k (omega (arith, lt, room_e))
          ∙ get_or_append_left e.layer (replicate (2 ^ (h - m) - length e.layer) (zero_hash m)) [] k lt in
          absurd (differs (slice_get-get_or e.layer k [] lt ∙ ap Some (sym here ∙ layer_of_at bytes m k (omega (arith, lt, l.own_count)))))
    ]
  where
    own_hashes : (e : TreeEntry) (bytes : List ℕ) (m : ℕ) → length bytes ≡ e.length → m ≤ height (block_count e.length)
        → length (layer_of bytes m) ≡ length e.layer → length e.layer ≡ first_pad (block_count e.length) m → AreHashes (layer_of bytes m)
    own_hashes e bytes m len low length-layer_count pads j inside =
        let h : ℕ = height (block_count e.length) in
        let room : first_pad (block_count e.length) m ≤ 2 ^ (h - m) = first_pad-fits (block_count e.length) h m low (height_enough (block_count e.length)) in
        let same_h : h ≡ height (block_count (length bytes)) = ap (λ n. height (block_count n)) (sym len) in
        ap length (layer_of_at bytes m j inside)
        ∙ length-node bytes m j (subst (λ g. m ≤ g) same_h low) (subst (λ g. j < 2 ^ (g - m)) same_h (omega (arith, inside, length-layer_count, pads, room)))

-- ---- pieces

pub one_piece : (pl len : ℕ) → 0 < pl → len ≤ pl → pieces_of pl len ≤ 1
one_piece pl len some le =
    let low : pieces_of pl len * pl ≤ len + (pl - 1) = div-mul-le_self (len + (pl - 1)) pl in
    bound (pieces_of pl len) (omega (arith, low, le, some))
  where
    bound : (c : ℕ) → c * pl < pl + pl → c ≤ 1
    bound zero h = omega arith
    bound (suc zero) h = omega arith
    bound (suc (suc c)) h = absurd (omega (arith, h))
