-- The whole tree of a file that fits a tree is closed.
use Rattle.std.proofs.Common.{◌≡◌, ℕ, zero, suc, ◌+◌, ◌-◌, ◌*◌, ◌/◌, ◌^◌, ◌<◌, ◌≤◌, leb, ltb, ◌&&◌, List, [], ◌++◌, length, take, drop, Some, None, inl, inr}
use Rattle.std.proofs.Common.{sym, ap, ap₂, ◌∙◌, subst, arith, take-take, pow_pos}
use Rattle.std.proofs.lemmas.Option.{cond_some}
use Rattle.std.proofs.lemmas.Bool.{cases_lt, and_parts, and_from, leb-true, ltb-true, le-leb, lt-ltb, cond-true}
use Rattle.std.proofs.lemmas.List.{drop-take, get_or-take}
use Rattle.partial_tree.specs.TreeRoot.{TreeRoot, Fits}
use Rattle.node_maps.specs.Places.{tree_height, IsTreePlace}
use Rattle.node_maps.specs.Digest.{Hash, IsHash, join}
use Rattle.hashtree.specs.Tree.{block, block_count, leaves, tree, node}
use Rattle.hashtree.proofs.Pairs.{two-pow}
use Rattle.partial_tree.specs.Closed.{IsClosed, whole}
use Rattle.partial_tree.proofs.Digests.{is_hash}
use Rattle.partial_tree.proofs.WholeLayers.{pad-is_hash}
use Rattle.node_maps.proofs.Places.{place_parent, place_left, place_right}
use Rattle.tree_laws.proofs.Trees.{node-suc, node-leaf, node-pad, node-past}

-- what the whole tree has at a place
pub whole-at : (f : List ℕ) (l i : ℕ) → IsTreePlace (tree_height (length f)) l i → whole f l i ≡ Some (node f l i)
whole-at f l i at =
    cond-true (leb l (tree_height (length f)) && ltb i (2 ^ (tree_height (length f) - l))) (Some (node f l i)) None
    (and_from _ _ (le-leb _ _ at.0) (lt-ltb _ _ at.1))

-- and it has nothing anywhere else
pub whole-inside : (f : List ℕ) (l i : ℕ) (v : Hash) → whole f l i ≡ Some v → IsTreePlace (tree_height (length f)) l i × (node f l i ≡ v)
whole-inside f l i v e =
    let both = cond_some (leb l (tree_height (length f)) && ltb i (2 ^ (tree_height (length f) - l))) (node f l i) v e in
    let tests = and_parts (leb l (tree_height (length f))) (ltb i (2 ^ (tree_height (length f) - l))) both.0 in
    ((leb-true _ _ tests.0, ltb-true _ _ tests.1), both.1)

-- each node is a hash
pub node-is_hash : (f : List ℕ) (l i : ℕ) → IsTreePlace (tree_height (length f)) l i → IsHash (node f l i)
node-is_hash f zero i at = elim (cases_lt i (block_count (length f))) [
  | inl h ↦ subst IsHash (sym (node-leaf f i h)) (is_hash (block f i))
  | inr h ↦
      let e : tree_height (length f) - 0 ≡ tree_height (length f) = omega arith in
      subst IsHash (sym (node-pad f i (subst (λ k. i < 2 ^ k) e at.1) h)) pad-is_hash
]
node-is_hash f (suc l) i at = subst IsHash (sym (node-suc f l i)) (is_hash (node f l (2 * i) ++ node f l (2 * i + 1)))

-- only the first 2 ^ m hashes count
pub tree-take : (m : ℕ) (xs : List Hash) → tree m (take (2 ^ m) xs) ≡ tree m xs
unfolding tree
tree-take zero xs = get_or-take 1 xs 0 [] (omega arith)
tree-take (suc m) xs =
    let e : 2 ^ suc m ≡ 2 ^ m + 2 ^ m = two-pow m in
    ap₂ (λ a b. join (tree m a) b)
    (take-take (2 ^ m) (2 ^ suc m) xs (omega arith))
    (ap (λ k. tree m (drop (2 ^ m) (take k xs))) e ∙ ap (tree m) (drop-take (2 ^ m) (2 ^ m) xs) ∙ tree-take m (drop (2 ^ m) xs))

-- the node at the root
pub node-root : (f : List ℕ) → node f (tree_height (length f)) 0 ≡ tree (tree_height (length f)) (leaves f)
node-root f =
    let e : 0 * 2 ^ tree_height (length f) ≡ 0 = omega arith in
    ap (λ k. tree (tree_height (length f)) (take (2 ^ tree_height (length f)) (drop k (leaves f)))) e ∙ tree-take (tree_height (length f)) (leaves f)

module _ (f : List ℕ) (t : TreeRoot) (fits : Fits f t.length t.root) where
  same_height : tree_height (length f) ≡ tree_height t.length
  same_height = ap tree_height fits.same_length

  pub whole-closed : IsClosed t (whole f)
  whole-closed = record {
    root_known = subst (λ len. whole f (tree_height len) 0 ≡ Some t.root) fits.same_length
        (whole-at f (tree_height (length f)) 0 (omega arith, pow_pos (tree_height (length f) - tree_height (length f)))
        ∙ ap Some (node-root f ∙ fits.same_root));
    in_tree = λ l i v e. subst (λ h. IsTreePlace h l i) same_height (whole-inside f l i v e).0;
    hashes = λ l i v e. subst IsHash (whole-inside f l i v e).1 (node-is_hash f l i (whole-inside f l i v e).0);
    families = λ l i v e below.
        let h : ℕ = tree_height (length f) in
        let in' : l < h = subst (λ k. l < k) (sym same_height) below in
        let up : IsTreePlace h (suc l) (i / 2) = place_parent h l i in' (whole-inside f l i v e).0 in
        record {
          left = node f l (2 * (i / 2));
          right = node f l (2 * (i / 2) + 1);
          left_known = whole-at f l (2 * (i / 2)) (place_left h l (i / 2) in' up);
          right_known = whole-at f l (2 * (i / 2) + 1) (place_right h l (i / 2) in' up);
          parent_known = whole-at f (suc l) (i / 2) up ∙ ap Some (node-suc f l (i / 2));
        };
    pads = λ l i v e past. sym (whole-inside f l i v e).1
        ∙ node-past f l i (whole-inside f l i v e).0 (subst (λ len. block_count len ≤ i * 2 ^ l) (sym fits.same_length) past);
  }
