-- Ranges of known leaves.
use Rattle.std.proofs.Common.{◌≡◌, ℕ, zero, suc, ◌+◌, ◌-◌, ◌*◌, ◌/◌, ◌^◌, ◌<◌, ◌≤◌, min, Some, inl, inr, refl, sym, ap, ◌∙◌, subst, arith, pow_mono}
use Rattle.std.proofs.lemmas.Bool.{cases_lt}
use Rattle.std.specs.Prelude.{slice_get}
use Rattle.std.proofs.lemmas.Nat.{pow_pos, mod_below}
use Rattle.std.proofs.Math.Nat.{div-add-mod', div-mul-le_self}
use Rattle.hashtree.specs.Tree.{block_count}
use Rattle.hashtree.proofs.Heights.{height_enough, height_pow}
use Rattle.hashtree.proofs.Pairs.{two-pow}
use Rattle.node_maps.specs.Digest.{Hash}
use Rattle.node_maps.specs.Known.{look}
use Rattle.node_maps.specs.Places.{tree_height, PartialTree, IsKnown}
use Rattle.partial_tree.specs.Closed.{IsClosed, IsFamily}
use Rattle.partial_tree.specs.TreeRoot.{TreeRoot}
use Rattle.session.specs.Layouts.{roots}
use Rattle.session.specs.Session.{SessionSeen, HasClosedTrees, HasDistinctRoots, IsAsked, IsAnswered}
use Rattle.session.proofs.Rounds.{asked-is}
use Rattle.session_exports.specs.Exports.{HasLeaf, IsRange, leaves_ask}
use Rattle.session_exports.proofs.Leaves.{high, same_tree}

-- the aligned range of 2 ^ k places that holds a place
pub starts-low : (b k : ℕ) → b / 2 ^ k * 2 ^ k ≤ b
starts-low b k = div-mul-le_self b (2 ^ k)

pub ends-high : (b k : ℕ) → b < b / 2 ^ k * 2 ^ k + 2 ^ k
ends-high b k = let rest = mod_below b (2 ^ k) (pow_pos k) in omega (arith, rest, div-add-mod' b (2 ^ k))

-- a known leaf below the root stands with its sibling
pub pair-known : (t : TreeRoot) (K : PartialTree) (b : ℕ) → IsClosed t K → 0 < tree_height t.length → IsKnown K 0 b
    → (j : ℕ) → j < 2 → IsKnown K 0 (b / 2 * 2 + j)
pair-known t K b closed up (v, known) zero low =
    let fam : IsFamily K 0 (b / 2) = closed.families 0 b v known up in
    let at : 2 * (b / 2) ≡ b / 2 * 2 + 0 = omega arith in (fam.left, subst (λ i. K 0 i ≡ Some fam.left) at fam.left_known)
pair-known t K b closed up (v, known) (suc zero) low =
    let fam : IsFamily K 0 (b / 2) = closed.families 0 b v known up in
    let at : 2 * (b / 2) + 1 ≡ b / 2 * 2 + 1 = omega arith in (fam.right, subst (λ i. K 0 i ≡ Some fam.right) at fam.right_known)
pair-known t K b closed up known (suc (suc j)) low = absurd (omega arith)

-- the pair has room in the tree
pub pair-inside : (h b : ℕ) → 0 < h → b < 2 ^ h → b / 2 * 2 + 2 ≤ 2 ^ h
pair-inside zero b up low = absurd (omega arith)
pair-inside (suc m) b up low = omega (arith, two-pow m, low)

-- spans are as their powers of two
span-less : (k j : ℕ) → 2 ^ k < 2 ^ j → k < j
span-less k j longer = elim (cases_lt k j) [
  | inl less ↦ less
  | inr high ↦ let wide : 2 ^ j ≤ 2 ^ k = pow_mono high in absurd (omega (arith, wide, longer))
]

span-most : (j : ℕ) → 2 ^ j ≤ 512 → j ≤ 9
span-most j most = elim (cases_lt 9 j) [
  | inl less ↦ let high : 10 ≤ j = less in let wide : 2 ^ 10 ≤ 2 ^ j = pow_mono high in absurd (omega (arith, wide, most))
  | inr few ↦ few
]

module _ (S : SessionSeen) (n b : ℕ) (closed : HasClosedTrees S) (distinct : HasDistinctRoots S) (leaf : HasLeaf S n b)
    (t : TreeRoot) (there : slice_get (roots S) n ≡ Some t) (root : Hash) (h : ℕ) (root_is : root ≡ t.root)
    (height_is : h ≡ tree_height t.length) where
  tree_is : leaf.tree ≡ t
  tree_is = same_tree S n b leaf t there

  pub tall : 0 < h
  tall =
      let up : 0 < tree_height leaf.tree.length = high leaf.tree.length 0 (omega (arith, leaf.many)) in
      omega (arith, up, height_is, ap (λ (x : TreeRoot). tree_height x.length) tree_is)

  abbrev asks : (k : ℕ) → IsAsked S (leaves_ask root h b k)
  asks k = record {
    number = n;
    tree = leaf.tree;
    state = leaf.state;
    is_tree = leaf.is_tree;
    has_root = ap (λ (x : TreeRoot). x.root) tree_is ∙ sym root_is;
  }

  -- not all leaves are known of any range with the block that is wider than this, and of at most 512
  abbrev pub NoneWider : ℕ → Type 0
  NoneWider k = (j : ℕ) → k < j → j ≤ 9 → ¬ IsAnswered S (leaves_ask root h b j)

  is-tree : (k : ℕ) (a : IsAsked S (leaves_ask root h b k)) → (a.number ≡ n) × (a.tree ≡ t)
  is-tree k a =
      let same = asked-is S (leaves_ask root h b k) n leaf.tree leaf.state distinct leaf.is_tree (asks k).has_root a in
      (same.0, same.1 ∙ tree_is)

  -- no range is wider than the tree
  pub none-above : (k : ℕ) → min h 9 ≤ k → NoneWider k
  none-above k all j less few (a, can) =
      let high : suc h ≤ j = omega (arith, all, less, few) in
      let wide : 2 ^ suc h ≤ 2 ^ j = pow_mono high in
      let pos = pow_pos h in
      let tall_is : tree_height a.tree.length ≡ h = ap (λ (x : TreeRoot). tree_height x.length) (is-tree j a).1 ∙ sym height_is in
      let same : tree_height a.tree.length - 0 ≡ h = omega (arith, tall_is) in
      let inside : b / 2 ^ j * 2 ^ j + 2 ^ j ≤ 2 ^ h = subst (λ x. b / 2 ^ j * 2 ^ j + 2 ^ j ≤ 2 ^ x) same can.range.range_inside in
      omega (arith, wide, pos, inside, two-pow h)

  -- a range of which all leaves are known, if none is wider
  pub range-of : (k : ℕ) → k ≤ 9 → NoneWider k → IsAnswered S (leaves_ask root h b k) → IsRange S n b (leaves_ask root h b k)
  range-of k few wider (a, can) =
      let tree_same : a.tree ≡ t = (is-tree k a).1 in
      let height_same : tree_height a.tree.length ≡ h = ap (λ (x : TreeRoot). tree_height x.length) tree_same ∙ sym height_is in
      record {
        asked = a;
        number_is = (is-tree k a).0;
        can = can;
        proof_is = ap (λ x. x - 1) (sym height_same);
        leaves = refl;
        most = (let small : k ≤ 9 = few in let bound : 2 ^ k ≤ 2 ^ 9 = pow_mono small in bound);
        starts = starts-low b k;
        ends = ends-high b k;
        widest = λ j longer most known. wider j (span-less k j longer) (span-most j most)
            (subst (λ x. IsAnswered S (leaves_ask root x b j)) height_same known);
      }

  -- two leaves at least
  pub pair-answered : IsAnswered S (leaves_ask root h b 1)
  pair-answered =
      let t_is : tree_height leaf.tree.length ≡ h = ap (λ (x : TreeRoot). tree_height x.length) tree_is ∙ sym height_is in
      let up : 0 < tree_height leaf.tree.length = omega (arith, tall, t_is) in
      let enough : block_count leaf.tree.length ≤ 2 ^ tree_height leaf.tree.length = height_enough (block_count leaf.tree.length) in
      let low : b < 2 ^ tree_height leaf.tree.length = omega (arith, enough, leaf.inside) in (
        asks 1,
        record {
          range = record {
            power_of_two = ap (λ k. 2 ^ k) (height_pow 1);
            least = omega arith;
            most = omega arith;
            aligned = omega arith;
            base_inside = omega arith;
            range_inside =
                (let same : tree_height leaf.tree.length ≡ tree_height leaf.tree.length - 0 = omega arith in
                subst (λ k. b / 2 * 2 + 2 ≤ 2 ^ k) same (pair-inside (tree_height leaf.tree.length) b up low));
          };
          base_known = pair-known leaf.tree (look leaf.state.known) b (closed.closed n leaf.tree leaf.state leaf.is_tree) up leaf.known;
        },
      )
