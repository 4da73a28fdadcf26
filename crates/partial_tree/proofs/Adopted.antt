-- A tree that takes over the nodes of a whole one.
use Rattle.std.proofs.Common.{◌≡◌, ◌≢◌, ◌⊎◌, ℕ, suc, ◌+◌, ◌-◌, ◌*◌, ◌%◌, ◌^◌, ◌<◌, ◌≤◌, Bool, true, false, ltb, ◌&&◌, ◌||◌, List, length, Some, inl, inr, refl}
use Rattle.std.proofs.Common.{sym, ap, ◌∙◌, subst, arith, mod-eq_of_lt}
use Rattle.std.specs.FinMap.{len}
use Rattle.std.specs.FinSet as set
use Rattle.std.specs.FinSet.{same_set, contains-insert, contains-empty, nat_cmp-IsAntisymmetric}
use Rattle.std.specs.Ordering.{nat_cmp, eq_by_cmp}
use Rattle.std.specs.Cmp.{nat_cmp_total}
use Rattle.std.proofs.lemmas.Bool.{cases_lt, cases_eq, and_left, and_right, and_from, or_left, eq-eqb, ne_eqb, lt-ltb, le-ltb}
use Rattle.chains.proofs.Cases.{some_or_none}
use Rattle.hashtree.specs.Tree.{block_count}
use Rattle.hashtree.proofs.Pairs.{two-pow}
use Rattle.node_maps.specs.Known.{Known, Marked, look}
use Rattle.node_maps.specs.Places.{IsTreePlace, IsKnown, tree_height}
use Rattle.node_maps.proofs.Known.{nat_equal, len-known}
use Rattle.partial_tree.specs.declared.refusal.HashRefusal.TheVariants.{Mismatch}
use Rattle.partial_tree.specs.Claims.{AreHashes, IsMismatch, IsAgreed, joined}
use Rattle.partial_tree.specs.Fill.{fill_claims, FillRefuses}
use Rattle.partial_tree.specs.Joins.{TakesLayer}
use Rattle.partial_tree.specs.Grown.{AgreeInTree, GrownTree, FollowsFromLeaves, grown, first_leaves}
use Rattle.partial_tree.specs.Kept.{KeptTree, IsGoodTree, TreeTakesLayer, TreeRefusesLayer, kept}
use Rattle.node_maps.specs.Digest.{Hash}
use Rattle.partial_tree.proofs.Keeping.{good_filled}
use Rattle.partial_tree.proofs.Ranges.{pow_more}
use Rattle.partial_tree.proofs.ClaimValues.{first_of_two, second_of_two}
use Rattle.partial_tree.proofs.FromLeaves.{all-claimed, all_given, length-leaves}

-- ---- the marks

ltb-more : (i n : ℕ) → i ≢ n → ltb i n ≡ ltb i (n + 1)
ltb-more i n other = elim (cases_lt i n) [
  | inl low ↦ lt-ltb i n low ∙ sym (lt-ltb i (n + 1) (omega arith))
  | inr high ↦ le-ltb i n high ∙ sym (le-ltb i (n + 1) (past high))
]
  where
    past : n ≤ i → n + 1 ≤ i
    past high = elim (cases_lt n i) [
      | inl low ↦ omega arith
      | inr same ↦ absurd (other (omega arith))
    ]

-- the leaves of `old` below n are marked
abbrev pub AreCarried : Marked → ℕ → Marked → Type 0
AreCarried old n M = (i : ℕ) → set.contains M i ≡ (ltb i n && set.contains old i)

pub carried-none : (old M : Marked) → M ≡ set.empty → AreCarried old 0 M
carried-none old M none i = ap (λ s. set.contains s i) none ∙ contains-empty nat_cmp i ∙ sym (and_left (ltb i 0) _ (le-ltb i 0 (omega arith)))

pub carried-mark : (old M M' : Marked) (n : ℕ) → AreCarried old n M → set.contains old n ≡ true → M' ≡ set.insert M n → AreCarried old (n + 1) M'
carried-mark old M M' n is here put i = ap (λ s. set.contains s i) put ∙ contains-insert nat_cmp_total M n i ∙ by_place (cases_eq i n)
  where
    by_place : (i ≡ n) ⊎ (i ≢ n) → (eq_by_cmp nat_cmp i n || set.contains M i) ≡ (ltb i (n + 1) && set.contains old i)
    by_place (inl same) =
        or_left (eq_by_cmp nat_cmp i n) (set.contains M i) (nat_equal i n ∙ eq-eqb i n same)
        ∙ sym (and_from _ _ (lt-ltb i (n + 1) (omega arith)) (ap (set.contains old) same ∙ here))
    by_place (inr other) =
        ap (λ b. b || set.contains M i) (nat_equal i n ∙ ne_eqb i n other)
        ∙ is i ∙ ap (λ b. b && set.contains old i) (ltb-more i n other)

pub carried-not : (old M : Marked) (n : ℕ) → AreCarried old n M → set.contains old n ≡ false → AreCarried old (n + 1) M
carried-not old M n is here i = is i ∙ by_place (cases_eq i n)
  where
    by_place : (i ≡ n) ⊎ (i ≢ n) → (ltb i n && set.contains old i) ≡ (ltb i (n + 1) && set.contains old i)
    by_place (inl same) =
        let none : set.contains old i ≡ false = ap (set.contains old) same ∙ here in
        and_right (ltb i n) _ none ∙ sym (and_right (ltb i (n + 1)) _ none)
    by_place (inr other) = ap (λ b. b && set.contains old i) (ltb-more i n other)

pub carried-all : (old M : Marked) (n : ℕ) → ((i : ℕ) → set.contains old i ≡ true → i < n) → AreCarried old n M → M ≡ old
carried-all old M n few is = same_set nat_cmp_total nat_cmp-IsAntisymmetric M old (λ i. is i ∙ read i (set.contains old i) refl)
  where
    read : (i : ℕ) (b : Bool) → set.contains old i ≡ b → (ltb i n && set.contains old i) ≡ set.contains old i
    read i true e = and_from _ _ (lt-ltb i n (few i e)) e ∙ sym e
    read i false e = and_right (ltb i n) _ e ∙ sym e

-- ---- the nodes

module _ (n : ℕ) (K K' : Known) (is : FollowsFromLeaves n (block_count n) K') (in_tree : (l i : ℕ) (v : List ℕ) → look K l i ≡ Some v
    → IsTreePlace (tree_height n) l i) where
  right : length (first_leaves K' (block_count n)) ≡ block_count n
  right = length-leaves K' (block_count n)

  -- the whole tree is claimed
  pub place-known : (l i : ℕ) → IsTreePlace (tree_height n) l i → IsKnown (look K') l i
  place-known l i at =
      let claim = all-claimed n (first_leaves K' (block_count n)) right l i at in
      (claim.0, is.claimed l i ∙ claim.1)

  agrees : AgreeInTree (look K) (look K') (tree_height n) → IsAgreed (look K) (fill_claims n 0 (first_leaves K' (block_count n)))
  agrees same l i u v known claim = same l i (in_tree l i u known) u v known (is.claimed l i ∙ claim)

  same-joined : AgreeInTree (look K) (look K') (tree_height n) → (l i : ℕ)
      → look K' l i ≡ joined (look K) (fill_claims n 0 (first_leaves K' (block_count n))) l i
  same-joined same l i = elim (some_or_none (look K l i)) [
    | inl (u, known) ↦
        let here = place-known l i (in_tree l i u known) in
        here.1 ∙ ap Some (sym (same l i (in_tree l i u known) u here.0 known here.1)) ∙ sym (first_of_two (look K l i) _ u known)
    | inr none ↦ is.claimed l i ∙ sym (second_of_two (look K l i) _ none)
  ]

  pub takes-grown : (c : ℕ) → AgreeInTree (look K) (look K') (tree_height n) → len K' ≡ len K + c → TakesLayer n 0 (first_leaves K' (block_count n)) K c K'
  takes-grown c same gained = (
    record { layer_inside = omega arith; right_count = all_given n (first_leaves K' (block_count n)) right; agrees = agrees same },
    record { agreed = agrees same; joined_is = same-joined same; gained = gained },
  )

  pub refuses-grown : IsMismatch (look K) (look K') → FillRefuses n (look K) 0 (first_leaves K' (block_count n)) Mismatch
  refuses-grown m = (
    omega arith,
    all_given n (first_leaves K' (block_count n)) right,
    record {
      layer = m.layer;
      index = m.index;
      in_J = m.in_J;
      in_K = m.in_K;
      J_known = m.J_known;
      K_known = sym (is.claimed m.layer m.index) ∙ m.K_known;
      differ = m.differ;
    },
  )

-- ---- as trees keep them

-- a good tree, and one that grew, of files of one length
pub record AreOfOneLength (n m : ℕ) (root : Hash) (K K' : Known) (M : Marked) (old : KeptTree) (new : GrownTree) : Type 0 where
  pub old_is : kept root n K M ≡ old
  pub grown_is : grown m (first_leaves K' (block_count m)) ≡ new
  pub lengths : new.length ≡ old.length
  pub grows : FollowsFromLeaves m (block_count m) K'
  pub good : IsGoodTree old

module _ {n m : ℕ} {root : Hash} {K K' : Known} {M : Marked} {old : KeptTree} {new : GrownTree} (x : AreOfOneLength n m root K K' M old new) where
  pub same-length : m ≡ n
  same-length = ap (λ (t : GrownTree). t.length) x.grown_is ∙ x.lengths ∙ sym (ap (λ (t : KeptTree). t.length) x.old_is)

  new_is : grown n (first_leaves K' (block_count n)) ≡ new
  new_is = subst (λ n. grown n (first_leaves K' (block_count n)) ≡ new) same-length x.grown_is

  is : FollowsFromLeaves n (block_count n) K'
  is = subst (λ n. FollowsFromLeaves n (block_count n) K') same-length x.grows

  inside : (l i : ℕ) (v : Hash) → look K l i ≡ Some v → IsTreePlace (tree_height n) l i
  inside l i v e = (subst IsGoodTree (sym x.old_is) x.good).closed.in_tree l i v e

  pub first-known : (j : ℕ) → j < 2 ^ tree_height n → IsKnown (look K') 0 (0 + j)
  first-known j low =
      let all : tree_height n - 0 ≡ tree_height n = omega arith in
      let power : 2 ^ (tree_height n - 0) ≡ 2 ^ tree_height n = ap (λ k. 2 ^ k) all in
      place-known n K K' is inside 0 (0 + j) (omega arith, omega (arith, power, low))

  pub fewer : len K < 2 ^ suc (tree_height n)
  fewer = len-known (tree_height n) K inside

  pub adopted : (c : ℕ) (after : Known) (marks : Marked) → AgreeInTree (look K) (look K') (tree_height n) → after ≡ K' → marks ≡ M → len K' ≡ len K + c
      → TreeTakesLayer old 0 new.leaves c (kept root n after marks)
  adopted c after marks same stays carried gained =
      subst (λ J. TreeTakesLayer old 0 new.leaves c (kept root n J marks)) (sym stays)
      (subst (λ m. TreeTakesLayer old 0 new.leaves c (kept root n K' m)) (sym carried)
      (subst (λ t. TreeTakesLayer t 0 new.leaves c (kept root n K' M)) x.old_is
      (subst (λ (t : GrownTree). TreeTakesLayer (kept root n K M) 0 t.leaves c (kept root n K' M)) new_is (takes-grown n K K' is inside c same gained, refl))))

  pub not-adopted : IsMismatch (look K) (look K') → TreeRefusesLayer old 0 new.leaves Mismatch
  not-adopted m =
      subst (λ t. TreeRefusesLayer t 0 new.leaves Mismatch) x.old_is
      (subst (λ (t : GrownTree). TreeRefusesLayer (kept root n K M) 0 t.leaves Mismatch) new_is (refuses-grown n K K' is inside m))

  -- the tree that took over is good
  pub good-adopted : (c : ℕ) (after : KeptTree) → TreeTakesLayer old 0 new.leaves c after → IsGoodTree after
  good-adopted c after taken =
      let sizes : AreHashes new.leaves = subst (λ (t : GrownTree). AreHashes t.leaves) new_is is.hashes in
      good_filled old after 0 new.leaves c x.good sizes taken

-- the number of a tree's places, as it is computed
pub places_of : (h : ℕ) → h ≤ 32 → 2 * 2 ^ h % 18446744073709551616 ≡ 2 ^ suc h
places_of h low =
    let small : 2 ^ h ≤ 2 ^ 32 = pow_more h 32 low in
    let twice : 2 ^ suc h ≡ 2 ^ h + 2 ^ h = two-pow h in
    mod-eq_of_lt (omega arith) ∙ omega (arith, twice)
