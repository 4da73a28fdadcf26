-- A closed partial tree stays closed when a whole layer is joined to it.
use Rattle.std.proofs.Common.{◌≡◌, ℕ, zero, suc, ◌+◌, ◌-◌, ◌*◌, ◌/◌, ◌^◌, ◌<◌, ◌≤◌, List, [], ◌++◌, length, get_or, replicate, Some, inl, inr, refl, sym, ap}
use Rattle.std.proofs.Common.{ap₂, ◌∙◌, subst, arith, eq-or-lt_of_le, length-append, pow_pos, mod-eq_of_lt}
use Rattle.std.specs.List.{All}
use Rattle.std.specs.Prelude.{slice_get}
use Rattle.std.proofs.lemmas.Option.{none-some, slice_get_within, slice_get-get_or, get_or_from_slice_get}
use Rattle.std.proofs.lemmas.Bool.{and_from, eq-eqb, le-leb, lt-ltb, cond-true}
use Rattle.std.proofs.lemmas.List.{length-replicate, get_or-append_right, get_or-replicate}
use Rattle.std.proofs.lemmas.List.Elements.{All-append, All-replicate}
use Rattle.std.proofs.lemmas.Nat.{div_below}
use Rattle.chains.proofs.Cases.{some_or_none}
use Rattle.partial_tree.specs.TreeRoot.{TreeRoot}
use Rattle.node_maps.specs.Places.{tree_height, PartialTree}
use Rattle.node_maps.specs.Digest.{Hash, IsHash}
use Rattle.hashtree.specs.Tree.{pad_leaf, block_count, zero_hash}
use Rattle.partial_tree.specs.Closed.{IsClosed}
use Rattle.partial_tree.specs.Claims.{span, cover, given, base_hash, uncle_hash, joined, top_layer, IsAgreed}
use Rattle.partial_tree.specs.Fill.{fill_ask, fill_hashes, fill_claims, pad_from}
use Rattle.hashtree.proofs.Heights.{height_enough, pow_split, height_pow}
use Rattle.partial_tree.proofs.Powers.{div_small}
use Rattle.hashtree.proofs.Zeros.{zero_hash-zero, zero_hash-suc}
use Rattle.partial_tree.proofs.Digests.{is_hash}
use Rattle.partial_tree.proofs.ClaimValues.{either, first_of_two, second_of_two, base-read, uncle-read, claims-read, claims-zero, claims-given}
use Rattle.partial_tree.proofs.Joining.{joined-closed_by_parts}

pub pad-is_hash : IsHash pad_leaf
pad-is_hash = record { size = length-replicate {A = ℕ} 32 0; bytes = All-replicate (λ b. b < 256) 32 0 (omega arith) }

pub zero_hash-is_hash : (m : ℕ) → IsHash (zero_hash m)
zero_hash-is_hash zero = subst IsHash (sym zero_hash-zero) pad-is_hash
zero_hash-is_hash (suc m) = subst IsHash (sym (zero_hash-suc m)) (is_hash (zero_hash m ++ zero_hash m))

module _ (t : TreeRoot) (K : PartialTree) (l : ℕ) (hashes : List Hash) (layer_inside : l ≤ tree_height t.length)
    (right_count : length hashes ≡ pad_from t.length l) where
  n : ℕ
  n = block_count t.length

  -- the layer without its pads is no longer than the layer
  short : length hashes ≤ 2 ^ (tree_height t.length - l)
  short =
      let enough : block_count t.length ≤ 2 ^ tree_height t.length = height_enough (block_count t.length) in
      let split : 2 ^ (tree_height t.length - l) * 2 ^ l ≡ 2 ^ tree_height t.length = pow_split (tree_height t.length) l layer_inside in
      let some' : 0 < 2 ^ l = pow_pos l in
      let low : (block_count t.length + (2 ^ l - 1)) / 2 ^ l < suc (2 ^ (tree_height t.length - l)) =
      div_below (block_count t.length + (2 ^ l - 1)) (2 ^ l) (suc (2 ^ (tree_height t.length - l))) some' (omega arith) in
      omega (arith, right_count)

  -- a place past the file's end has no hash of its own
  past-end : (i : ℕ) → block_count t.length ≤ i * 2 ^ l → length hashes ≤ i
  past-end i past =
      let some' : 0 < 2 ^ l = pow_pos l in
      let low : (block_count t.length + (2 ^ l - 1)) / 2 ^ l < suc i = div_below (block_count t.length + (2 ^ l - 1)) (2 ^ l) (suc i) some' (omega arith) in
      omega (arith, right_count)

  pub full : length (fill_hashes t.length l hashes) ≡ 2 ^ (tree_height t.length - l)
  full =
      let le : length hashes ≤ 2 ^ (tree_height t.length - l) = short in
      length-append hashes (replicate (2 ^ (tree_height t.length - l) - length hashes) (zero_hash l))
      ∙ ap (λ k. length hashes + k) (length-replicate (2 ^ (tree_height t.length - l) - length hashes) (zero_hash l)) ∙ omega arith

  pub spanned : span (fill_ask t.length l) ≡ tree_height t.length - l
  spanned = height_pow (tree_height t.length - l)

  right_pads : (k i : ℕ) (v : Hash) → given (fill_ask t.length l) (fill_hashes t.length l hashes) k i ≡ Some v → block_count t.length ≤ i * 2 ^ k
      → v ≡ zero_hash k
  right_pads k i v e past = elim (either (base_hash (fill_ask t.length l) (fill_hashes t.length l hashes) k i)
      (uncle_hash (fill_ask t.length l) (fill_hashes t.length l hashes) k i) v e) [
        | inl b ↦
            let (at, low, high, got) = base-read (fill_ask t.length l) (fill_hashes t.length l hashes) k i v b in
            let e' : i - 0 ≡ i = omega arith in
            let got' : slice_get (fill_hashes t.length l hashes) i ≡ Some v = subst (λ j. slice_get (fill_hashes t.length l hashes) j ≡ Some v) e' got in
            let past' : length hashes ≤ i = past-end i (subst (λ j. block_count t.length ≤ i * 2 ^ j) at past) in
            let inside : i - length hashes < 2 ^ (tree_height t.length - l) - length hashes = omega arith in
            sym (get_or_from_slice_get (fill_hashes t.length l hashes) i v pad_leaf got')
            ∙ get_or-append_right hashes (replicate (2 ^ (tree_height t.length - l) - length hashes) (zero_hash l)) (length hashes) i pad_leaf refl past'
            ∙ get_or-replicate (2 ^ (tree_height t.length - l) - length hashes) (i - length hashes) (zero_hash l) pad_leaf inside
            ∙ ap zero_hash (sym at)
        | inr (none, u) ↦
            let (from, at, got) = uncle-read (fill_ask t.length l) (fill_hashes t.length l hashes) k i v u in
            let within' : (fill_ask t.length l).length + (k - cover (fill_ask t.length l)) < length (fill_hashes t.length l hashes) =
            slice_get_within (fill_hashes t.length l hashes) ((fill_ask t.length l).length + (k - cover (fill_ask t.length l))) v got in
            let len : length (fill_hashes t.length l hashes) ≡ 2 ^ (tree_height t.length - l) = full in
            absurd (omega arith)
      ]

  -- the top is the root
  pub at_root : top_layer (fill_ask t.length l) (fill_hashes t.length l hashes) ≡ tree_height t.length
  at_root =
      let len : length (fill_hashes t.length l hashes) ≡ 2 ^ (tree_height t.length - l) = full in
      let k : span (fill_ask t.length l) ≡ tree_height t.length - l = spanned in
      omega (arith, layer_inside)

  pub filled-closed : IsClosed t K → All IsHash hashes → IsAgreed K (fill_claims t.length l hashes) → l < tree_height t.length
      → IsClosed t (joined K (fill_claims t.length l hashes))
  filled-closed closed all agrees below =
      joined-closed_by_parts t K (fill_ask t.length l) (fill_hashes t.length l hashes) closed
      (All-append IsHash hashes _ all (All-replicate IsHash (2 ^ (tree_height t.length - l) - length hashes) (zero_hash l) (zero_hash-is_hash l)))
      (subst (λ k. 1 ≤ k) (sym spanned) (omega arith)) (ap (λ k. 2 ^ k) spanned) (mod-eq_of_lt (pow_pos (tree_height t.length - l)))
      (subst (λ k. 2 ^ (tree_height t.length - l) ≤ k) (sym full) (omega arith))
      (subst (λ k. k ≤ tree_height t.length) (sym at_root) (omega arith)) right_pads t.root
      (ap₂ K at_root (div_small 0 (2 ^ (top_layer (fill_ask t.length l) (fill_hashes t.length l hashes) - l))
      (pow_pos (top_layer (fill_ask t.length l) (fill_hashes t.length l hashes) - l))) ∙ closed.root_known)
      agrees

  -- the layer of the root says nothing but the root
  given-root : l ≡ tree_height t.length → (k i : ℕ) (v : Hash) → given (fill_ask t.length l) (fill_hashes t.length l hashes) k i ≡ Some v
      → (k ≡ tree_height t.length) × (i ≡ 0)
  given-root root k i v e =
      let none_above : tree_height t.length - l ≡ 0 = omega arith in
      let one : 2 ^ (tree_height t.length - l) ≡ 1 = ap (λ j. 2 ^ j) none_above in
      let len : length (fill_hashes t.length l hashes) ≡ 2 ^ (tree_height t.length - l) = full in
      elim (either (base_hash (fill_ask t.length l) (fill_hashes t.length l hashes) k i) (uncle_hash (fill_ask t.length l) (fill_hashes t.length l hashes) k i)
      v e) [
        | inl b ↦
            let (at, low, high, got) = base-read (fill_ask t.length l) (fill_hashes t.length l hashes) k i v b in
            (at ∙ root, omega arith)
        | inr (none, u) ↦
            let (from, at, got) = uncle-read (fill_ask t.length l) (fill_hashes t.length l hashes) k i v u in
            let within' : (fill_ask t.length l).length + (k - cover (fill_ask t.length l)) < length (fill_hashes t.length l hashes) =
            slice_get_within (fill_hashes t.length l hashes) ((fill_ask t.length l).length + (k - cover (fill_ask t.length l))) v got in
            absurd (omega arith)
      ]

  pub claims-root : l ≡ tree_height t.length → (k i : ℕ) (v : Hash) → fill_claims t.length l hashes k i ≡ Some v → (k ≡ tree_height t.length) × (i ≡ 0)
  claims-root root zero i v e = given-root root zero i v (sym (claims-zero (fill_ask t.length l) (fill_hashes t.length l hashes) i) ∙ e)
  claims-root root (suc k) i v e = elim (claims-read (fill_ask t.length l) (fill_hashes t.length l hashes) k i v e) [
    | inl g ↦ given-root root (suc k) i v g
    | inr (none, (a, b, p, q, w)) ↦
        let left = claims-root root k (2 * i) a p in
        let right = claims-root root k (2 * i + 1) b q in
        absurd (omega (arith, right.1))
  ]

  -- and the root is claimed there
  pub root-claimed : l ≡ tree_height t.length → (v : Hash) × (fill_claims t.length l hashes (tree_height t.length) 0 ≡ Some v)
  root-claimed root =
      let none_above : tree_height t.length - l ≡ 0 = omega arith in
      let one : 2 ^ (tree_height t.length - l) ≡ 1 = ap (λ j. 2 ^ j) none_above in
      let count : length (fill_hashes t.length l hashes) ≡ 2 ^ (tree_height t.length - l) = full in (
        get_or (fill_hashes t.length l hashes) 0 [],
        claims-given (fill_ask t.length l) (fill_hashes t.length l hashes) (tree_height t.length) 0 _
            (first_of_two _ _ _ (cond-true _ _ _ (and_from _ _ (eq-eqb (tree_height t.length) l (sym root))
            (and_from _ _ (le-leb 0 0 (omega arith)) (lt-ltb 0 (0 + 2 ^ (tree_height t.length - l)) (omega arith))))
            ∙ slice_get-get_or (fill_hashes t.length l hashes) 0 [] (omega arith))),
      )

  -- each layer of the tree keeps it closed
  pub fill-closed : IsClosed t K → All IsHash hashes → IsAgreed K (fill_claims t.length l hashes) → IsClosed t (joined K (fill_claims t.length l hashes))
  fill-closed closed all agrees = elim (eq-or-lt_of_le layer_inside) [
    | inr below ↦ filled-closed closed all agrees below
    | inl root ↦ subst (IsClosed t) (λ j k i. same root k i j) closed
  ]
    where
      same : l ≡ tree_height t.length → (k i : ℕ) → K k i ≡ joined K (fill_claims t.length l hashes) k i
      same root k i = elim (some_or_none (K k i)) [
        | inl (v, known) ↦ known ∙ sym (first_of_two (K k i) (fill_claims t.length l hashes k i) v known)
        | inr none ↦ elim (some_or_none (fill_claims t.length l hashes k i)) [
          | inl (v, claim) ↦ let at = claims-root root k i v claim in absurd (none-some t.root (sym none ∙ ap₂ K at.0 at.1 ∙ closed.root_known))
          | inr nothing ↦ none ∙ sym nothing ∙ sym (second_of_two (K k i) (fill_claims t.length l hashes k i) none)
        ]
      ]
