-- A tree of a new session with layers: the piece layer of an opened torrent is taken, since it leads to the root.
use Rattle.std.proofs.Common.{◌≡◌, ℕ, ◌+◌, ◌-◌, ◌^◌, ◌<◌, ◌≤◌, true, false, List, length, Some, inl, inr, refl, sym, ap, ap₂, ◌∙◌, subst, arith}
use Rattle.std.proofs.lemmas.Bool.{false≢true}
use Rattle.std.proofs.lemmas.Option.{same_Some}
use Rattle.chains.proofs.Cases.{some_or_none}
use Rattle.hashtree.specs.Tree.{block_count, root_over}
use Rattle.hashtree.proofs.Heights.{height_enough, height_least}
use Rattle.opening.specs.Description.{TreeEntry}
use Rattle.opening.specs.PieceLayers.{piece_layer}
use Rattle.pieces.specs.Pieces.{IsPieceLength}
use Rattle.opening.specs.Sound.{IsSoundTree}
use Rattle.opening.proofs.Layering.{piece_is, layer_is, layer_within, whole_layer}
use Rattle.node_maps.specs.Digest.{Hash}
use Rattle.partial_tree.specs.Claims.{AreHashes}
use Rattle.partial_tree.specs.TreeRoot.{TreeRoot}
use Rattle.node_maps.specs.Places.{tree_height, PartialTree, IsTreePlace}
use Rattle.partial_tree.specs.Claims.{joined, IsAgreed}
use Rattle.partial_tree.specs.Fill.{fill_claims, pad_from, IsFillAccepted}
use Rattle.node_maps.specs.Known.{look}
use Rattle.partial_tree.specs.Kept.{KeptTree, info_of, TreeJoins}
use Rattle.session.specs.Layouts.{root_of_entry}
use Rattle.session.specs.Fresh.{KnowsRoot, KnowsFrom, IsPlanted}
use Rattle.partial_tree.proofs.ClaimValues.{either, first_of_two, second_of_two}
use Rattle.partial_tree.proofs.Keeping.{good_filled}
use Rattle.tree_laws.proofs.Over.{claims-node, claims-no_more, claims-root_over}

module _ (t : TreeRoot) (K : PartialTree) (l : ℕ) (hashes : List Hash) (layer_inside : l ≤ tree_height t.length)
    (right_count : length hashes ≡ pad_from t.length l)
    (leads : root_over (tree_height t.length) l hashes ≡ t.root) (alone : KnowsRoot t K) where
  -- what follows from a layer that leads to the root agrees with the root
  pub agreed : IsAgreed K (fill_claims t.length l hashes)
  agreed k i u v p q =
      let at = alone.no_more k i u p in
      same_Some u t.root (sym p ∙ ap₂ K at.0 at.1 ∙ alone.root)
      ∙ sym (same_Some v t.root (sym q ∙ ap₂ (fill_claims t.length l hashes) at.0 at.1 ∙ claims-root_over t l hashes layer_inside right_count ∙ ap Some leads))

  -- and joined to the root it makes the nodes from the layer up
  pub joined-knows : (L : PartialTree) → ((k i : ℕ) → L k i ≡ joined K (fill_claims t.length l hashes) k i) → KnowsFrom t l hashes L
  joined-knows L is = record {
    nodes = λ k i low at.
        let claim = claims-node t l hashes layer_inside right_count k i low at in
        is k i ∙ elim (some_or_none (K k i)) [
          | inl (v, p) ↦ first_of_two (K k i) (fill_claims t.length l hashes k i) v p ∙ ap Some (agreed k i v _ p claim)
          | inr none ↦ second_of_two (K k i) (fill_claims t.length l hashes k i) none ∙ claim
        ];
    no_more = λ k i v e. elim (either (K k i) (fill_claims t.length l hashes k i) v (sym (is k i) ∙ e)) [
      | inl p ↦ at_root k i v p
      | inr (none, p) ↦ claims-no_more t l hashes layer_inside right_count k i v p
    ];
  }
    where
      at_root : (k i : ℕ) (v : Hash) → K k i ≡ Some v → (l ≤ k) × IsTreePlace (tree_height t.length) k i
      at_root k i v p =
          let at = alone.no_more k i v p in
          let none : tree_height t.length - k ≡ 0 = omega (arith, at.0) in
          (omega (arith, at.0, layer_inside), (omega (arith, at.0), subst (λ j. i < 2 ^ j) (sym none) (omega (arith, at.1))))

-- ---- the piece layer of a sound tree

module _ (p : ℕ) (e : TreeEntry) (legal : IsPieceLength p) (sound : IsSoundTree p e) (longer : p < e.length) where
  exponent : piece_layer p ≡ legal.0 - 14
  exponent =
      let all : legal.0 ≡ 14 + (legal.0 - 14) = omega (arith, legal.1) in
      layer_is p (legal.0 - 14) (piece_layer p) (piece_is p (legal.0 - 14) (legal.3 ∙ ap (λ x. 2 ^ x) all)) (height_enough (block_count p))
      (height_least (block_count p))

  pub in_tree : piece_layer p ≤ tree_height e.length
  in_tree =
      let all : legal.0 ≡ 14 + (legal.0 - 14) = omega (arith, legal.1) in
      let low : legal.0 - 14 ≤ tree_height e.length = layer_within p (legal.0 - 14) e.length (tree_height e.length) (piece_is p (legal.0 - 14) (legal.3
      ∙ ap (λ x. 2 ^ x) all)) longer (height_enough (block_count e.length)) in
      omega (arith, exponent, low)

  pub right_count : length e.layer ≡ pad_from e.length (piece_layer p)
  right_count =
      whole_layer p legal.0 e.length p e.length (piece_layer p) (length e.layer) legal.1 legal.3 refl refl (height_enough (block_count p))
      (height_least (block_count p)) (sound.layer_length longer)

  module _ (a : KeptTree) (planted : IsPlanted p false e a) (l : ℕ) (at : l ≡ piece_layer p) where
    same : info_of a ≡ root_of_entry e
    same =
        let info : Hash → ℕ → TreeRoot = λ x y. record { root = x; length = y } in
        ap (λ x. info x a.length) planted.root_is ∙ ap (λ y. info e.root y) planted.length_is

    -- the piece layer is accepted
    pub accepted : IsFillAccepted a.length (look a.state.known) l e.layer
    accepted =
        subst (λ t. IsFillAccepted t.length (look a.state.known) l e.layer) (sym same) (subst (λ k. IsFillAccepted e.length (look a.state.known) k e.layer)
        (sym at)
        (record {
          layer_inside = in_tree;
          right_count = right_count;
          agrees = agreed (root_of_entry e) (look a.state.known) (piece_layer p) e.layer in_tree right_count (sound.layer_root longer)
              (planted.known.root_alone (inl refl));
        }))

    -- and once it is taken, the tree is as a session with layers begins
    pub planted_layers : (b : KeptTree) (c : ℕ) → AreHashes e.layer
        → TreeJoins (fill_claims a.length l e.layer) a c b → IsPlanted p true e b
    planted_layers b c hashes (joins, rest) = record {
      root_is = ap (λ (t : KeptTree). t.root) rest ∙ planted.root_is;
      length_is = ap (λ (t : KeptTree). t.length) rest ∙ planted.length_is;
      good = good_filled a b l e.layer c planted.good
          hashes ((accepted, joins), rest);
      known = record {
        root_alone = λ w. elim w [ inl off ↦ absurd (false≢true (sym off)) | inr short ↦ absurd (omega (arith, short, longer)) ];
        layers = λ on more.
            joined-knows (root_of_entry e) (look a.state.known) (piece_layer p) e.layer in_tree right_count (sound.layer_root longer)
            (planted.known.root_alone (inl refl)) (look b.state.known)
            (λ k i. joins.joined_is k i ∙ ap (λ j. joined (look a.state.known) (fill_claims a.length j e.layer) k i) at
            ∙ ap (λ t. joined (look a.state.known) (fill_claims t.length (piece_layer p) e.layer) k i) same);
      };
      marked = ap (λ (t : KeptTree). t.state.marked) rest ∙ planted.marked;
    }
