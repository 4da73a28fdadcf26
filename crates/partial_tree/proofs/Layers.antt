-- What a body that takes a whole layer stands on.
use Rattle.std.proofs.Common.{◌≡◌, ℕ, suc, ◌+◌, ◌-◌, ◌/◌, ◌^◌, ◌<◌, ◌≤◌, List, length, inl, inr, sym, ap, ◌∙◌, subst, arith, pow_pos, div-one, eq-or-lt_of_le}
use Rattle.std.proofs.Common.{mod-eq_of_lt}
use Rattle.std.specs.Borrow.{Bor}
use Rattle.std.specs.FinMap.{len}
use Rattle.std.specs.List.{All}
use Rattle.hashtree.specs.Tree.{zero_hash}
use Rattle.partial_tree.specs.declared.message.evidence.Evidence.{Evidence}
use Rattle.node_maps.specs.Digest.{Hash, IsHash}
use Rattle.partial_tree.specs.TreeRoot.{TreeRoot}
use Rattle.node_maps.specs.Places.{tree_height, PartialTree}
use Rattle.partial_tree.specs.Closed.{IsClosed}
use Rattle.partial_tree.specs.Claims.{top_layer, top_index}
use Rattle.partial_tree.specs.Fill.{fill_ask, fill_hashes, fill_claims, pad_from, IsFillAccepted}
use Rattle.node_maps.specs.Known.{Known, look}
use Rattle.partial_tree.specs.Joins.{Joins}
use Rattle.partial_tree.specs.Evidence.{LeadsTo}
use Rattle.node_maps.proofs.Known.{len-known}
use Rattle.partial_tree.proofs.Powers.{div_small}
use Rattle.partial_tree.proofs.Leading.{message-leads}
use Rattle.partial_tree.proofs.WholeLayers.{at_root, claims-root, fill-closed, root-claimed}
use Rattle.partial_tree.proofs.ClaimValues.{claims-given}

module _ (t : TreeRoot) (K : PartialTree) (l : ℕ) (given_hashes : Bor (List Hash)) (layer_inside : l ≤ tree_height t.length)
    (right_count : length given_hashes.now ≡ pad_from t.length l) where
  -- the evidence of a whole layer
  abbrev pub layer_evidence : Evidence
  layer_evidence = record { base = l; index = 0; span = tree_height t.length - l; hashes = given_hashes; pad = zero_hash l }

  below-root : l < tree_height t.length → LeadsTo layer_evidence (tree_height t.length) 0
  below-root below =
      let top : top_layer (fill_ask t.length l) (fill_hashes t.length l given_hashes.now) ≡ tree_height t.length = at_root t K l given_hashes.now layer_inside
      right_count in
      let first : top_index (fill_ask t.length l) (fill_hashes t.length l given_hashes.now) ≡ 0 =
      div_small 0 (2 ^ (top_layer (fill_ask t.length l) (fill_hashes t.length l given_hashes.now) - l))
      (pow_pos (top_layer (fill_ask t.length l) (fill_hashes t.length l given_hashes.now) - l)) in
      let at : LeadsTo layer_evidence (top_layer (fill_ask t.length l) (fill_hashes t.length l given_hashes.now))
      (top_index (fill_ask t.length l) (fill_hashes t.length l given_hashes.now)) =
      message-leads layer_evidence (omega arith) (mod-eq_of_lt (pow_pos (tree_height t.length - l))) in
      subst (λ i. LeadsTo layer_evidence (tree_height t.length) i) first
      (subst (λ k. LeadsTo layer_evidence k (top_index (fill_ask t.length l) (fill_hashes t.length l given_hashes.now))) top at)

  of-root : l ≡ tree_height t.length → LeadsTo layer_evidence (tree_height t.length) 0
  of-root root = record {
    is_over = record {
      aligned = mod-eq_of_lt (pow_pos (tree_height t.length - l));
      covers = omega arith;
      over = div_small 0 (2 ^ (tree_height t.length - l)) (pow_pos (tree_height t.length - l));
    };
    pruned = record {
      below = λ layer index k i v x given' under less claim.
          let high = claims-root t K l given_hashes.now layer_inside right_count root layer index v
          (claims-given (fill_ask t.length l) (fill_hashes t.length l given_hashes.now) layer index v given') in
          let low = claims-root t K l given_hashes.now layer_inside right_count root k i x claim in
          omega (arith, high.0, low.0);
    };
    at_top = root-claimed t K l given_hashes.now layer_inside right_count root;
    under_top = λ k i v claim.
        let at = claims-root t K l given_hashes.now layer_inside right_count root k i v claim in
        let none_left : tree_height t.length - k ≡ 0 = omega (arith, at.0) in
        let inside : k ≤ tree_height t.length = omega (arith, at.0) in
        (inside, ap (λ n. i / 2 ^ n) none_left ∙ div-one i ∙ at.1);
  }

  -- it leads to the root
  pub layer-leads : LeadsTo layer_evidence (tree_height t.length) 0
  layer-leads = elim (eq-or-lt_of_le layer_inside) [ inl root ↦ of-root root | inr below ↦ below-root below ]

  -- with the height and the pad as they are computed
  pub layer-leads_as : (h : ℕ) (pad : Hash) → h ≡ tree_height t.length → pad ≡ zero_hash l
      → LeadsTo (record { base = l; index = 0; span = h - l; hashes = given_hashes; pad = pad }) h 0
  layer-leads_as h pad tall is =
      subst (λ p. LeadsTo (record { base = l; index = 0; span = h - l; hashes = given_hashes; pad = p }) h 0) (sym is)
      (subst (λ k. LeadsTo (record { base = l; index = 0; span = k - l; hashes = given_hashes; pad = zero_hash l }) k 0) (sym tall) layer-leads)

-- what is known after a whole layer is bounded by the tree
pub filled-len : (t : TreeRoot) (before after : Known) (l : ℕ) (hashes : List Hash) (c : ℕ) → IsClosed t (look before) → All IsHash hashes
    → IsFillAccepted t.length (look before) l hashes
    → Joins (fill_claims t.length l hashes) before after c → len before + c < 2 ^ suc (tree_height t.length)
filled-len t before after l hashes c closed all ok joins =
    subst (λ n. n < 2 ^ suc (tree_height t.length)) joins.gained
    (len-known (tree_height t.length) after (λ k i v e. (fill-closed t (look before) l hashes ok.layer_inside ok.right_count closed all ok.agrees).in_tree k i v
    (sym (joins.joined_is k i) ∙ e)))
