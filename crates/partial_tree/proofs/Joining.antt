-- A closed partial tree stays closed when an accepted message is joined to it, and nothing is lost.
use Rattle.std.proofs.Common.{◌≡◌, ℕ, zero, suc, ◌+◌, ◌-◌, ◌*◌, ◌/◌, ◌%◌, ◌^◌, ◌<◌, ◌≤◌, List, length, ◌++◌, Some, None, inl, inr, sym, ap, ap₂, ◌∙◌, subst}
use Rattle.std.proofs.Common.{subst₂, arith, eq-or-lt_of_le}
use Rattle.std.specs.List.{All}
use Rattle.std.specs.Prelude.{slice_get}
use Rattle.std.proofs.lemmas.Option.{none-some, slice_get_within, get_or_from_slice_get}
use Rattle.std.proofs.lemmas.List.Elements.{All-get_or}
use Rattle.chains.proofs.Cases.{some_or_none}
use Rattle.wire.specs.declared.message.Ask.{Ask}
use Rattle.partial_tree.specs.TreeRoot.{TreeRoot}
use Rattle.node_maps.specs.Places.{tree_height, PartialTree, IsTreePlace}
use Rattle.partial_tree.specs.declared.refusal.HashRefusal.{HashRefusal}
use Rattle.partial_tree.specs.declared.refusal.HashRefusal.TheVariants.{UnknownRoot, BadRange, BadCount, BadPad, Unanchored, Mismatch, NoMemory, Unasked}
use Rattle.node_maps.specs.Digest.{Hash, IsHash, join}
use Rattle.hashtree.specs.Tree.{pad_leaf, block_count, zero_hash}
use Rattle.partial_tree.specs.Closed.{IsFamily, IsClosed}
use Rattle.partial_tree.specs.Claims.{span, base_hash, uncle_hash, given, claims, top_layer, top_index, joined, IsAccepted, Fault}
use Rattle.partial_tree.proofs.Digests.{is_hash}
use Rattle.partial_tree.proofs.Powers.{spans-some}
use Rattle.node_maps.proofs.Places.{place_child}
use Rattle.hashtree.proofs.Zeros.{zero_hash-suc}
use Rattle.hashtree.proofs.Pairs.{two-pow}
use Rattle.partial_tree.proofs.ClaimValues.{either, first_of_two, second_of_two, base-read, uncle-read, claims-read, claims-zero}
use Rattle.partial_tree.proofs.Claimed.{claimed-family}
use Rattle.partial_tree.proofs.Claimed.{claimed-to_top, claimed-top}

-- what is known stays known
pub joined-keeps : (K C : PartialTree) (l i : ℕ) (v : Hash) → K l i ≡ Some v → joined K C l i ≡ Some v
joined-keeps K C l i v e = first_of_two (K l i) (C l i) v e

-- ---- what is claimed, whatever is known

read-is_hash : (hashes : List Hash) (k : ℕ) (v : Hash) → All IsHash hashes → slice_get hashes k ≡ Some v → IsHash v
read-is_hash hashes k v all e =
    subst IsHash (get_or_from_slice_get hashes k v pad_leaf e) (All-get_or IsHash hashes k pad_leaf (slice_get_within hashes k v e) all)

given-is_hash : (ask : Ask) (hashes : List Hash) → All IsHash hashes → (l i : ℕ) (v : Hash) → given ask hashes l i ≡ Some v → IsHash v
given-is_hash ask hashes all l i v e = elim (either (base_hash ask hashes l i) (uncle_hash ask hashes l i) v e) [
  | inl b ↦ read-is_hash hashes _ v all (base-read ask hashes l i v b).3
  | inr u ↦ read-is_hash hashes _ v all (uncle-read ask hashes l i v u.1).2
]

-- each claimed value is a hash
pub claims-is_hash : (ask : Ask) (hashes : List Hash) → All IsHash hashes → (l i : ℕ) (v : Hash) → claims ask hashes l i ≡ Some v → IsHash v
claims-is_hash ask hashes all zero i v e = given-is_hash ask hashes all zero i v (sym (claims-zero ask hashes i) ∙ e)
claims-is_hash ask hashes all (suc l) i v e = elim (claims-read ask hashes l i v e) [
  | inl g ↦ given-is_hash ask hashes all (suc l) i v g
  | inr (n, (a, b, p, q, w)) ↦ subst IsHash (sym w) (is_hash (a ++ b))
]

-- where the given pads are right, so are the claimed ones
pub claims-pads : (ask : Ask) (hashes : List Hash) (n : ℕ) → ((l i : ℕ) (v : Hash) → given ask hashes l i ≡ Some v → n ≤ i * 2 ^ l → v ≡ zero_hash l)
    → (l i : ℕ) (v : Hash) → claims ask hashes l i ≡ Some v → n ≤ i * 2 ^ l → v ≡ zero_hash l
claims-pads ask hashes n good zero i v e past = good zero i v (sym (claims-zero ask hashes i) ∙ e) past
claims-pads ask hashes n good (suc l) i v e past = elim (claims-read ask hashes l i v e) [
  | inl g ↦ good (suc l) i v g past
  | inr (none, (a, b, p, q, w)) ↦
      let twice : i * 2 ^ suc l ≡ 2 * i * 2 ^ l = ap (λ k. i * k) (two-pow l) ∙ omega arith in
      w ∙ ap₂ join (claims-pads ask hashes n good l (2 * i) a p (omega arith)) (claims-pads ask hashes n good l (2 * i + 1) b q (omega arith))
      ∙ sym (zero_hash-suc l)
]

-- ---- an accepted message, by its parts

module _ (t : TreeRoot) (K : PartialTree) (ask : Ask) (hashes : List Hash)
    (closed : IsClosed t K) (all_hashes : All IsHash hashes) (spans : 1 ≤ span ask) (power : 2 ^ span ask ≡ ask.length) (aligned : ask.index % ask.length ≡ 0)
    (enough : ask.length ≤ length hashes) (top_inside : top_layer ask hashes ≤ tree_height t.length)
    (good_pads : (l i : ℕ) (v : Hash) → given ask hashes l i ≡ Some v → block_count t.length ≤ i * 2 ^ l → v ≡ zero_hash l)
    (anchor : Hash) (anchored : K (top_layer ask hashes) (top_index ask hashes) ≡ Some anchor)
    (agree : (l i : ℕ) (u v : Hash) → K l i ≡ Some u → claims ask hashes l i ≡ Some v → u ≡ v) where
  -- a claim is in the joined tree, with its value
  has_claim : (l i : ℕ) (v : Hash) → claims ask hashes l i ≡ Some v → joined K (claims ask hashes) l i ≡ Some v
  has_claim l i v e = elim (some_or_none (K l i)) [
    | inl (u, known) ↦ first_of_two (K l i) _ v (known ∙ ap Some (agree l i u v known e))
    | inr none ↦ second_of_two (K l i) _ none ∙ e
  ]

  family : (l i : ℕ) (v : Hash) → claims ask hashes l i ≡ Some v → l < top_layer ask hashes → IsFamily (claims ask hashes) l (i / 2)
  family l i v e below = claimed-family ask hashes spans power aligned enough l i v e below

  at_top : (i : ℕ) (v : Hash) → claims ask hashes (top_layer ask hashes) i ≡ Some v → i ≡ top_index ask hashes
  at_top i v e = claimed-top ask hashes spans power aligned enough i v e

  to_top : (l i : ℕ) (v : Hash) → claims ask hashes l i ≡ Some v → l ≤ top_layer ask hashes
  to_top l i v e = claimed-to_top ask hashes spans power aligned enough l i v e

  -- a claim is a place of the tree, since the top is; by the number d of layers below the top
  claim-in_tree : (d l i : ℕ) (v : Hash) → l + d ≡ top_layer ask hashes → claims ask hashes l i ≡ Some v → IsTreePlace (tree_height t.length) l i
  claim-in_tree zero l i v at e =
      let here : top_layer ask hashes ≡ l = omega arith in
      let e' : claims ask hashes (top_layer ask hashes) i ≡ Some v = ap (λ k. claims ask hashes k i) here ∙ e in
      subst₂ (IsTreePlace (tree_height t.length)) here (sym (at_top i v e')) (closed.in_tree _ _ anchor anchored)
  claim-in_tree (suc d) l i v at e =
      let below : l < top_layer ask hashes = omega arith in
      let up : IsFamily (claims ask hashes) l (i / 2) = family l i v e below in
      place_child (tree_height t.length) l i (omega arith)
      (claim-in_tree d (suc l) (i / 2) (join up.left up.right) (omega arith) up.parent_known)

  -- a family of K, or of the claims, is one of both together
  known-family : (l j : ℕ) → IsFamily K l j → IsFamily (joined K (claims ask hashes)) l j
  known-family l j fam = record {
    left = fam.left;
    right = fam.right;
    left_known = joined-keeps K (claims ask hashes) l (2 * j) fam.left fam.left_known;
    right_known = joined-keeps K (claims ask hashes) l (2 * j + 1) fam.right fam.right_known;
    parent_known = joined-keeps K (claims ask hashes) (suc l) j (join fam.left fam.right) fam.parent_known;
  }

  new-family : (l j : ℕ) → IsFamily (claims ask hashes) l j → IsFamily (joined K (claims ask hashes)) l j
  new-family l j fam = record {
    left = fam.left;
    right = fam.right;
    left_known = has_claim l (2 * j) fam.left fam.left_known;
    right_known = has_claim l (2 * j + 1) fam.right fam.right_known;
    parent_known = has_claim (suc l) j (join fam.left fam.right) fam.parent_known;
  }

  -- a claim that is not known stands below the top
  new-below_top : (l i : ℕ) (v : Hash) → K l i ≡ None → claims ask hashes l i ≡ Some v → l < top_layer ask hashes
  new-below_top l i v none e = elim (eq-or-lt_of_le (to_top l i v e)) [
    | inl same ↦
        let e' : claims ask hashes (top_layer ask hashes) i ≡ Some v = ap (λ k. claims ask hashes k i) (sym same) ∙ e in
        absurd (none-some anchor (sym none ∙ ap₂ K same (at_top i v e') ∙ anchored))
    | inr less ↦ less
  ]

  pub joined-closed_by_parts : IsClosed t (joined K (claims ask hashes))
  joined-closed_by_parts = record {
    root_known = joined-keeps K (claims ask hashes) (tree_height t.length) 0 t.root closed.root_known;
    in_tree = λ l i v e. elim (either (K l i) (claims ask hashes l i) v e) [
      | inl known ↦ closed.in_tree l i v known
      | inr new ↦ claim-in_tree (top_layer ask hashes - l) l i v (let le : l ≤ top_layer ask hashes = to_top l i v new.1 in omega arith) new.1
    ];
    hashes = λ l i v e. elim (either (K l i) (claims ask hashes l i) v e) [
      | inl known ↦ closed.hashes l i v known
      | inr new ↦ claims-is_hash ask hashes all_hashes l i v new.1
    ];
    families = λ l i v e below. elim (either (K l i) (claims ask hashes l i) v e) [
      | inl known ↦ known-family l (i / 2) (closed.families l i v known below)
      | inr new ↦ new-family l (i / 2) (family l i v new.1 (new-below_top l i v new.0 new.1))
    ];
    pads = λ l i v e past. elim (either (K l i) (claims ask hashes l i) v e) [
      | inl known ↦ closed.pads l i v known past
      | inr new ↦ claims-pads ask hashes (block_count t.length) good_pads l i v new.1 past
    ];
  }

-- K stays closed when an accepted message is joined to it
pub joined-closed : (t : TreeRoot) (K : PartialTree) (ask : Ask) (hashes : List Hash)
    → IsClosed t K → All IsHash hashes → IsAccepted t.length K ask hashes → IsClosed t (joined K (claims ask hashes))
joined-closed t K ask hashes closed all ok =
    joined-closed_by_parts t K ask hashes closed all (spans-some (tree_height t.length) ask ok.range) ok.range.power_of_two ok.range.aligned ok.count.enough
    ok.count.top_inside ok.pads ok.top_known.0 ok.top_known.1 ok.agrees

-- an accepted message has no fault
pub accepted-no_fault : (t : TreeRoot) (K : PartialTree) (ask : Ask) (hashes : List Hash) (r : HashRefusal) → IsAccepted t.length K ask hashes
    → ¬ Fault t.length K ask hashes r
accepted-no_fault t K ask hashes UnknownRoot ok f = f
accepted-no_fault t K ask hashes BadRange ok f = f ok.range
accepted-no_fault t K ask hashes BadCount ok f = f ok.count
accepted-no_fault t K ask hashes BadPad ok f = f.differ (ok.pads f.layer f.index f.value f.is_given f.past)
accepted-no_fault t K ask hashes Unanchored ok f = none-some ok.top_known.0 (sym f ∙ ok.top_known.1)
accepted-no_fault t K ask hashes Mismatch ok f = f.differ (ok.agrees f.layer f.index f.in_J f.in_K f.J_known f.K_known)
accepted-no_fault t K ask hashes NoMemory ok f = f
accepted-no_fault t K ask hashes Unasked ok f = f
