-- What a message claims, and what a whole layer claims, leads to one place.
use Rattle.std.proofs.Common.{◌≡◌, ℕ, zero, suc, ◌+◌, ◌-◌, ◌*◌, ◌/◌, ◌%◌, ◌^◌, ◌<◌, ◌≤◌, List, [], length, Some, refl, sym, ap, ap₂, ◌∙◌, subst, arith, shr-shr}
use Rattle.std.proofs.Common.{div-one}
use Rattle.std.specs.Option.{option_or}
use Rattle.std.proofs.lemmas.Option.{none-some}
use Rattle.wire.specs.declared.message.Ask.{Ask}
use Rattle.partial_tree.specs.declared.message.evidence.Evidence.{Evidence}
use Rattle.node_maps.specs.Digest.{Hash, join}
use Rattle.partial_tree.specs.Closed.{IsFamily}
use Rattle.partial_tree.specs.Claims.{span, given, claims, join_both, top_layer, top_index}
use Rattle.partial_tree.specs.Evidence.{range_of, hashes_of, given_by, claimed_by, LeadsTo}
use Rattle.partial_tree.proofs.Given.{span_is, cover_is, hashes-length}
use Rattle.partial_tree.proofs.ClaimValues.{claims-given}
use Rattle.partial_tree.proofs.Claimed.{claimed-at, claimed-family, claimed-to_top, claimed-top, claimed-value, parent-of, parent-not_given}
use Rattle.partial_tree.proofs.Claimed.{on_path}

abbrev core : ℕ → ℕ → ℕ → Ask
core base index length = record { root = []; base = base; index = index; length = length; proof = 0 }

given_same : (a b : Ask) (hashes : List Hash) → a.base ≡ b.base → a.index ≡ b.index → a.length ≡ b.length → (l i : ℕ) → given a hashes l i ≡ given b hashes l i
given_same a b hashes base index len l i =
    ap (λ x. given (core x a.index a.length) hashes l i) base ∙ ap (λ x. given (core b.base x a.length) hashes l i) index
    ∙ ap (λ x. given (core b.base b.index x) hashes l i) len

-- claims read the base, the index and the length of an ask alone
pub claims-same : (a b : Ask) (hashes : List Hash) → a.base ≡ b.base → a.index ≡ b.index → a.length ≡ b.length → (l i : ℕ)
    → claims a hashes l i ≡ claims b hashes l i
unfolding claims
claims-same a b hashes base index len zero i = given_same a b hashes base index len zero i
claims-same a b hashes base index len (suc l) i =
    ap₂ option_or (given_same a b hashes base index len (suc l) i) (ap₂ join_both (claims-same a b hashes base index len l (2 * i))
    (claims-same a b hashes base index len l (2 * i + 1)))

module _ (e : Evidence) (some : 1 ≤ e.span) (aligned : e.index % 2 ^ e.span ≡ 0) where
  spans : 1 ≤ span (range_of e)
  spans = subst (λ k. 1 ≤ k) (sym (span_is e)) some

  power : 2 ^ span (range_of e) ≡ 2 ^ e.span
  power = ap (λ k. 2 ^ k) (span_is e)

  enough : 2 ^ e.span ≤ length (hashes_of e)
  enough = omega (arith, hashes-length e)

  -- a claim below the top has a claimed parent
  parent-claim : (l i : ℕ) (v : Hash) → claimed_by e l i ≡ Some v → l < top_layer (range_of e) (hashes_of e)
      → (w : Hash) × (claimed_by e (suc l) (i / 2) ≡ Some w)
  parent-claim l i v claim below =
      let fam : IsFamily (claimed_by e) l (i / 2) = claimed-family (range_of e) (hashes_of e) spans power aligned enough l i v claim below in
      (join fam.left fam.right, fam.parent_known)

  half-up : (layer l i : ℕ) → l < layer → i / 2 / 2 ^ (layer - suc l) ≡ i / 2 ^ (layer - l)
  half-up layer l i below =
      let k : layer - l ≡ 1 + (layer - suc l) = omega arith in
      shr-shr i 1 (layer - suc l) ∙ sym (ap (λ j. i / 2 ^ j) k)

  under-top : (d l i : ℕ) (v : Hash) → l + d ≡ top_layer (range_of e) (hashes_of e) → claimed_by e l i ≡ Some v
      → i / 2 ^ (top_layer (range_of e) (hashes_of e) - l) ≡ top_index (range_of e) (hashes_of e)
  under-top zero l i v at claim =
      let here : l ≡ top_layer (range_of e) (hashes_of e) = omega arith in
      let none_left : top_layer (range_of e) (hashes_of e) - l ≡ 0 = omega arith in
      ap (λ k. i / 2 ^ k) none_left ∙ div-one i
      ∙ claimed-top (range_of e) (hashes_of e) spans power aligned enough i v (sym (ap (λ k. claimed_by e k i) here) ∙ claim)
  under-top (suc d) l i v at claim =
      let below : l < top_layer (range_of e) (hashes_of e) = omega arith in
      let up = parent-claim l i v claim below in
      sym (half-up (top_layer (range_of e) (hashes_of e)) l i below) ∙ under-top d (suc l) (i / 2) up.0 (omega arith) up.1

  -- no claim stands below a given hash
  none-below : (d layer index l i : ℕ) (v w : Hash) → l + suc d ≡ layer → layer ≤ top_layer (range_of e) (hashes_of e) → given_by e layer index ≡ Some v
      → i / 2 ^ (layer - l) ≡ index → claimed_by e l i ≡ Some w → ⊥
  none-below zero layer index l i v w at inside given' under claim =
      let up : suc l ≡ layer = omega arith in
      let one : layer - l ≡ 1 = omega arith in
      let here : i / 2 ≡ index = sym (ap (λ k. i / 2 ^ k) one) ∙ under in
      none-some v (sym (parent-not_given (range_of e) (hashes_of e) spans power aligned enough l (i / 2)
      (parent-of (range_of e) (hashes_of e) spans power aligned enough l i (claimed-at (range_of e) (hashes_of e) spans power aligned enough l i w claim)))
      ∙ ap₂ (given_by e) up here ∙ given')
  none-below (suc d) layer index l i v w at inside given' under claim =
      let below : l < top_layer (range_of e) (hashes_of e) = omega arith in
      let up = parent-claim l i w claim below in
      let less : l < layer = omega arith in
      none-below d layer index (suc l) (i / 2) v up.0 (omega arith) inside given' (half-up layer l i less ∙ under) up.1

  pub message-leads : LeadsTo e (top_layer (range_of e) (hashes_of e)) (top_index (range_of e) (hashes_of e))
  message-leads = record {
    is_over = record { aligned = aligned; covers = omega (arith, cover_is e); over = refl };
    pruned = record {
      below = λ layer index l i v w given' under less claim.
          none-below (layer - suc l) layer index l i v w (omega arith) (claimed-to_top (range_of e) (hashes_of e) spans power aligned enough layer index v
          (claims-given (range_of e) (hashes_of e) layer index v given')) given' under.1 claim;
    };
    at_top = claimed-value (range_of e) (hashes_of e) spans power aligned enough (top_layer (range_of e) (hashes_of e)) (top_index (range_of e) (hashes_of e))
        (on_path (record { from_cover = omega arith; to_top = omega arith; is_above = refl }));
    under_top = λ l i v claim.
        let inside : l ≤ top_layer (range_of e) (hashes_of e) = claimed-to_top (range_of e) (hashes_of e) spans power aligned enough l i v claim in
        (inside, under-top (top_layer (range_of e) (hashes_of e) - l) l i v (omega arith) claim);
  }
