-- What a run, its trees and a file give to SHA-256 is on the list of the inputs in use.
use Rattle.std.proofs.Common.{◌≡◌, ℕ, zero, suc, ◌+◌, ◌-◌, ◌*◌, ◌/◌, ◌%◌, ◌^◌, ◌<◌, List, [], ◌∷◌, ◌++◌, length, map, Some, inl, inr}
use Rattle.std.proofs.Common.{refl, sym, ap, ap₂, ◌∙◌, subst, arith}
use Rattle.std.specs.Prelude.{Contains, nat_eq}
use Rattle.std.specs.List.{All, flat_map, range_with_len}
use Rattle.std.specs.FinMap.{entries, get-entries, find}
use Rattle.std.specs.Ordering.{eq_by_cmp}
use Rattle.std.proofs.lemmas.Bool.{cases_Bool, cond-true, cond-false, and_parts, eqb-true, eq-eqb}
use Rattle.std.proofs.lemmas.Cmp.{nat_list_eq_equiv}
use Rattle.std.proofs.lemmas.Map.Views.{list_any-from_Contains}
use Rattle.std.proofs.lemmas.List.Elements.{All-contains_itself, All-weaker, Contains-append_left, Contains-append_right}
use Rattle.std.proofs.lemmas.List.FromFn.{get_or-map-range_with_len, length-map-range_with_len, get_or-range_with_len, length-range_with_len}
use Rattle.std.proofs.lemmas.Option.{none-some, same_Some, slice_get_within, get_or_from_slice_get}
use Rattle.wire.specs.declared.message.Message.{Message}
use Rattle.wire.specs.declared.message.Message.TheVariants as message
use Rattle.session.specs.declared.verdict.Verdict.{Verdict}
use Rattle.hashtree.specs.Tree.{block, block_count, node}
use Rattle.node_maps.specs.Digest.{Hash}
use Rattle.node_maps.specs.Known.{Known, place_cmp, look}
use Rattle.node_maps.specs.Places.{tree_height}
use Rattle.node_maps.proofs.Known.{same_place}
use Rattle.partial_tree.specs.Closed.{whole}
use Rattle.partial_tree.specs.Trust.{HasNoCollision, AreInputsOf}
use Rattle.tree_laws.proofs.Whole.{whole-inside}
use Rattle.chains.specs.Chain.{Chain}
use Rattle.session.specs.Session.{SessionSeen, TreeState}
use Rattle.session.specs.SafeStep.{IsSafeStep}
use Rattle.session.specs.Trusted.{AreJoinsOfTrees, HasBlocksOf, IsTrustedStep}
use Rattle.session_laws.specs.Inputs.{blocks_of, blocks_of_message, joined_with, join_from, joins_of, joins_of_layer, joins_of_file}
use Rattle.session_laws.specs.Inputs.{inputs_of, IsInUse}
use Rattle.session_laws.proofs.Trusting.{trusted-runs}

-- ---- members of lists

contains-flat_map : {X : Type 0} (g : X → List (List ℕ)) (xs : List X) (x : X) (y : List ℕ) → Contains xs x → Contains (g x) y → Contains (flat_map g xs) y
contains-flat_map g [] x y (k, low, e) h = absurd (omega (arith, low))
contains-flat_map g (z ∷ zs) x y (zero, low, e) h =
    Contains-append_left (g z) (flat_map g zs) y (subst (λ w. Contains (g w) y) (sym e) h)
contains-flat_map g (z ∷ zs) x y (suc k, low, e) h =
    Contains-append_right (g z) (flat_map g zs) y (contains-flat_map g zs x y (k, omega (arith, low), e) h)

contains-range : (n i : ℕ) → i < n → Contains (range_with_len 0 n) i
contains-range n i low = (
  i,
  omega (arith, low, length-range_with_len 0 n),
  get_or-range_with_len 0 n i i low ∙ (let back : 0 + i ≡ i = omega arith in back),
)

contains-map_range : (g : ℕ → List ℕ) (n i : ℕ) → i < n → Contains (map g (range_with_len 0 n)) (g i)
contains-map_range g n i low = (
  i,
  omega (arith, low, length-map-range_with_len g 0 n),
  get_or-map-range_with_len g 0 n i i (g i) low (omega arith),
)

contains-one : (x : List ℕ) → Contains (x ∷ []) x
contains-one x = (0, omega arith, refl)

-- ---- known nodes

contains-find : (q : ℕ × ℕ) (v : Hash) (es : List ((ℕ × ℕ) × Hash)) → find place_cmp q es ≡ Some v → Contains es (q, v)
contains-find q v [] e = absurd (none-some v e)
contains-find q v (x ∷ es) e = elim (cases_Bool (eq_by_cmp place_cmp q x.0)) [
  | inl tied ↦
      let value : x.1 ≡ v = same_Some x.1 v (sym (cond-true (eq_by_cmp place_cmp q x.0) (Some x.1) (find place_cmp q es) tied) ∙ e) in
      let parts = and_parts _ _ (sym (same_place x.0.0 x.0.1 q.0 q.1) ∙ tied) in
      let layer : q.0 ≡ x.0.0 = eqb-true q.0 x.0.0 parts.0 in
      let index : q.1 ≡ x.0.1 = eqb-true q.1 x.0.1 parts.1 in
      let pair : ℕ → ℕ → Hash → (ℕ × ℕ) × Hash = λ a b h. ((a, b), h) in
      (0, omega arith, (ap₂ (λ a b. pair a b x.1) (sym layer) (sym index) ∙ ap (pair q.0 q.1) value))
  | inr other ↦
      let later = contains-find q v es (sym (cond-false (eq_by_cmp place_cmp q x.0) (Some x.1) (find place_cmp q es) other) ∙ e) in
      (suc later.0, omega (arith, later.1), later.2)
]

joins-known : (K : Known) (l j : ℕ) (left right : Hash) → look K l (2 * j) ≡ Some left → look K l (2 * j + 1) ≡ Some right
    → Contains (joins_of K) (left ++ right)
joins-known K l j left right known next =
    let even : 2 * j % 2 ≡ 0 = omega arith in
    let here : join_from K ((l, 2 * j), left) ≡ (left ++ right) ∷ [] =
    cond-true (nat_eq (2 * j % 2) 0) (joined_with left (look K l (2 * j + 1))) [] (eq-eqb (2 * j % 2) 0 even) ∙ ap (joined_with left) next in
    contains-flat_map (join_from K) (entries K) ((l, 2 * j), left) (left ++ right)
    (contains-find (l, 2 * j) left (entries K) (sym (get-entries K (l, 2 * j)) ∙ known))
    (subst (λ (xs : List (List ℕ)). Contains xs (left ++ right)) (sym here) (contains-one (left ++ right)))

-- ---- a file

joins-file : (f : List ℕ) (l j : ℕ) (left right : Hash) → whole f l (2 * j) ≡ Some left → whole f l (2 * j + 1) ≡ Some right
    → Contains (joins_of_file f) (left ++ right)
joins-file f l j left right p q =
    let (place, is_left) = whole-inside f l (2 * j) left p in
    let (next, is_right) = whole-inside f l (2 * j + 1) right q in
    let low : j < 2 ^ (tree_height (length f) - l) / 2 = omega (arith, next.1) in
    let made : Contains (joins_of_layer f l) (node f l (2 * j) ++ node f l (2 * j + 1)) =
    contains-map_range (λ i. node f l (2 * i) ++ node f l (2 * i + 1)) (2 ^ (tree_height (length f) - l) / 2) j low in
    contains-flat_map (joins_of_layer f) (range_with_len 0 (tree_height (length f) + 1)) l (left ++ right)
    (contains-range (tree_height (length f) + 1) l (omega (arith, next.0)))
    (subst (Contains (joins_of_layer f l)) (ap₂ (λ (a b : Hash). a ++ b) is_left is_right) made)

-- ---- all are in use

module _ (ms : List Message) (S : SessionSeen) (f : List ℕ) where
  among : (x : List ℕ) → Contains (inputs_of ms S f) x → IsInUse ms S f x
  among x h = list_any-from_Contains nat_list_eq_equiv x (inputs_of ms S f) h

  from_messages : (x : List ℕ) → Contains (flat_map blocks_of_message ms) x → IsInUse ms S f x
  from_messages x h = among x (Contains-append_left (flat_map blocks_of_message ms) _ x h)

  from_trees : (x : List ℕ) → Contains (flat_map (λ (s : TreeState). joins_of s.known) S.trees) x → IsInUse ms S f x
  from_trees x h = among x (Contains-append_right (flat_map blocks_of_message ms) _ x
      (Contains-append_left (flat_map (λ (s : TreeState). joins_of s.known) S.trees) _ x h))

  from_file : (x : List ℕ) → Contains (blocks_of f ++ joins_of_file f) x → IsInUse ms S f x
  from_file x h = among x (Contains-append_right (flat_map blocks_of_message ms) _ x
      (Contains-append_right (flat_map (λ (s : TreeState). joins_of s.known) S.trees) _ x h))

  message-in_use : (m : Message) → Contains ms m → HasBlocksOf (IsInUse ms S f) m
  message-in_use (message.Piece index begin bytes) there = λ k low.
      from_messages (block bytes.now k) (contains-flat_map blocks_of_message ms (message.Piece index begin bytes) (block bytes.now k) there
      (contains-map_range (block bytes.now) (block_count (length bytes.now)) k (omega (arith, low))))
  message-in_use m there = tt

  pub messages-in_use : All (HasBlocksOf (IsInUse ms S f)) ms
  messages-in_use = All-weaker (Contains ms) (HasBlocksOf (IsInUse ms S f)) message-in_use ms (All-contains_itself ms)

  pub trees-in_use : AreJoinsOfTrees (IsInUse ms S f) S
  trees-in_use n tree s at l j left right known next =
      from_trees (left ++ right) (contains-flat_map (λ (t : TreeState). joins_of t.known) S.trees s (left ++ right)
      (n, slice_get_within S.trees n s at.state_is, get_or_from_slice_get S.trees n s s at.state_is) (joins-known s.known l j left right known next))

  pub file-in_use : AreInputsOf (IsInUse ms S f) f
  file-in_use = record {
    blocks = λ i low. from_file (block f i) (Contains-append_left (blocks_of f) (joins_of_file f) (block f i)
        (contains-map_range (block f) (block_count (length f)) i low));
    joins = λ l j left right p q. from_file (left ++ right) (Contains-append_right (blocks_of f) (joins_of_file f) (left ++ right)
        (joins-file f l j left right p q));
  }

-- so one finite trust is enough
pub trusted-runs_of_inputs : (S : SessionSeen) (ms : List Message) (vs : List Verdict) (S' : SessionSeen) (f : List ℕ) → Chain IsSafeStep S ms vs S'
    → HasNoCollision (IsInUse ms S' f) → Chain (IsTrustedStep (IsInUse ms S' f)) S ms vs S' × AreInputsOf (IsInUse ms S' f) f
trusted-runs_of_inputs S ms vs S' f run none =
    (trusted-runs (IsInUse ms S' f) none S ms vs S' run (messages-in_use ms S' f) (trees-in_use ms S' f), file-in_use ms S' f)
