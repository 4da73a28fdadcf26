-- With the leaves of all blocks and the pads beside the file's end, each short ask for a block can be answered.
use Rattle.std.proofs.Common.{◌≡◌, ◌≢◌, ℕ, zero, suc, ◌+◌, ◌-◌, ◌*◌, ◌/◌, ◌%◌, ◌^◌, ◌<◌, ◌≤◌, min, is_none, if◌then◌else◌, List, Option, Some, None}
use Rattle.std.proofs.Common.{inl, inr, refl, sym, ap, ap₂, ◌∙◌, subst}
use Rattle.std.proofs.Common.{arith, div-one, shr-shr, pow_pos, pow_mono, div-add-mod'}
use Rattle.std.proofs.lemmas.Bool.{cases_lt}
use Rattle.std.proofs.lemmas.Nat.{shl-shr, div-mul-add, le-div, mul-le, pow_below}
use Rattle.std.proofs.Math.Nat.{div-mul-le_self}
use Rattle.std.proofs.lemmas.Option.{none-some, same_Some}
use Rattle.chains.proofs.Cases.{some_or_none}
use Rattle.wire.specs.declared.message.Ask.{Ask}
use Rattle.hashtree.specs.Tree.{block_count, height, zero_hash}
use Rattle.hashtree.proofs.Heights.{height_enough, height_pow}
use Rattle.node_maps.specs.Digest.{Hash}
use Rattle.node_maps.specs.Known.{Known, look}
use Rattle.node_maps.specs.Places.{tree_height, PartialTree, IsKnown}
use Rattle.partial_tree.specs.TreeRoot.{TreeRoot}
use Rattle.partial_tree.specs.Closed.{IsClosed, Keeps}
use Rattle.partial_tree.specs.Claims.{span, joined, GoodRange, CanAnswer}
use Rattle.partial_tree.specs.EndPads.{last_node, pads_end, end_pads, AreEndPadsKnown, IsShortAsk}
use Rattle.partial_tree.specs.Gaps.{window, want_ask, want_of}
use Rattle.partial_tree.specs.LeafRows.{row_claims, row_pads, row_joins, TakesRow}
use Rattle.partial_tree.proofs.ClaimValues.{first_of_two, second_of_two}
use Rattle.partial_tree.proofs.EndPads.{pad-here, past-pad, climbed}
use Rattle.partial_tree.proofs.RowPads.{pads-come}
use Rattle.tree_laws.proofs.Wanted.{want-range}

-- ---- leaves that reach the end bring them

pub pads-stay_known : (len : ℕ) (K L : PartialTree) → Keeps K L → AreEndPadsKnown len K → AreEndPadsKnown len L
pads-stay_known len K L keeps known l i v is = let u = known l i v is in (u.0, keeps l i u.0 u.1)

pub row-brings : (len first k : ℕ) (hashes : List Hash) (before after : Known) (c : ℕ) → TakesRow len first k hashes before c after
    → block_count len ≤ first + 2 ^ k → AreEndPadsKnown len (look after)
row-brings len first k hashes before after c taken reach l i v is = elim (some_or_none (look before l i)) [
  | inl (u, known) ↦ (u, taken.1.joined_is l i ∙ first_of_two (look before l i) (row_joins len first k hashes l i) u known)
  | inr none ↦ elim (some_or_none (row_claims first k hashes l i)) [
    | inl (u, claim) ↦ (
      u,
      taken.1.joined_is l i ∙ second_of_two (look before l i) (row_joins len first k hashes l i) none
          ∙ first_of_two (row_claims first k hashes l i) (row_pads len first k l i) u claim,
    )
    | inr nothing ↦ (
      v,
      taken.1.joined_is l i ∙ second_of_two (look before l i) (row_joins len first k hashes l i) none
          ∙ second_of_two (row_claims first k hashes l i) (row_pads len first k l i) nothing
          ∙ ap (λ (P : PartialTree). P l i) (pads-come len first k reach) ∙ is,
    )
  ]
]

-- ---- short asks

-- numbers of one aligned range lie in one range of 512
one_range : (k w index a i : ℕ) → k ≤ 9 → w ≡ 2 ^ k → index % w ≡ 0 → index ≤ a → a < index + w → index ≤ i → i < index + w → i / 512 ≡ a / 512
one_range k w index a i low wide aligned from to from' to' =
    let q = index / w in
    let whole : index / w * w ≡ index = omega (arith, div-add-mod' index w, aligned) in
    let above : (x : ℕ) → index ≤ x → x < index + w → x / w ≡ index / w = λ x lo hi.
    let split : index / w * w + (x - index) ≡ x = omega (arith, whole, lo) in
    ap (λ n. n / w) (sym split) ∙ div-mul-add (index / w) w (x - index) (omega (arith, lo, hi)) in
    let up : (x : ℕ) → x / 512 ≡ x / w / 2 ^ (9 - k) = λ x.
    let e : k + (9 - k) ≡ 9 = omega (arith, low) in
    sym (ap (λ n. x / n / 2 ^ (9 - k)) wide ∙ shr-shr x k (9 - k) ∙ ap (λ n. x / 2 ^ n) e) in
    up i ∙ ap (λ n. n / 2 ^ (9 - k)) (above i from' to' ∙ sym (above a from to)) ∙ sym (up a)

module _ (t : TreeRoot) (K : PartialTree) (ask : Ask) (closed : IsClosed t K) (all : (b : ℕ) → b < block_count t.length → IsKnown K 0 b)
    (pads : AreEndPadsKnown t.length K) (short : IsShortAsk t.length ask) where
  span-low : span ask ≤ 9
  span-low = elim (cases_lt 9 (span ask)) [
    | inr low ↦ low
    | inl high ↦
        let more : 2 ^ 9 < 2 ^ span ask = pow_below 9 (span ask) high in
        absurd (omega (arith, more, short.range.power_of_two, short.short))
  ]

  -- a node over a block is known
  over-block : (i : ℕ) → i * 2 ^ ask.base < block_count t.length → IsKnown K ask.base i
  over-block i low =
      let up : IsKnown K ask.base (i * 2 ^ ask.base / 2 ^ ask.base) = climbed t K closed (i * 2 ^ ask.base) ask.base (all (i * 2 ^ ask.base) low)
      short.range.base_inside in
      subst (IsKnown K ask.base) (shl-shr i ask.base) up

  -- the node over the last block is in the range, if a pad is
  pad-known : (i : ℕ) → ask.index ≤ i → i < ask.index + ask.length → block_count t.length ≤ i * 2 ^ ask.base → IsKnown K ask.base i
  pad-known i from to past =
      let some : 0 < block_count t.length = omega (arith, short.some) in
      let behind : last_node t.length ask.base < i = past-pad t.length ask.base i some past in
      let first : ask.index ≤ last_node t.length ask.base =
      le-div ask.index (block_count t.length - 1) (2 ^ ask.base) (pow_pos ask.base) (omega (arith, short.some)) in
      let one : i / 512 ≡ last_node t.length ask.base / 512 =
      one_range (span ask) ask.length ask.index (last_node t.length ask.base) i span-low (sym short.range.power_of_two) short.range.aligned first
      (omega (arith, behind, to)) from to in
      let inside : ask.index + ask.length ≤ 2 ^ (tree_height t.length - ask.base) = short.range.range_inside in
      let low : ask.base < tree_height t.length = elim (cases_lt ask.base (tree_height t.length)) [
        | inl less ↦ less
        | inr top ↦
            let none : tree_height t.length - ask.base ≡ 0 = omega (arith, top) in
            let width : 2 ^ (tree_height t.length - ask.base) ≡ 1 = ap (λ n. 2 ^ n) none in
            absurd (omega (arith, width, inside, short.range.least))
      ] in
      pads ask.base i (zero_hash ask.base) (pad-here t.length ask.base i low behind (omega (arith, one, inside, to)))

  pub short-answered : CanAnswer (tree_height t.length) K ask
  short-answered = record {
    range = short.range;
    base_known = λ j low. elim (cases_lt ((ask.index + j) * 2 ^ ask.base) (block_count t.length)) [
      | inl over ↦ over-block (ask.index + j) over
      | inr past ↦ pad-known (ask.index + j) (omega arith) (omega (arith, low)) past
    ];
  }

-- ---- what is wanted

pub want-short : (t : TreeRoot) (b : ℕ) → 1 ≤ tree_height t.length → b < block_count t.length → IsShortAsk t.length (want_ask t b)
want-short t b tall low = record {
  range = want-range t b tall low;
  short = omega arith;
  some =
      let whole : b / window t.length * window t.length ≤ b = div-mul-le_self b (window t.length) in
      omega (arith, whole, low);
}

pub wanted-short : (t : TreeRoot) (K : PartialTree) (b : ℕ) (ask : Ask) → IsClosed t K → b < block_count t.length → want_of t K b ≡ Some ask
    → IsShortAsk t.length ask
wanted-short t K b ask closed low wanted = by (K 0 b) refl wanted
  where
    by : (o : Option Hash) → K 0 b ≡ o → want_of t K b ≡ Some ask → IsShortAsk t.length ask
    by (Some v) is e = absurd (none-some ask (sym (ap (λ (o : Option Hash). if is_none o then Some (want_ask t b) else None) is) ∙ e))
    by None is e =
        let same : want_ask t b ≡ ask = same_Some (want_ask t b) ask (sym (ap (λ (o : Option Hash). if is_none o then Some (want_ask t b) else None) is) ∙ e) in
        subst (IsShortAsk t.length) same (want-short t b tall low)
      where
        tall : 1 ≤ tree_height t.length
        tall = elim (cases_lt 0 (tree_height t.length)) [
          | inl some ↦ some
          | inr flat ↦
              let none : tree_height t.length ≡ 0 = omega (arith, flat) in
              let enough : block_count t.length ≤ 2 ^ tree_height t.length = height_enough (block_count t.length) in
              let width : 2 ^ tree_height t.length ≡ 1 = ap (λ n. 2 ^ n) none in
              let first : b ≡ 0 = omega (arith, enough, width, low) in
              absurd (none-some t.root (sym is ∙ ap₂ K (sym none) first ∙ closed.root_known))
        ]
