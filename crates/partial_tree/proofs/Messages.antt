-- What a body that takes a message stands on: where its hashes lie, and what its evidence claims.
use Rattle.std.proofs.Common.{◌≡◌, ◌≢◌, ℕ, suc, ◌+◌, ◌-◌, ◌*◌, ◌/◌, ◌%◌, ◌^◌, ◌<◌, ◌≤◌, Bool, true, false, eqb, List, [], ◌++◌, length, get_or, take, drop}
use Rattle.std.proofs.Common.{replicate, Result, Ok, Err, inl, inr, refl, sym, ap, ap₂, ◌∙◌, subst, arith, shr-shr, length-take}
use Rattle.std.proofs.Common.{length-drop, pow-add, pow_pos, div-add-mod'}
use Rattle.std.specs.Prelude.{slice_get}
use Rattle.std.specs.List.{All}
use Rattle.std.specs.Result.{IfOk, IfErr}
use Rattle.std.specs.FinMap.{len}
use Rattle.std.proofs.lemmas.Nat.{mul-le}
use Rattle.std.proofs.lemmas.Option.{slice_get_within, slice_get-get_or, get_or_from_slice_get}
use Rattle.std.proofs.lemmas.Bool.{and_from, eq-eqb, le-leb, lt-ltb, cond-true, cond-false, and_left, ne_eqb, false≢true}
use Rattle.std.proofs.lemmas.List.{get_or-take, get_or-drop, append-nil}
use Rattle.wire.specs.declared.message.Ask.{Ask}
use Rattle.hashtree.specs.Tree.{block_count, height, zero_hash}
use Rattle.partial_tree.specs.declared.message.evidence.Evidence.{Evidence}
use Rattle.partial_tree.specs.declared.refusal.HashRefusal.{HashRefusal}
use Rattle.partial_tree.specs.declared.refusal.HashRefusal.TheVariants.{UnknownRoot, BadRange, BadCount, BadPad, Unanchored, Mismatch, NoMemory, Unasked}
use Rattle.node_maps.specs.Digest.{Hash, IsHash}
use Rattle.partial_tree.specs.TreeRoot.{TreeRoot}
use Rattle.node_maps.specs.Places.{tree_height, PartialTree, IsKnown}
use Rattle.partial_tree.specs.Closed.{IsClosed}
use Rattle.partial_tree.specs.Claims.{cover, above, sibling, base_hash, uncle_hash, claims, top_layer, top_index, GoodRange, GoodCount, ArePadsRight, IsBadPad}
use Rattle.partial_tree.specs.Claims.{IsAgreed, IsAccepted, TreeRefuses}
use Rattle.node_maps.specs.Known.{Known, look}
use Rattle.partial_tree.specs.Joins.{Joins}
use Rattle.partial_tree.specs.Evidence.{range_of, hashes_of, claimed_by, LeadsTo, StoreFault}
use Rattle.partial_tree.proofs.Ranges.{span_at, pow_more}
use Rattle.node_maps.proofs.Known.{len-known}
use Rattle.partial_tree.proofs.Joining.{joined-closed}
use Rattle.partial_tree.proofs.Leading.{claims-same, message-leads}
use Rattle.partial_tree.proofs.Deciding.{pads_or_not, first_mismatch}
use Rattle.partial_tree.proofs.ClaimValues.{either, first_of_two, second_of_two, base-read, uncle-read}

-- what the tests of pads compare, from places and numbers that a body computes
abbrev pub PadsFrom : ℕ → ℕ → ℕ → List Hash → Type 0
PadsFrom blocks base index xs = (j : ℕ) → j < length xs → blocks ≤ (index + j) * 2 ^ base → get_or xs j [] ≡ zero_hash base

abbrev pub PadsAbove : ℕ → ℕ → ℕ → List Hash → Type 0
PadsAbove blocks cover node xs = (j : ℕ) → j < length xs → blocks ≤ sibling (node / 2 ^ j) * 2 ^ (cover + j) → get_or xs j [] ≡ zero_hash (cover + j)

pub from_moved : (b b' base n n' : ℕ) (xs ys : List Hash) → b ≡ b' → n ≡ n' → xs ≡ ys → PadsFrom b base n xs → PadsFrom b' base n' ys
from_moved b b' base n n' xs ys p q r h = subst (λ x. PadsFrom x base n' ys) p (subst (λ x. PadsFrom b base x ys) q (subst (PadsFrom b base n) r h))

pub above_moved : (b b' cover n n' : ℕ) (xs ys : List Hash) → b ≡ b' → n ≡ n' → xs ≡ ys → PadsAbove b cover n xs → PadsAbove b' cover n' ys
above_moved b b' cover n n' xs ys p q r h = subst (λ x. PadsAbove x cover n' ys) p (subst (λ x. PadsAbove b cover x ys) q (subst (PadsAbove b cover n) r h))

pub not_of : (b : Bool) (P : Type 0) → (P → b ≡ true) → b ≡ false → ¬ P
not_of b P give wrong p = false≢true (sym wrong ∙ give p)

module _ (len : ℕ) (ask : Ask) (hashes : List Hash) (k : ℕ) (e : 2 ^ k ≡ ask.length) (enough : ask.length ≤ length hashes) where
  -- the base hashes past the file's end fit
  abbrev pub BaseFits : Type 0
  BaseFits = (j : ℕ) → j < length (take ask.length hashes) → block_count len ≤ (ask.index + j) * 2 ^ ask.base
      → get_or (take ask.length hashes) j [] ≡ zero_hash ask.base

  -- and so do the uncles
  abbrev pub UnclesFit : Type 0
  UnclesFit = (j : ℕ) → j < length (drop ask.length hashes) → block_count len ≤ sibling (ask.index / 2 ^ k / 2 ^ j) * 2 ^ (ask.base + k + j)
      → get_or (drop ask.length hashes) j [] ≡ zero_hash (ask.base + k + j)

  cover_at : cover ask ≡ ask.base + k
  cover_at = ap (λ n. ask.base + n) (span_at ask k e)

  above_at : (j : ℕ) → above ask (ask.base + k + j) ≡ ask.index / 2 ^ k / 2 ^ j
  above_at j = let d : ask.base + k + j - ask.base ≡ k + j = omega arith in ap (λ n. ask.index / 2 ^ n) d ∙ sym (shr-shr ask.index k j)

  pub fit-right : BaseFits → UnclesFit → ArePadsRight len ask hashes
  fit-right base uncles l i v is past = elim (either (base_hash ask hashes l i) (uncle_hash ask hashes l i) v is) [
    | inl b ↦
        let (at, low, high, got) = base-read ask hashes l i v b in
        let inside : i - ask.index < length hashes = slice_get_within hashes (i - ask.index) v got in
        let here : i - ask.index < length (take ask.length hashes) = omega (arith, length-take ask.length hashes) in
        let place : ask.index + (i - ask.index) ≡ i = omega arith in
        let past' : block_count len ≤ (ask.index + (i - ask.index)) * 2 ^ ask.base = subst (λ n. block_count len ≤ n * 2 ^ ask.base) (sym place)
        (subst (λ n. block_count len ≤ i * 2 ^ n) at past) in
        sym (get_or_from_slice_get hashes (i - ask.index) v [] got)
        ∙ sym (get_or-take ask.length hashes (i - ask.index) [] (omega arith))
        ∙ base (i - ask.index) here past' ∙ ap zero_hash (sym at)
    | inr (none, u) ↦
        let (from, at, got) = uncle-read ask hashes l i v u in
        let inside : ask.length + (l - cover ask) < length hashes = slice_get_within hashes (ask.length + (l - cover ask)) v got in
        let c : cover ask ≡ ask.base + k = cover_at in
        let layer : ask.base + k + (l - (ask.base + k)) ≡ l = omega arith in
        let here : l - (ask.base + k) < length (drop ask.length hashes) = omega (arith, length-drop ask.length hashes) in
        let there : ask.length + (l - cover ask) ≡ ask.length + (l - (ask.base + k)) = ap (λ n. ask.length + (l - n)) c in
        let node : sibling (ask.index / 2 ^ k / 2 ^ (l - (ask.base + k))) ≡ i = ap sibling (sym (above_at (l - (ask.base + k))) ∙ ap (above ask) layer)
        ∙ sym at in
        let past' : block_count len ≤ sibling (ask.index / 2 ^ k / 2 ^ (l - (ask.base + k))) * 2 ^ (ask.base + k + (l - (ask.base + k))) =
        subst (λ n. block_count len ≤ n) (sym (ap₂ (λ a b. a * 2 ^ b) node layer)) past in
        sym (get_or_from_slice_get hashes (ask.length + (l - cover ask)) v [] got) ∙ ap (λ n. get_or hashes n []) there
        ∙ sym (get_or-drop ask.length hashes (l - (ask.base + k)) [])
        ∙ uncles (l - (ask.base + k)) here past' ∙ ap zero_hash layer
  ]

  pub right-base : ArePadsRight len ask hashes → BaseFits
  right-base right j in' past =
      let low : j < ask.length = omega (arith, length-take ask.length hashes) in
      let inside : j < length hashes = omega arith in
      let back : ask.index + j - ask.index ≡ j = omega arith in
      get_or-take ask.length hashes j [] low
      ∙ right ask.base (ask.index + j) (get_or hashes j [])
      (first_of_two _ _ _ (cond-true _ _ _ (and_from _ _ (eq-eqb ask.base ask.base refl) (and_from _ _ (le-leb ask.index (ask.index + j) (omega arith))
      (lt-ltb (ask.index + j) (ask.index + ask.length) (omega arith))))
      ∙ ap (slice_get hashes) back ∙ slice_get-get_or hashes j [] inside)) past

  pub right-uncles : 1 ≤ k → ArePadsRight len ask hashes → UnclesFit
  right-uncles some right j in' past =
      let inside : ask.length + j < length hashes = omega (arith, length-drop ask.length hashes) in
      let c : cover ask ≡ ask.base + k = cover_at in
      let other : ask.base + k + j ≢ ask.base = (λ same. omega arith) in
      let place : ask.length + (ask.base + k + j - cover ask) ≡ ask.length + j = omega arith in
      let from : cover ask ≤ ask.base + k + j = omega arith in
      get_or-drop ask.length hashes j []
      ∙ right (ask.base + k + j) (sibling (ask.index / 2 ^ k / 2 ^ j)) (get_or hashes (ask.length + j) [])
      (second_of_two _ _ (cond-false _ _ _ (and_left (eqb (ask.base + k + j) ask.base) _ (ne_eqb (ask.base + k + j) ask.base other)))
      ∙ cond-true _ _ _ (and_from _ _ (le-leb (cover ask) (ask.base + k + j) from) (eq-eqb _ _ (ap sibling (sym (above_at j)))))
      ∙ ap (slice_get hashes) place ∙ slice_get-get_or hashes (ask.length + j) [] inside) past

  pub unfit-base : ¬ BaseFits → IsBadPad len ask hashes
  unfit-base wrong = elim (pads_or_not len ask hashes) [ inl right ↦ absurd (wrong (right-base right)) | inr bad ↦ bad ]

  pub unfit-uncles : 1 ≤ k → ¬ UnclesFit → IsBadPad len ask hashes
  unfit-uncles some wrong = elim (pads_or_not len ask hashes) [ inl right ↦ absurd (wrong (right-uncles some right)) | inr bad ↦ bad ]

-- the base range ends within 2 ^ 32 leaves
pub range-wide : (h : ℕ) (ask : Ask) (n : ℕ) → h ≤ 32 → GoodRange h ask → n ≤ ask.length → (ask.index + n) * 2 ^ ask.base ≤ 2 ^ 32
range-wide h ask n low range le =
    let inside : (ask.index + n) * 2 ^ ask.base ≤ 2 ^ (h - ask.base) * 2 ^ ask.base = mul-le (ask.index + n) (2 ^ ask.base) (2 ^ (h - ask.base)) (2 ^ ask.base)
    (omega (arith, range.range_inside)) (omega arith) in
    let sum : h ≡ (h - ask.base) + ask.base = omega (arith, range.base_inside) in
    let whole : 2 ^ (h - ask.base) * 2 ^ ask.base ≡ 2 ^ h = sym (pow-add 2 (h - ask.base) ask.base) ∙ ap (λ n. 2 ^ n) (sym sum) in
    let high : 2 ^ h ≤ 2 ^ 32 = pow_more h 32 low in
    omega arith

-- the node above it starts there
pub cover-wide : (h : ℕ) (ask : Ask) (k : ℕ) → h ≤ 32 → GoodRange h ask → 2 ^ k ≡ ask.length → ask.index / 2 ^ k * 2 ^ (ask.base + k) < 2 ^ 32
cover-wide h ask k low range e =
    let wide : (ask.index + 1) * 2 ^ ask.base ≤ 2 ^ 32 = range-wide h ask 1 low range (omega (arith, range.least)) in
    let floor : ask.index / 2 ^ k * 2 ^ k ≤ ask.index = omega (arith, div-add-mod' ask.index (2 ^ k)) in
    let some : 0 < 2 ^ ask.base = pow_pos ask.base in
    let split : 2 ^ (ask.base + k) ≡ 2 ^ ask.base * 2 ^ k = pow-add 2 ask.base k in
    let same : ask.index / 2 ^ k * 2 ^ (ask.base + k) ≡ ask.index / 2 ^ k * 2 ^ k * 2 ^ ask.base = ap (λ n. ask.index / 2 ^ k * n) split ∙ omega arith in
    let less : ask.index / 2 ^ k * 2 ^ k * 2 ^ ask.base ≤ ask.index * 2 ^ ask.base = mul-le (ask.index / 2 ^ k * 2 ^ k) (2 ^ ask.base) ask.index (2 ^ ask.base)
    floor (omega arith) in
    let more : (ask.index + 1) * 2 ^ ask.base ≡ ask.index * 2 ^ ask.base + 2 ^ ask.base = omega arith in
    omega arith

-- ---- the evidence of a message

module _ (ev : Evidence) (ask : Ask) (hashes : List Hash) (base : ev.base ≡ ask.base) (index : ev.index ≡ ask.index) (width : 2 ^ ev.span ≡ ask.length)
    (given' : ev.hashes.now ≡ hashes) (enough : ask.length ≤ length hashes) where
  same_hashes : hashes_of ev ≡ hashes
  same_hashes =
      let none : 2 ^ ev.span - length ev.hashes.now ≡ 0 = (let n : length ev.hashes.now ≡ length hashes = ap length given' in omega arith) in
      ap (λ n. ev.hashes.now ++ replicate n ev.pad) none ∙ append-nil ev.hashes.now ∙ given'

  -- it claims what the message does
  pub same_claims : claimed_by ev ≡ claims ask hashes
  same_claims = λ n l i. at l i n
    where
      at : (l i : ℕ) → claimed_by ev l i ≡ claims ask hashes l i
      at l i = ap (λ hs. claims (range_of ev) hs l i) same_hashes ∙ claims-same (range_of ev) ask hashes base index width l i

  same_top : top_layer (range_of ev) (hashes_of ev) ≡ top_layer ask hashes
  same_top =
      ap (top_layer (range_of ev)) same_hashes
      ∙ ap₂ (λ a n. a + height n + (length hashes - n)) base width

  -- and leads to the message's top
  pub leads : 1 ≤ ev.span → ask.index % ask.length ≡ 0 → LeadsTo ev (top_layer ask hashes) (top_index ask hashes)
  leads some aligned =
      let at : LeadsTo ev (top_layer (range_of ev) (hashes_of ev)) (top_index (range_of ev) (hashes_of ev)) =
      message-leads ev some (ap₂ (λ a b. a % b) index width ∙ aligned) in
      subst (λ l. LeadsTo ev l (ask.index / 2 ^ (l - ask.base))) same_top
      (subst (λ i. LeadsTo ev (top_layer (range_of ev) (hashes_of ev)) i) (ap₂ (λ a b. a / 2 ^ (top_layer (range_of ev) (hashes_of ev) - b)) index base) at)

-- what is known after an accepted message is bounded by the tree
pub joined-len : (t : TreeRoot) (before after : Known) (ask : Ask) (hashes : List Hash) (c : ℕ) → IsClosed t (look before) → All IsHash hashes
    → IsAccepted t.length (look before) ask hashes
    → Joins (claims ask hashes) before after c → len before + c < 2 ^ suc (tree_height t.length)
joined-len t before after ask hashes c closed all ok joins =
    subst (λ n. n < 2 ^ suc (tree_height t.length)) joins.gained
    (len-known (tree_height t.length) after (λ l i v e. (joined-closed t (look before) ask hashes closed all ok).in_tree l i v (sym (joins.joined_is l i) ∙ e)))

-- ---- what storing leaves, from the evidence to the message

-- the message passes each test before its hashes are compared, and the evidence claims what it does
pub record PassesTests (ev : Evidence) (len : ℕ) (before : Known) (ask : Ask) (hashes : List Hash) : Type 0 where
  pub claimed : claimed_by ev ≡ claims ask hashes
  pub range : GoodRange (tree_height len) ask
  pub count : GoodCount (tree_height len) ask hashes
  pub pads : ArePadsRight len ask hashes
  pub top : IsKnown (look before) (top_layer ask hashes) (top_index ask hashes)

module _ {ev : Evidence} {len : ℕ} {before : Known} {ask : Ask} {hashes : List Hash} (x : PassesTests ev len before ask hashes) where
  accepts : IsAgreed (look before) (claims ask hashes) → IsAccepted len (look before) ask hashes
  accepts agreed = record { range = x.range; count = x.count; pads = x.pads; top_known = x.top; agrees = agreed }

  refuses_store : (r : HashRefusal) → StoreFault (look before) (claims ask hashes) r → TreeRefuses len (look before) ask hashes r
  refuses_store Mismatch f = record {
    fault = f;
    first = first_mismatch (record { root = []; length = len }) (look before) ask hashes x.range x.count x.pads x.top;
  }
  refuses_store NoMemory f = (accepts f.0, f.1)
  refuses_store UnknownRoot f = absurd f
  refuses_store BadRange f = absurd f
  refuses_store BadCount f = absurd f
  refuses_store BadPad f = absurd f
  refuses_store Unanchored f = absurd f
  refuses_store Unasked f = absurd f

  pub taken_by : (after : Known) (r : Result ℕ HashRefusal) → IfOk r (λ c. Joins (claimed_by ev) before after c)
      → IfOk r (λ c. IsAccepted len (look before) ask hashes × Joins (claims ask hashes) before after c)
  taken_by after (Ok c) joins =
      let moved : Joins (claims ask hashes) before after c = subst (λ (C : PartialTree). Joins C before after c) x.claimed joins in
      (accepts moved.agreed, moved)
  taken_by after (Err r) joins = tt

  pub refused_by : (Stays : Type 0) (r : Result ℕ HashRefusal) → IfErr r (λ y. StoreFault (look before) (claimed_by ev) y × Stays)
      → IfErr r (λ y. TreeRefuses len (look before) ask hashes y × Stays)
  refused_by Stays (Ok c) fault = tt
  refused_by Stays (Err r) fault = (refuses_store r (subst (λ (C : PartialTree). StoreFault (look before) C r) x.claimed fault.0), fault.1)
