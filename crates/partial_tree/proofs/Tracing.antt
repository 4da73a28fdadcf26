-- How the claims of evidence follow from one another, from a place down.
use Rattle.std.proofs.Common.{◌≡◌, ◌⊎◌, ℕ, zero, suc, ◌+◌, ◌-◌, ◌*◌, ◌/◌, ◌^◌, ◌<◌, ◌≤◌, ◌↔◌, Bool, IsTrue, false, Some, None, Result}
use Rattle.std.proofs.Common.{Ok, Err, inl, inr, sym, ap, ◌∙◌, subst, arith, shr-shr}
use Rattle.std.specs.Result.{OnOk, is_err}
use Rattle.std.specs.FinMap.{len}
use Rattle.std.proofs.lemmas.Bool.{false≢true}
use Rattle.std.proofs.lemmas.Option.{same_Some, none-some}
use Rattle.partial_tree.specs.declared.message.evidence.Evidence.{Evidence}
use Rattle.partial_tree.specs.declared.message.found.NewClaims.{NewClaims}
use Rattle.node_maps.specs.Digest.{Hash, join}
use Rattle.node_maps.specs.Places.{PartialTree, IsKnown, IsTreePlace}
use Rattle.node_maps.specs.Known.{Known, look}
use Rattle.partial_tree.specs.Joins.{insert_new, Joins}
use Rattle.partial_tree.specs.Claims.{HasNew, IsAgreed}
use Rattle.partial_tree.specs.Evidence.{range_of, hashes_of, given_by, claimed_by, IsClaimedPlace, LiesUnder, IsNoted, HasClaim, IsEmpty, NotesNew, FindsClaims}
use Rattle.partial_tree.proofs.Noting.{insert_new-joined}
use Rattle.node_maps.proofs.Places.{place_left, place_right}
use Rattle.partial_tree.proofs.ClaimValues.{claims-read, claims-zero, claims-given, claims-joined}

-- a place is the left or the right child of its parent
pub left_or_right : (i : ℕ) → (i ≡ 2 * (i / 2)) ⊎ (i ≡ 2 * (i / 2) + 1)
left_or_right i = grind arith

-- what a claim that is not given rests on
pub record Opened (e : Evidence) (l i : ℕ) : Type 0 where
  pub above_leaves : 1 ≤ l
  pub left : IsKnown (claimed_by e) (l - 1) (2 * i)
  pub right : IsKnown (claimed_by e) (l - 1) (2 * i + 1)

pub rests_on : (e : Evidence) (l i : ℕ) → IsKnown (claimed_by e) l i → given_by e l i ≡ None → Opened e l i
rests_on e zero i (v, is) none = absurd (none-some v (sym none ∙ sym (claims-zero (range_of e) (hashes_of e) i) ∙ is))
rests_on e (suc l) i (v, is) none = elim (claims-read (range_of e) (hashes_of e) l i v is) [
  | inl g ↦ absurd (none-some v (sym none ∙ g))
  | inr (n, (a, b, p, q, w)) ↦
      let down : l ≡ suc l - 1 = omega arith in
      record {
        above_leaves = omega arith;
        left = (a, ap (λ k. claimed_by e k (2 * i)) (sym down) ∙ p);
        right = (b, ap (λ k. claimed_by e k (2 * i + 1)) (sym down) ∙ q);
      }
]

-- the children of a claimed place that is not given are claimed
pub left_claimed : (e : Evidence) (l i : ℕ) → IsClaimedPlace e l i → given_by e l i ≡ None → IsClaimedPlace e (l - 1) (2 * i)
left_claimed e l i at none =
    let o : Opened e l i = rests_on e l i at.claimed none in
    let up : l ≡ suc (l - 1) = omega (arith, o.above_leaves) in
    record {
      inside = at.inside;
      place = place_left 32 (l - 1) i (omega (arith, o.above_leaves, at.place.0)) (subst (λ k. IsTreePlace 32 k i) up at.place);
      pruned = at.pruned;
      claimed = o.left;
    }

pub right_claimed : (e : Evidence) (l i : ℕ) → IsClaimedPlace e l i → given_by e l i ≡ None → IsClaimedPlace e (l - 1) (2 * i + 1)
right_claimed e l i at none =
    let o : Opened e l i = rests_on e l i at.claimed none in
    let up : l ≡ suc (l - 1) = omega (arith, o.above_leaves) in
    record {
      inside = at.inside;
      place = place_right 32 (l - 1) i (omega (arith, o.above_leaves, at.place.0)) (subst (λ k. IsTreePlace 32 k i) up at.place);
      pruned = at.pruned;
      claimed = o.right;
    }

-- a given hash is claimed
pub given_claimed : (e : Evidence) (l i : ℕ) (v : Hash) → given_by e l i ≡ Some v → claimed_by e l i ≡ Some v
given_claimed e l i v is = claims-given (range_of e) (hashes_of e) l i v is

-- and so is the join of two claimed children
pub join_claimed : (e : Evidence) (l i : ℕ) (a b : Hash) → 1 ≤ l → given_by e l i ≡ None → claimed_by e (l - 1) (2 * i) ≡ Some a
    → claimed_by e (l - 1) (2 * i + 1) ≡ Some b
    → claimed_by e l i ≡ Some (join a b)
join_claimed e zero i a b some none p q = absurd (omega arith)
join_claimed e (suc l) i a b some none p q =
    let down : l ≡ suc l - 1 = omega arith in
    claims-joined (range_of e) (hashes_of e) l i a b none (ap (λ k. claimed_by e k (2 * i)) down ∙ p) (ap (λ k. claimed_by e k (2 * i + 1)) down ∙ q)

-- a place below another lies under one of its children
pub under_child : (layer index l i : ℕ) → LiesUnder layer index l i → l < layer → LiesUnder (layer - 1) (2 * index) l i
    ⊎ LiesUnder (layer - 1) (2 * index + 1) l i
under_child layer index l i at below =
    let q : ℕ = i / 2 ^ (layer - 1 - l) in
    let k : layer - l ≡ (layer - 1 - l) + 1 = omega arith in
    let half : q / 2 ≡ index = shr-shr i (layer - 1 - l) 1 ∙ sym (ap (λ j. i / 2 ^ j) k) ∙ at.1 in
    elim (left_or_right q) [
      | inl e ↦ inl (omega arith, e ∙ ap (λ j. 2 * j) half)
      | inr e ↦ inr (omega arith, e ∙ ap (λ j. 2 * j + 1) half)
    ]

-- ---- what holds where all that is claimed is handled

pub on_ok : {T E : Type 0} (r : Result T E) (P : Type 0) → OnOk r P → is_err r ≡ false → P
on_ok (Ok x) P h e = h
on_ok (Err x) P h e = absurd (false≢true (sym e))

pub found-agreed : (K C : PartialTree) (found : NewClaims) → FindsClaims K C found → IsAgreed K C
found-agreed K C found is l i u v known claim = elim (is.handled l i v claim) [
  | inl same ↦ same_Some u v (sym known ∙ same)
  | inr (none, noted) ↦ absurd (none-some u (sym none ∙ known))
]

pub found-joins : (C : PartialTree) (m : Known) (found : NewClaims) (c : ℕ) (after : Known) → FindsClaims (look m) C found
    → found.incomplete ≡ false → after ≡ insert_new m found.claims.items → len after ≡ len m + c → Joins C m after c
found-joins C m found c after is ok put gained = record {
  agreed = found-agreed (look m) C found is;
  joined_is = λ l i. ap (λ k. look k l i) put ∙ insert_new-joined C found.claims.items m is.sound complete l i;
  gained = gained;
}
  where
    listed : (l i : ℕ) (v : Hash) → IsNoted found l i v → HasClaim found.claims.items l i v
    listed l i v (inl refused) = absurd (false≢true (sym ok ∙ refused))
    listed l i v (inr has) = has

    complete : (l i : ℕ) (v : Hash) → C l i ≡ Some v → (look m l i ≡ Some v) ⊎ ((look m l i ≡ None) × HasClaim found.claims.items l i v)
    complete l i v claim = elim (is.handled l i v claim) [
      | inl known ↦ inl known
      | inr (none, noted) ↦ inr (none, listed l i v noted)
    ]

-- if no claim is noted, what was known has all that is claimed
pub nothing-joins : (C : PartialTree) (m : Known) (found : NewClaims) → FindsClaims (look m) C found → IsEmpty found → Joins C m m 0
nothing-joins C m found is empty = found-joins C m found 0 m is empty.complete (sym (ap (insert_new m) empty.none)) (omega arith)

-- if one is noted, a place is new
pub new_if_noted : (K C : PartialTree) (found : NewClaims) (b : Bool) → IsTrue b ↔ IsEmpty found → b ≡ false → NotesNew K C found → HasNew K C
new_if_noted K C found b is some (inl empty) = absurd (false≢true (sym some ∙ is.1 empty))
new_if_noted K C found b is some (inr new) = new
