-- Lists of claims as they grow, and what they leave when they are put.
use Rattle.std.proofs.Common.{◌≡◌, ◌≢◌, ◌⊎◌, ℕ, suc, ◌+◌, ◌<◌, true, false, cond, List, [], ◌∷◌, ◌++◌, Option, Some, None, inl, inr, refl, sym, ap, ap₂, ◌∙◌}
use Rattle.std.proofs.Common.{subst, arith, is_some, length, get_or, drop, drop-cons}
use Rattle.std.specs.List.{All}
use Rattle.std.specs.Option.{option_or}
use Rattle.std.specs.FinMap.{insert, len, len-insert}
use Rattle.std.proofs.lemmas.Option.{same_Some, none-some}
use Rattle.std.proofs.lemmas.Bool.{cases_eq}
use Rattle.std.proofs.lemmas.List.Elements.{All-head, All-tail}
use Rattle.chains.proofs.Cases.{some_or_none}
use Rattle.partial_tree.specs.declared.message.found.Claim.{Claim}
use Rattle.partial_tree.specs.declared.message.found.NewClaims.{NewClaims}
use Rattle.node_maps.specs.Digest.{Hash}
use Rattle.node_maps.specs.Places.{PartialTree}
use Rattle.partial_tree.specs.Claims.{joined}
use Rattle.node_maps.specs.Known.{Known, look}
use Rattle.partial_tree.specs.Joins.{insert_absent, with_new, insert_new}
use Rattle.partial_tree.specs.Evidence.{HasClaim, IsNoted, Grows}
use Rattle.node_maps.proofs.Known.{look-insert_same, look-insert_other, place_total}
use Rattle.partial_tree.proofs.ClaimValues.{first_of_two, second_of_two}

pub has_claim-push : (cs : List Claim) (c : Claim) (l i : ℕ) (v : Hash) → HasClaim cs l i v → HasClaim (cs ++ c ∷ []) l i v
has_claim-push [] c l i v h = absurd h
has_claim-push (x ∷ xs) c l i v (inl e) = inl e
has_claim-push (x ∷ xs) c l i v (inr h) = inr (has_claim-push xs c l i v h)

pub has_claim-here : (cs : List Claim) (c : Claim) → HasClaim (cs ++ c ∷ []) c.layer c.index c.hash
has_claim-here [] c = inl (refl, refl, refl)
has_claim-here (x ∷ xs) c = inr (has_claim-here xs c)

-- what a push, or a refusal, leaves noted
pub noted-here : (found : NewClaims) (cs : List Claim) (c : Claim) → (found.incomplete ≡ true) ⊎ (found.claims.items ≡ cs ++ c ∷ [])
    → IsNoted found c.layer c.index c.hash
noted-here found cs c (inl e) = inl e
noted-here found cs c (inr e) = inr (subst (λ xs. HasClaim xs c.layer c.index c.hash) (sym e) (has_claim-here cs c))

pub noted-grows : (old new : NewClaims) (c : Claim) → (new.incomplete ≡ true)
    ⊎ ((new.incomplete ≡ old.incomplete) × (new.claims.items ≡ old.claims.items ++ c ∷ [])) → Grows old new
noted-grows old new c (inl e) = record { keeps = λ l i v h. inl e }
noted-grows old new c (inr (same, e)) = record { keeps = λ l i v h. kept l i v h }
  where
    kept : (l i : ℕ) (v : Hash) → IsNoted old l i v → IsNoted new l i v
    kept l i v (inl refused) = inl (same ∙ refused)
    kept l i v (inr h) = inr (subst (λ xs. HasClaim xs l i v) (sym e) (has_claim-push old.claims.items c l i v h))

-- ---- putting the claims that are not known

absent-here : (m : Known) (l i : ℕ) (h : Hash) (o : Option Hash) → o ≡ None → look (insert_absent m (l, i) h o) l i ≡ Some h
absent-here m l i h None e = look-insert_same m l i h
absent-here m l i h (Some old) e = absurd (none-some old (sym e))

pub absent-other : (m : Known) (l i : ℕ) (h : Hash) (o : Option Hash) (l' i' : ℕ) → (l' ≢ l) ⊎ (i' ≢ i) → look (insert_absent m (l, i) h o) l' i' ≡ look m l' i'
absent-other m l i h None l' i' other = look-insert_other m l i h l' i' other
absent-other m l i h (Some old) l' i' other = refl

-- a claim is of the place, or of another one
pub here_or_not : (c : Claim) (l i : ℕ) → ((l ≡ c.layer) × (i ≡ c.index)) ⊎ ((l ≢ c.layer) ⊎ (i ≢ c.index))
here_or_not c l i = both (cases_eq l c.layer) (cases_eq i c.index)
  where
    both : (l ≡ c.layer) ⊎ (l ≢ c.layer) → (i ≡ c.index) ⊎ (i ≢ c.index) → ((l ≡ c.layer) × (i ≡ c.index)) ⊎ ((l ≢ c.layer) ⊎ (i ≢ c.index))
    both (inr e) q = inr (inl e)
    both (inl p) (inr e) = inr (inr e)
    both (inl p) (inl q) = inl (p, q)

pub new-here : (m : Known) (c : Claim) → look m c.layer c.index ≡ None → look (with_new m c) c.layer c.index ≡ Some c.hash
new-here m c none = absent-here m c.layer c.index c.hash (look m c.layer c.index) none

pub new-keeps : (m : Known) (c : Claim) (l i : ℕ) (v : Hash) → look m l i ≡ Some v → look (with_new m c) l i ≡ Some v
new-keeps m c l i v known = elim (here_or_not c l i) [
  | inl (at, at') ↦
      let e : look m c.layer c.index ≡ Some v = sym (ap₂ (look m) at at') ∙ known in
      ap (λ o. look (insert_absent m (c.layer, c.index) c.hash o) l i) e ∙ known
  | inr other ↦ absent-other m c.layer c.index c.hash (look m c.layer c.index) l i other ∙ known
]

-- at its place and beside it
pub new-at : (m : Known) (c : Claim) → look (with_new m c) c.layer c.index ≡ option_or (look m c.layer c.index) (Some c.hash)
new-at m c = elim (some_or_none (look m c.layer c.index)) [
  | inl (v, known) ↦ new-keeps m c c.layer c.index v known ∙ sym (first_of_two (look m c.layer c.index) (Some c.hash) v known)
  | inr none ↦ new-here m c none ∙ sym (second_of_two (look m c.layer c.index) (Some c.hash) none)
]

pub new-other : (m : Known) (c : Claim) (l i : ℕ) → (l ≢ c.layer) ⊎ (i ≢ c.index) → look (with_new m c) l i ≡ look m l i
new-other m c l i other = absent-other m c.layer c.index c.hash (look m c.layer c.index) l i other

all_new-keeps : (cs : List Claim) (m : Known) (l i : ℕ) (v : Hash) → look m l i ≡ Some v → look (insert_new m cs) l i ≡ Some v
all_new-keeps [] m l i v known = known
all_new-keeps (c ∷ cs) m l i v known = all_new-keeps cs (with_new m c) l i v (new-keeps m c l i v known)

module _ (C : PartialTree) where
  Sound : List Claim → Type 0
  Sound cs = All (λ (c : Claim). C c.layer c.index ≡ Some c.hash) cs

  -- where nothing is claimed nothing changes
  all_new-other : (cs : List Claim) (m : Known) (l i : ℕ) → Sound cs → C l i ≡ None → look (insert_new m cs) l i ≡ look m l i
  unfolding Sound
  all_new-other [] m l i sound none = refl
  all_new-other (c ∷ cs) m l i sound none =
      let is : C c.layer c.index ≡ Some c.hash = All-head (λ (c : Claim). C c.layer c.index ≡ Some c.hash) c cs sound in
      all_new-other cs (with_new m c) l i (All-tail (λ (c : Claim). C c.layer c.index ≡ Some c.hash) c cs sound) none
      ∙ elim (here_or_not c l i) [
        | inl (at, at') ↦ absurd (none-some c.hash (sym none ∙ ap₂ C at at' ∙ is))
        | inr other ↦ absent-other m c.layer c.index c.hash (look m c.layer c.index) l i other
      ]

  -- what is listed and not known is known after
  all_new-has : (cs : List Claim) (m : Known) (l i : ℕ) (v : Hash) → Sound cs → C l i ≡ Some v → look m l i ≡ None → HasClaim cs l i v
      → look (insert_new m cs) l i ≡ Some v
  unfolding Sound
  all_new-has [] m l i v sound is none h = absurd h
  all_new-has (c ∷ cs) m l i v sound is none h =
      let here : C c.layer c.index ≡ Some c.hash = All-head (λ (c : Claim). C c.layer c.index ≡ Some c.hash) c cs sound in
      elim (here_or_not c l i) [
        | inl (at, at') ↦
            let same : c.hash ≡ v = same_Some c.hash v (sym here ∙ sym (ap₂ C at at') ∙ is) in
            let absent : look m c.layer c.index ≡ None = sym (ap₂ (look m) at at') ∙ none in
            all_new-keeps cs (with_new m c) l i v (ap₂ (look (with_new m c)) at at' ∙ new-here m c absent ∙ ap Some same)
        | inr other ↦
            all_new-has cs (with_new m c) l i v (All-tail (λ (c : Claim). C c.layer c.index ≡ Some c.hash) c cs sound) is
            (absent-other m c.layer c.index c.hash (look m c.layer c.index) l i other ∙ none)
            (later other h)
      ]
    where
      later : (l ≢ c.layer) ⊎ (i ≢ c.index) → ((c.layer ≡ l) × (c.index ≡ i) × (c.hash ≡ v)) ⊎ HasClaim cs l i v → HasClaim cs l i v
      later (inl other) (inl (at, at', same)) = absurd (other (sym at))
      later (inr other) (inl (at, at', same)) = absurd (other (sym at'))
      later other (inr rest) = rest

  -- a list of all that is claimed and not known, put, joins the claims
  pub insert_new-joined : (cs : List Claim) (m : Known) → All (λ (c : Claim). C c.layer c.index ≡ Some c.hash) cs
      → ((l i : ℕ) (v : Hash) → C l i ≡ Some v → (look m l i ≡ Some v) ⊎ ((look m l i ≡ None) × HasClaim cs l i v))
      → (l i : ℕ) → look (insert_new m cs) l i ≡ joined (look m) C l i
  unfolding Sound
  insert_new-joined cs m sound complete l i = elim (some_or_none (look m l i)) [
    | inl (v, known) ↦ all_new-keeps cs m l i v known ∙ sym (first_of_two (look m l i) (C l i) v known)
    | inr none ↦ elim (some_or_none (C l i)) [
      | inr nothing ↦ all_new-other cs m l i sound nothing ∙ none ∙ sym nothing ∙ sym (second_of_two (look m l i) (C l i) none)
      | inl (v, claim) ↦ elim (complete l i v claim) [
        | inl known ↦ absurd (none-some v (sym none ∙ known))
        | inr (absent, listed) ↦ all_new-has cs m l i v sound claim none listed ∙ sym claim ∙ sym (second_of_two (look m l i) (C l i) none)
      ]
    ]
  ]

-- ---- how many are new

pub len-new : (m : Known) (c : Claim) (o : Option Hash) → o ≡ look m c.layer c.index → is_some o ≡ false → len (insert m (c.layer, c.index) c.hash) ≡ len m + 1
len-new m c o e none = len-insert place_total m (c.layer, c.index) c.hash ∙ ap (λ b. cond b (len m) (len m + 1)) (ap is_some (sym e) ∙ none)

-- one claim of a list after the other
pub insert_new-step : (m : Known) (cs : List Claim) (i : ℕ) (d : Claim) → i < length cs
    → insert_new (with_new m (get_or cs i d)) (drop (i + 1) cs) ≡ insert_new m (drop i cs)
insert_new-step m cs i d in' = let s : i + 1 ≡ suc i = omega arith in
    ap (λ k. insert_new (with_new m (get_or cs i d)) (drop k cs)) s ∙ sym (ap (insert_new m) (drop-cons cs i d in'))
