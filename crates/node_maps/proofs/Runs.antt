-- Runs of hashes, part by part.
use Rattle.std.proofs.Common.{◌≡◌, ℕ, zero, suc, ◌+◌, ◌-◌, ◌<◌, ◌≤◌, ◌↔◌, List, [], ◌∷◌, ◌++◌, length, get_or, take, drop, Option, Some, None, inl, inr, refl}
use Rattle.std.proofs.Common.{sym, ap, ◌∙◌, subst, arith, append_assoc, append-nil, length-drop}
use Rattle.std.specs.Option.{unwrap_or}
use Rattle.std.proofs.lemmas.Bool.{cases_lt}
use Rattle.std.proofs.lemmas.Option.{none-some}
use Rattle.std.proofs.lemmas.List.{get_or_past, get_or-take, get_or-drop, length-take}
use Rattle.std.proofs.lemmas.List.FromFn.{map-range_with_len_more}
use Rattle.hashtree.specs.Tree.{pad_leaf}
use Rattle.node_maps.specs.Digest.{Hash}
use Rattle.node_maps.specs.Runs.{LayerHashes, AreKnown, hashes_from}

-- two layers that read alike, from a on the one, from b on the other
pub record ReadAlike (f : LayerHashes) (a : ℕ) (g : LayerHashes) (b count : ℕ) : Type 0 where
  pub at : (j : ℕ) → j < count → f (a + j) ≡ g (b + j)

pub known-alike : {f g : LayerHashes} {a b count : ℕ} → ReadAlike f a g b count → AreKnown f a count → AreKnown g b count
known-alike alike known j low = let here = known j low in (here.0, sym (alike.at j low) ∙ here.1)

pub alike-back : {f g : LayerHashes} {a b count : ℕ} → ReadAlike f a g b count → ReadAlike g b f a count
alike-back alike = record { at = λ j low. sym (alike.at j low) }

-- a part of a known run
pub known-part : (f : LayerHashes) (a count k n : ℕ) → k + n ≤ count → AreKnown f a count → AreKnown f (a + k) n
known-part f a count k n le known j low =
    let here = known (k + j) (omega arith) in
    let place : a + k + j ≡ a + (k + j) = omega arith in
    (here.0, ap f place ∙ here.1)

-- a run, and one that follows it
pub known-join : (f : LayerHashes) (a k n : ℕ) → AreKnown f a k → AreKnown f (a + k) n → AreKnown f a (k + n)
known-join f a k n first rest j low = elim (cases_lt j k) [
  | inl before ↦ first j before
  | inr past ↦
      let here = rest (j - k) (omega arith) in
      let place : a + j ≡ a + k + (j - k) = omega arith in
      (here.0, ap f place ∙ here.1)
]

pub hashes-one : (f : LayerHashes) (a n : ℕ) → hashes_from f a (n + 1) ≡ hashes_from f a n ++ unwrap_or (f (a + n)) pad_leaf ∷ []
hashes-one f a n = map-range_with_len_more (λ j. unwrap_or (f (a + j)) pad_leaf) 0 n n (omega arith)

pub hashes-alike : (f g : LayerHashes) (a b n : ℕ) → ReadAlike f a g b n → hashes_from f a n ≡ hashes_from g b n
hashes-alike f g a b zero alike = refl
hashes-alike f g a b (suc n) alike =
    let more : n + 1 ≡ suc n = omega arith in
    ap (hashes_from f a) (sym more) ∙ hashes-one f a n
    ∙ ap (λ xs. xs ++ unwrap_or (f (a + n)) pad_leaf ∷ []) (hashes-alike f g a b n (record { at = λ j low. alike.at j (omega arith) }))
    ∙ ap (λ o. hashes_from g b n ++ unwrap_or o pad_leaf ∷ []) (alike.at n (omega arith))
    ∙ sym (hashes-one g b n) ∙ ap (hashes_from g b) more

pub hashes-join : (f : LayerHashes) (a k n : ℕ) → hashes_from f a (k + n) ≡ hashes_from f a k ++ hashes_from f (a + k) n
hashes-join f a k zero =
    let none : k + 0 ≡ k = omega arith in
    ap (hashes_from f a) none ∙ sym (append-nil (hashes_from f a k))
hashes-join f a k (suc n) =
    let more : k + suc n ≡ k + n + 1 = omega arith in
    let one : suc n ≡ n + 1 = omega arith in
    let place : a + (k + n) ≡ a + k + n = omega arith in
    ap (hashes_from f a) more ∙ hashes-one f a (k + n)
    ∙ ap (λ xs. xs ++ unwrap_or (f (a + (k + n))) pad_leaf ∷ []) (hashes-join f a k n)
    ∙ append_assoc (hashes_from f a k) (hashes_from f (a + k) n) _
    ∙ ap (λ i. hashes_from f a k ++ (hashes_from f (a + k) n ++ unwrap_or (f i) pad_leaf ∷ [])) place
    ∙ ap (λ xs. hashes_from f a k ++ xs) (sym (hashes-one f (a + k) n))
    ∙ ap (λ m. hashes_from f a k ++ hashes_from f (a + k) m) (sym one)

pub iff-alike : {P : Type 0} {f g : LayerHashes} {a b count : ℕ} → ReadAlike f a g b count → (P ↔ AreKnown f a count) → (P ↔ AreKnown g b count)
iff-alike alike iff = (λ p. known-alike alike (iff.0 p), λ known. iff.1 (known-alike (alike-back alike) known))

pub from-start : (f : LayerHashes) (j : ℕ) → f (0 + j) ≡ f j
from-start f j = let e : 0 + j ≡ j = omega arith in ap f e

-- one more hash of a run was appended
pub run-pushed : (f : LayerHashes) (old was now : List Hash) (n : ℕ) (h : Hash) → was ≡ old ++ hashes_from f 0 n → now ≡ was ++ h ∷ [] → f n ≡ Some h
    → now ≡ old ++ hashes_from f 0 (n + 1)
run-pushed f old was now n h before pushed is =
    pushed ∙ ap (λ xs. xs ++ h ∷ []) before ∙ append_assoc old (hashes_from f 0 n) (h ∷ [])
    ∙ ap (λ xs. old ++ xs) (ap (λ o. hashes_from f 0 n ++ unwrap_or o pad_leaf ∷ []) (sym (from-start f n ∙ is)) ∙ sym (hashes-one f 0 n))

-- ---- a part of a list of cells, in which `read` finds the hash of a cell
module _ {X : Type 0} (read : X → Option Hash) (d : X) (xs : List X) (from count : ℕ) (inside : from + count ≤ length xs) where
  part-length : length (take (from + count - from) (drop from xs)) ≡ count
  part-length = omega (arith, length-take (from + count - from) (drop from xs), length-drop from xs)

  part-alike : ReadAlike (λ i. read (get_or (take (from + count - from) (drop from xs)) i d)) 0 (λ i. read (get_or xs i d)) from count
  part-alike = record {
    at = λ j low. from-start (λ i. read (get_or (take (from + count - from) (drop from xs)) i d)) j
        ∙ ap read (get_or-take (from + count - from) (drop from xs) j d (omega arith) ∙ get_or-drop from xs j d);
  }

  pub iff-part : {P : Type 0} → (P ↔ AreKnown (λ i. read (get_or (take (from + count - from) (drop from xs)) i d)) 0
      (length (take (from + count - from) (drop from xs))))
      → (P ↔ AreKnown (λ i. read (get_or xs i d)) from count)
  iff-part {P} iff = iff-alike part-alike (subst (λ n. P ↔ AreKnown (λ i. read (get_or (take (from + count - from) (drop from xs)) i d)) 0 n) part-length iff)

  pub known-in_part : AreKnown (λ i. read (get_or xs i d)) from count
      → AreKnown (λ i. read (get_or (take (from + count - from) (drop from xs)) i d)) 0 (length (take (from + count - from) (drop from xs)))
  known-in_part known = subst (AreKnown (λ i. read (get_or (take (from + count - from) (drop from xs)) i d)) 0) (sym part-length)
      (known-alike (alike-back part-alike) known)

  pub hashes-in_part : hashes_from (λ i. read (get_or (take (from + count - from) (drop from xs)) i d)) 0 (length (take (from + count - from) (drop from xs)))
      ≡ hashes_from (λ i. read (get_or xs i d)) from count
  hashes-in_part = ap (hashes_from (λ i. read (get_or (take (from + count - from) (drop from xs)) i d)) 0) part-length
      ∙ hashes-alike _ _ 0 from count part-alike

-- a run that ends behind the list is known only if it is empty
pub known-past : {X : Type 0} (read : X → Option Hash) (d : X) (xs : List X) (from count : ℕ) → read d ≡ None → length xs < from + count
    → AreKnown (λ i. read (get_or xs i d)) from count → count ≡ 0
known-past read d xs from zero none past known = refl
known-past read d xs from (suc n) none past known =
    let here = known n (omega arith) in
    absurd (none-some here.0 (sym (ap read (get_or_past xs (from + n) d (omega (arith, past))) ∙ none) ∙ here.1))

-- ---- a layer that has the hashes of another

pub alike-each : {f g : LayerHashes} → ((i : ℕ) → f i ≡ g i) → (a n : ℕ) → ReadAlike f a g a n
alike-each same a n = record { at = λ j low. same (a + j) }

-- no hashes of an empty run
pub none-known : (f : LayerHashes) (a n : ℕ) → n ≡ 0 → AreKnown f a n
none-known f a n none j low = absurd (omega arith)

pub none-hashes : (f : LayerHashes) (a n : ℕ) → n ≡ 0 → hashes_from f a n ≡ []
none-hashes f a n none = ap (hashes_from f a) none

-- only an empty run is known of a layer that has nothing
pub some-known : (f : LayerHashes) (a n : ℕ) → ((i : ℕ) → f i ≡ None) → AreKnown f a n → n ≡ 0
some-known f a zero nothing known = refl
some-known f a (suc n) nothing known = let here = known 0 (omega arith) in absurd (none-some here.0 (sym (nothing (a + 0)) ∙ here.1))
