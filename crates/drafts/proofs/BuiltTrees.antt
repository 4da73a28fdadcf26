-- What holds of a file tree that is built of a draft's files.
use Rattle.std.proofs.Common.{◌≡◌, ℕ, suc, ◌-◌, ◌<◌, true, false, List, [], ◌∷◌, ◌++◌, map, Option, Some, None, slice_get, inl}
use Rattle.std.proofs.Common.{inr, refl, sym, ap, subst, ◌∙◌, ◌⊎◌}
use Rattle.drafts.proofs.Ordering.{decided}
use Rattle.std.specs.Cmp.Lexicographic.{slice_cmp}
use Rattle.std.specs.Ordering.{nat_cmp}
use Rattle.std.specs.Prelude.{FitsSigned}
use Rattle.std.specs.Int.{w64}
use Rattle.std.specs.Str.{bytes_eq}
use Rattle.std.specs.declared.cmp.Ordering.TheVariants.{Less}
use Rattle.benc.specs.Value.{Bencode, int, text, list, dict, Items, no_items, item, Pairs, no_pairs, pair}
use Rattle.benc.specs.Spelling.{IsAbove}
use Rattle.drafts.specs.Written.{with_first, tree_of_walks}
use Rattle.filetree.proofs.Bytes.{true_or_false, same_bytes}
use Rattle.filetree.proofs.ComparedKeys.{cmp_equal}
use Rattle.filetree.specs.Dictionary.{pairs_in}
use Rattle.filetree.specs.FileTree.{Walk, walks, walks_in, below, is_nil, is_dict}
use Rattle.filetree.specs.Paths.{IsComponent, path_cmp}

-- ---- components

-- each is a component
abbrev pub AreComponents : List (List ℕ) → Type 0
AreComponents [] = Unit {0}
AreComponents (k ∷ ks) = IsComponent k × AreComponents ks

pub are_components : (ks : List (List ℕ)) → ((n : ℕ) (k : List ℕ) → slice_get ks n ≡ Some k → IsComponent k) → AreComponents ks
are_components [] each = tt
are_components (k ∷ ks) each = (each 0 k refl, are_components ks (λ n l at. each (suc n) l at))

-- ---- walks

walks_within : (v : Bencode) → walks_in v ≡ walks (pairs_in v)
walks_within (int z) = refl
walks_within (text s) = refl
walks_within (list vs) = refl
walks_within (dict ps) = refl

abbrev pub one : List (List ℕ) → Bencode → Walk
one p v = record { path = p; file = v }

pub first_walk : (p : List (List ℕ)) (v : Bencode) (ps : Pairs) → AreComponents p → walks (with_first p v ps) ≡ one p v ∷ walks ps
first_walk [] v ps good = refl
first_walk (k ∷ ks) v no_pairs good =
    let some : is_nil k ≡ false = good.0.0 in
    rw some (ap (λ us. map (below k) us ++ []) (first_walk ks v no_pairs good.1))
first_walk (k ∷ ks) v (pair l w ps) good =
    let some : is_nil k ≡ false = good.0.0 in
    elim (true_or_false (bytes_eq k l)) [
      | inl same ↦
          let key : k ≡ l = same_bytes k l same in
          let other : is_nil l ≡ false = subst (λ x. is_nil x ≡ false) key some in
          rw (same, other) (ap (λ us. map (below l) us ++ walks ps) (first_walk ks v (pairs_in w) good.1)
          ∙ ap (λ x. one (x ∷ ks) v ∷ (map (below l) (walks (pairs_in w)) ++ walks ps)) (sym key)
          ∙ ap (λ us. one (k ∷ ks) v ∷ (map (below l) us ++ walks ps)) (sym (walks_within w)))
      | inr differs ↦
          rw (differs, some) (ap (λ us. map (below k) us ++ walks (pair l w ps)) (first_walk ks v no_pairs good.1))
    ]

pub tree_walks : (ws : List Walk) → ((n : ℕ) (w : Walk) → slice_get ws n ≡ Some w → AreComponents w.path) → walks (tree_of_walks ws) ≡ ws
tree_walks [] good = refl
tree_walks (w ∷ ws) good = first_walk w.path w.file (tree_of_walks ws) (good 0 w refl) ∙ ap (λ us. w ∷ us) (tree_walks ws (λ n u e. good (suc n) u e))

-- ---- values but for the lengths of byte strings

-- keys ascend strictly, numbers fit 64 bits, and at most `room` lists and dictionaries are open at once
abbrev mutual
  pub IsTidy : ℕ → Bencode → Type 0
  IsTidy room (int z) = FitsSigned w64 z
  IsTidy room (text s) = Unit {0}
  IsTidy room (list vs) = (0 < room) × AreTidy (room - 1) vs
  IsTidy room (dict ps) = (0 < room) × ArePairsTidy (room - 1) None ps

  pub AreTidy : ℕ → Items → Type 0
  AreTidy room no_items = Unit {0}
  AreTidy room (item v vs) = IsTidy room v × AreTidy room vs

  pub ArePairsTidy : ℕ → Option (List ℕ) → Pairs → Type 0
  ArePairsTidy room before no_pairs = Unit {0}
  ArePairsTidy room before (pair k v ps) = IsAbove k before × IsTidy room v × ArePairsTidy room (Some k) ps

-- ---- what holds of a tree that is built

-- a file's dictionary, which may stand where one more may be opened
pub record IsFileValue (v : Bencode) : Type 0 where
  pub is : is_dict v ≡ true
  pub tidy : (room : ℕ) → 0 < room → IsTidy room v

abbrev pub IsSome : Pairs → Type 0
IsSome no_pairs = ⊥
IsSome (pair k v ps) = Unit {0}

-- the node of a file
pub record IsFileNode (room : ℕ) (ps : Pairs) : Type 0 where
  pub file : Bencode
  pub is : ps ≡ pair [] file no_pairs
  pub good : IsFileValue file
  pub space : 0 < room

-- keys are components and ascend, and below each is a file or a directory that is not empty
abbrev mutual
  pub IsBuilt : ℕ → Option (List ℕ) → Pairs → Type 0
  IsBuilt room before no_pairs = Unit {0}
  IsBuilt room before (pair k v ps) = IsComponent k × IsAbove k before × IsBuiltIn room v × IsBuilt room (Some k) ps

  pub IsBuiltIn : ℕ → Bencode → Type 0
  IsBuiltIn room (int z) = ⊥
  IsBuiltIn room (text s) = ⊥
  IsBuiltIn room (list vs) = ⊥
  IsBuiltIn room (dict ps) = (0 < room) × (IsFileNode (room - 1) ps ⊎ (IsSome ps × IsBuilt (room - 1) None ps))

-- the path comes before all paths of a tree
abbrev pub ComesBefore : List (List ℕ) → Pairs → Type 0
ComesBefore p no_pairs = Unit {0}
ComesBefore [] (pair l v ps) = ⊥
ComesBefore (k ∷ ks) (pair l v ps) = (slice_cmp nat_cmp k l ≡ Less) ⊎ ((k ≡ l) × ComesBefore ks (pairs_in v))

pub first_some : (p : List (List ℕ)) (v : Bencode) (ps : Pairs) → IsSome (with_first p v ps)
first_some [] v ps = tt
first_some (k ∷ ks) v no_pairs = tt
first_some (k ∷ ks) v (pair l w ps) = elim (true_or_false (bytes_eq k l)) [ inl same ↦ rw same tt | inr other ↦ rw other tt ]

by_heads : (k l : List ℕ) (ks ls : List (List ℕ)) (ps : Pairs) → path_cmp (k ∷ ks) (l ∷ ls) ≡ Less → (path_cmp ks ls ≡ Less → ComesBefore ks ps)
    → (slice_cmp nat_cmp k l ≡ Less) ⊎ ((k ≡ l) × ComesBefore ks ps)
by_heads k l ks ls ps less inner =
    elim (decided (slice_cmp nat_cmp k l) (path_cmp ks ls) less) [ inl here ↦ inl here | inr later ↦ inr (cmp_equal k l later.0, inner later.1) ]

pub comes_before : (p q : List (List ℕ)) (v : Bencode) (ps : Pairs) → path_cmp p q ≡ Less → ComesBefore p (with_first q v ps)
comes_before [] q v ps less = cc
comes_before (k ∷ ks) [] v ps less = cc
comes_before (k ∷ ks) (l ∷ ls) v no_pairs less = by_heads k l ks ls (with_first ls v no_pairs) less (comes_before ks ls v no_pairs)
comes_before (k ∷ ks) (l ∷ ls) v (pair m w ps) less =
    elim (true_or_false (bytes_eq l m)) [
      | inl same ↦
          rw same (subst (λ x. (slice_cmp nat_cmp k x ≡ Less) ⊎ ((k ≡ x) × ComesBefore ks (with_first ls v (pairs_in w)))) (same_bytes l m same)
          (by_heads k l ks ls (with_first ls v (pairs_in w)) less (comes_before ks ls v (pairs_in w))))
      | inr other ↦ rw other (by_heads k l ks ls (with_first ls v no_pairs) less (comes_before ks ls v no_pairs))
    ]

-- a file below new directories
abbrev pub IsInner : ℕ → Pairs → Type 0
IsInner room ps = IsFileNode room ps ⊎ (IsSome ps × IsBuilt room None ps)
