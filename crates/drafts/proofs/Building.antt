-- The file tree that is built of files in order.
use Rattle.std.proofs.Common.{◌≡◌, ℕ, zero, suc, ◌-◌, ◌<◌, ◌≤◌, true, false, not, ◌&&◌, List, [], ◌∷◌, length, map, Option, Some, None, slice_get, inl}
use Rattle.std.proofs.Common.{inr, refl, sym, ap, subst, ◌∙◌, arith, ◌⊎◌}
use Rattle.std.proofs.lemmas.Bool.{and_from, or_left, or_right}
use Rattle.std.specs.Cmp.Lexicographic.{slice_cmp}
use Rattle.std.specs.List.Sorted.{IsStrictlySortedBy}
use Rattle.std.specs.Ordering.{nat_cmp, is_lt}
use Rattle.std.specs.Prelude.{◌^◌, IsTrue, FitsSigned, pos, nat_lt}
use Rattle.std.specs.Int.{w64}
use Rattle.std.specs.Str.{bytes_eq}
use Rattle.std.specs.declared.cmp.Ordering.TheVariants.{Less}
use Rattle.benc.specs.Value.{Bencode, int, text, list, dict, Pairs, no_pairs, pair}
use Rattle.benc.specs.Spelling.{IsAbove}
use Rattle.drafts.specs.Outline.{IsOutlineFile, OutlineFile}
use Rattle.drafts.specs.Written.{with_first, tree_of_walks, file_value, walk_to_file, file_tree_of}
use Rattle.filetree.proofs.Bytes.{true_or_false, equal_bytes}
use Rattle.filetree.proofs.Paths.{paths_of}
use Rattle.filetree.proofs.ComparedKeys.{not_same}
use Rattle.filetree.specs.Dictionary.{pairs_in}
use Rattle.filetree.specs.FileTree.{Walk, walks, is_nil, is_file, is_directory, is_node, HasBadPath, HasBadPathIn}
use Rattle.filetree.specs.Paths.{IsFilePath, AreInOrder}
use Rattle.drafts.proofs.BuiltTrees.{AreComponents, are_components, tree_walks, IsSome, ComesBefore, first_some, comes_before}
use Rattle.drafts.proofs.BuiltTrees.{IsInner, IsTidy, ArePairsTidy, IsFileValue, IsFileNode, IsBuilt, IsBuiltIn}

alone : (room : ℕ) (p : List (List ℕ)) (v : Bencode) → AreComponents p → length p < room → IsFileValue v → IsInner room (with_first p v no_pairs)
alone room [] v good short file = inl (record { file = v; is = refl; good = file; space = short })
alone room (k ∷ ks) v good short file = inr (tt, (good.0, tt, (omega arith, alone (room - 1) ks v good.1 (omega arith) file), tt))

pub above_less : (k l : List ℕ) → slice_cmp nat_cmp k l ≡ Less → IsAbove l (Some k)
above_less k l less = subst (λ o. IsTrue (is_lt o)) (sym less) refl

not_nil_less : (k : List ℕ) → slice_cmp nat_cmp k [] ≡ Less → ⊥
not_nil_less [] e = cc
not_nil_less (c ∷ k) e = cc

clash : (k l : List ℕ) → bytes_eq k l ≡ true → slice_cmp nat_cmp k l ≡ Less → ⊥
clash k l same less = let other : bytes_eq k l ≡ false = not_same k l less in cc

no_file_before : (room : ℕ) (p : List (List ℕ)) (ps : Pairs) → AreComponents p → IsFileNode room ps → ComesBefore p ps → ⊥
no_file_before room [] ps good file before = subst (λ x. ComesBefore [] x) file.is before
no_file_before room (k ∷ ks) ps good file before =
    let there : (slice_cmp nat_cmp k [] ≡ Less) ⊎ ((k ≡ []) × ComesBefore ks (pairs_in file.file)) = subst (λ x. ComesBefore (k ∷ ks) x) file.is before in
    elim there [
      | inl less ↦ not_nil_less k less
      | inr same ↦ let some : is_nil k ≡ false = good.0.0 in let nil : is_nil k ≡ true = ap is_nil same.0 in cc
    ]

no_path_before : (ps : Pairs) → IsSome ps → ComesBefore [] ps → ⊥
no_path_before no_pairs some before = some
no_path_before (pair k v ps) some before = before

mutual
  pub first_built : (room : ℕ) (before : Option (List ℕ)) (k : List ℕ) (ks : List (List ℕ)) (v : Bencode) (ps : Pairs) → AreComponents (k ∷ ks)
      → length (k ∷ ks) < room → IsFileValue v
      → IsAbove k before → IsBuilt room before ps → ComesBefore (k ∷ ks) ps → IsBuilt room before (with_first (k ∷ ks) v ps)
  first_built room before k ks v no_pairs good short file above built first = (
    good.0,
    above,
    (omega arith, alone (room - 1) ks v good.1 (omega arith) file),
    tt,
  )
  first_built room before k ks v (pair l w ps) good short file above built first =
      elim (true_or_false (bytes_eq k l)) [
        | inl same ↦
            elim first [
              | inl less ↦ absurd (clash k l same less)
              | inr rest ↦ rw same (built.0, built.1, deeper room ks v w good.1 (omega arith) file built.2 rest.1, built.3)
            ]
        | inr other ↦
            elim first [
              | inl less ↦ rw other (
                good.0,
                above,
                (omega arith, alone (room - 1) ks v good.1 (omega arith) file),
                (built.0, above_less k l less, built.2, built.3),
              )
              | inr rest ↦ absurd (let same : bytes_eq k l ≡ true = equal_bytes k l rest.0 in let c : true ≡ false = sym same ∙ other in cc)
            ]
      ]

  deeper : (room : ℕ) (ks : List (List ℕ)) (v w : Bencode) → AreComponents ks → length ks < room - 1 → IsFileValue v → IsBuiltIn room w
      → ComesBefore ks (pairs_in w)
      → (0 < room) × IsInner (room - 1) (with_first ks v (pairs_in w))
  deeper room ks v (int z) good short file built first = absurd built
  deeper room ks v (text s) good short file built first = absurd built
  deeper room ks v (list vs) good short file built first = absurd built
  deeper room [] v (dict ps) good short file built first =
      elim built.1 [ inl node ↦ absurd (no_file_before (room - 1) [] ps good node first) | inr inner ↦ absurd (no_path_before ps inner.0 first) ]
  deeper room (k ∷ ks) v (dict ps) good short file built first =
      elim built.1 [
        | inl node ↦ absurd (no_file_before (room - 1) (k ∷ ks) ps good node first)
        | inr inner ↦ (built.0, inr (first_some (k ∷ ks) v ps, first_built (room - 1) None k ks v ps good short file tt inner.1 first))
      ]

-- a path of at least one component
put_built : (room : ℕ) (p : List (List ℕ)) (v : Bencode) (ps : Pairs) → IsFilePath p → 124 < room → IsFileValue v → IsBuilt room None ps → ComesBefore p ps
    → IsBuilt room None (with_first p v ps)
put_built room [] v ps path large file built first = absurd (path.some refl)
put_built room (k ∷ ks) v ps path large file built first = let short = path.short in first_built room None k ks v ps (are_components (k ∷ ks) path.components)
    (omega arith) file tt built first

first_before : (w : Walk) (ws : List Walk) → AreInOrder (paths_of (w ∷ ws)) → ComesBefore w.path (tree_of_walks ws)
unfolding IsStrictlySortedBy
first_before w [] a = tt
first_before w (x ∷ ws) a = comes_before w.path x.path x.file (tree_of_walks ws) a.0.0

pub rest_in_order : (w : Walk) (ws : List Walk) → AreInOrder (paths_of (w ∷ ws)) → AreInOrder (paths_of ws)
unfolding IsStrictlySortedBy
rest_in_order w ws a = a.1

-- each is a file of a path that a file may have
abbrev pub AreFileWalks : List Walk → Type 0
AreFileWalks ws = (n : ℕ) (w : Walk) → slice_get ws n ≡ Some w → IsFilePath w.path × IsFileValue w.file

pub tree_built : (room : ℕ) (ws : List Walk) → AreInOrder (paths_of ws) → AreFileWalks ws → 124 < room → IsBuilt room None (tree_of_walks ws)
tree_built room [] order files large = tt
tree_built room (w ∷ ws) order files large =
    let this = files 0 w refl in
    put_built room w.path w.file (tree_of_walks ws) this.0 large this.1 (tree_built room ws (rest_in_order w ws order) (λ n u e. files (suc n) u e) large)
    (first_before w ws order)

file_node : (room : ℕ) (ps : Pairs) → IsFileNode room ps → is_file ps ≡ true
file_node room ps node = rw (node.is) (node.good.is)

mutual
  pub built_directory : (room : ℕ) (before : Option (List ℕ)) (ps : Pairs) → IsBuilt room before ps → is_directory ps ≡ true
  built_directory room before no_pairs built = refl
  built_directory room before (pair k v ps) built =
      and_from (not (is_nil k) && is_node v) (is_directory ps) (and_from (not (is_nil k)) (is_node v) (ap not built.0.0) (built_node room v built.2))
      (built_directory room (Some k) ps built.3)

  built_node : (room : ℕ) (v : Bencode) → IsBuiltIn room v → is_node v ≡ true
  built_node room (int z) built = absurd built
  built_node room (text s) built = absurd built
  built_node room (list vs) built = absurd built
  built_node room (dict ps) built =
      elim built.1 [
        | inl node ↦ or_left (is_file ps) (is_directory ps) (file_node (room - 1) ps node)
        | inr inner ↦ or_right (is_file ps) (is_directory ps) (built_directory (room - 1) None ps inner.1)
      ]

no_bad_file : (room : ℕ) (ps : Pairs) → IsFileNode room ps → HasBadPath ps → ⊥
no_bad_file room ps node bad =
    let there : HasBadPath (pair [] node.file no_pairs) = subst HasBadPath node.is bad in
    elim there [ inl here ↦ let e : true ≡ false = here.0 in cc | inr none ↦ none ]

mutual
  pub built_good : (room : ℕ) (before : Option (List ℕ)) (ps : Pairs) → IsBuilt room before ps → HasBadPath ps → ⊥
  built_good room before no_pairs built bad = bad
  built_good room before (pair k v ps) built bad =
      elim bad [
        | inl here ↦ elim here.1 [ inl component ↦ built.0.1 component | inr inner ↦ built_in_good room v built.2 inner ]
        | inr later ↦ built_good room (Some k) ps built.3 later
      ]

  built_in_good : (room : ℕ) (v : Bencode) → IsBuiltIn room v → HasBadPathIn v → ⊥
  built_in_good room (int z) built bad = bad
  built_in_good room (text s) built bad = bad
  built_in_good room (list vs) built bad = bad
  built_in_good room (dict ps) built bad =
      elim built.1 [ inl node ↦ no_bad_file (room - 1) ps node bad | inr inner ↦ built_good (room - 1) None ps inner.1 bad ]

tidy_file : (room : ℕ) (ps : Pairs) → IsFileNode room ps → ArePairsTidy room None ps
tidy_file room ps node = subst (λ x. ArePairsTidy room None x) (sym node.is) (tt, node.good.tidy room node.space, tt)

mutual
  pub built_tidy : (room : ℕ) (before : Option (List ℕ)) (ps : Pairs) → IsBuilt room before ps → ArePairsTidy room before ps
  built_tidy room before no_pairs built = tt
  built_tidy room before (pair k v ps) built = (built.1, built_in_tidy room v built.2, built_tidy room (Some k) ps built.3)

  built_in_tidy : (room : ℕ) (v : Bencode) → IsBuiltIn room v → IsTidy room v
  built_in_tidy room (int z) built = absurd built
  built_in_tidy room (text s) built = absurd built
  built_in_tidy room (list vs) built = absurd built
  built_in_tidy room (dict ps) built = (built.0, elim built.1 [ inl node ↦ tidy_file (room - 1) ps node | inr inner ↦ built_tidy (room - 1) None ps inner.1 ])

-- ---- the tree of a draft's files

pub length_fits : (n : ℕ) → n ≤ 2 ^ 46 → FitsSigned w64 (pos n)
length_fits n h = grind (arith)

pub file_value_is : (f : OutlineFile) → f.length ≤ 2 ^ 46 → IsFileValue (file_value f)
file_value_is f bound = record {
  is = refl;
  tidy = λ room some. (
    some,
    (
      tt,
      length_fits f.length bound,
      elim (true_or_false (nat_lt 0 f.length)) [
        | inl large ↦ rw large (refl, tt, tt)
        | inr empty ↦ rw empty tt
      ],
    ),
  );
}

-- each file of a list is one that a draft may hold
abbrev pub AreOutlineFiles : ℕ → List OutlineFile → Type 0
AreOutlineFiles p fs = (n : ℕ) (f : OutlineFile) → slice_get fs n ≡ Some f → IsOutlineFile f

pub walks_are : (p : ℕ) (fs : List OutlineFile) → AreOutlineFiles p fs → AreFileWalks (map walk_to_file fs)
walks_are p [] files n w e = cc
walks_are p (f ∷ fs) files zero w e =
    let same : walk_to_file f ≡ w = cc in
    let this = files 0 f refl in
    subst (λ (x : Walk). IsFilePath x.path × IsFileValue x.file) same (this.path, file_value_is f this.bound)
walks_are p (f ∷ fs) files (suc n) w e = walks_are p fs (λ k g at. files (suc k) g at) n w e

pub walk_paths : (fs : List OutlineFile) → paths_of (map walk_to_file fs) ≡ map (λ (f : OutlineFile). f.path) fs
walk_paths [] = refl
walk_paths (f ∷ fs) = ap (λ ps. f.path ∷ ps) (walk_paths fs)

pub walks_in_order : (fs : List OutlineFile) → AreInOrder (map (λ (f : OutlineFile). f.path) fs) → AreInOrder (paths_of (map walk_to_file fs))
walks_in_order fs order = subst AreInOrder (sym (walk_paths fs)) order

pub file_tree_built : (p room : ℕ) (fs : List OutlineFile) → AreInOrder (map (λ (f : OutlineFile). f.path) fs) → AreOutlineFiles p fs → 124 < room
    → IsBuilt room None (file_tree_of fs)
file_tree_built p room fs order files large = tree_built room (map walk_to_file fs) (walks_in_order fs order) (walks_are p fs files) large

pub file_tree_walks : (p : ℕ) (fs : List OutlineFile) → AreOutlineFiles p fs → walks (file_tree_of fs) ≡ map walk_to_file fs
file_tree_walks p fs files = tree_walks (map walk_to_file fs) (λ n w e. are_components w.path (walks_are p fs files n w e).0.components)

pub built_tree_has_walks : (p : ℕ) (fs : List OutlineFile) → AreInOrder (map (λ (f : OutlineFile). f.path) fs) → AreOutlineFiles p fs
    → (walks (file_tree_of fs) ≡ map walk_to_file fs) × (is_directory (file_tree_of fs) ≡ true) × (HasBadPath (file_tree_of fs) → ⊥)
built_tree_has_walks p fs order files =
    let built = file_tree_built p 125 fs order files (omega arith) in
    (file_tree_walks p fs files, built_directory 125 None (file_tree_of fs) built, built_good 125 None (file_tree_of fs) built)
