-- The trees of a torrent are the roots of its files in the order of first use.
use Rattle.std.proofs.Common.{◌≡◌, ℕ, zero, suc, ◌+◌, ◌<◌, List, [], ◌∷◌, ◌++◌, length, map, Option, Some, None, inl, inr, refl, sym, ap, subst}
use Rattle.std.proofs.Common.{◌∙◌, add-zero, zero-add, arith, slice_get}
use Rattle.std.specs.Prelude.{fold, option_and_then}
use Rattle.std.proofs.lemmas.Bool.Decides.{eqb_tells}
use Rattle.std.proofs.lemmas.Option.{slice_get_within}
use Rattle.benc.specs.Value.{Pairs}
use Rattle.filetree.specs.declared.files.ListedFile.{ListedFile}
use Rattle.opening.specs.Description.{Description, TreeEntry}
use Rattle.opening.specs.FirstUse.{AreTreesOf, HasNoTree, HasTreeOf, IsFirstUsed, IsUsedBefore}
use Rattle.opening.specs.Laws.{TreesAreRoots}
use Rattle.opening.specs.PieceLayers.{tree_at}
use Rattle.opening.specs.Refusals.{files_of, layers_in, piece_length_in, walks_of}
use Rattle.opening.specs.Trees.{AreFiles, IsIn, IsReused, entry_at, place_in, roots_in, with_file, with_root}
use Rattle.opening.specs.declared.roots.Root.{Root}
use Rattle.chains.proofs.Cases.{last_or_before, some_or_none}
use Rattle.opening.proofs.Legal.{not_reused}
use Rattle.opening.proofs.Rooting.{place_at, place_push_new, place_push_there}
use Rattle.opening.proofs.Sounding.{tree_of}
use Rattle.opening.proofs.SoundTrees.{IsSized}
use Rattle.opening.proofs.SoundTrees.{all_sized, push_at, roots_differ, tree_there}

-- ---- the roots of the files so far

-- root n is that of the first file with it, among the first i of all files
record IsFirst (all : List ListedFile) (i : ℕ) (ts : List Root) (n : ℕ) (t : Root) : Type 0 where
  number : ℕ
  file : ListedFile
  under : number < i
  there : slice_get all number ≡ Some file
  root_is : file.root ≡ Some t.root
  length_is : file.length ≡ t.length
  first : IsUsedBefore all number t.root → ⊥
  in_order : (m : ℕ) (u : Root) → m < n → slice_get ts m ≡ Some u → IsUsedBefore all number u.root

record AreFirst (all : List ListedFile) (i : ℕ) (ts : List Root) : Type 0 where
  each : (n : ℕ) (t : Root) → slice_get ts n ≡ Some t → IsFirst all i ts n t
  placed : (k : ℕ) (f : ListedFile) (s : List ℕ) → k < i → slice_get all k ≡ Some f → f.root ≡ Some s → (n : ℕ) × (place_in ts s ≡ Some n)

within_front : {A : Type 0} (xs ys : List A) (n : ℕ) (x : A) → n < length xs → slice_get (xs ++ ys) n ≡ Some x → slice_get xs n ≡ Some x
within_front [] ys n x lt at = absurd (omega arith)
within_front (z ∷ xs) ys zero x lt at = at
within_front (z ∷ xs) ys (suc n) x lt at = within_front xs ys n x (omega arith) at

-- the same root, once one file more was looked at
still_first : (all : List ListedFile) (i : ℕ) (ts more : List Root) (n : ℕ) (t : Root) → slice_get ts n ≡ Some t → IsFirst all i ts n t
    → IsFirst all (suc i) (ts ++ more) n t
still_first all i ts more n t at h = record {
  number = h.number;
  file = h.file;
  under = omega (arith, h.under);
  there = h.there;
  root_is = h.root_is;
  length_is = h.length_is;
  first = h.first;
  in_order = λ m u lt there. h.in_order m u lt (within_front ts more m u (omega (arith, lt, slice_get_within ts n t at)) there);
}

later_first : (all : List ListedFile) (i : ℕ) (ts : List Root) (n : ℕ) (t : Root) → IsFirst all i ts n t → IsFirst all (suc i) ts n t
later_first all i ts n t h = record {
  number = h.number;
  file = h.file;
  under = omega (arith, h.under);
  there = h.there;
  root_is = h.root_is;
  length_is = h.length_is;
  first = h.first;
  in_order = h.in_order;
}

-- a root that no file before had
new_first : (all : List ListedFile) (i : ℕ) (ts more : List Root) (x : ListedFile) (t : Root) → slice_get all i ≡ Some x → x.root ≡ Some t.root
    → x.length ≡ t.length
    → place_in ts t.root ≡ None → AreFirst all i ts → IsFirst all (suc i) (ts ++ more) (length ts) t
new_first all i ts more x t at is size none h = record {
  number = i;
  file = x;
  under = omega arith;
  there = at;
  root_is = is;
  length_is = size;
  first = λ used.
      let placed = h.placed used.earlier used.file t.root used.before used.there used.root_is in
      let bad : Some placed.0 ≡ None = sym placed.1 ∙ none in cc;
  in_order = λ m u lt there.
      let old = h.each m u (within_front ts more m u lt there) in
      record { earlier = old.number; file = old.file; before = old.under; there = old.there; root_is = old.root_is };
}

-- a file that brings no root
kept : (all : List ListedFile) (i : ℕ) (ts : List Root) → ((f : ListedFile) (s : List ℕ) → slice_get all i ≡ Some f → f.root ≡ Some s
    → (n : ℕ) × (place_in ts s ≡ Some n))
    → AreFirst all i ts → AreFirst all (suc i) ts
kept all i ts here h = record {
  each = λ n t at. later_first all i ts n t (h.each n t at);
  placed = λ k f s lt at is. elim (last_or_before k i (omega (arith, lt))) [
    | inl before ↦ h.placed k f s before at is
    | inr last ↦ here f s (subst (λ j. slice_get all j ≡ Some f) last at) is
  ];
}

-- a file that brings one
pushed : (all : List ListedFile) (i : ℕ) (ts : List Root) (x : ListedFile) (t : Root) → slice_get all i ≡ Some x → x.root ≡ Some t.root → x.length ≡ t.length
    → place_in ts t.root ≡ None → AreFirst all i ts → AreFirst all (suc i) (ts ++ t ∷ [])
pushed all i ts x t at is size none h = record {
  each = λ n u there. elim (push_at ts t n u there) [
    | inl old ↦ still_first all i ts (t ∷ []) n u old (h.each n u old)
    | inr new ↦ subst (λ (v : Root). IsFirst all (suc i) (ts ++ t ∷ []) n v) new.0
        (subst (λ m. IsFirst all (suc i) (ts ++ t ∷ []) m t) new.1 (new_first all i ts (t ∷ []) x t at is size none h))
  ];
  placed = λ k f s lt there root. elim (last_or_before k i (omega (arith, lt))) [
    | inl before ↦ let old = h.placed k f s before there root in (old.0, place_push_there ts t s old.0 old.1)
    | inr last ↦
        let one : Some f ≡ Some x = sym (subst (λ j. slice_get all j ≡ Some f) last there) ∙ at in
        let same : f ≡ x = cc in
        let roots : Some t.root ≡ Some s = sym is ∙ ap (λ (g : ListedFile). g.root) (sym same) ∙ root in
        let root_is : t.root ≡ s = cc in
        (length ts, place_push_new ts t s (subst (λ r. place_in ts r ≡ None) root_is none) root_is)
  ];
}

step : (all : List ListedFile) (i : ℕ) (ts : List Root) (x : ListedFile) → slice_get all i ≡ Some x → AreFirst all i ts → AreFirst all (suc i) (with_file ts x)
step all i ts x at h = by_root x.root refl
  where
    that : (f : ListedFile) (s : List ℕ) (o : Option (List ℕ)) → x.root ≡ o → slice_get all i ≡ Some f → f.root ≡ Some s → o ≡ Some s
    that f s o is there root =
        let one : Some f ≡ Some x = sym there ∙ at in
        let same : f ≡ x = cc in
        sym is ∙ ap (λ (g : ListedFile). g.root) (sym same) ∙ root

    by_root : (o : Option (List ℕ)) → x.root ≡ o → AreFirst all (suc i) (with_root ts x.length o)
    by_root None is = kept all i ts (λ f s there root. let bad : None ≡ Some s = that f s None is there root in cc) h
    by_root (Some s) is = elim (some_or_none (place_in ts s)) [
      | inl there ↦
          let same : with_root ts x.length (Some s) ≡ ts = rw there.1 refl in
          subst (AreFirst all (suc i)) (sym same)
          (kept all i ts (λ f q at_f root. let one : Some s ≡ Some q = that f q (Some s) is at_f root in let e : s ≡ q = cc in
          (there.0, subst (λ r. place_in ts r ≡ Some there.0) e there.1)) h)
      | inr none ↦
          let new : with_root ts x.length (Some s) ≡ ts ++ record { root = s; length = x.length } ∷ [] = rw none refl in
          subst (AreFirst all (suc i)) (sym new) (pushed all i ts x (record { root = s; length = x.length }) at is refl none h)
    ]

from_here : (all rest : List ListedFile) (i : ℕ) (ts : List Root) → ((k : ℕ) (f : ListedFile) → slice_get rest k ≡ Some f → slice_get all (i + k) ≡ Some f)
    → AreFirst all i ts → AreFirst all (i + length rest) (fold with_file ts rest)
from_here all [] i ts at h = subst (λ n. AreFirst all n ts) (sym (add-zero i)) h
from_here all (x ∷ rest) i ts at h =
    let here : slice_get all i ≡ Some x = subst (λ n. slice_get all n ≡ Some x) (add-zero i) (at 0 x refl) in
    let count : suc i + length rest ≡ i + suc (length rest) = omega arith in
    subst (λ n. AreFirst all n (fold with_file (with_file ts x) rest)) count
    (from_here all rest (suc i) (with_file ts x)
    (λ k f there. let next : i + suc k ≡ suc i + k = omega arith in subst (λ n. slice_get all n ≡ Some f) next (at (suc k) f there))
    (step all i ts x here h))

roots_are_first : (fs : List ListedFile) → AreFirst fs (length fs) (roots_in fs)
roots_are_first fs = subst (λ n. AreFirst fs n (roots_in fs)) (zero-add (length fs))
    (from_here fs fs 0 [] (λ k f at. subst (λ n. slice_get fs n ≡ Some f) (sym (zero-add k)) at)
    (record { each = λ n t at. cc; placed = λ k f s lt at is. absurd (omega (arith, lt)) }))

-- ---- the trees

-- a file's root is its tree's, and its length too
root_of_file : (fs : List ListedFile) (k : ℕ) (f : ListedFile) (s : List ℕ) → (IsReused fs → ⊥) → slice_get fs k ≡ Some f → f.root ≡ Some s
    → (n : ℕ) × (t : Root) × (place_in (roots_in fs) s ≡ Some n) × (slice_get (roots_in fs) n ≡ Some t) × (t.root ≡ s) × (f.length ≡ t.length)
root_of_file fs k f s one_length at is =
    let h = roots_are_first fs in
    let placed = h.placed k f s (slice_get_within fs k f at) at is in
    let root = place_at (roots_in fs) s placed.0 placed.1 in
    let first = h.each placed.0 root.0 root.1 in
    let size : f.length ≡ root.0.length = elim (eqb_tells f.length root.0.length) [
      | inl same ↦ same.1
      | inr differs ↦ absurd (one_length (record {
        one = f;
        other = first.file;
        root = s;
        one_there = (k, at);
        other_there = (first.number, first.there);
        one_root = is;
        other_root = first.root_is ∙ ap Some root.2;
        differ = λ e. differs.1 (e ∙ first.length_is);
      }))
    ] in
    (placed.0, root.0, placed.1, root.1, root.2, size)

trees_of : (p : ℕ) (layers : Pairs) (fs : List ListedFile) (t : Description) → t.trees ≡ map (tree_at p layers) (roots_in fs) → AreFiles p fs t.files
    → ((f : ListedFile) → IsIn fs f → IsSized f) → (IsReused fs → ⊥) → AreTreesOf fs t
trees_of p layers fs t trees files sizes one_length = record {
  distinct = λ n m x y at_x at_y same. roots_differ p layers fs n m x y (in_roots n x at_x) (in_roots m y at_y) same;
  used = λ n e at. used n e (tree_there p layers (roots_in fs) n e (in_roots n e at));
  some = λ k f at pos. has_tree k f at pos f.root refl;
  none = λ k f at empty. lacks_tree k f at empty f.root refl;
}
  where
    in_roots : (n : ℕ) (e : TreeEntry) → slice_get t.trees n ≡ Some e → slice_get (map (tree_at p layers) (roots_in fs)) n ≡ Some e
    in_roots n e at = subst (λ ts. slice_get ts n ≡ Some e) trees at

    used : (n : ℕ) (e : TreeEntry) → (r : Root) × (slice_get (roots_in fs) n ≡ Some r) × (tree_at p layers r ≡ e) → IsFirstUsed fs t.trees n e
    used n e (r, there, is) =
        let h = (roots_are_first fs).each n r there in
        let root : r.root ≡ e.root = ap (λ (x : TreeEntry). x.root) is in
        record {
          number = h.number;
          file = h.file;
          there = h.there;
          root_is = h.root_is ∙ ap Some root;
          length_is = h.length_is ∙ ap (λ (x : TreeEntry). x.length) is;
          first = λ before. h.first (subst (IsUsedBefore fs h.number) (sym root) before);
          in_order = λ m x lt at.
              let other = tree_there p layers (roots_in fs) m x (in_roots m x at) in
              subst (IsUsedBefore fs h.number) (ap (λ (y : TreeEntry). y.root) other.2) (h.in_order m other.0 lt other.1);
        }

    has_tree : (k : ℕ) (f : ListedFile) → slice_get fs k ≡ Some f → 0 < f.length → (o : Option (List ℕ)) → f.root ≡ o → HasTreeOf t k f
    has_tree k f at pos None is = let none = (sizes f (k, at)).none is in absurd (omega (arith, pos, none))
    has_tree k f at pos (Some s) is =
        let h = root_of_file fs k f s one_length at is in
        record {
          file = entry_at p fs k f;
          there = files.each k f at;
          number = h.0;
          numbered = ap (option_and_then (place_in (roots_in fs))) is ∙ h.2;
          tree = tree_at p layers h.1;
          is = subst (λ ts. slice_get ts h.0 ≡ Some (tree_at p layers h.1)) (sym trees) (tree_of p layers (roots_in fs) h.0 h.1 h.3);
          root_is = is ∙ ap Some (sym h.4);
          length_is = h.5;
        }

    lacks_tree : (k : ℕ) (f : ListedFile) → slice_get fs k ≡ Some f → f.length ≡ 0 → (o : Option (List ℕ)) → f.root ≡ o → HasNoTree t k
    lacks_tree k f at empty None is = record { file = entry_at p fs k f; there = files.each k f at; none = ap (option_and_then (place_in (roots_in fs))) is }
    lacks_tree k f at empty (Some s) is = let pos = ((sizes f (k, at)).some s is).0 in absurd (omega (arith, pos, empty))

pub trees_are_roots : TreesAreRoots
trees_are_roots b t d =
    let v = d.value in
    trees_of (piece_length_in v) (layers_in v) (files_of v) t d.described.trees d.described.files (all_sized (walks_of v) d.legal.roots)
    (not_reused (files_of v) d.legal.one_length)
