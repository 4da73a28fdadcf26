-- Roots in the order of first use.
use Rattle.std.proofs.Common.{◌≡◌, ◌≢◌, ℕ, zero, suc, ◌+◌, ◌<◌, drop, get_or, Bool, true, false, cond, List, [], ◌∷◌, ◌++◌, length, Option, Some, None}
use Rattle.std.proofs.Common.{option_map, map, ◌⊎◌, inl, inr, refl, sym, ap, subst, ◌∙◌}
use Rattle.filetree.proofs.ComparedKeys.{is_equal}
use Rattle.std.specs.Prelude.{◌==◌, slice_get, fold, take, if◌then◌else◌, IfSome}
use Rattle.std.specs.Cmp.Lexicographic.{slice_cmp}
use Rattle.std.specs.Ordering.{nat_cmp, is_eq}
use Rattle.std.specs.Str.{bytes_eq}
use Rattle.std.proofs.lemmas.Cmp.{nat_list_cmp_total, tied_itself}
use Rattle.std.proofs.lemmas.Map.Lookups.{exact_bytes}
use Rattle.std.proofs.lemmas.Option.{slice_get_within, slice_get_read, slice_get-map}
use Rattle.filetree.specs.declared.files.ListedFile.{ListedFile}
use Rattle.filetree.proofs.Bytes.{equal_bytes, same_bytes, true_or_false}
use Rattle.opening.specs.Trees.{IsIn, IsTreeWithRoot, place_in, root_of_tree, tree_with_root, with_root, with_file, roots_in, IsReused}
use Rattle.opening.specs.declared.roots.Root.{Root}
use Rattle.pieces.specs.Pieces.{pieces_of}
use Rattle.opening.specs.Rooted.{IsRootAt, AreRoots}
use Rattle.opening.specs.Trees.{entries_from}
use Rattle.opening.specs.Description.{FileEntry, TreeEntry}
use Rattle.opening.specs.PieceLayers.{tree_at}
use Rattle.benc.specs.Value.{Pairs}
use Rattle.std.specs.Prelude.{option_and_then}
use Rattle.std.proofs.Common.{append_assoc}
use Rattle.std.proofs.lemmas.List.{take_more, take-append-drop}
use Rattle.chains.proofs.Cases.{item_stays, some_or_none, pushed_last}

behind_one : (o : Option ℕ) (n : ℕ) → option_map suc o ≡ Some n → (m : ℕ) × (o ≡ Some m) × (n ≡ suc m)
behind_one None n e = cc
behind_one (Some m) n e = let same : suc m ≡ n = cc in (m, refl, sym same)

-- a root stands at its place
pub place_at : (ts : List Root) (s : List ℕ) (n : ℕ) → place_in ts s ≡ Some n → (t : Root) × (slice_get ts n ≡ Some t) × (t.root ≡ s)
place_at [] s n e = cc
place_at (t ∷ ts) s n e =
    elim (true_or_false (bytes_eq t.root s)) [
      | inl same ↦
          let is : Some 0 ≡ Some n = rw same at e in
          let first : 0 ≡ n = cc in (t, rw (← first) refl, same_bytes t.root s same)
      | inr other ↦
          let is : option_map suc (place_in ts s) ≡ Some n = rw other at e in
          let later = behind_one (place_in ts s) n is in
          let rest = place_at ts s later.0 later.1 in (rest.0, subst (λ m. slice_get (t ∷ ts) m ≡ Some rest.0) (sym later.2) rest.1, rest.2)
    ]

pub place_within : (ts : List Root) (s : List ℕ) (n : ℕ) → place_in ts s ≡ Some n → n < length ts
place_within ts s n e = let there = place_at ts s n e in slice_get_within ts n there.0 there.1

pub place_push_new : (ts : List Root) (t : Root) (s : List ℕ) → place_in ts s ≡ None → t.root ≡ s → place_in (ts ++ t ∷ []) s ≡ Some (length ts)
place_push_new [] t s e same = rw (equal_bytes t.root s same) refl
place_push_new (u ∷ ts) t s e same =
    elim (true_or_false (bytes_eq u.root s)) [
      | inl here ↦ let is : Some 0 ≡ None = rw here at e in cc
      | inr other ↦
          let none : option_map suc (place_in ts s) ≡ None = rw other at e in
          rw other (ap (option_map suc) (place_push_new ts t s (no_more (place_in ts s) none) same))
    ]
  where
    no_more : (o : Option ℕ) → option_map suc o ≡ None → o ≡ None
    no_more None e = refl
    no_more (Some n) e = cc

pub place_push_other : (ts : List Root) (t : Root) (s : List ℕ) → (t.root ≡ s → ⊥) → place_in (ts ++ t ∷ []) s ≡ place_in ts s
place_push_other [] t s differs =
    elim (true_or_false (bytes_eq t.root s)) [ inl same ↦ absurd (differs (same_bytes t.root s same)) | inr other ↦ rw other refl ]
place_push_other (u ∷ ts) t s differs = ap (λ o. if bytes_eq u.root s then Some 0 else option_map suc o) (place_push_other ts t s differs)

pub place_push_there : (ts : List Root) (t : Root) (s : List ℕ) (n : ℕ) → place_in ts s ≡ Some n → place_in (ts ++ t ∷ []) s ≡ Some n
place_push_there [] t s n e = cc
place_push_there (u ∷ ts) t s n e =
    elim (true_or_false (bytes_eq u.root s)) [
      | inl here ↦ let is : Some 0 ≡ Some n = rw here at e in rw here is
      | inr other ↦
          let is : option_map suc (place_in ts s) ≡ Some n = rw other at e in
          let later = behind_one (place_in ts s) n is in
          rw other (ap (option_map suc) (place_push_there ts t s later.0 later.1) ∙ ap Some (sym later.2))
    ]

-- a map that leads to the places still does with one root more
pub numbered_push : (g h : List ℕ → Option ℕ) (ts : List Root) (t : Root) → place_in ts t.root ≡ None → ((q : List ℕ) → g q ≡ place_in ts q)
    → ((q : List ℕ) → h q ≡ cond (is_eq (slice_cmp nat_cmp t.root q)) (Some (length ts)) (g q)) → (q : List ℕ) → h q ≡ place_in (ts ++ t ∷ []) q
numbered_push g h ts t none places more q =
    elim (true_or_false (is_eq (slice_cmp nat_cmp t.root q))) [
      | inl here ↦
          let same : t.root ≡ q = exact_bytes t.root q (is_equal (slice_cmp nat_cmp t.root q) here) in
          more q ∙ rw here (sym (place_push_new ts t q (subst (λ k. place_in ts k ≡ None) same none) same))
      | inr other ↦
          more q ∙ rw other (places q ∙ sym (place_push_other ts t q (λ same.
          let tied : is_eq (slice_cmp nat_cmp t.root q) ≡ true = subst (λ k. is_eq (slice_cmp nat_cmp t.root k) ≡ true) same
          (ap is_eq (tied_itself nat_list_cmp_total t.root)) in cc)))
    ]

pub root_is_at : (ts : List Root) (s : List ℕ) (n size : ℕ) (t : Root) → place_in ts s ≡ Some n → slice_get ts n ≡ Some t → t.length ≡ size → IsRootAt ts s size
root_is_at ts s n size t place there same = record { number = n; at = t; place = place; there = there; same = same }

-- ---- the trees by their roots

-- the roots of the trees are those that the trees were made of
pub roots_back : (p : ℕ) (layers : Pairs) (ts : List Root) → map root_of_tree (map (tree_at p layers) ts) ≡ ts
roots_back p layers [] = refl
roots_back p layers (t ∷ ts) = ap (λ us. t ∷ us) (roots_back p layers ts)

place_there : (ts : List Root) (s : List ℕ) (n : ℕ) (t : Root) → slice_get ts n ≡ Some t → t.root ≡ s → (m : ℕ) × (place_in ts s ≡ Some m)
place_there [] s n t e same = cc
place_there (u ∷ ts) s zero t e same = let here : u ≡ t = cc in (0, rw (equal_bytes u.root s (ap (λ (r : Root). r.root) here ∙ same)) refl)
place_there (u ∷ ts) s (suc n) t e same =
    elim (true_or_false (bytes_eq u.root s)) [
      | inl here ↦ (0, rw here refl)
      | inr other ↦ let rest = place_there ts s n t e same in (suc rest.0, rw other (ap (option_map suc) rest.1))
    ]

tree_of_root : (o : Option TreeEntry) (r : Root) → option_map root_of_tree o ≡ Some r → (t : TreeEntry) × (o ≡ Some t) × (t.root ≡ r.root)
tree_of_root None r e = cc
tree_of_root (Some t) r e = let same : root_of_tree t ≡ r = cc in (t, refl, ap (λ (x : Root). x.root) same)

pub tree_found : (ts : List TreeEntry) (s : List ℕ) (o : Option ℕ) → o ≡ tree_with_root ts s → IfSome o (IsTreeWithRoot ts s)
tree_found ts s None e = tt
tree_found ts s (Some n) e =
    let at = place_at (map root_of_tree ts) s n (sym e) in
    let tree = tree_of_root (slice_get ts n) at.0 (sym (slice_get-map root_of_tree ts n) ∙ at.1) in
    (tree.0, tree.1, tree.2 ∙ at.2)

pub tree_only : (ts : List TreeEntry) (s : List ℕ) (o : Option ℕ)
    → ((n k : ℕ) (a b : TreeEntry) → slice_get ts n ≡ Some a → slice_get ts k ≡ Some b → a.root ≡ b.root → n ≡ k)
    → o ≡ tree_with_root ts s → (n : ℕ) → IsTreeWithRoot ts s n → o ≡ Some n
tree_only ts s o differ e n at =
    let there = place_there (map root_of_tree ts) s n (root_of_tree at.0) (slice_get-map root_of_tree ts n ∙ ap (option_map root_of_tree) at.1) at.2 in
    let is : o ≡ Some there.0 = e ∙ there.1 in
    let found = subst (λ x. IfSome x (IsTreeWithRoot ts s)) is (tree_found ts s o e) in
    is ∙ ap Some (differ there.0 n found.0 at.0 found.1 at.1 (found.2 ∙ sym at.2))

-- ---- one file more

in_front : (fs : List ListedFile) (f g : ListedFile) → IsIn fs g → IsIn (fs ++ f ∷ []) g
in_front fs f g h = (h.0, item_stays fs (f ∷ []) h.0 g h.1)

in_last : (fs : List ListedFile) (f : ListedFile) → IsIn (fs ++ f ∷ []) f
in_last fs f = (length fs, pushed_last fs f (length fs) refl)

pub push_cases : {A : Type 0} (xs : List A) (y : A) (n : ℕ) (x : A) → slice_get (xs ++ y ∷ []) n ≡ Some x → (slice_get xs n ≡ Some x) ⊎ (y ≡ x)
push_cases [] y zero x e = inr (cc)
push_cases [] y (suc n) x e = cc
push_cases (z ∷ xs) y zero x e = inl e
push_cases (z ∷ xs) y (suc n) x e = push_cases xs y n x e

in_cases : (fs : List ListedFile) (f g : ListedFile) → IsIn (fs ++ f ∷ []) g → (IsIn fs g) ⊎ (f ≡ g)
in_cases fs f g h = elim (push_cases fs f h.0 g h.1) [ inl old ↦ inl (h.0, old) | inr new ↦ inr new ]

fold_push : (ts : List Root) (fs : List ListedFile) (f : ListedFile) → fold with_file ts (fs ++ f ∷ []) ≡ with_file (fold with_file ts fs) f
fold_push ts [] f = refl
fold_push ts (g ∷ fs) f = fold_push (with_file ts g) fs f

-- a root is there already, or is put behind the others
pub with_cases : (ts : List Root) (size : ℕ) (s : List ℕ) → (with_root ts size (Some s) ≡ ts)
    ⊎ ((place_in ts s ≡ None) × (with_root ts size (Some s) ≡ ts ++ record { root = s; length = size } ∷ []))
with_cases ts size s =
    elim (some_or_none (place_in ts s)) [
      | inl there ↦ inl (rw there.1 refl)
      | inr none ↦ inr (none, rw none refl)
    ]

keeps_root : (ts : List Root) (t : Root) (s : List ℕ) (size : ℕ) → IsRootAt ts s size → IsRootAt (ts ++ t ∷ []) s size
keeps_root ts t s size h = record {
  number = h.number;
  at = h.at;
  place = place_push_there ts t s h.number h.place;
  there = item_stays ts (t ∷ []) h.number h.at h.there;
  same = h.same;
}

pub roots_none : (fs : List ListedFile) (ts : List Root) (f : ListedFile) → f.root ≡ None → AreRoots fs ts → AreRoots (fs ++ f ∷ []) ts
roots_none fs ts f none h = record {
  roots = h.roots ∙ sym (fold_push [] fs f ∙ ap (with_root (roots_in fs) f.length) none);
  each = λ g s there is. elim (in_cases fs f g there) [
    | inl old ↦ h.each g s old is
    | inr new ↦ let same : f.root ≡ g.root =
        ap (λ (l : ListedFile). l.root) new in cc
  ];
  used = λ n t e. let old = h.used n t e in (old.0, in_front fs f old.0 old.1, old.2, old.3);
}

pub roots_some : (fs : List ListedFile) (ts us : List Root) (f : ListedFile) (s : List ℕ) → f.root ≡ Some s → us ≡ with_root ts f.length (Some s)
    → IsRootAt us s f.length → AreRoots fs ts → AreRoots (fs ++ f ∷ []) us
roots_some fs ts us f s is after here h = record {
  roots = after ∙ ap (λ ts. with_root ts f.length (Some s)) h.roots ∙ sym (fold_push [] fs f ∙ ap (with_root (roots_in fs) f.length) is);
  each = λ g q there is_g. elim (in_cases fs f g there) [
    | inl old ↦ kept q g.length (h.each g q old is_g)
    | inr new ↦ let same : Some s ≡ Some q = sym is ∙ ap (λ (l : ListedFile). l.root) new
        ∙ is_g in let one : s ≡ q = cc in subst (λ (k : List ℕ). IsRootAt us k g.length) one
        (subst (λ (n : ℕ). IsRootAt us s n) (ap (λ (l : ListedFile). l.length) new) here)
  ];
  used = λ n t e. elim (with_cases ts f.length s) [
    | inl same ↦ let old = h.used n t (subst (λ vs. slice_get vs n ≡ Some t) (after ∙ same) e) in (old.0, in_front fs f old.0 old.1, old.2, old.3)
    | inr new ↦ elim (push_cases ts (record { root = s; length = f.length }) n t (subst (λ vs. slice_get vs n ≡ Some t) (after ∙ new.1) e)) [
      | inl before ↦ let old = h.used n t before in (old.0, in_front fs f old.0 old.1, old.2, old.3)
      | inr last ↦ (f, in_last fs f, is ∙ ap (λ (r : Root). Some r.root) last, ap (λ (r : Root). r.length) last)
    ]
  ];
}
  where
    kept : (q : List ℕ) (n : ℕ) → IsRootAt ts q n → IsRootAt us q n
    kept q n at = elim (with_cases ts f.length s) [
      | inl same ↦ subst (λ vs. IsRootAt vs q n) (sym (after ∙ same)) at
      | inr new ↦ subst (λ vs. IsRootAt vs q n) (sym (after ∙ new.1)) (keeps_root ts (record { root = s; length = f.length }) q n at)
    ]

-- a file with another length than its root
pub reused : (all fs : List ListedFile) (ts : List Root) (f : ListedFile) (s : List ℕ) (n : ℕ) (t : Root) → ((g : ListedFile) → IsIn fs g → IsIn all g)
    → IsIn all f → f.root ≡ Some s → AreRoots fs ts
    → place_in ts s ≡ Some n → slice_get ts n ≡ Some t → t.length ≢ f.length → IsReused all
reused all fs ts f s n t within f_in is h place there differs =
    let other = h.used n t there in
    let at = place_at ts s n place in
    let one : Some at.0 ≡ Some t = sym at.1 ∙ there in
    let same : at.0 ≡ t = cc in
    let root : t.root ≡ s = ap (λ (r : Root). r.root) (sym same) ∙ at.2 in
    record {
      one = other.0;
      other = f;
      root = s;
      one_there = within other.0 other.1;
      other_there = f_in;
      one_root = other.2 ∙ ap Some root;
      other_root = is;
      differ = λ e. differs (sym other.3 ∙ e);
    }

pub none_reused : (fs : List ListedFile) (ts : List Root) → AreRoots fs ts → IsReused fs → ⊥
none_reused fs ts h r =
    let a = h.each r.one r.root r.one_there r.one_root in
    let b = h.each r.other r.root r.other_there r.other_root in
    let number : Some a.number ≡ Some b.number = sym a.place ∙ b.place in
    let same_number : a.number ≡ b.number = cc in
    let at : Some a.at ≡ Some b.at = sym a.there ∙ ap (slice_get ts) same_number ∙ b.there in
    let same_at : a.at ≡ b.at = cc in r.differ (sym a.same ∙ ap (λ (t : Root). t.length) same_at ∙ b.same)

-- ---- files as they lie in memory

pub take_next : (xs : List ListedFile) (i : ℕ) (x : ListedFile) → i < length xs → x ≡ get_or xs i x → (take (i + 1) xs) ≡ (take i xs) ++ x ∷ []
take_next xs i x lt is = take_more xs i x lt ∙ ap (λ y. take i xs ++ y ∷ []) (sym is)

pub item_in : (xs : List ListedFile) (i : ℕ) (x : ListedFile) → i < length xs → x ≡ get_or xs i x → IsIn xs x
item_in xs i x lt is = (i, slice_get_read xs (length xs) i x refl lt is)

pub taken_in : (xs : List ListedFile) (i : ℕ) (g : ListedFile) → IsIn (take i xs) g → IsIn xs g
taken_in xs i g h =
    (h.0, subst (λ ys. slice_get ys h.0 ≡ Some g) (take-append-drop i xs) (item_stays (take i xs) (drop i xs) h.0 g h.1))

pub none_left : (o : Option (List ℕ)) → ((s : List ℕ) → o ≡ Some s → ⊥) → o ≡ None
none_left None h = refl
none_left (Some s) h = absurd (h s refl)

pub some_files : (xs : List ListedFile) (b : Bool) → b ≡ (length xs == 0) → b ≡ false → xs ≡ [] → ⊥
some_files [] b is no_file e = cc
some_files (x ∷ xs) b is no_file e = cc

-- one file more in the list
pub files_step : (p : ℕ) (ts : List Root) (all rest : List ListedFile) (es : List FileEntry) (first next : ℕ) (f : ListedFile) (e : FileEntry)
    → record { path = f.path; length = f.length; tree = option_and_then (place_in ts) f.root; first_piece = first } ≡ e → first + pieces_of p f.length ≡ next
    → entries_from p ts 0 all ≡ es ++ entries_from p ts first (f ∷ rest) → entries_from p ts 0 all ≡ (es ++ e ∷ []) ++ entries_from p ts next rest
files_step p ts all rest es first next f e is more h =
    h ∙ ap (λ (x : FileEntry). es ++ x ∷ entries_from p ts (first + pieces_of p f.length) rest) is ∙ ap (λ n. es ++ e ∷ entries_from p ts n rest) more
    ∙ sym (append_assoc es (e ∷ []) (entries_from p ts next rest))
