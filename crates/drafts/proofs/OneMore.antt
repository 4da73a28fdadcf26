-- A list with one element more, and layers with one more.
use Rattle.std.proofs.Common.{◌≡◌, ℕ, zero, suc, ◌+◌, List, [], ◌∷◌, ◌++◌, map, take, drop, Some, slice_get}
use Rattle.std.proofs.Common.{inl, inr, refl, sym, ap, ◌∙◌, arith, ◌⊎◌}
use Rattle.std.proofs.lemmas.Cmp.{nat_list_cmp_total}
use Rattle.std.proofs.lemmas.List.Sums.{sum_by-cons}
use Rattle.std.specs.Cmp.Lexicographic.{slice_cmp}
use Rattle.std.specs.List.{AllByRecursion}
use Rattle.std.specs.List.Sorted.{IsStrictlySortedBy}
use Rattle.std.specs.Ordering.{nat_cmp, ordering_reverse}
use Rattle.std.specs.declared.cmp.Ordering.{Ordering}
use Rattle.std.specs.declared.cmp.Ordering.TheVariants.{Less, Equal, Greater}
use Rattle.drafts.specs.Adding.{with_layer}
use Rattle.drafts.specs.Outline.{OutlineFile, OutlineLayer, listed_file}
use Rattle.filetree.proofs.Ascending.{lower}
use Rattle.filetree.proofs.ComparedKeys.{cmp_equal}
use Rattle.filetree.specs.declared.files.ListedFile.{ListedFile}
use Rattle.opening.specs.Trees.{pieces_in}
use Rattle.pieces.specs.Pieces.{pieces_of}

-- ---- one element more

abbrev pub In : {A : Type 0} → List A → A → Type 0
In xs x = (n : ℕ) × (slice_get xs n ≡ Some x)

pub later : {A : Type 0} (y : A) (xs : List A) (x : A) → In xs x → In (y ∷ xs) x
later y xs x there = (suc there.0, there.1)

pub put_back : {A : Type 0} (i : ℕ) (f : A) (xs : List A) (n : ℕ) (g : A) → slice_get (take i xs ++ f ∷ drop i xs) n ≡ Some g → (f ≡ g) ⊎ In xs g
put_back zero f xs zero g at = inl cc
put_back zero f xs (suc n) g at = inr (n, at)
put_back (suc i) f [] zero g at = inl cc
put_back (suc i) f [] (suc n) g at = cc
put_back (suc i) f (x ∷ xs) zero g at = inr (0, at)
put_back (suc i) f (x ∷ xs) (suc n) g at = elim (put_back i f xs n g at) [ inl same ↦ inl same | inr old ↦ inr (later x xs g old) ]

pub put_kept : {A : Type 0} (i : ℕ) (f : A) (xs : List A) (n : ℕ) (g : A) → slice_get xs n ≡ Some g → In (take i xs ++ f ∷ drop i xs) g
put_kept zero f xs n g at = (suc n, at)
put_kept (suc i) f [] n g at = cc
put_kept (suc i) f (x ∷ xs) zero g at = (0, at)
put_kept (suc i) f (x ∷ xs) (suc n) g at = later x (take i xs ++ f ∷ drop i xs) g (put_kept i f xs n g at)

pub put_here : {A : Type 0} (i : ℕ) (f : A) (xs : List A) → In (take i xs ++ f ∷ drop i xs) f
put_here zero f xs = (0, refl)
put_here (suc i) f [] = (0, refl)
put_here (suc i) f (x ∷ xs) = later x (take i xs ++ f ∷ drop i xs) f (put_here i f xs)

pub pieces_put : (p i : ℕ) (f : OutlineFile) (fs : List OutlineFile)
    → pieces_in p (map listed_file (take i fs ++ f ∷ drop i fs)) ≡ pieces_in p (map listed_file fs) + pieces_of p f.length
pieces_put p zero f fs = sum_by-cons (λ (g : ListedFile). pieces_of p g.length) (listed_file f) (map listed_file fs) ∙ omega arith
pieces_put p (suc i) f [] = sum_by-cons (λ (g : ListedFile). pieces_of p g.length) (listed_file f) [] ∙ omega arith
pieces_put p (suc i) f (g ∷ fs) =
    let rest = pieces_put p i f fs in
    let front = sum_by-cons (λ (g : ListedFile). pieces_of p g.length) (listed_file g) (map listed_file (take i fs ++ f ∷ drop i fs)) in
    let old = sum_by-cons (λ (g : ListedFile). pieces_of p g.length) (listed_file g) (map listed_file fs) in
    omega (arith, rest, front, old)

-- ---- one layer more

pub three : (o : Ordering) → (o ≡ Less) ⊎ ((o ≡ Equal) ⊎ (o ≡ Greater))
three Less = inl refl
three Equal = inr (inl refl)
three Greater = inr (inr refl)

abbrev pub new : List ℕ → List (List ℕ) → OutlineLayer
new root hashes = record { root = root; hashes = hashes }

pub layer_back : (r : List ℕ) (hs : List (List ℕ)) (es : List OutlineLayer) (n : ℕ) (x : OutlineLayer)
    → slice_get (with_layer r hs es) n ≡ Some x → (new r hs ≡ x) ⊎ In es x
layer_back r hs [] zero x at = inl cc
layer_back r hs [] (suc n) x at = cc
layer_back r hs (e ∷ es) n x at =
    elim (three (slice_cmp nat_cmp r e.root)) [
      | inl less ↦ front n (rw less at at)
      | inr more ↦ elim more [
        | inl same ↦ inr (n, rw same at at)
        | inr greater ↦ behind n (rw greater at at) (layer_back r hs es)
      ]
    ]
  where
    front : (n : ℕ) → slice_get (new r hs ∷ e ∷ es) n ≡ Some x → (new r hs ≡ x) ⊎ In (e ∷ es) x
    front zero at = inl cc
    front (suc n) at = inr (n, at)

    behind : (n : ℕ) → slice_get (e ∷ with_layer r hs es) n ≡ Some x → ((n : ℕ) (x : OutlineLayer) → slice_get (with_layer r hs es) n ≡ Some x → (new r hs ≡ x)
        ⊎ In es x) → (new r hs ≡ x) ⊎ In (e ∷ es) x
    behind zero at rest = inr (0, at)
    behind (suc n) at rest = elim (rest n x at) [ inl same ↦ inl same | inr old ↦ inr (later e es x old) ]

pub layer_kept : (r : List ℕ) (hs : List (List ℕ)) (es : List OutlineLayer) (n : ℕ) (x : OutlineLayer) → slice_get es n ≡ Some x → In (with_layer r hs es) x
layer_kept r hs [] n x at = cc
layer_kept r hs (e ∷ es) n x at =
    elim (three (slice_cmp nat_cmp r e.root)) [
      | inl less ↦ rw less (suc n, at)
      | inr more ↦ elim more [
        | inl same ↦ rw same (n, at)
        | inr greater ↦ rw greater (behind n at (layer_kept r hs es))
      ]
    ]
  where
    behind : (n : ℕ) → slice_get (e ∷ es) n ≡ Some x → ((n : ℕ) (x : OutlineLayer) → slice_get es n ≡ Some x → In (with_layer r hs es) x)
        → In (e ∷ with_layer r hs es) x
    behind zero at rest = (0, at)
    behind (suc n) at rest = later e (with_layer r hs es) x (rest n x at)

-- the root has a layer then, the one that it had or the new one
pub layer_has : (r : List ℕ) (hs : List (List ℕ)) (es : List OutlineLayer) → (x : OutlineLayer) × In (with_layer r hs es) x × (x.root ≡ r) × ((new r hs ≡ x)
    ⊎ In es x)
layer_has r hs [] = (new r hs, (0, refl), refl, inl refl)
layer_has r hs (e ∷ es) =
    elim (three (slice_cmp nat_cmp r e.root)) [
      | inl less ↦ rw less (new r hs, (0, refl), refl, inl refl)
      | inr more ↦ elim more [
        | inl same ↦ rw same (e, (0, refl), sym (cmp_equal r e.root same), inr (0, refl))
        | inr greater ↦ rw greater (behind (layer_has r hs es))
      ]
    ]
  where
    behind : ((x : OutlineLayer) × In (with_layer r hs es) x × (x.root ≡ r) × ((new r hs ≡ x) ⊎ In es x))
        → (x : OutlineLayer) × In (e ∷ with_layer r hs es) x × (x.root ≡ r) × ((new r hs ≡ x) ⊎ In (e ∷ es) x)
    behind rest = (rest.0, later e (with_layer r hs es) rest.0 rest.1, rest.2, elim rest.3 [ inl same ↦ inl same | inr old ↦ inr (later e es rest.0 old) ])

abbrev pub roots_of : List OutlineLayer → List (List ℕ)
roots_of es = map (λ (e : OutlineLayer). e.root) es

over_with : (k r : List ℕ) (hs : List (List ℕ)) (es : List OutlineLayer) → AllByRecursion (λ q. slice_cmp nat_cmp k q ≡ Less) (roots_of es)
    → slice_cmp nat_cmp k r ≡ Less
    → AllByRecursion (λ q. slice_cmp nat_cmp k q ≡ Less) (roots_of (with_layer r hs es))
over_with k r hs [] above less = (less, tt)
over_with k r hs (e ∷ es) above less =
    elim (three (slice_cmp nat_cmp r e.root)) [
      | inl before ↦ rw before (less, above)
      | inr more ↦ elim more [ inl same ↦ rw same above | inr greater ↦ rw greater (above.0, over_with k r hs es above.1 less) ]
    ]

pub layer_order : (r : List ℕ) (hs : List (List ℕ)) (es : List OutlineLayer) → IsStrictlySortedBy (slice_cmp nat_cmp) (roots_of es)
    → IsStrictlySortedBy (slice_cmp nat_cmp) (roots_of (with_layer r hs es))
unfolding IsStrictlySortedBy
layer_order r hs [] order = (tt, tt)
layer_order r hs (e ∷ es) order =
    elim (three (slice_cmp nat_cmp r e.root)) [
      | inl less ↦ rw less ((less, lower r e.root (roots_of es) less order.0), order)
      | inr more ↦ elim more [
        | inl same ↦ rw same order
        | inr greater ↦
            let above : slice_cmp nat_cmp e.root r ≡ Less = nat_list_cmp_total.antisymm e.root r ∙ ap ordering_reverse greater in
            rw greater (over_with e.root r hs es order.0 above, layer_order r hs es order.1)
      ]
    ]
