-- No test of piece layers holds for a draft's value, and its trees have the draft's layers.
use Rattle.std.proofs.Common.{◌≡◌, ℕ, zero, suc, ◌+◌, ◌*◌, ◌<◌, Bool, true, false, not, List, [], ◌∷◌, ◌++◌, length, map, take, drop, Option, Some, None}
use Rattle.std.proofs.Common.{slice_get, inl, inr, refl, sym, ap, subst, ◌∙◌, arith, ◌⊎◌, length-append, mul-suc}
use Rattle.std.specs.Cmp.Lexicographic.{slice_cmp}
use Rattle.std.specs.List.{list_any, concat, AllByRecursion}
use Rattle.std.specs.List.Sorted.{IsStrictlySortedBy}
use Rattle.std.specs.Ordering.{nat_cmp}
use Rattle.std.specs.Prelude.{nat_lt, ◌==◌, fold, option_and_then}
use Rattle.std.specs.Simd.{first_chunks}
use Rattle.std.specs.Str.{bytes_eq}
use Rattle.std.specs.declared.cmp.Ordering.TheVariants.{Less}
use Rattle.benc.specs.Value.{text}
use Rattle.drafts.proofs.Accepted.{listed_at, rooted_file}
use Rattle.drafts.specs.Outline.{AreOfLength, IsOutline, Outline, OutlineLayer, listed_file}
use Rattle.drafts.specs.Written.{drafted_tree, hashes_under, pairs_of_layers}
use Rattle.filetree.proofs.Bytes.{true_or_false, equal_bytes}
use Rattle.filetree.proofs.ComparedKeys.{not_same}
use Rattle.filetree.specs.Dictionary.{under}
use Rattle.filetree.specs.Tests.{NoneHolds}
use Rattle.filetree.specs.declared.files.ListedFile.{ListedFile}
use Rattle.opening.proofs.Rooting.{with_cases, push_cases}
use Rattle.opening.specs.PieceLayers.{as_digests, lacks_layer, lacks_size, layer_at, leads_to, mismatches, tree_at}
use Rattle.opening.specs.Refusals.{layer_rows}
use Rattle.opening.specs.Trees.{IsIn, roots_in, with_file, with_root}
use Rattle.opening.specs.declared.roots.Root.{Root}
use Rattle.pieces.specs.Pieces.{pieces_of}

-- ---- joined digests

take_first : (h rest : List ℕ) → take (length h) (h ++ rest) ≡ h
take_first [] rest = refl
take_first (x ∷ h) rest = ap (λ t. x ∷ t) (take_first h rest)

drop_first : (h rest : List ℕ) → drop (length h) (h ++ rest) ≡ rest
drop_first [] rest = refl
drop_first (x ∷ h) rest = drop_first h rest

pub joined_length : (width : ℕ) (hs : List (List ℕ)) → AreOfLength width hs → length (concat hs) ≡ width * length hs
joined_length width [] each = omega arith
joined_length width (h ∷ hs) each =
    let rest = joined_length width hs each.1 in
    let first : length h ≡ width = each.0 in
    let both = length-append h (concat hs) in
    let step : width * suc (length hs) ≡ width * length hs + width = mul-suc width (length hs) in omega (arith, rest, first, both, step)

pub cut_again : (width : ℕ) (hs : List (List ℕ)) → AreOfLength width hs → first_chunks width (length hs) (concat hs) ≡ hs
cut_again width [] each = refl
cut_again width (h ∷ hs) each =
    let first : take width (h ++ concat hs) ≡ h = subst (λ n. take n (h ++ concat hs) ≡ h) each.0 (take_first h (concat hs)) in
    let rest : drop width (h ++ concat hs) ≡ concat hs = subst (λ n. drop n (h ++ concat hs) ≡ concat hs) each.0 (drop_first h (concat hs)) in
    ap (λ x. x ∷ first_chunks width (length hs) (drop width (h ++ concat hs))) first ∙ ap (λ xs. h ∷ first_chunks width (length hs) xs) rest
    ∙ ap (λ xs. h ∷ xs) (cut_again width hs each.1)

pub digests_again : (width n : ℕ) (hs : List (List ℕ)) → AreOfLength width hs → length hs ≡ n → as_digests width n (text (concat hs)) ≡ Some hs
digests_again width n hs each count =
    let long : length (concat hs) ≡ width * n = joined_length width hs each ∙ ap (λ k. width * k) count in
    let e : length (concat hs) == width * n ≡ true = grind arith in
    rw e (ap Some (subst (λ k. first_chunks width k (concat hs) ≡ hs) count (cut_again width hs each)))

-- ---- layers by their roots

abbrev roots_of : List OutlineLayer → List (List ℕ)
roots_of es = map (λ (e : OutlineLayer). e.root) es

later_above : (k : List ℕ) (es : List OutlineLayer) (n : ℕ) (e : OutlineLayer) → AllByRecursion (λ q. slice_cmp nat_cmp k q ≡ Less) (roots_of es)
    → slice_get es n ≡ Some e → bytes_eq k e.root ≡ false
later_above k [] n e above at = cc
later_above k (x ∷ es) zero e above at = let same : x ≡ e = cc in
    not_same k e.root (subst (λ (y : OutlineLayer). slice_cmp nat_cmp k y.root ≡ Less) same above.0)
later_above k (x ∷ es) (suc n) e above at = later_above k es n e above.1 at

under_layer : (es : List OutlineLayer) (n : ℕ) (e : OutlineLayer) → IsStrictlySortedBy (slice_cmp nat_cmp) (roots_of es) → slice_get es n ≡ Some e
    → (under e.root (pairs_of_layers es) ≡ Some (text (concat e.hashes))) × (hashes_under e.root es ≡ e.hashes)
unfolding IsStrictlySortedBy
under_layer [] n e order at = cc
under_layer (x ∷ es) zero e order at =
    let same : x ≡ e = cc in
    let key : bytes_eq x.root e.root ≡ true = equal_bytes x.root e.root (ap (λ (y : OutlineLayer). y.root) same) in
    (rw key (ap (λ (y : OutlineLayer). Some (text (concat y.hashes))) same), rw key (ap (λ (y : OutlineLayer). y.hashes) same))
under_layer (x ∷ es) (suc n) e order at =
    let key : bytes_eq x.root e.root ≡ false = later_above x.root es n e order.0 at in
    let rest = under_layer es n e order.1 at in
    (rw key rest.0, rw key rest.1)

-- ---- each root is of a file

with_used : (ts : List Root) (size : ℕ) (o : Option (List ℕ)) (n : ℕ) (t : Root) → slice_get (with_root ts size o) n ≡ Some t → (slice_get ts n ≡ Some t)
    ⊎ ((o ≡ Some t.root) × (size ≡ t.length))
with_used ts size None n t at = inl at
with_used ts size (Some s) n t at =
    elim (with_cases ts size s) [
      | inl same ↦ inl (subst (λ us. slice_get us n ≡ Some t) same at)
      | inr new ↦ elim (push_cases ts (record { root = s; length = size }) n t (subst (λ us. slice_get us n ≡ Some t) new.1 at)) [
        | inl before ↦ inl before
        | inr last ↦ inr (ap (λ (r : Root). Some r.root) last, ap (λ (r : Root). r.length) last)
      ]
    ]

-- the file of a root
pub record IsUsed (fs : List ListedFile) (t : Root) : Type 0 where
  pub file : ListedFile
  pub there : IsIn fs file
  pub root : file.root ≡ Some t.root
  pub length : file.length ≡ t.length

used_from : (ts : List Root) (fs : List ListedFile) (n : ℕ) (t : Root) → slice_get (fold with_file ts fs) n ≡ Some t → (slice_get ts n ≡ Some t) ⊎ IsUsed fs t
used_from ts [] n t at = inl at
used_from ts (f ∷ fs) n t at =
    elim (used_from (with_file ts f) fs n t at) [
      | inl here ↦ elim (with_used ts f.length f.root n t here)
          [ inl old ↦ inl old | inr new ↦ inr (record { file = f; there = (0, refl); root = new.0; length = new.1 }) ]
      | inr later ↦ inr (record { file = later.file; there = (suc later.there.0, later.there.1); root = later.root; length = later.length })
    ]

pub root_used : (fs : List ListedFile) (n : ℕ) (t : Root) → slice_get (roots_in fs) n ≡ Some t → IsUsed fs t
root_used fs n t at = elim (used_from [] fs n t at) [ inl none ↦ absurd (let bad : None ≡ Some t = none in cc) | inr used ↦ used ]

-- ---- the layer of a root

record IsFound (d : Outline) (t : Root) : Type 0 where
  hashes : List (List ℕ)
  under_root : under t.root (pairs_of_layers d.layers) ≡ Some (text (concat hashes))
  digests : layer_at d.piece_length (pairs_of_layers d.layers) t ≡ Some hashes
  leads : leads_to d.piece_length t hashes ≡ t.root
  kept : hashes_under t.root d.layers ≡ hashes

found : (d : Outline) → IsOutline d → (n : ℕ) (t : Root) → slice_get (roots_in (map listed_file d.files)) n ≡ Some t → nat_lt d.piece_length t.length ≡ true
    → IsFound d t
found d o n t at long =
    let used = root_used (map listed_file d.files) n t at in
    let file = listed_at d.files used.there.0 used.file used.there.1 in
    let root = rooted_file file.0 used.file t.root file.2 used.root in
    let size : file.0.length ≡ t.length = ap (λ (x : ListedFile). x.length) file.2 ∙ used.length in
    let more : d.piece_length < t.length = grind (arith, long) in
    let has = o.layers_there used.there.0 file.0 file.1 (omega (arith, more, size)) in
    let key : has.layer.root ≡ t.root = has.is.root ∙ root.1 in
    let both = under_layer d.layers has.number has.layer o.layers_ascend has.there in
    let below : under t.root (pairs_of_layers d.layers) ≡ Some (text (concat has.layer.hashes)) =
    subst (λ k. under k (pairs_of_layers d.layers) ≡ Some (text (concat has.layer.hashes))) key both.0 in
    record {
      hashes = has.layer.hashes;
      under_root = below;
      digests = ap (option_and_then (as_digests 32 (pieces_of d.piece_length t.length))) below
          ∙ digests_again 32 (pieces_of d.piece_length t.length) has.layer.hashes has.is.hash_lengths (has.is.count ∙ ap (pieces_of d.piece_length) size);
      leads = subst (λ m. leads_to d.piece_length (record { root = t.root; length = m }) has.layer.hashes ≡ t.root) size
          (subst (λ r. leads_to d.piece_length (record { root = r; length = file.0.length }) has.layer.hashes ≡ r) root.1 has.is.leads);
      kept = subst (λ k. hashes_under k d.layers ≡ has.layer.hashes) key both.1;
    }

-- ---- the tests

no_any_root : (test : Root → Bool) (ts : List Root) → ((n : ℕ) (t : Root) → slice_get ts n ≡ Some t → test t ≡ false) → list_any test ts ≡ true → ⊥
no_any_root test [] none any = cc
no_any_root test (t ∷ ts) none any = let first : test t ≡ false = none 0 t refl in no_any_root test ts (λ n u e. none (suc n) u e) (rw first at any)

has_layer : (d : Outline) → IsOutline d → (n : ℕ) (t : Root) → slice_get (roots_in (map listed_file d.files)) n ≡ Some t
    → lacks_layer d.piece_length (pairs_of_layers d.layers) t ≡ false
has_layer d o n t at =
    elim (true_or_false (nat_lt d.piece_length t.length)) [
      | inl long ↦ rw (long, (found d o n t at long).under_root) refl
      | inr short ↦ rw short refl
    ]

has_size : (d : Outline) → IsOutline d → (n : ℕ) (t : Root) → slice_get (roots_in (map listed_file d.files)) n ≡ Some t
    → lacks_size d.piece_length (pairs_of_layers d.layers) t ≡ false
has_size d o n t at =
    elim (true_or_false (nat_lt d.piece_length t.length)) [
      | inl long ↦ rw (long, (found d o n t at long).digests) refl
      | inr short ↦ rw short refl
    ]

matches : (d : Outline) → IsOutline d → (n : ℕ) (t : Root) → slice_get (roots_in (map listed_file d.files)) n ≡ Some t
    → mismatches d.piece_length (pairs_of_layers d.layers) t ≡ false
matches d o n t at =
    elim (true_or_false (nat_lt d.piece_length t.length)) [
      | inl long ↦ let f = found d o n t at long in rw (long, f.digests) (ap not (equal_bytes (leads_to d.piece_length t f.hashes) t.root f.leads))
      | inr short ↦ rw short refl
    ]

pub layer_none : (d : Outline) → IsOutline d → NoneHolds (layer_rows d.piece_length (pairs_of_layers d.layers) (roots_in (map listed_file d.files)))
layer_none d o = (
  no_any_root (lacks_layer d.piece_length (pairs_of_layers d.layers)) (roots_in (map listed_file d.files)) (has_layer d o),
  (
    no_any_root (lacks_size d.piece_length (pairs_of_layers d.layers)) (roots_in (map listed_file d.files)) (has_size d o),
    (no_any_root (mismatches d.piece_length (pairs_of_layers d.layers)) (roots_in (map listed_file d.files)) (matches d o), tt),
  ),
)

-- ---- the trees

tree_is : (d : Outline) → IsOutline d → (n : ℕ) (t : Root) → slice_get (roots_in (map listed_file d.files)) n ≡ Some t
    → drafted_tree d t ≡ tree_at d.piece_length (pairs_of_layers d.layers) t
tree_is d o n t at =
    elim (true_or_false (nat_lt d.piece_length t.length)) [
      | inl long ↦
          let f = found d o n t at long in
          let mine : (drafted_tree d t).layer ≡ f.hashes = rw long f.kept in
          let known : (tree_at d.piece_length (pairs_of_layers d.layers) t).layer ≡ f.hashes = rw (long, f.digests) refl in
          ap (λ (l : List (List ℕ)). record { root = t.root; length = t.length; layer = l }) (mine ∙ sym known)
      | inr short ↦
          let mine : (drafted_tree d t).layer ≡ [] = rw short refl in
          let known : (tree_at d.piece_length (pairs_of_layers d.layers) t).layer ≡ [] = rw short refl in
          ap (λ (l : List (List ℕ)). record { root = t.root; length = t.length; layer = l }) (mine ∙ sym known)
    ]

same_map : {A B : Type 0} (f g : A → B) (xs : List A) → ((n : ℕ) (x : A) → slice_get xs n ≡ Some x → f x ≡ g x) → map f xs ≡ map g xs
same_map f g [] each = refl
same_map f g (x ∷ xs) each = ap (λ y. y ∷ map f xs) (each 0 x refl) ∙ ap (λ ys. g x ∷ ys) (same_map f g xs (λ n y e. each (suc n) y e))

pub trees_are : (d : Outline) → IsOutline d
    → map (drafted_tree d) (roots_in (map listed_file d.files)) ≡ map (tree_at d.piece_length (pairs_of_layers d.layers)) (roots_in (map listed_file d.files))
trees_are d o = same_map (drafted_tree d) (tree_at d.piece_length (pairs_of_layers d.layers)) (roots_in (map listed_file d.files)) (tree_is d o)
