-- The trees of a torrent whose rows do not hold: lengths, roots, and layers in range.
use Rattle.std.proofs.Common.{◌≡◌, ℕ, zero, suc, ◌+◌, ◌*◌, ◌^◌, ◌<◌, ◌≤◌, Bool, true, false, not, nat_lt, nat_le, is_none, List, [], ◌∷◌, ◌++◌, length, take}
use Rattle.std.proofs.Common.{drop, map, Option, Some, None, option_map, inl, inr, ◌⊎◌, refl, sym, ap, subst, ◌∙◌, arith, slice_get, codes}
use Rattle.std.specs.Prelude.{fold, option_and_then, unwrap_or, pos, negsuc}
use Rattle.std.specs.List.{list_any}
use Rattle.std.specs.Simd.{first_chunks}
use Rattle.std.specs.Str.{bytes_eq}
use Rattle.std.proofs.lemmas.Bool.Decides.{eqb_tells}
use Rattle.std.proofs.Math.Nat.{mul-suc}
use Rattle.std.proofs.lemmas.List.{length-drop, length-take-le}
use Rattle.std.proofs.lemmas.Option.{slice_get-map}
use Rattle.std.proofs.lemmas.Bool.{not-false}
use Rattle.benc.specs.Value.{Bencode, int, text, list, dict, Pairs}
use Rattle.filetree.proofs.Bytes.{same_bytes, true_or_false}
use Rattle.opening.specs.Description.{TreeEntry}
use Rattle.filetree.specs.Dictionary.{get, under}
use Rattle.filetree.specs.FileTree.{Walk, as_length, as_root, length_of, file_of_walk, lacks_root, root_at}
use Rattle.filetree.specs.declared.files.ListedFile.{ListedFile}
use Rattle.opening.specs.PieceLayers.{as_digests, layer_at, leads_to, lacks_size, mismatches, tree_at}
use Rattle.opening.specs.Rooted.{AreRoots}
use Rattle.opening.specs.Sound.{IsSoundTree}
use Rattle.opening.specs.Trees.{IsIn, place_in, roots_in, with_file, with_root}
use Rattle.opening.specs.declared.roots.Root.{Root}
use Rattle.pieces.specs.Pieces.{pieces_of}
use Rattle.opening.proofs.Rooting.{place_push_new, place_push_there, with_cases}

-- ---- files

-- a file's length and root are in range, and one that is not empty has a root
pub record IsSized (f : ListedFile) : Type 0 where
  pub bound : f.length ≤ 2 ^ 46
  pub some : (s : List ℕ) → f.root ≡ Some s → (0 < f.length) × (length s ≡ 32)
  pub none : f.root ≡ None → f.length ≡ 0

as_length_bound : (v : Bencode) (n : ℕ) → as_length v ≡ Some n → n ≤ 2 ^ 46
as_length_bound (int (pos m)) n is = by_test (nat_le m (2 ^ 46)) refl
  where
    by_test : (b : Bool) → nat_le m (2 ^ 46) ≡ b → n ≤ 2 ^ 46
    by_test true e = let one : Some m ≡ Some n = rw e at is in let same : m ≡ n = cc in grind (arith, e, same)
    by_test false e = let none : None ≡ Some n = rw e at is in cc
as_length_bound (int (negsuc m)) n is = cc
as_length_bound (text s) n is = cc
as_length_bound (list vs) n is = cc
as_length_bound (dict ps) n is = cc

and_then_bound : (o : Option Bencode) → unwrap_or (option_and_then as_length o) 0 ≤ 2 ^ 46
and_then_bound None = omega arith
and_then_bound (Some v) = or_bound (as_length v) refl
  where
    or_bound : (o : Option ℕ) → as_length v ≡ o → unwrap_or (as_length v) 0 ≤ 2 ^ 46
    or_bound None is = rw is (omega arith)
    or_bound (Some n) is = rw is (as_length_bound v n is)

as_root_length : (v : Bencode) (s : List ℕ) → as_root v ≡ Some s → length s ≡ 32
as_root_length (int z) s is = cc
as_root_length (text t) s is = elim (eqb_tells (length t) 32) [
  | inl (e, same) ↦ let one : Some t ≡ Some s = rw e at is in let text : t ≡ s = cc in ap length (sym text) ∙ same
  | inr (e, differs) ↦ let none : None ≡ Some s = rw e at is in cc
]
as_root_length (list vs) s is = cc
as_root_length (dict ps) s is = cc

root_length : (o : Option Bencode) (s : List ℕ) → option_and_then as_root o ≡ Some s → length s ≡ 32
root_length None s is = cc
root_length (Some v) s is = as_root_length v s is

sized : (w : Walk) → lacks_root w.file ≡ false → IsSized (file_of_walk w)
sized w lacks = by_test (nat_lt 0 (length_of w.file)) refl
  where
    by_test : (b : Bool) → nat_lt 0 (length_of w.file) ≡ b → IsSized (file_of_walk w)
    by_test true e = record {
      bound = and_then_bound (get (codes "length") w.file);
      some = λ s is. (grind (arith, e), root_length (get (codes "pieces root") w.file) s (let at : root_at w.file ≡ Some s = rw e at is in at));
      none = λ is.
          let at : root_at w.file ≡ None = rw e at is in
          let bad : is_none (root_at w.file) ≡ false = rw e at lacks in
          let good : is_none (root_at w.file) ≡ true = ap is_none at in cc;
    }
    by_test false e = record {
      bound = and_then_bound (get (codes "length") w.file);
      some = λ s is. let none : None ≡ Some s = rw e at is in let bad : ⊥ = cc in absurd bad;
      none = λ is. grind (arith, e);
    }

none_any : {X : Type 0} (p : X → Bool) (xs : List X) (k : ℕ) (x : X) → list_any p xs ≡ false → slice_get xs k ≡ Some x → p x ≡ false
none_any p [] k x none at = cc
none_any p (y ∷ ys) zero x none at = elim (true_or_false (p y)) [
  | inl here ↦ let bad : true ≡ false = rw here at none in cc
  | inr other ↦ let same : y ≡ x = cc in subst (λ z. p z ≡ false) same other
]
none_any p (y ∷ ys) (suc k) x none at = elim (true_or_false (p y)) [
  | inl here ↦ let bad : true ≡ false = rw here at none in cc
  | inr other ↦ let rest : list_any p ys ≡ false = rw other at none in none_any p ys k x rest at
]

mapped_at : (o : Option Walk) (f : ListedFile) → option_map file_of_walk o ≡ Some f → (w : Walk) × (o ≡ Some w) × (file_of_walk w ≡ f)
mapped_at None f is = cc
mapped_at (Some w) f is = let same : file_of_walk w ≡ f = cc in (w, refl, same)

pub all_sized : (ws : List Walk) → list_any (λ w. lacks_root w.file) ws ≡ false → (f : ListedFile) → IsIn (map file_of_walk ws) f → IsSized f
all_sized ws none f there =
    let at = mapped_at (slice_get ws there.0) f (sym (slice_get-map file_of_walk ws there.0) ∙ there.1) in
    subst IsSized at.2 (sized at.0 (none_any (λ (w : Walk). lacks_root w.file) ws there.0 at.0 none at.1))

-- ---- trees

-- each root has the place at which it stands
abbrev ArePlaced : List Root → Type 0
ArePlaced ts = (n : ℕ) (t : Root) → slice_get ts n ≡ Some t → place_in ts t.root ≡ Some n

pub push_at : {A : Type 0} (xs : List A) (y : A) (n : ℕ) (x : A) → slice_get (xs ++ y ∷ []) n ≡ Some x → (slice_get xs n ≡ Some x) ⊎ ((y ≡ x) × (length xs ≡ n))
push_at [] y zero x at = let same : y ≡ x = cc in inr (same, refl)
push_at [] y (suc n) x at = cc
push_at (z ∷ xs) y zero x at = inl at
push_at (z ∷ xs) y (suc n) x at = elim (push_at xs y n x at) [ inl old ↦ inl old | inr new ↦ inr (new.0, ap suc new.1) ]

placed_push : (ts : List Root) (t : Root) → ArePlaced ts → place_in ts t.root ≡ None → ArePlaced (ts ++ t ∷ [])
placed_push ts t placed none n u at = elim (push_at ts t n u at) [
  | inl old ↦ place_push_there ts t u.root n (placed n u old)
  | inr new ↦ subst (λ (v : Root). place_in (ts ++ t ∷ []) v.root ≡ Some n) new.0 (place_push_new ts t t.root none refl ∙ ap Some new.1)
]

placed_with : (ts : List Root) (size : ℕ) (o : Option (List ℕ)) → ArePlaced ts → ArePlaced (with_root ts size o)
placed_with ts size None placed = placed
placed_with ts size (Some s) placed = elim (with_cases ts size s) [
  | inl same ↦ subst ArePlaced (sym same) placed
  | inr new ↦ subst ArePlaced (sym new.1) (placed_push ts (record { root = s; length = size }) placed new.0)
]

placed_fold : (ts : List Root) (fs : List ListedFile) → ArePlaced ts → ArePlaced (fold with_file ts fs)
placed_fold ts [] placed = placed
placed_fold ts (f ∷ fs) placed = placed_fold (with_file ts f) fs (placed_with ts f.length f.root placed)

none_placed : ArePlaced []
none_placed n t at = cc

roots_placed : (fs : List ListedFile) → ArePlaced (roots_in fs)
roots_placed fs = placed_fold [] fs none_placed

pub tree_there : (k : ℕ) (layers : Pairs) (ts : List Root) (n : ℕ) (e : TreeEntry) → slice_get (map (tree_at k layers) ts) n ≡ Some e
    → (t : Root) × (slice_get ts n ≡ Some t) × (tree_at k layers t ≡ e)
tree_there k layers [] n e at = cc
tree_there k layers (t ∷ ts) zero e at = let same : tree_at k layers t ≡ e = cc in (t, refl, same)
tree_there k layers (t ∷ ts) (suc n) e at = tree_there k layers ts n e at

-- no two trees have one root
pub roots_differ : (k : ℕ) (layers : Pairs) (fs : List ListedFile) (n m : ℕ) (a b : TreeEntry) → slice_get (map (tree_at k layers) (roots_in fs)) n ≡ Some a
    → slice_get (map (tree_at k layers) (roots_in fs)) m ≡ Some b → a.root ≡ b.root → n ≡ m
roots_differ k layers fs n m a b at_a at_b same =
    let one = tree_there k layers (roots_in fs) n a at_a in
    let other = tree_there k layers (roots_in fs) m b at_b in
    let root : one.0.root ≡ other.0.root = ap (λ (e : TreeEntry). e.root) one.2 ∙ same ∙ ap (λ (e : TreeEntry). e.root) (sym other.2) in
    let places : Some n ≡ Some m = sym (roots_placed fs n one.0 one.1) ∙ ap (place_in (roots_in fs)) root ∙ roots_placed fs m other.0 other.1 in cc

chunks_count : {X : Type 0} (width n : ℕ) (xs : List X) → length (first_chunks width n xs) ≡ n
chunks_count width zero xs = refl
chunks_count width (suc n) xs = ap suc (chunks_count width n (drop width xs))

chunk_length : (width n : ℕ) (xs : List ℕ) (i : ℕ) (h : List ℕ) → width * n ≤ length xs → slice_get (first_chunks width n xs) i ≡ Some h → length h ≡ width
chunk_length width zero xs i h le at = cc
chunk_length width (suc n) xs zero h le at =
    let same : take width xs ≡ h = cc in
    let step : width * suc n ≡ width * n + width = mul-suc width n in
    ap length (sym same) ∙ length-take-le width xs (omega (arith, le, step))
chunk_length width (suc n) xs (suc i) h le at =
    let step : width * suc n ≡ width * n + width = mul-suc width n in
    chunk_length width n (drop width xs) i h (omega (arith, le, step, length-drop width xs)) at

pub digests_count : (width n : ℕ) (v : Bencode) (hs : List (List ℕ)) → as_digests width n v ≡ Some hs → length hs ≡ n
digests_count width n (int z) hs is = cc
digests_count width n (text s) hs is = elim (eqb_tells (length s) (width * n)) [
  | inl (e, same) ↦ let one : Some (first_chunks width n s) ≡ Some hs = rw e at is in let chunks : first_chunks width n s ≡ hs = cc in ap length (sym chunks)
      ∙ chunks_count width n s
  | inr (e, differs) ↦ let none : None ≡ Some hs = rw e at is in cc
]
digests_count width n (list vs) hs is = cc
digests_count width n (dict ps) hs is = cc

digest_length : (width n : ℕ) (v : Bencode) (hs : List (List ℕ)) → as_digests width n v ≡ Some hs → (i : ℕ) (h : List ℕ) → slice_get hs i ≡ Some h
    → length h ≡ width
digest_length width n (int z) hs is i h at = cc
digest_length width n (text s) hs is i h at = elim (eqb_tells (length s) (width * n)) [
  | inl (e, same) ↦
      let one : Some (first_chunks width n s) ≡ Some hs = rw e at is in
      let chunks : first_chunks width n s ≡ hs = cc in
      chunk_length width n s i h (omega (arith, same)) (subst (λ ds. slice_get ds i ≡ Some h) (sym chunks) at)
  | inr (e, differs) ↦ let none : None ≡ Some hs = rw e at is in let bad : ⊥ = cc in absurd bad
]
digest_length width n (list vs) hs is i h at = cc
digest_length width n (dict ps) hs is i h at = cc

-- a layer that was found
record IsLayer (k : ℕ) (t : Root) (hs : List (List ℕ)) : Type 0 where
  count : length hs ≡ pieces_of k t.length
  hashes : (i : ℕ) (h : List ℕ) → slice_get hs i ≡ Some h → length h ≡ 32

layer_found : (k : ℕ) (t : Root) (o : Option Bencode) (hs : List (List ℕ)) → option_and_then (as_digests 32 (pieces_of k t.length)) o ≡ Some hs → IsLayer k t hs
layer_found k t None hs is = cc
layer_found k t (Some v) hs is = record { count = digests_count 32 (pieces_of k t.length) v hs is; hashes = digest_length 32 (pieces_of k t.length) v hs is }

sound_long : (k : ℕ) (layers : Pairs) (t : Root) (o : Option (List (List ℕ))) → layer_at k layers t ≡ o → nat_lt k t.length ≡ true
    → lacks_size k layers t ≡ false → mismatches k layers t ≡ false
    → 0 < t.length → t.length ≤ 2 ^ 46 → length t.root ≡ 32 → IsSoundTree k (tree_at k layers t)
sound_long k layers t None is long there leads some bound root =
    let bad : true ≡ false = rw (long, is) at there in cc
sound_long k layers t (Some hs) is long there leads some bound root =
    let layer = layer_found k t (under t.root layers) hs is in
    let e : (tree_at k layers t).layer ≡ hs = rw (long, is) refl in
    let same : not (bytes_eq (leads_to k t hs) t.root) ≡ false = rw (long, is) at leads in
    let root_is : leads_to k t hs ≡ t.root = same_bytes (leads_to k t hs) t.root (not-false (bytes_eq (leads_to k t hs) t.root) same) in
    record {
      some = some;
      bound = bound;
      root_length = root;
      hash_lengths = λ i h at. layer.hashes i h (subst (λ ds. slice_get ds i ≡ Some h) e at);
      no_layer = λ short. absurd (grind (arith, long, short));
      layer_length = λ _. ap length e ∙ layer.count;
      layer_root = λ _. ap (leads_to k t) e ∙ root_is;
    }

sound_short : (k : ℕ) (layers : Pairs) (t : Root) → nat_lt k t.length ≡ false → 0 < t.length → t.length ≤ 2 ^ 46 → length t.root ≡ 32
    → IsSoundTree k (tree_at k layers t)
sound_short k layers t short some bound root =
    let e : (tree_at k layers t).layer ≡ [] = rw short refl in
    record {
      some = some;
      bound = bound;
      root_length = root;
      hash_lengths = λ i h at. let none : slice_get [] i ≡ Some h = subst (λ ds. slice_get ds i ≡ Some h) e at in nothing i h none;
      no_layer = λ _. e;
      layer_length = λ long. absurd (grind (arith, short, long));
      layer_root = λ long. absurd (grind (arith, short, long));
    }
  where
    nothing : (i : ℕ) (h : List ℕ) → slice_get [] i ≡ Some h → length h ≡ 32
    nothing i h at = cc

pub sound_trees : (k : ℕ) (layers : Pairs) (fs : List ListedFile) → ((f : ListedFile) → IsIn fs f → IsSized f) → AreRoots fs (roots_in fs)
    → list_any (lacks_size k layers) (roots_in fs) ≡ false → list_any (mismatches k layers) (roots_in fs) ≡ false
    → (n : ℕ) (e : TreeEntry) → slice_get (map (tree_at k layers) (roots_in fs)) n ≡ Some e → IsSoundTree k e
sound_trees k layers fs sizes roots sized leading n e at =
    let there = tree_there k layers (roots_in fs) n e at in
    let t = there.0 in
    let used = roots.used n t there.1 in
    let file = sizes used.0 used.1 in
    let known = file.some t.root used.2 in
    let some : 0 < t.length = omega (arith, known.0, used.3) in
    let bound : t.length ≤ 2 ^ 46 = subst (λ m. m ≤ 2 ^ 46) used.3 file.bound in
    subst (IsSoundTree k) there.2 (elim (true_or_false (nat_lt k t.length)) [
      | inl long ↦ sound_long k layers t (layer_at k layers t) refl long (none_any (lacks_size k layers) (roots_in fs) n t sized there.1)
          (none_any (mismatches k layers) (roots_in fs) n t leading there.1) some bound known.1
      | inr short ↦ sound_short k layers t short some bound known.1
    ])
