-- The walks of a file tree are paths that stay inside a folder.
use Rattle.std.proofs.Common.{◌≡◌, ◌≢◌, ℕ, zero, suc, ◌+◌, ◌-◌, ◌<◌, ◌≤◌, true, false, not, ◌&&◌, List, [], ◌∷◌, ◌++◌, length, map, Option, Some, None}
use Rattle.std.proofs.Common.{slice_get, inl, inr, sym, ap, subst, ◌∙◌, arith}
use Rattle.std.proofs.lemmas.Bool.{not-true}
use Rattle.benc.specs.Text.{Fits, PairsFit}
use Rattle.benc.specs.Value.{Bencode, int, text, list, dict, Pairs, no_pairs, pair}
use Rattle.filetree.specs.FileTree.{HasBadPath, HasBadPathIn, Walk, below, is_dict, is_directory, is_file, is_nil, is_node, walks, walks_in}
use Rattle.filetree.specs.Paths.{IsComponent, IsFilePath, LeadsToFile}
use Rattle.filetree.proofs.Ascending.{under_fits}
use Rattle.filetree.proofs.Bytes.{true_or_false}
use Rattle.filetree.proofs.Paths.{Has, each_leads, has_at, has_below, has_split}
use Rattle.filetree.proofs.ComparedKeys.{and_both, or_one}

-- ---- how long a path is

is_dict_then : (room : ℕ) (v : Bencode) → is_dict v ≡ true → Fits room v → 0 < room
is_dict_then room (int z) is fits = cc
is_dict_then room (text s) is fits = cc
is_dict_then room (list vs) is fits = cc
is_dict_then room (dict ps) is fits = fits.0

-- each component of a path takes a dictionary, and so does the file behind it
leads_deep : (room : ℕ) (before : Option (List ℕ)) (ps : Pairs) (path : List (List ℕ)) (file : Bencode) → PairsFit room before ps → LeadsToFile ps path file
    → is_dict file ≡ true
    → length path + 1 ≤ room
leads_deep room before ps [] file fits leads is = let some : 0 < room = is_dict_then room file is (under_fits room before [] ps file fits leads) in
    omega (arith, some)
leads_deep room before ps (k ∷ ks) file fits leads is =
    let inner : Fits room (dict leads.0) = under_fits room before k ps (dict leads.0) fits leads.2 in
    let rest : length ks + 1 ≤ room - 1 = leads_deep (room - 1) None leads.0 ks file inner.1 leads.3 is in
    omega (arith, rest, inner.0)

-- ---- what stands at the end of a walk

file_is : (ps : Pairs) (w : Walk) → is_file ps ≡ true → Has (walks ps) w → is_dict w.file ≡ true
file_is no_pairs w is h = cc
file_is (pair k v no_pairs) w is h =
    let both : (is_nil k ≡ true) × (is_dict v ≡ true) = and_both (is_nil k) (is_dict v) is in
    let here : Has (record { path = []; file = v } ∷ []) w = rw both.0 at h in
    elim here [ inl e ↦ subst (λ (x : Walk). is_dict x.file ≡ true) e both.1 | inr none ↦ absurd none ]
file_is (pair k v (pair l x ps)) w is h = cc

mutual
  -- a walk of a directory has a component, and leads to a dictionary
  directory_walk : (ps : Pairs) (w : Walk) → is_directory ps ≡ true → Has (walks ps) w → (w.path ≢ []) × (is_dict w.file ≡ true)
  directory_walk no_pairs w d h = absurd h
  directory_walk (pair k v ps) w d h =
      let parts : (not (is_nil k) && is_node v ≡ true) × (is_directory ps ≡ true) = and_both (not (is_nil k) && is_node v) (is_directory ps) d in
      let inner : (not (is_nil k) ≡ true) × (is_node v ≡ true) = and_both (not (is_nil k)) (is_node v) parts.0 in
      let some : is_nil k ≡ false = not-true (is_nil k) inner.0 in
      let here : Has (map (below k) (walks_in v) ++ walks ps) w = rw some at h in
      elim (has_split (map (below k) (walks_in v)) (walks ps) w here) [
        | inl front ↦
            let deeper = has_below k (walks_in v) w front in (
              (λ none. let bad : k ∷ deeper.0.path ≡ [] = ap (λ (x : Walk). x.path) deeper.2 ∙ none in cc),
              subst (λ (x : Walk). is_dict x.file ≡ true) deeper.2 (node_walk v deeper.0 inner.1 deeper.1),
            )
        | inr later ↦ directory_walk ps w parts.1 later
      ]

  node_walk : (v : Bencode) (w : Walk) → is_node v ≡ true → Has (walks_in v) w → is_dict w.file ≡ true
  node_walk (int z) w node h = absurd h
  node_walk (text s) w node h = absurd h
  node_walk (list vs) w node h = absurd h
  node_walk (dict ps) w node h =
      elim (or_one (is_file ps) (is_directory ps) node) [
        | inl file ↦ file_is ps w file h
        | inr d ↦ (directory_walk ps w d h).1
      ]

-- ---- components

one_more : (k : List ℕ) (path : List (List ℕ)) → IsComponent k → ((n : ℕ) (l : List ℕ) → slice_get path n ≡ Some l → IsComponent l)
    → (n : ℕ) (l : List ℕ) → slice_get (k ∷ path) n ≡ Some l → IsComponent l
one_more k path good rest zero l at = let same : k ≡ l = cc in subst IsComponent same good
one_more k path good rest (suc n) l at = rest n l at

mutual
  good_walk : (ps : Pairs) (w : Walk) → (HasBadPath ps → ⊥) → Has (walks ps) w → (n : ℕ) (k : List ℕ) → slice_get w.path n ≡ Some k → IsComponent k
  good_walk no_pairs w good h n l at = absurd h
  good_walk (pair k v ps) w good h n l at =
      elim (true_or_false (is_nil k)) [
        | inl nil ↦
            let here : Has (record { path = []; file = v } ∷ [] ++ walks ps) w = rw nil at h in
            elim (has_split (record { path = []; file = v } ∷ []) (walks ps) w here) [
              | inl front ↦ elim front [
                | inl e ↦ let none : slice_get [] n ≡ Some l = subst (λ (x : Walk). slice_get x.path n ≡ Some l) (sym e) at in cc
                | inr none ↦ absurd none
              ]
              | inr later ↦ good_walk ps w (λ bad. good (inr bad)) later n l at
            ]
        | inr some ↦
            let here : Has (map (below k) (walks_in v) ++ walks ps) w = rw some at h in
            elim (has_split (map (below k) (walks_in v)) (walks ps) w here) [
              | inl front ↦
                  let deeper = has_below k (walks_in v) w front in
                  let there : slice_get (k ∷ deeper.0.path) n ≡ Some l = subst (λ (x : Walk). slice_get x.path n ≡ Some l) (sym deeper.2) at in
                  one_more k deeper.0.path (some, (λ bad. good (inl (some, inl bad)))) (good_node v deeper.0 (λ bad. good (inl (some, inr bad))) deeper.1) n l
                  there
              | inr later ↦ good_walk ps w (λ bad. good (inr bad)) later n l at
            ]
      ]

  good_node : (v : Bencode) (w : Walk) → (HasBadPathIn v → ⊥) → Has (walks_in v) w → (n : ℕ) (k : List ℕ) → slice_get w.path n ≡ Some k → IsComponent k
  good_node (int z) w good h n l at = absurd h
  good_node (text s) w good h n l at = absurd h
  good_node (list vs) w good h n l at = absurd h
  good_node (dict ps) w good h n l at = good_walk ps w good h n l at

pub walks_are_safe : (ps : Pairs) → Fits 126 (dict ps) → is_directory ps ≡ true → (HasBadPath ps → ⊥) → (n : ℕ) (w : Walk) → slice_get (walks ps) n ≡ Some w
    → IsFilePath w.path
walks_are_safe ps fits d good n w at =
    let h : Has (walks ps) w = has_at (walks ps) n w at in
    let known = directory_walk ps w d h in
    let deep : length w.path + 1 ≤ 125 = leads_deep 125 None ps w.path w.file fits.1 (each_leads 125 None ps w fits.1 h) known.1 in
    record { some = known.0; short = omega (arith, deep); components = good_walk ps w good h }
