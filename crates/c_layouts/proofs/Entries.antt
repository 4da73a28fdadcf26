-- The statuses of the blocks of a piece message, and the files and trees of a torrent.
use Rattle.std.proofs.Common.{◌≡◌, ℕ, ◌+◌, ◌-◌, ◌<◌, List, [], ◌∷◌, ◌++◌, length, map, replicate, take, drop, set, get_or, Option, Some, None}
use Rattle.std.proofs.Common.{refl, sym, ap, ap₂, ◌∙◌, arith}
use Rattle.std.specs.Prelude.{IfSome, slice_get, option_map}
use Rattle.std.proofs.lemmas.List.{drop-drop, drop-replicate, drop-set-lt, length-map, map-append, take_more, take_more_set}
use Rattle.std.proofs.lemmas.Option.{get_or_from_slice_get, slice_get-get_or, slice_get-map, slice_get_within}
use Rattle.opening.specs.Description.{Description, FileEntry, TreeEntry}
use Rattle.opening.specs.Seen.{tree_entry}
use Rattle.opening.specs.Sound.{IsSoundFile}
use Rattle.opening.specs.declared.torrent.TreeInfo.{TreeInfo}
use Rattle.partial_tree.specs.declared.refusal.BlockRefusal.{BlockRefusal}
use Rattle.c_layouts.specs.Blocks.{entry_status}

-- the status of one more entry goes to its place
pub statuses_next : (refusals : List (Option BlockRefusal)) (statuses : List ℕ) (m status : ℕ) (r : Option BlockRefusal)
    → slice_get refusals m ≡ Some r → status ≡ entry_status r → m < length statuses → take m statuses ≡ map entry_status (take m refusals)
    → take (m + 1) (set statuses m status) ≡ map entry_status (take (m + 1) refusals)
statuses_next refusals statuses m status r there is room so_far =
    let next : take (m + 1) refusals ≡ take m refusals ++ r ∷ [] =
    take_more refusals m r (slice_get_within refusals m r there)
    ∙ ap (λ x. take m refusals ++ x ∷ []) (get_or_from_slice_get refusals m r r there) in
    take_more_set statuses m status room ∙ ap₂ (λ xs x. xs ++ x ∷ []) so_far is
    ∙ sym (map-append entry_status (take m refusals) (r ∷ [])) ∙ ap (map entry_status) (sym next)

-- and the other places stay
pub rest_next : (statuses : List ℕ) (m status : ℕ) → drop m statuses ≡ replicate (17 - m) 5 → drop (m + 1) (set statuses m status) ≡ replicate (17 - (m + 1)) 5
rest_next statuses m status so_far =
    drop-set-lt (m + 1) statuses m status (omega arith) ∙ sym (drop-drop 1 m statuses) ∙ ap (drop 1) so_far ∙ drop-replicate 1 (17 - m) 5
    ∙ ap (λ n. replicate n 5) (omega arith)

-- what is written of the tree at an index
pub tree_there : (d : Description) (infos : List TreeInfo) (n : ℕ) (x : TreeInfo) → map tree_entry infos ≡ d.trees → n < length d.trees
    → (e : TreeEntry) × (slice_get d.trees n ≡ Some e) × ((get_or infos n x).root ≡ e.root)
tree_there d infos n x are low =
    let inside : n < length infos = omega (arith, low, ap length are, length-map infos tree_entry) in
    let there : slice_get d.trees n ≡ Some (tree_entry (get_or infos n x)) =
    ap (λ ts. slice_get ts n) (sym are) ∙ slice_get-map tree_entry infos n
    ∙ ap (option_map tree_entry) (slice_get-get_or infos n x inside) in
    (tree_entry (get_or infos n x), there, refl)

-- the tree of a file is one of the torrent's
pub tree_inside : (d : Description) (f : FileEntry) → IsSoundFile d f → IfSome f.tree (λ n. n < length d.trees)
tree_inside d f sound = inside f.tree refl
  where
    inside : (o : Option ℕ) → f.tree ≡ o → IfSome o (λ n. n < length d.trees)
    inside None is = tt
    inside (Some n) is = let tree = sound.tree_there n is in slice_get_within d.trees n tree.0 tree.1
