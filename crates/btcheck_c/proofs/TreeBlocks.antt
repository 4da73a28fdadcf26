-- The trees of a torrent, and their blocks.
use Rattle.std.proofs.Common.{◌≡◌, ℕ, ◌<◌, List, map, Some, sym, ap, ◌∙◌, subst}
use Rattle.std.specs.Prelude.{slice_get, option_map}
use Rattle.std.proofs.lemmas.Option.{same_Some, slice_get-map}
use Rattle.hashtree.specs.Tree.{block_count}
use Rattle.opening.specs.Description.{Description, TreeEntry}
use Rattle.opening.specs.Seen.{tree_entry}
use Rattle.opening.specs.declared.torrent.TreeInfo.{TreeInfo}
use Rattle.btcheck_c.specs.Taken.{HasTreeBlock}

-- the tree at an index
pub tree_at : (d : Description) (infos : List TreeInfo) (n : ℕ) (info : TreeInfo) → map tree_entry infos ≡ d.trees → slice_get infos n ≡ Some info
    → slice_get d.trees n ≡ Some (tree_entry info)
tree_at d infos n info are there =
    ap (λ ts. slice_get ts n) (sym are) ∙ slice_get-map tree_entry infos n ∙ ap (option_map tree_entry) there

-- a block of a tree is one of its only entry
pub block_of : (d : Description) (n b : ℕ) (e : TreeEntry) → slice_get d.trees n ≡ Some e → HasTreeBlock d n b → b < block_count e.length
block_of d n b e there (e', there', inside) =
    subst (λ (x : TreeEntry). b < block_count x.length) (same_Some e' e (sym there' ∙ there)) inside
