-- The trees of a torrent, by their numbers.
use Rattle.std.proofs.Common.{◌≡◌, ℕ, ◌<◌, List, [], map, length, get_or, Some, sym, ap, ◌∙◌, arith}
use Rattle.std.specs.Prelude.{slice_get, option_map}
use Rattle.std.proofs.lemmas.Option.{slice_get-get_or, slice_get-map}
use Rattle.std.proofs.lemmas.List.{length-map}
use Rattle.opening.specs.Description.{Description, TreeEntry}
use Rattle.opening.specs.Seen.{tree_entry}
use Rattle.opening.specs.declared.torrent.TreeInfo.{TreeInfo}
use Rattle.session.specs.Layouts.{root_of_entry}

-- what stands past the last tree
abbrev pub no_info : TreeInfo
no_info = record { root = []; length = 0; layer = record { ref_ptr = (0, 0); now = [] } }

-- the tree at an index
pub entry_there : (d : Description) (infos : List TreeInfo) (n : ℕ) → map tree_entry infos ≡ d.trees → n < length d.trees
    → slice_get d.trees n ≡ Some (tree_entry (get_or infos n no_info))
entry_there d infos n are inside =
    let low : n < length infos = omega (arith, inside, ap length are, length-map infos tree_entry) in
    ap (λ ts. slice_get ts n) (sym are) ∙ slice_get-map tree_entry infos n ∙ ap (option_map tree_entry) (slice_get-get_or infos n no_info low)

-- and its root
pub root_at : (d : Description) (n : ℕ) (e : TreeEntry) → slice_get d.trees n ≡ Some e
    → slice_get (map root_of_entry d.trees) n ≡ Some (root_of_entry e)
root_at d n e there = slice_get-map root_of_entry d.trees n ∙ ap (option_map root_of_entry) there
