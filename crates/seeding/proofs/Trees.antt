-- A file and its tree, where a torrent's files and trees are looked at.
use Rattle.std.proofs.Common.{◌≡◌, ℕ, ◌<◌, List, length, map, get_or, Some, option_map, sym, ap, ◌∙◌, subst, arith}
use Rattle.std.specs.Prelude.{slice_get}
use Rattle.std.proofs.lemmas.List.{length-map}
use Rattle.std.proofs.lemmas.Option.{same_Some, slice_get-get_or, slice_get-map}
use Rattle.opening.specs.Description.{Description, FileEntry, TreeEntry}
use Rattle.opening.specs.Seen.{file_entry, tree_entry}
use Rattle.opening.specs.Sound.{IsSound}
use Rattle.opening.specs.declared.torrent.File.{File}
use Rattle.opening.specs.declared.torrent.TreeInfo.{TreeInfo}
use Rattle.opening.proofs.Placing.{file_there}
use Rattle.folders.specs.Verdicts.{IsFileOf}
use Rattle.folders.proofs.Places.{tree_inside}
use Rattle.seeding.specs.Passing.{IsOwnTree}

-- the file with this number
pub same_file : (t : Description) (files : List File) (n : ℕ) (file : File) (f : FileEntry) → map file_entry files ≡ t.files → n < length t.files
    → file ≡ get_or files n file → slice_get t.files n ≡ Some f → f ≡ file_entry file
same_file t files n file f is lt at there =
    same_Some f (file_entry file) (sym there ∙ file_there t files n file is (omega (arith, lt, ap length is, length-map files file_entry)) at)

pub found_tree : (t : Description) (f : FileEntry) (n : ℕ) (trees : List TreeInfo) (d : TreeInfo) → map tree_entry trees ≡ t.trees → IsSound t → IsFileOf t f
    → f.tree ≡ Some n → (n < length trees) × IsOwnTree t f n (tree_entry (get_or trees n d))
found_tree t f n trees d is sound file at =
    let fine = sound.files file.0 f file.1 in
    let inside = tree_inside t f n trees is fine at in
    let e : TreeEntry = tree_entry (get_or trees n d) in
    let there : slice_get t.trees n ≡ Some e =
    ap (λ l. slice_get l n) (sym is) ∙ slice_get-map tree_entry trees n ∙ ap (option_map tree_entry) (slice_get-get_or trees n d inside) in
    let tree = fine.tree_there n at in
    let same : tree.0 ≡ e = same_Some tree.0 e (sym tree.1 ∙ there) in
    let good = sound.trees n e there in
    (inside, record { number_is = at; there = there; same = subst (λ (x : TreeEntry). x.length ≡ f.length) same tree.2; some = good.some; small = good.bound })
