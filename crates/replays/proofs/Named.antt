-- The trees of a torrent's files, and of a message's blocks.
use Rattle.std.proofs.Common.{◌≡◌, ◌⊎◌, ℕ, ◌<◌, ◌≤◌, List, length, Option, Some, None, IfSome, inl, inr, refl, get_or, sym, ap, ◌∙◌, arith}
use Rattle.std.specs.Prelude.{slice_get}
use Rattle.std.proofs.lemmas.List.{length-map}
use Rattle.std.proofs.lemmas.Option.{none-some, slice_get_cases, slice_get_within}
use Rattle.opening.specs.Description.{Description, FileEntry}
use Rattle.opening.specs.Sound.{IsSound}
use Rattle.session.specs.Blocks.{BlocksSeen}
use Rattle.session.specs.Layouts.{SessionSeen, root_of_entry, roots, tree_number}
use Rattle.replays.specs.Held.{IsRunOf}

-- a file's tree is one of the torrent's
pub tree-there : (d : Description) (file : ℕ) (r : Option ℕ) → IsSound d → file < length d.files
    → ((f : FileEntry) → slice_get d.files file ≡ Some f → r ≡ f.tree) → IfSome r (λ n. n < length d.trees)
tree-there d file None sound inside is = tt
tree-there d file (Some n) sound inside is = by (slice_get_cases d.files file).1
  where
    by : ((f : FileEntry) × (file < length d.files) × (slice_get d.files file ≡ Some f) × (get_or d.files file f ≡ f))
        ⊎ ((length d.files ≤ file) × (slice_get d.files file ≡ None))
        → n < length d.trees
    by (inl (f, low, at, same)) =
        let (e, there, long) = (sound.files file f at).tree_there n (sym (is f at)) in
        slice_get_within d.trees n e there
    by (inr (past, none)) = absurd (omega (arith, past, inside))

-- a file that has a tree is there
pub file-there : (d : Description) (file n : ℕ) → tree_number (slice_get d.files file) ≡ Some n → file < length d.files
file-there d file n has = by (slice_get d.files file) refl has
  where
    by : (o : Option FileEntry) → slice_get d.files file ≡ o → tree_number o ≡ Some n → file < length d.files
    by None at has = absurd (none-some n has)
    by (Some f) at has = slice_get_within d.files file f at

-- the tree of a message's blocks is one of the torrent's
pub run-there : {S : SessionSeen} {v : BlocksSeen} {bytes : List ℕ} {n : ℕ} → IsRunOf S v bytes n → n < length S.torrent.trees
run-there {S} {v} {bytes} {n} run = omega (arith, slice_get_within (roots S) n run.tree run.is_tree, length-map S.torrent.trees root_of_entry)
