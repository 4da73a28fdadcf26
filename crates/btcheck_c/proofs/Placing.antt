-- The blocks of a message are blocks of a tree.
use Rattle.std.proofs.Common.{◌≡◌, ℕ, ◌+◌, ◌*◌, ◌^◌, ◌<◌, ◌≤◌, List, length, map, Option, Some, None, refl, sym, ap, ◌∙◌, subst, arith}
use Rattle.std.specs.Prelude.{slice_get, option_map}
use Rattle.std.proofs.lemmas.List.{length-map}
use Rattle.std.proofs.lemmas.Option.{none-some, same_Some, slice_get-map, slice_get_within}
use Rattle.hashtree.specs.Tree.{block_count}
use Rattle.opening.specs.Description.{Description, FileEntry, TreeEntry}
use Rattle.opening.specs.Sound.{IsSound}
use Rattle.partial_tree.specs.TreeRoot.{TreeRoot}
use Rattle.session.specs.Blocks.{BlocksSeen}
use Rattle.session.specs.Layouts.{SessionSeen, roots, root_of_entry, tree_number}
use Rattle.session.specs.Session.{AreTaken}
use Rattle.session.proofs.MessageBlocks.{run-offset}
use Rattle.holdings.specs.Holding.{IsTreeBlock}
use Rattle.btcheck_c.specs.Held.{AreBlocksPlaced}

-- a message that was taken has its blocks in its file's tree, also afterwards
pub taken_placed : (S S' : SessionSeen) (index begin : ℕ) (bytes : List ℕ) (v : BlocksSeen) → S'.torrent ≡ S.torrent
    → AreTaken S index begin bytes v S' → AreBlocksPlaced S' v (length bytes)
taken_placed S S' index begin bytes v same taken = record {
  number = taken.in_file.tree_number;
  tree = taken.in_file.tree;
  of_file = ap (λ (d : Description). tree_number (slice_get d.files v.file)) same ∙ taken.in_file.of_file;
  there = ap (λ (d : Description). slice_get (map root_of_entry d.trees) taken.in_file.tree_number) same ∙ taken.in_file.is_tree.tree_is;
  run = taken.run;
}

module _ (S : SessionSeen) (v : BlocksSeen) (size : ℕ) (p : AreBlocksPlaced S v size) where
  -- the file's entry, which has the tree
  pub file_entry_there : (f : FileEntry) × (slice_get S.torrent.files v.file ≡ Some f) × (f.tree ≡ Some p.number)
  file_entry_there = found (slice_get S.torrent.files v.file) refl p.of_file
    where
      found : (o : Option FileEntry) → slice_get S.torrent.files v.file ≡ o → tree_number o ≡ Some p.number
          → (f : FileEntry) × (slice_get S.torrent.files v.file ≡ Some f) × (f.tree ≡ Some p.number)
      found None is none = absurd (none-some p.number none)
      found (Some f) is tree = (f, is, tree)

  -- the number that is found for the file's tree
  pub number_is : (d : Description) (q : ℕ × ℕ) (found : Option ℕ) (n : ℕ) → d ≡ S.torrent → q ≡ (v.file, v.first + 0)
      → ((f : FileEntry) → slice_get d.files q.0 ≡ Some f → found ≡ f.tree) → found ≡ Some n → n ≡ p.number
  number_is d q found n same at gives is =
      let f = file_entry_there in
      let there : slice_get d.files q.0 ≡ Some f.0 =
      ap (λ (e : Description). slice_get e.files q.0) same ∙ ap (λ (x : ℕ × ℕ). slice_get S.torrent.files x.0) at ∙ f.1 in
      same_Some n p.number (sym is ∙ gives f.0 there ∙ f.2)

  pub tree_inside : p.number < length S.torrent.trees
  tree_inside = omega (arith, slice_get_within (roots S) p.number p.tree p.there, length-map S.torrent.trees root_of_entry)

  -- entry m is a block of the tree, and its bytes are there
  pub entry_block : (m : ℕ) → m < length v.refusals → IsTreeBlock S p.number (v.first + m)
  entry_block m low t there =
      subst (λ (x : TreeRoot). v.first + m < block_count x.length) (same_Some p.tree t (sym p.there ∙ there)) (omega (arith, p.run.inside, low))

  pub entry_bytes : (m : ℕ) → m < length v.refusals → 16384 * m ≤ size
  entry_bytes m low = run-offset p.tree.length v.first size (length v.refusals) m p.run low

  -- the numbers of the blocks are of 64 bits
  pub few_blocks : IsSound S.torrent → v.first + length v.refusals < 2 ^ 64
  few_blocks sound = low (slice_get S.torrent.trees p.number) refl
    where
      low : (o : Option TreeEntry) → slice_get S.torrent.trees p.number ≡ o → v.first + length v.refusals < 2 ^ 64
      low None is = absurd (none-some p.tree (ap (option_map root_of_entry) (sym is) ∙ sym (slice_get-map root_of_entry S.torrent.trees p.number) ∙ p.there))
      low (Some e) is =
          let same : root_of_entry e ≡ p.tree =
          same_Some (root_of_entry e) p.tree (ap (option_map root_of_entry) (sym is) ∙ sym (slice_get-map root_of_entry S.torrent.trees p.number) ∙ p.there) in
          let length_is : e.length ≡ p.tree.length = ap (λ (t : TreeRoot). t.length) same in
          omega (arith, (sound.trees p.number e is).bound, length_is, p.run.inside)
