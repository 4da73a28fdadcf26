-- What sessions stand on, of the files and trees for which no test holds.
use Rattle.std.proofs.Common.{◌≡◌, ℕ, zero, suc, ◌+◌, ◌*◌, ◌^◌, ◌<◌, ◌≤◌, Bool, true, false, List, [], ◌∷◌, length}
use Rattle.std.proofs.Common.{map, Option, Some, None, option_map, refl, sym, ap, subst, ◌∙◌, slice_get, sum_by, codes}
use Rattle.std.specs.Prelude.{option_and_then, unwrap_or, if◌then◌else◌}
use Rattle.std.specs.List.{list_any}
use Rattle.std.proofs.lemmas.Option.{slice_get-map}
use Rattle.benc.specs.Value.{Bencode, dict, Pairs}
use Rattle.filetree.proofs.Bytes.{false_or_true}
use Rattle.opening.specs.Description.{Description, FileEntry, TreeEntry, Version1}
use Rattle.filetree.specs.Dictionary.{get}
use Rattle.filetree.specs.FileTree.{HasBadPath, Walk, is_directory, walks, file_of_walk}
use Rattle.filetree.specs.declared.files.ListedFile.{ListedFile}
use Rattle.opening.specs.PieceLayers.{as_digests, lacks_size, mismatches, tree_at}
use Rattle.opening.specs.Places.{AreLaidOut}
use Rattle.pieces.specs.Pieces.{IsPieceLength}
use Rattle.filetree.specs.Tests.{NoneHolds}
use Rattle.opening.specs.Refusals.{hybrid_rows, layer_rows}
use Rattle.opening.specs.Rooted.{AreRoots}
use Rattle.opening.specs.Trees.{entries_from}
use Rattle.filetree.specs.Paths.{AreInOrder, IsFilePath}
use Rattle.filetree.proofs.Paths.{walks_are_all}
use Rattle.filetree.proofs.Safe.{walks_are_safe}
use Rattle.benc.specs.Text.{Fits}
use Rattle.opening.specs.Sound.{IsSound, IsSoundFile, IsSoundTree}
use Rattle.opening.specs.Stream.{IsVersion1, is_hybrid, parts_in, stream_length, the_parts, version1_of}
use Rattle.opening.specs.Trees.{IsIn, pieces_in, place_in, roots_in}
use Rattle.opening.specs.declared.roots.Root.{Root}
use Rattle.pieces.specs.Pieces.{pieces_of}
use Rattle.opening.proofs.InStream.{hybrid_in_pieces, hybrid_in_stream}
use Rattle.opening.proofs.Listing.{are_files, entries_back, laid_out, sum_all}
use Rattle.opening.proofs.SoundTrees.{roots_differ, digests_count, sound_trees, IsSized}

-- ---- files and their trees

-- what holds of the paths of the files of a file tree
pub record ArePaths (fs : List ListedFile) : Type 0 where
  pub good : (n : ℕ) (f : ListedFile) → slice_get fs n ≡ Some f → IsFilePath f.path
  pub in_order : AreInOrder (map (λ (f : ListedFile). f.path) fs)

-- the walks of a file tree without fault have such paths
pub tree_paths : (tree : Pairs) (fs : List ListedFile) → Fits 126 (dict tree) → is_directory tree ≡ true → (HasBadPath tree → ⊥)
    → fs ≡ map file_of_walk (walks tree)
    → ArePaths fs
tree_paths tree fs fits shape good is =
    let all = walks_are_all 126 tree fits shape in
    record {
      good = λ n f at.
          let there = listed_there (walks tree) n f (subst (λ gs. slice_get gs n ≡ Some f) is at) in
          subst (λ (x : ListedFile). IsFilePath x.path) there.2 (walks_are_safe tree fits shape good n there.0 there.1);
      in_order = subst AreInOrder (sym (ap (map (λ (f : ListedFile). f.path)) is ∙ listed_paths (walks tree))) all.in_order;
    }
  where
    listed_there : (ws : List Walk) (n : ℕ) (f : ListedFile) → slice_get (map file_of_walk ws) n ≡ Some f
        → (w : Walk) × (slice_get ws n ≡ Some w) × (file_of_walk w ≡ f)
    listed_there [] n f at = cc
    listed_there (w ∷ ws) zero f at = let same : file_of_walk w ≡ f = cc in (w, refl, same)
    listed_there (w ∷ ws) (suc n) f at = listed_there ws n f at

    listed_paths : (ws : List Walk) → map (λ (f : ListedFile). f.path) (map file_of_walk ws) ≡ map (λ (w : Walk). w.path) ws
    listed_paths [] = refl
    listed_paths (w ∷ ws) = ap (λ ps. w.path ∷ ps) (listed_paths ws)

entry_paths : (p : ℕ) (ts : List Root) (first : ℕ) (fs : List ListedFile)
    → map (λ (f : FileEntry). f.path) (entries_from p ts first fs) ≡ map (λ (f : ListedFile). f.path) fs
entry_paths p ts first [] = refl
entry_paths p ts first (f ∷ fs) = ap (λ ps. f.path ∷ ps) (entry_paths p ts (first + pieces_of p f.length) fs)

some_entries : (p : ℕ) (ts : List Root) (fs : List ListedFile) → (fs ≡ [] → ⊥) → entries_from p ts 0 fs ≡ [] → ⊥
some_entries p ts [] some is = some refl
some_entries p ts (f ∷ fs) some is = cc

no_tree : (ts : List Root) (o : Option (List ℕ)) → ((s : List ℕ) → o ≡ Some s → (m : ℕ) × (place_in ts s ≡ Some m)) → option_and_then (place_in ts) o ≡ None
    → o ≡ None
no_tree ts None there none = refl
no_tree ts (Some s) there none = let at = there s refl in let bad : Some at.0 ≡ None = sym at.1 ∙ none in cc

a_tree : (ts : List Root) (o : Option (List ℕ)) (n : ℕ) → option_and_then (place_in ts) o ≡ Some n → (s : List ℕ) × (o ≡ Some s) × (place_in ts s ≡ Some n)
a_tree ts None n is = cc
a_tree ts (Some s) n is = (s, refl, is)

pub tree_of : (k : ℕ) (layers : Pairs) (ts : List Root) (n : ℕ) (t : Root) → slice_get ts n ≡ Some t
    → slice_get (map (tree_at k layers) ts) n ≡ Some (tree_at k layers t)
tree_of k layers ts n t there = slice_get-map (tree_at k layers) ts n ∙ ap (option_map (tree_at k layers)) there

pub sound_files : (k : ℕ) (layers : Pairs) (fs : List ListedFile) (t : Description) → ArePaths fs → t.trees ≡ map (tree_at k layers) (roots_in fs)
    → ((f : ListedFile) → IsIn fs f → IsSized f) → AreRoots fs (roots_in fs)
    → (n : ℕ) (e : FileEntry) → slice_get (entries_from k (roots_in fs) 0 fs) n ≡ Some e → IsSoundFile t e
sound_files k layers fs t paths trees sizes roots n e at =
    let back = entries_back k (roots_in fs) 0 fs n e at in
    let f = back.0 in
    let there : IsIn fs f = (n, back.2) in
    let known = sizes f there in
    let size : f.length ≡ e.length = ap (λ (x : FileEntry). x.length) back.3 in
    let tree : option_and_then (place_in (roots_in fs)) f.root ≡ e.tree = ap (λ (x : FileEntry). x.tree) back.3 in
    record {
      path = subst (λ (x : FileEntry). IsFilePath x.path) back.3 (paths.good n f back.2);
      bound = subst (λ m. m ≤ 2 ^ 46) size known.bound;
      tree_there = λ m is.
          let at_root = a_tree (roots_in fs) f.root m (tree ∙ is) in
          let root = roots.each f at_root.0 there at_root.1 in
          let places : Some root.number ≡ Some m = sym root.place ∙ at_root.2 in
          let number : root.number ≡ m = cc in
          let tree_is : slice_get (map (tree_at k layers) (roots_in fs)) m ≡ Some (tree_at k layers root.at) = tree_of k layers (roots_in fs) m root.at
          (subst (λ j. slice_get (roots_in fs) j ≡ Some root.at) number root.there) in
          (tree_at k layers root.at, subst (λ ts. slice_get ts m ≡ Some (tree_at k layers root.at)) (sym trees) tree_is, root.same ∙ size);
      no_tree = λ is. sym size ∙ known.none (no_tree (roots_in fs) f.root (λ s root. let at_root = roots.each f s there root in (at_root.number, at_root.place))
          (tree ∙ is));
    }

-- ---- the cuts of the version 1 stream

cuts_whole : (k n : ℕ) (o : Option Bencode) → (option_and_then (as_digests 20 (pieces_of k n)) o ≡ None → ⊥)
    → length (unwrap_or (option_and_then (as_digests 20 (pieces_of k n)) o) []) ≡ pieces_of k n
cuts_whole k n None some = absurd (some refl)
cuts_whole k n (Some v) some = by_digests (as_digests 20 (pieces_of k n) v) refl
  where
    by_digests : (o : Option (List (List ℕ))) → as_digests 20 (pieces_of k n) v ≡ o → length (unwrap_or (as_digests 20 (pieces_of k n) v) []) ≡ pieces_of k n
    by_digests None is = absurd (some is)
    by_digests (Some hs) is = ap (λ (d : Option (List (List ℕ))). length (unwrap_or d [])) is ∙ digests_count 20 (pieces_of k n) v hs is

pub cuts_of : (k : ℕ) (info : Bencode) (name : List ℕ) (fs : List ListedFile) (v : Version1) → NoneHolds (hybrid_rows k info name fs)
    → IsVersion1 k info name (Some v) → length v.pieces ≡ pieces_of k v.total
cuts_of k info name fs v rows is = by_kind (is_hybrid info) refl is
  where
    by_kind : (b : Bool) → is_hybrid info ≡ b → Some v ≡ (if b then Some (version1_of k (the_parts (parts_in info name)) info) else None)
        → length v.pieces ≡ pieces_of k v.total
    by_kind true e same =
        let part : version1_of k (the_parts (parts_in info name)) info ≡ v = cc in
        subst (λ (w : Version1). length w.pieces ≡ pieces_of k w.total) part
        (cuts_whole k (stream_length (the_parts (parts_in info name))) (get (codes "pieces") info) (λ none. rows.1.1.0 (e, none)))
    by_kind false e same = let bad : ⊥ = cc in absurd bad

-- ---- all of it

pub sound : (k : ℕ) (info : Bencode) (name : List ℕ) (layers : Pairs) (fs : List ListedFile) (t : Description) → IsPieceLength k → t.piece_length ≡ k
    → ArePaths fs → (fs ≡ [] → ⊥) → ((f : ListedFile) → IsIn fs f → IsSized f) → AreRoots fs (roots_in fs) → pieces_in k fs < 2 ^ 32
    → t.files ≡ entries_from k (roots_in fs) 0 fs → t.trees ≡ map (tree_at k layers) (roots_in fs) → NoneHolds (layer_rows k layers (roots_in fs))
    → NoneHolds (hybrid_rows k info name fs) → IsVersion1 k info name t.v1 → IsSound t
sound k info name layers fs t legal length_is paths some sizes roots pieces files trees layered hybrid version = record {
  legal = subst IsPieceLength (sym length_is) legal;
  roots_differ = λ n m a b at_a at_b. roots_differ k layers fs n m a b (in_trees n a at_a) (in_trees m b at_b);
  trees = λ n e at. subst (λ p. IsSoundTree p e) (sym length_is)
      (sound_trees k layers fs sizes roots (false_or_true (list_any (lacks_size k layers) (roots_in fs)) layered.1.0)
      (false_or_true (list_any (mismatches k layers) (roots_in fs)) layered.1.1.0) n e (in_trees n e at));
  some_files = λ none. some_entries k (roots_in fs) fs some (sym files ∙ none);
  in_order = subst AreInOrder (sym (ap (map (λ (f : FileEntry). f.path)) files ∙ entry_paths k (roots_in fs) 0 fs)) paths.in_order;
  files = λ n e at. sound_files k layers fs t paths trees sizes roots n e (subst (λ es. slice_get es n ≡ Some e) files at);
  laid_out = subst (λ p. AreLaidOut p t.files) (sym length_is) (subst (AreLaidOut k) (sym files) (laid_out k (roots_in fs) fs pieces));
  cuts = λ v is. subst (λ p. length v.pieces ≡ pieces_of p v.total) (sym length_is)
      (cuts_of k info name fs v hybrid (subst (IsVersion1 k info name) is version));
  in_stream = λ v n f is at some. subst (λ p. f.first_piece * p + f.length ≤ v.total) (sym length_is)
      (hybrid_in_stream k info name fs t.files v hybrid (subst (IsVersion1 k info name) is version) (are_files k fs t.files files) n f at some);
  in_pieces = λ v is. subst (λ p. v.total ≤ sum_by (λ (f : FileEntry). pieces_of p f.length) t.files * p) (sym length_is)
      (subst (λ n. v.total ≤ n * k) (sym (ap (sum_by (λ (f : FileEntry). pieces_of k f.length)) files ∙ sum_all k (roots_in fs) 0 fs))
      (hybrid_in_pieces k info name fs v hybrid (subst (IsVersion1 k info name) is version)));
}
  where
    in_trees : (n : ℕ) (e : TreeEntry) → slice_get t.trees n ≡ Some e → slice_get (map (tree_at k layers) (roots_in fs)) n ≡ Some e
    in_trees n e at = subst (λ ts. slice_get ts n ≡ Some e) trees at
