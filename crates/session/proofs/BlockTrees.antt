-- The tree that a block of a file is in, among the trees that are kept.
use Rattle.std.proofs.Common.{◌≡◌, inl, inr, ℕ, ◌<◌, List, length, set, Option, Some, None, Result, Ok, Err, IfOk, IfErr, refl, sym, ap, ◌∙◌, subst, arith}
use Rattle.std.specs.Prelude.{slice_get, IfSome, IsSome}
use Rattle.std.proofs.lemmas.Option.{same_Some, slice_get_within}
use Rattle.chains.proofs.Cases.{some_or_none}
use Rattle.hashtree.specs.Tree.{block_count}
use Rattle.opening.specs.Description.{Description, FileEntry}
use Rattle.opening.specs.Places.{IsBlockPlace, place_of}
use Rattle.opening.specs.Sound.{IsSound}
use Rattle.partial_tree.specs.Kept.{KeptTree, info_of, TreeMarks, TreeRefusesBlock}
use Rattle.partial_tree.specs.TreeRoot.{TreeRoot}
use Rattle.partial_tree.specs.declared.refusal.BlockRefusal.{BlockRefusal}
use Rattle.session.specs.Asks.{AskSet}
use Rattle.session.specs.BlockTree.{HasBlockAt, HasBlockTree}
use Rattle.session.specs.Layouts.{AreKept, HasBlock, SessionSeen, seen, tree_number}
use Rattle.session.specs.Session.{IsInFile, IsMarkedBlock, IsUnmarkedBlock}
use Rattle.session.proofs.KeptTrees.{IsKeptTree, tree-after, tree-stays}
use Rattle.session.proofs.Sessions.{tree_at, tree_for}

-- this is what the torrent says of the tree of a file
abbrev pub IsTreeOf : Description → ℕ → Option ℕ → Type 0
IsTreeOf d file tree = (f : FileEntry) → slice_get d.files file ≡ Some f → tree ≡ f.tree

-- what callers see of a session has the block, so the session has it
pub has_block : (v w : SessionSeen) (file block : ℕ) → v ≡ w → HasBlock w.torrent file block → HasBlock v.torrent file block
has_block v w file block is = subst (λ (s : SessionSeen). HasBlock s.torrent file block) (sym is)

-- a file that has a block has a tree
has_tree : (d : Description) → IsSound d → (file b : ℕ) (f : FileEntry) → slice_get d.files file ≡ Some f → b < block_count f.length
    → (n : ℕ) × (f.tree ≡ Some n)
has_tree d sound file b f there low = elim (some_or_none f.tree) [
  | inl tree ↦ tree
  | inr none ↦
      let empty : f.length ≡ 0 = (sound.files file f there).no_tree none in
      absurd (let below : b < block_count 0 = subst (λ len. b < block_count len) empty low in omega (arith, below))
]

pub some_tree : (d : Description) → IsSound d → (file block : ℕ) → HasBlock d file block → (tree : Option ℕ) → IsTreeOf d file tree → IsSome tree
some_tree d sound file block has tree is =
    subst (λ (o : Option ℕ). IsSome o) (sym (is has.0 has.1 ∙ (has_tree d sound file block has.0 has.1 has.2).1)) refl

-- ---- what callers see of a block's tree

module _ (o : AskSet) (d : Description) (ts : List KeptTree) (kept : AreKept d ts) (v : SessionSeen) (is : seen d o ts ≡ v) where
  module _ (sound : IsSound d) where
    pub block_tree : (file b n : ℕ) (f : FileEntry) → slice_get d.files file ≡ Some f → b < block_count f.length → f.tree ≡ Some n
        → HasBlockTree v file b n
    block_tree file b n f there low number =
        let x = tree_for d ts kept sound file n f there number in
        let e = (sound.files file f there).tree_there n number in
        subst (λ (u : SessionSeen). HasBlockTree u file b n) is (record {
          sound = sound;
          entry = f;
          there = there;
          low = low;
          tree = info_of x.0;
          state = x.0.state;
          of_file = ap tree_number there ∙ number;
          is_tree = tree_at d ts kept o n x.0 x.1;
          same_length = x.2;
          within = slice_get_within d.trees n e.0 e.1;
        })

    pub block_places : (index begin : ℕ) (r : Option (ℕ × ℕ)) → r ≡ place_of d index begin → IfSome r (λ p. IsBlockPlace d index begin p.0 p.1)
        → IfSome r (λ p. HasBlockAt v index begin p.0 p.1)
    block_places index begin None at found = tt
    block_places index begin (Some (file, b)) at found =
        let (n, number) = has_tree d sound file b found.entry found.there found.in_file in
        record {
          place = subst (λ (u : SessionSeen). IsBlockPlace u.torrent index begin file b) is found;
          at = ap (λ (u : SessionSeen). place_of u.torrent index begin) (sym is) ∙ sym at;
          number = n;
          in_tree = block_tree file b n found.entry found.there found.in_file number;
        }

-- a block in its file
abbrev pub in_file : {v : SessionSeen} {file b n : ℕ} → HasBlockTree v file b n → IsInFile v file b
in_file {b = b} {n = n} e = record {
  tree_number = n;
  tree = e.tree;
  state = e.state;
  of_file = e.of_file;
  is_tree = e.is_tree;
  inside = subst (λ len. b < block_count len) (sym e.same_length) e.low;
}

-- ---- the block's tree, as it is kept

module _ {d : Description} {ts : List KeptTree} {o : AskSet} {v : SessionSeen} {n : ℕ} {a : KeptTree} (x : IsKeptTree d ts o v n a) {file b : ℕ}
    (e : HasBlockTree v file b n) where
  pub length_there : a.length ≡ e.entry.length
  length_there = ap (λ (t : TreeRoot). t.length) (same_Some (info_of a) e.tree (sym x.is_tree.tree_is ∙ e.is_tree.tree_is)) ∙ e.same_length

  pub block_inside : b < block_count a.length
  block_inside = subst (λ len. b < block_count len) (sym length_there) e.low

  abbrev pub in_kept_file : IsInFile v file b
  in_kept_file = record { tree_number = n; tree = info_of a; state = a.state; of_file = e.of_file; is_tree = x.is_tree; inside = block_inside }

  pub marked_all : {X : Type 0} (next : KeptTree) (bytes : List ℕ) (r : Result X BlockRefusal) → IfOk r (λ _. TreeMarks a b bytes next)
      → IfOk r (λ _. IsMarkedBlock v file b bytes (seen d o (set ts n next)))
  marked_all next bytes (Err z) ok = tt
  marked_all next bytes (Ok z) ok = record {
    in_file = in_kept_file;
    size = ok.size;
    leaf_known = ok.leaf_known;
    state_after = tree-after x next ∙ ap (λ (t : KeptTree). record v { trees = set v.trees n t.state }) ok.marks;
  }

  pub unmarked_all : {X : Type 0} (next : KeptTree) (bytes : List ℕ) (r : Result X BlockRefusal)
      → IfErr r (λ z. TreeRefusesBlock a b bytes z × (next ≡ a)) → IfErr r (λ z. IsUnmarkedBlock v file b bytes z × (seen d o (set ts n next) ≡ v))
  unmarked_all next bytes (Ok z) refused = tt
  unmarked_all next bytes (Err z) (refuses, same) = ((in_kept_file, refuses), tree-stays x next same)
