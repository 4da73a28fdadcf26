-- Whole layers and blocks in a session.
use Rattle.std.proofs.Common.{◌≡◌, ℕ, ◌<◌, List, length, set, Some, Result, Ok, Err, IfOk}
use Rattle.std.proofs.Common.{IfErr, sym, ap, ap₂, ◌∙◌, subst}
use Rattle.std.specs.Prelude.{slice_get}
use Rattle.std.proofs.lemmas.Option.{slice_get-map}
use Rattle.hashtree.specs.Tree.{block_count}
use Rattle.opening.specs.Description.{Description, TreeEntry}
use Rattle.opening.specs.Blocks.{IsBlockRun}
use Rattle.opening.specs.Places.{place_of}
use Rattle.chains.specs.Chain.{Chain}
use Rattle.session.specs.Blocks.{BlocksSeen, cuts}
use Rattle.partial_tree.specs.declared.refusal.BlockRefusal.TheVariants.{BadPlace, BadSize, Unproved, BadBlock}
use Rattle.partial_tree.specs.declared.refusal.HashRefusal.{HashRefusal}
use Rattle.partial_tree.specs.declared.refusal.BlockRefusal.{BlockRefusal}
use Rattle.node_maps.specs.Digest.{Hash}
use Rattle.partial_tree.specs.TreeRoot.{TreeRoot}
use Rattle.partial_tree.specs.Kept.{KeptTree, info_of, TreeTakesLayer, TreeRefusesLayer}
use Rattle.session.specs.Session.{IsInFile, IsUnmarkedBlock}
use Rattle.session.specs.Session.{BlockStep, AreTaken, IsBlockRefused, IsFilled, IsFillRefused}
use Rattle.session.specs.Asks.{AskSet}
use Rattle.session.specs.Layouts.{IsBlockOf, SessionSeen, seen, root_of_entry}
use Rattle.session.proofs.KeptTrees.{IsKeptTree, tree-after, tree-stays}
use Rattle.session.proofs.Sessions.{mapped}

-- ---- whole layers

module _ {d : Description} {ts : List KeptTree} {o : AskSet} {v : SessionSeen} {n : ℕ} {a : KeptTree} (x : IsKeptTree d ts o v n a) where
  pub filled_all : (b : KeptTree) (layer : ℕ) (hashes : List Hash) (r : Result ℕ HashRefusal) → IfOk r (λ c. TreeTakesLayer a layer hashes c b)
      → IfOk r (λ c. IsFilled v n layer hashes c (seen d o (set ts n b)))
  filled_all b layer hashes (Err e) h = tt
  filled_all b layer hashes (Ok c) (taken, rest) = record {
    tree = info_of a;
    before = a.state;
    after = b.state;
    is_tree = x.is_tree;
    taken = taken;
    marks_stay = ap (λ (t : KeptTree). t.state.marked) rest;
    state_after = tree-after x b;
  }

  pub fill_refused_all : (b : KeptTree) (layer : ℕ) (hashes : List Hash) (r : Result ℕ HashRefusal)
      → IfErr r (λ e. TreeRefusesLayer a layer hashes e × (b ≡ a)) → IfErr r (λ e. IsFillRefused v n layer hashes e × (seen d o (set ts n b) ≡ v))
  fill_refused_all b layer hashes (Ok c) h = tt
  fill_refused_all b layer hashes (Err e) (refuses, same) =
      (record { tree = info_of a; before = a.state; is_tree = x.is_tree; refuses = refuses }, tree-stays x b same)

  -- the entry of the torrent
  entry_there : (e : TreeEntry) × (slice_get v.torrent.trees n ≡ Some e) × (root_of_entry e ≡ info_of a)
  entry_there = mapped root_of_entry (slice_get v.torrent.trees n) (info_of a) (sym (slice_get-map root_of_entry v.torrent.trees n) ∙ x.is_tree.tree_is)

  -- the length of a tree's files is that of its entry
  pub length_at : (k : ℕ) → ((e : TreeEntry) → slice_get v.torrent.trees n ≡ Some e → k ≡ e.length) → k ≡ a.length
  length_at k is = is entry_there.0 entry_there.1 ∙ ap (λ (t : TreeRoot). t.length) entry_there.2

  pub block_in : (block : ℕ) → IsBlockOf v.torrent n block → block < block_count a.length
  block_in block is = subst (λ (t : TreeRoot). block < block_count t.length) entry_there.2 (is entry_there.0 entry_there.1)

-- ---- blocks

-- a block that is not marked is refused at its place
pub refused_at : (S : SessionSeen) (index begin file b : ℕ) (bytes : List ℕ) (r : BlockRefusal) → place_of S.torrent index begin ≡ Some (file, b)
    → IsUnmarkedBlock S file b bytes r
    → IsBlockRefused S index begin bytes r
refused_at S index begin file b bytes BadPlace at (p, h) = absurd h
refused_at S index begin file b bytes BadSize at (p, h) = (record { file = file; number = b; at = at; in_file = p }, h)
refused_at S index begin file b bytes Unproved at (p, h) = (record { file = file; number = b; at = at; in_file = p }, h)
refused_at S index begin file b bytes BadBlock at (p, h) = (record { file = file; number = b; at = at; in_file = p }, h)

-- blocks that were marked one after the other are taken
pub taken_at : (S : SessionSeen) (index begin file first count : ℕ) (bytes : List ℕ) (v : BlocksSeen) (S' : SessionSeen)
    → place_of S.torrent index begin ≡ Some (file, first)
    → (p : IsInFile S file first) → IsBlockRun p.tree.length first (length bytes) count → v.file ≡ file → v.first ≡ first → length v.refusals ≡ count
    → Chain (BlockStep file) S (cuts first bytes count) v.refusals S' → AreTaken S index begin bytes v S'
taken_at S index begin file first count bytes v S' at p run file_is first_is count_is each =
    let same : BlocksSeen → BlocksSeen → Type 0 = λ a b. a ≡ b in
    let stated : ℕ → ℕ → BlocksSeen = λ x y. record { file = x; first = y; refusals = v.refusals } in
    let is : same (stated file first) v = sym (ap₂ stated file_is first_is) in
    subst (λ w. AreTaken S index begin bytes w S') is (record {
      at = at;
      in_file = p;
      run = subst (IsBlockRun p.tree.length first (length bytes)) (sym count_is) run;
      each = subst (λ k. Chain (BlockStep file) S (cuts first bytes k) v.refusals S') (sym count_is) each;
    })
