-- The leaves of a piece of one tree, among the trees that are kept.
use Rattle.std.proofs.Common.{◌≡◌, ℕ, List, length, set, Some, Result, Ok, Err, IfOk, IfErr, sym, ap, ◌∙◌, subst}
use Rattle.std.specs.Prelude.{slice_get}
use Rattle.std.proofs.lemmas.Option.{same_Some}
use Rattle.opening.specs.Description.{Description}
use Rattle.node_maps.specs.Digest.{Hash}
use Rattle.node_maps.specs.Known.{look}
use Rattle.partial_tree.specs.TreeRoot.{TreeRoot}
use Rattle.partial_tree.specs.Kept.{KeptTree, info_of, IsGoodTree}
use Rattle.partial_tree.specs.LeafRows.{IsLeafRow, TakesRow, RowRefuses, TreeTakesRow}
use Rattle.partial_tree.specs.declared.refusal.PieceRefusal.{PieceRefusal}
use Rattle.session.specs.Asks.{AskSet}
use Rattle.session.specs.Layouts.{SessionSeen, roots, seen}
use Rattle.session.specs.Pieces.{HasPiece, AreLeavesTaken, AreLeavesRefused, piece_span}
use Rattle.session.proofs.KeptTrees.{IsKeptTree, tree-after, tree-stays}
use Rattle.tree_laws.proofs.Keeping.{StaysGood}

module _ {d : Description} {ts : List KeptTree} {o : AskSet} {v : SessionSeen} {n : ℕ} {a : KeptTree} (x : IsKeptTree d ts o v n a) where
  -- the layer of the nodes that cover the pieces of the tree
  pub span_there : (k : ℕ) → (t : TreeRoot) × (slice_get (roots v) n ≡ Some t) × (k ≡ piece_span v.torrent.piece_length t.length)
      → k ≡ piece_span v.torrent.piece_length a.length
  span_there k (t, there, span) =
      span ∙ ap (λ (r : TreeRoot). piece_span v.torrent.piece_length r.length) (same_Some t (info_of a) (sym there ∙ x.is_tree.tree_is))

  module _ (first k : ℕ) (span : k ≡ piece_span v.torrent.piece_length a.length) (leaves : List Hash) where
    -- the leaves are those of a piece of the tree
    pub piece_there : HasPiece v n first (length leaves) → IsLeafRow a.length first k (length leaves)
    piece_there piece = subst (λ j. IsLeafRow a.length first j (length leaves)) (sym span) (piece (info_of a) x.is_tree.tree_is)

    pub leaves_taken : HasPiece v n first (length leaves) → (b : KeptTree) (r : Result ℕ PieceRefusal)
        → IfOk r (λ c. TreeTakesRow a first k leaves c b) → IfOk r (λ c. AreLeavesTaken v n first leaves c (seen d o (set ts n b)))
    leaves_taken piece b (Err e) taken = tt
    leaves_taken piece b (Ok c) (taken, rest) = record {
      tree = info_of a;
      before = a.state;
      after = b.state;
      is_tree = x.is_tree;
      row = piece (info_of a) x.is_tree.tree_is;
      taken = subst (λ j. TakesRow a.length first j leaves a.state.known c b.state.known) span taken;
      marks_stay = ap (λ (t : KeptTree). t.state.marked) rest;
      state_after = tree-after x b;
    }

    pub leaves_refused : (b : KeptTree) (r : Result ℕ PieceRefusal) → IfErr r (λ e. RowRefuses a.length (look a.state.known) first k leaves e × (b ≡ a))
        → IfErr r (λ e. AreLeavesRefused v n first leaves e × (seen d o (set ts n b) ≡ v))
    leaves_refused b (Ok c) refused = tt
    leaves_refused b (Err e) (refuses, same) = (
      record {
        tree = info_of a;
        before = a.state;
        is_tree = x.is_tree;
        refuses = subst (λ j. RowRefuses a.length (look a.state.known) first j leaves e) span refuses;
      },
      tree-stays x b same,
    )

-- a tree stays good after leaves, whether they were taken or refused
pub good_after_leaves : (a b : KeptTree) (first k : ℕ) (leaves : List Hash) (r : Result ℕ PieceRefusal) → IsGoodTree b
    → IfOk r (λ c. TreeTakesRow a first k leaves c b) → IfErr r (λ x. RowRefuses a.length (look a.state.known) first k leaves x × (b ≡ a)) → StaysGood a b
good_after_leaves a b first k leaves (Ok c) good taken refused = (ap info_of taken.1, good)
good_after_leaves a b first k leaves (Err x) good taken refused = (ap info_of refused.1, good)
