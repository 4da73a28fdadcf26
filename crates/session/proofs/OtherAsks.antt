-- Open asks beside the trees: a step of the trees is the same whatever asks are open.
use Rattle.std.proofs.Common.{ℕ, List, length, Option, Some, None, ap}
use Rattle.wire.specs.declared.message.Ask.{Ask}
use Rattle.wire.specs.declared.message.Message.{Message}
use Rattle.wire.specs.declared.message.Message.TheVariants as message
use Rattle.partial_tree.specs.declared.refusal.HashRefusal.{HashRefusal}
use Rattle.partial_tree.specs.declared.refusal.HashRefusal.TheVariants.{UnknownRoot, NoMemory}
use Rattle.partial_tree.specs.declared.refusal.BlockRefusal.{BlockRefusal}
use Rattle.partial_tree.specs.declared.refusal.BlockRefusal.TheVariants.{BadPlace, BadSize}
use Rattle.node_maps.specs.Digest.{Hash}
use Rattle.chains.specs.Chain.{Chain}
use Rattle.chains.proofs.Chains.{Chain-mapped}
use Rattle.session.specs.declared.verdict.Verdict.{Verdict}
use Rattle.session.specs.declared.verdict.Verdict.TheVariants as verdict
use Rattle.session.specs.Blocks.{BlocksSeen, Cut, cuts}
use Rattle.partial_tree.specs.TreeRoot.{TreeRoot}
use Rattle.session.specs.Asks.{AskSet}
use Rattle.session.specs.Session.{SessionSeen, TreeState, IsTree, HasClosedTrees, IsAsked, IsAnswered, IsStored, IsHashRefused, IsInFile, BlockStep, AreTaken}
use Rattle.session.specs.Session.{AreRefused, Step}
use Rattle.session.specs.Noted.{asking}
use Rattle.session.specs.SafeStep.{KeepsKnown}

abbrev pub asked_asking : (o : AskSet) (S : SessionSeen) (ask : Ask) → IsAsked S ask → IsAsked (asking o S) ask
asked_asking o S ask a = record {
  number = a.number;
  tree = a.tree;
  state = a.state;
  is_tree = record { tree_is = a.is_tree.tree_is; state_is = a.is_tree.state_is };
  has_root = a.has_root;
}

answered_asking : (o : AskSet) (S : SessionSeen) (ask : Ask) → IsAnswered S ask → IsAnswered (asking o S) ask
answered_asking o S ask (a, can) = (asked_asking o S ask a, can)

module _ (o : AskSet) where
  pub tree_asking : (S : SessionSeen) (n : ℕ) (tree : TreeRoot) (s : TreeState) → IsTree S n tree s → IsTree (asking o S) n tree s
  tree_asking S n tree s at = record { tree_is = at.tree_is; state_is = at.state_is }

  pub keeps_asking : (S S' : SessionSeen) → KeepsKnown S S' → KeepsKnown S (asking o S')
  keeps_asking S S' keeps n tree s at =
      let (later, later_is, same) = keeps n tree s at in (later, tree_asking S' n tree later later_is, same)

  pub closed_asking : (S : SessionSeen) → HasClosedTrees S → HasClosedTrees (asking o S)
  closed_asking S closed_trees = record {
    count = closed_trees.count;
    closed = λ n tree s at. closed_trees.closed n tree s (record { tree_is = at.tree_is; state_is = at.state_is });
    marks = λ n tree s at. closed_trees.marks n tree s (record { tree_is = at.tree_is; state_is = at.state_is });
  }

  -- ---- steps

  stored_asking : (S : SessionSeen) (ask : Ask) (hashes : List Hash) (c : ℕ) (S' : SessionSeen) → IsStored S ask hashes c S'
      → IsStored (asking o S) ask hashes c (asking o S')
  stored_asking S ask hashes c S' h = record {
    asked = asked_asking o S ask h.asked;
    after = h.after;
    taken = h.taken;
    marks_stay = h.marks_stay;
    state_after = ap (asking o) h.state_after;
  }

  refused_asking : (S : SessionSeen) (ask : Ask) (hashes : List Hash) (r : HashRefusal) → IsHashRefused S ask hashes r → IsHashRefused (asking o S) ask hashes r
  refused_asking S ask hashes UnknownRoot h = h
  refused_asking S ask hashes NoMemory h = (asked_asking o S ask h.0, h.1)
  refused_asking S ask hashes r h = (asked_asking o S ask h.0, h.1)

  abbrev in_file_asking : (S : SessionSeen) (file b : ℕ) → IsInFile S file b → IsInFile (asking o S) file b
  in_file_asking S file b p = record {
    tree_number = p.tree_number;
    tree = p.tree;
    state = p.state;
    of_file = p.of_file;
    is_tree = tree_asking S p.tree_number p.tree p.state p.is_tree;
    inside = p.inside;
  }

  block_asking : (file : ℕ) (S : SessionSeen) (c : Cut) (r : Option BlockRefusal) (S' : SessionSeen) → BlockStep file S c r S'
      → BlockStep file (asking o S) c r (asking o S')
  block_asking file S c None S' h = record {
    in_file = in_file_asking S file c.number h.in_file;
    size = h.size;
    leaf_known = h.leaf_known;
    state_after = ap (asking o) h.state_after;
  }
  block_asking file S c (Some r) S' h = ((in_file_asking S file c.number h.0.0, h.0.1), ap (asking o) h.1)

  taken_asking : (S : SessionSeen) (index begin : ℕ) (bytes : List ℕ) (v : BlocksSeen) (S' : SessionSeen) → AreTaken S index begin bytes v S'
      → AreTaken (asking o S) index begin bytes v (asking o S')
  taken_asking S index begin bytes v S' h = record {
    at = h.at;
    in_file = in_file_asking S v.file v.first h.in_file;
    run = h.run;
    each = Chain-mapped (BlockStep v.file) (BlockStep v.file) (asking o) (block_asking v.file) S (cuts v.first bytes (length v.refusals)) v.refusals S' h.each;
  }

  message_asking : (S : SessionSeen) (index begin : ℕ) (bytes : List ℕ) (r : BlockRefusal) → AreRefused S index begin bytes r
      → AreRefused (asking o S) index begin bytes r
  message_asking S index begin bytes BadPlace h = h
  message_asking S index begin bytes BadSize (p, none) =
      (record { file = p.file; number = p.number; at = p.at; in_file = in_file_asking S p.file p.number p.in_file }, none)
  message_asking S index begin bytes r h = absurd h

  -- a step is the same whatever asks are open
  pub step_asking : (S : SessionSeen) (m : Message) (v : Verdict) (S' : SessionSeen) → Step S m v S' → Step (asking o S) m v (asking o S')
  step_asking S (message.Hashes ask hashes) (verdict.Stored c) S' h = stored_asking S ask hashes.now c S' h
  step_asking S (message.Hashes ask hashes) (verdict.HashRefused r) S' h = (refused_asking S ask hashes.now r h.0, ap (asking o) h.1)
  step_asking S (message.Piece index begin bytes) (verdict.Blocks v) S' h = taken_asking S index begin bytes.now v S' h
  step_asking S (message.Piece index begin bytes) (verdict.BlockRefused r) S' h = (message_asking S index begin bytes.now r h.0, ap (asking o) h.1)
  step_asking S (message.Request ask) verdict.Answered S' h = (answered_asking o S ask h.0, ap (asking o) h.1)
  step_asking S (message.Request ask) verdict.Rejected S' h = ((λ x. h.0 (answered_asking S.asks (asking o S) ask x)), ap (asking o) h.1)
  step_asking S (message.Reject ask) verdict.RejectNoted S' h = ap (asking o) h
  step_asking S message.KeepAlive verdict.KeepAlive S' h = ap (asking o) h
  step_asking S (message.Other id size) (verdict.Skipped id') S' h = (h.0, ap (asking o) h.1)
  step_asking S m v S' h = absurd h

  pub run_asking : (S : SessionSeen) (ms : List Message) (vs : List Verdict) (S' : SessionSeen) → Chain Step S ms vs S'
      → Chain Step (asking o S) ms vs (asking o S')
  run_asking S ms vs S' run = Chain-mapped Step Step (asking o) step_asking S ms vs S' run
