use Rattle.std.proofs.Common.{◌≡◌, ◌≢◌, ℕ, ◌+◌, ◌^◌, ◌<◌, ◌≤◌, Some, length, refl, ap, ◌∙◌, subst, arith}
use Rattle.sha2.specs.Sha256.{sha256}
use Rattle.node_maps.specs.Nodes.{Nodes}
use Rattle.hashtree.specs.Tree.{block, block_count}
use Rattle.node_maps.specs.Known.{Known, look}
use Rattle.node_maps.specs.Places.{tree_height}
use Rattle.partial_tree.specs.Kept.{KeptTree, info_of}
use Rattle.partial_tree.specs.LeafRows.{TreeMarksRun}
use Rattle.partial_tree.proofs.LeafPieces.{known-piece, false-piece, piece-small}
use Rattle.partial_tree.proofs.tree.Tree.take_known.Given.{Over}
use Rattle.partial_tree.proofs.tree.Tree.take_known.Goals as goal
use Rattle.partial_tree.proofs.tree.Tree.take_known.Goals.{After-self, After-map}

small : (g : Over) (c : After-self g) → c.args.first + block_count (length c.args.bytes.now) ≤ 2 ^ 32
small g c = piece-small c.args.self.now.length c.args.first c.args.span c.args.bytes.now c.requires.row
    (subst (λ (v : KeptTree). tree_height v.length ≤ 32) c.self.view_is c.self.invariant.low)

same : (g : Over) (c : After-map g) → (g.N.NodeMap.seen c.map.result.now).known ≡ c.args.self.now.state.known
same g c = ap (λ (n : Nodes). n.known) c.map.ensures ∙ ap (λ (v : KeptTree). v.state.known) c.self.view_is

pub first_false-requires : goal.first_false-requires
first_false-requires g c = small g (goal.at.first_false-requires g c).After-self

pub mark_leaves-requires-clause-range : goal.mark_leaves-requires-clause-range
mark_leaves-requires-clause-range g c =
    let low = small g (goal.at.mark_leaves-requires-clause-range g c).After-self in
    omega (arith, low, c.blocks_in.ensures)

pub returns-in-Some-clause-refused : goal.returns-in-Some-clause-refused
returns-in-Some-clause-refused g c =
    let m = c.args.self.now.state.known in
    let found = c.in-Some.ensures.some in
    let differs : look m 0 (c.args.first + c.in-Some.field-0) ≢ Some (sha256 (block c.args.bytes.now c.in-Some.field-0)) =
    subst (λ (n : Known). look n 0 (c.args.first + c.in-Some.field-0) ≢ Some (sha256 (block c.args.bytes.now c.in-Some.field-0)))
    (same g (goal.at.returns-in-Some-clause-refused g c).After-map) found.1 in (
      (
        c.requires.top,
        false-piece (info_of c.args.self.now) m c.requires.good.closed c.args.first c.args.span c.args.bytes.now c.requires.row c.requires.top
            c.requires.known c.requires.pads c.in-Some.field-0 found.0 differs,
      ),
      refl,
    )

pub returns-clause-taken : goal.returns-clause-taken
returns-clause-taken g c =
    let m = c.args.self.now.state.known in
    let fits : (j : ℕ) → j < block_count (length c.args.bytes.now) → look m 0 (c.args.first + j) ≡ Some (sha256 (block c.args.bytes.now j)) =
    subst (λ (n : Known). (j : ℕ) → j < block_count (length c.args.bytes.now) → look n 0 (c.args.first + j) ≡ Some (sha256 (block c.args.bytes.now j)))
    (same g (goal.at.returns-clause-taken g c).After-map) c.in_default.ensures.none in
    record {
      count = 0;
      between = c.args.self.now;
      joins = (
        known-piece (info_of c.args.self.now) m c.requires.good.closed c.args.first c.args.span c.args.bytes.now c.requires.row c.requires.top
            c.requires.known c.requires.pads fits,
        refl,
      );
      marks = subst (λ n. TreeMarksRun c.args.self.now c.args.first n c.mark_leaves.new.self) c.blocks_in.ensures c.mark_leaves.ensures.marked;
    }
