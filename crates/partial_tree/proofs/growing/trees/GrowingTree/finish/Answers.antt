use Rattle.std.proofs.Common.{◌≡◌, ℕ, suc, ◌+◌, ◌-◌, ◌*◌, ◌^◌, ◌<◌, ◌≤◌, refl, sym, ap, ◌∙◌, subst, arith}
use Rattle.std.specs.FinMap.{len}
use Rattle.std.proofs.lemmas.Grind.{common_steps}
use Rattle.chains.proofs.Cases.{on_err}
use Rattle.hashtree.specs.Tree.{block_count}
use Rattle.node_maps.specs.Known.{Known, look}
use Rattle.node_maps.specs.Places.{tree_height}
use Rattle.node_maps.specs.Runs.{AreKnown}
use Rattle.node_maps.proofs.Nodes.{known-of, length-of, marked-of}
use Rattle.partial_tree.specs.Grown.{GrownTree, FollowsFromLeaves, first_leaves}
use Rattle.partial_tree.proofs.FromLeaves.{children-known}
use Rattle.partial_tree.proofs.GrownLeaves.{ended, has_pads, layer-wide, next_layer, padded, shifted}
use Rattle.partial_tree.proofs.growing.trees.GrowingTree.finish.Given.{Over}
use Rattle.partial_tree.proofs.growing.trees.GrowingTree.finish.Goals as goal
use Rattle.partial_tree.proofs.growing.trees.GrowingTree.finish.Goals.{After-height-height, After-trim}

tall : (g : Over) (c : After-height-height g) → c.height-height.result ≡ tree_height c.args.self.length
tall g c = c.height-height.ensures.value ∙ ap (λ (t : GrownTree). tree_height t.length) c.self.view_is

module _ (g : Over) (c : After-trim g) where
  abbrev n : ℕ
  n = c.self.inside.shape

  abbrev K : Known
  K = (g.N.NodeMap.seen c.trim.new.self).known

  -- the tree is whole, and over the leaves that were given
  whole : (len K + 1 ≡ 2 ^ suc (tree_height n)) × FollowsFromLeaves n (block_count n) K × (first_leaves K (block_count n) ≡ c.args.self.leaves)
  whole =
      let old = c.self.inside in
      let reached : c.layers.layer ≡ c.height-height.result = omega (arith, c.layers-test.false, c.layers.auto.layer-end) in
      ended old.shape old.count (g.N.NodeMap.seen old.nodes).known c.args.self c.self.view_is c.requires c.self.invariant.3 c.layers.layer
      (g.N.NodeMap.seen c.layers.nodes).known K (reached ∙ c.height-height.ensures.value) c.layers.invariant.up_to (known-of c.trim.ensures.seen)

pub layers-init : goal.layers-init
layers-init g c =
    let old = c.self.inside in
    let wide = shifted c.height-height.result c.height-height.ensures.bound ∙ ap (λ k. 2 ^ k) c.height-height.ensures.value in
    record {
      length = c.add_pads.ensures.stays.length ∙ c.self.invariant.0 ∙ ap (λ (t : GrownTree). t.length) c.self.view_is;
      marked = c.add_pads.ensures.stays.marked ∙ c.self.invariant.2;
      up_to = padded old.shape old.count (g.N.NodeMap.seen old.nodes).known c.args.self c.self.view_is c.requires c.self.invariant.3 _ _
          (g.N.NodeMap.seen c.add_pads.new.map).known
          c.blocks-blocks.ensures.value wide c.in_ok-add_pads.ensures.added;
    }

pub add_parents-requires-clause-known : goal.add_parents-requires-clause-known
add_parents-requires-clause-known g c =
    let height = tall g (goal.at.add_parents-requires-clause-known g c).After-height-height in
    let n = c.args.self.length in
    subst (λ k. AreKnown (look (g.N.NodeMap.seen c.layers.nodes).known c.layers.layer) 0 (2 * k))
    (sym (layer-wide n c.height-height.result c.layers.layer height c.height-height.ensures.bound c.layers-test.true))
    (children-known n c.args.self.leaves c.requires c.layers.layer (g.N.NodeMap.seen c.layers.nodes).known (omega (arith, height, c.layers-test.true))
    c.layers.invariant.up_to)

pub layers-preserved : goal.layers-preserved
layers-preserved g c =
    let height = tall g (goal.at.layers-preserved g c).After-height-height in
    let wide = layer-wide c.args.self.length c.height-height.result c.layers.layer height c.height-height.ensures.bound c.layers-test.true in
    record {
      length = c.add_parents.ensures.stays.length ∙ c.layers.invariant.length;
      marked = c.add_parents.ensures.stays.marked ∙ c.layers.invariant.marked;
      up_to = next_layer c.args.self c.layers.layer (c.layers.layer + 1) _ (g.N.NodeMap.seen c.layers.nodes).known
          (g.N.NodeMap.seen c.add_parents.new.map).known c.requires (omega (arith, height, c.layers-test.true)) refl wide c.layers.invariant.up_to
          c.in_ok-add_parents.ensures.added;
    }

pub invariant_of-result : goal.invariant_of-result
invariant_of-result g c =
    let end = whole g (goal.at.invariant_of-result g c).After-trim in (
      (length-of c.trim.ensures.seen) ∙ c.layers.invariant.length ∙ sym (ap (λ (t : GrownTree). t.length) c.self.view_is),
      (marked-of c.trim.ensures.seen) ∙ c.layers.invariant.marked,
      c.trim.ensures.held,
      end.0,
      end.1,
    )

pub returns-clause-leaves : goal.returns-clause-leaves
returns-clause-leaves g c = (whole g (goal.at.returns-clause-leaves g c).After-trim).2

pub returns-in_err-add_pads-clause-no_memory : goal.returns-in_err-add_pads-clause-no_memory
returns-in_err-add_pads-clause-no_memory g c =
    let height = c.height-height.ensures in
    let blocks = c.blocks-blocks.ensures in
    let same : c.blocks-blocks.result ≡ block_count c.args.self.length =
    blocks.value ∙ ap (λ (t : GrownTree). block_count t.length) c.self.view_is in
    let least : (k : ℕ) → c.blocks-blocks.result ≤ 2 ^ k → c.height-height.result ≤ k =
    λ k fits. height.least k (omega (arith, fits, blocks.value)) in
    on_err _ (subst (λ n. 1 < n) same
    (has_pads _ _ blocks.some least height.bound c.in_err-add_pads.ensures.no_memory))

pub add_pads-requires-clause-range : goal.add_pads-requires-clause-range
add_pads-requires-clause-range g c = grind (arith, common_steps)

pub add_pads-requires-clause-absent : goal.add_pads-requires-clause-absent
add_pads-requires-clause-absent g c = grind (arith, common_steps)

pub add_parents-requires-clause-absent : goal.add_parents-requires-clause-absent
add_parents-requires-clause-absent g c = grind (arith, common_steps)

pub add_parents-requires-clause-inside : goal.add_parents-requires-clause-inside
add_parents-requires-clause-inside g c = grind (arith, common_steps)

pub add_parents-requires-clause-low : goal.add_parents-requires-clause-low
add_parents-requires-clause-low g c = grind (arith, common_steps)

pub add_pads-requires-clause-inside : goal.add_pads-requires-clause-inside
add_pads-requires-clause-inside g c = grind (arith, common_steps)

pub returns-in_err-add_parents-clause-no_memory : goal.returns-in_err-add_parents-clause-no_memory
returns-in_err-add_parents-clause-no_memory g c = grind (arith, common_steps)
