use Rattle.std.proofs.Common.{◌≡◌, ◌-◌, ◌^◌, ◌<◌, ◌≤◌, ◌++◌, [], ◌∷◌, length, sym, ap, ◌∙◌, subst, arith}
use Rattle.hashtree.specs.Tree.{block_count}
use Rattle.hashtree.proofs.Heights.{height_enough}
use Rattle.node_maps.specs.Places.{tree_height}
use Rattle.node_maps.proofs.Nodes.{known-of, length-of, marked-of}
use Rattle.partial_tree.specs.Grown.{GrownTree}
use Rattle.partial_tree.proofs.FromLeaves.{growing-more, leaves-more, length-leaves}
use Rattle.partial_tree.proofs.growing.trees.GrowingTree.push.Given.{Over}
use Rattle.partial_tree.proofs.growing.trees.GrowingTree.push.Goals as goal
use Rattle.partial_tree.proofs.growing.trees.GrowingTree.push.Goals.{After-self}

-- fewer leaves were given than the tree has
fewer : (g : Over) (c : After-self g) → c.self.inside.count < block_count c.self.inside.shape
fewer g c = subst (λ k. k < block_count c.self.inside.shape) (length-leaves (g.N.NodeMap.seen c.self.inside.nodes).known c.self.inside.count)
    (subst (λ (t : GrownTree). length t.leaves < block_count t.length) (sym c.self.view_is) c.requires)

pub add-requires-clause-place : goal.add-requires-clause-place
add-requires-clause-place g c =
    let old = c.self.inside in
    let len = (g.N.NodeMap.seen old.nodes).length in
    let shape : len ≡ old.shape = c.self.invariant.0 in
    let less = fewer g (goal.at.add-requires-clause-place g c).After-self in
    let enough : block_count old.shape ≤ 2 ^ tree_height old.shape = height_enough (block_count old.shape) in
    let whole : tree_height len - 0 ≡ tree_height old.shape = (let none_less : tree_height len - 0 ≡ tree_height len = omega arith in none_less
    ∙ ap tree_height shape) in
    (omega arith, subst (λ k. old.count < 2 ^ k) (sym whole) (omega (arith, less, enough)))

pub invariant_of-self-2 : goal.invariant_of-self-2
invariant_of-self-2 g c =
    let old = c.self.inside in
    let K = (g.N.NodeMap.seen old.nodes).known in
    let less = fewer g (goal.at.invariant_of-self-2 g c).After-self in (
      length-of c.in_ok-add.ensures.added ∙ c.self.invariant.0,
      omega (arith, less),
      marked-of c.in_ok-add.ensures.added ∙ c.self.invariant.2,
      growing-more K (g.N.NodeMap.seen c.add.new.map).known old.count c.args.leaf c.self.invariant.3 c.add.ensures.hash (known-of c.in_ok-add.ensures.added)
          c.in_ok-add.ensures.one,
      omega (arith, c.add.ensures.few, c.self.invariant.4),
    )

pub returns-clause-pushed : goal.returns-clause-pushed
returns-clause-pushed g c =
    let old = c.self.inside in
    leaves-more (g.N.NodeMap.seen old.nodes).known (g.N.NodeMap.seen c.add.new.map).known old.count c.args.leaf (known-of c.in_ok-add.ensures.added)
    ∙ ap (λ (t : GrownTree). t.leaves ++ c.args.leaf ∷ []) c.self.view_is
