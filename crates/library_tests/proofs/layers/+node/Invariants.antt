use Rattle.library_tests.proofs.layers.+node.Given as goal

-- the layer falls by one with each call
abbrev pub decreases-node : goal.decreases-node
decreases-node l = l.layer
