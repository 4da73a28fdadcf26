-- The pairs of `piece layers`, without where they lie in memory. Public clauses do not name these.
use Rattle.benc.specs.Value.{Pairs}
use Rattle.benc.specs.View.{pairs_view}
use Rattle.opening.specs.declared.layers.Layers.{Layers}

-- the pairs of `piece layers`, as a value has them
abbrev pub layer_pairs : Layers → Pairs
layer_pairs l = pairs_view l.pairs.now
