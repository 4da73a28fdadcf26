use Rattle.std.proofs.Common.{◌≡◌, drop}
use Rattle.benc.specs.Lookup.{get, under}
use Rattle.benc.specs.View.{view, pairs_view}
use Rattle.benc.proofs.value.Value.get.Given as goal

-- no pair so far has the key
abbrev pub invariant-pairs : goal.invariant-pairs
invariant-pairs l = get l.key (view l.self) ≡ under l.key (pairs_view (drop l.pair-index l.pair-items))
