use Rattle.std.proofs.Common.{◌≡◌, ◌+◌, ◌-◌, ◌≤◌, ◌++◌, map, vec_len}
use Rattle.std.specs.List.{range_with_len}
use Rattle.std.specs.Vec.{vec_capacity}
use Rattle.node_maps.specs.Known.{look}
use Rattle.partial_tree.specs.Claims.{cover, above, sibling, hash_or_pad}
use Rattle.partial_tree.proofs.answering.answer_hashes.Given as goal

-- the base range, and the uncles so far
abbrev pub invariant-uncles : goal.invariant-uncles
invariant-uncles g l = record {
  answer : l.hashes.items ≡ map (λ k. hash_or_pad (look (g.N.NodeMap.seen l.nodes).known) l.ask.base (l.ask.index + k)) (range_with_len 0 l.ask.length)
      ++ map (λ k. hash_or_pad (look (g.N.NodeMap.seen l.nodes).known) (cover l.ask + k) (sibling (above l.ask (cover l.ask + k)))) (range_with_len 0 l.j);
  room : vec_len l.hashes + (l.uncles - l.j) ≤ vec_capacity l.hashes;
}
