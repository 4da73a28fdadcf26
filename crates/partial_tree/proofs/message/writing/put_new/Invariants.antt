use Rattle.std.proofs.Common.{◌≡◌, ◌≤◌, ◌+◌, drop, All}
use Rattle.std.specs.FinMap.{len}
use Rattle.node_maps.specs.Nodes.{KeepsMarks}
use Rattle.node_maps.specs.Room.{KeepsRoom}
use Rattle.partial_tree.specs.declared.message.found.Claim.{Claim}
use Rattle.partial_tree.specs.Joins.{insert_new}
use Rattle.partial_tree.proofs.message.writing.put_new.Given as goal

-- what is known with the claims that are left is what it was with all of them
abbrev pub invariant-loop-claim : goal.invariant-loop-claim
invariant-loop-claim g l =
    let M = g.N.NodeMap in
    record {
      stays : KeepsMarks (M.seen l.initial.map) (M.seen l.map);
      held : M.held l.map ≡ M.held l.initial.map;
      keeps : KeepsRoom (M.has_room l.initial.map) (M.has_room l.map);
      known : insert_new (M.seen l.map).known (drop l.claim-index l.claims) ≡ insert_new (M.seen l.initial.map).known l.claims;
      gained : len (M.seen l.map).known ≡ len (M.seen l.initial.map).known + l.gained;
      bound : l.gained ≤ l.claim-index;
      room : All (λ (c : Claim). M.has_room l.map c.layer c.index) l.claims;
    }
