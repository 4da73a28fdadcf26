use Rattle.std.proofs.Common.{◌+◌, [], ap, ◌∙◌, drop, arith}
use Rattle.node_maps.proofs.Nodes.{stays-both}
use Rattle.partial_tree.specs.declared.message.found.Claim.{Claim}
use Rattle.partial_tree.specs.Joins.{insert_new}
use Rattle.partial_tree.proofs.Noting.{insert_new-step}
use Rattle.partial_tree.proofs.message.writing.put_new.Goals as goal

pub loop-claim-preserved : goal.loop-claim-preserved
loop-claim-preserved g c =
    let none : Claim = record { layer = 0; index = 0; hash = [] } in
    let before = c.loop-claim.invariant in
    let put = c.put_absent-gained.ensures in
    let cs = c.args.claims.now in
    record {
      stays = stays-both put.stays before.stays;
      held = put.held ∙ before.held;
      keeps = λ l i has. put.keeps l i (before.keeps l i has);
      known = ap (λ m. insert_new m (drop (c.loop-claim.claim-index + 1) cs)) put.known
          ∙ insert_new-step (g.N.NodeMap.seen c.loop-claim.map).known cs c.loop-claim.claim-index none c.loop-claim-test.true
          ∙ before.known;
      gained = omega (arith, put.gained, before.gained);
      bound = omega (arith, put.one, before.bound);
      room = λ k d in'. put.keeps _ _ (before.room k d in');
    }
