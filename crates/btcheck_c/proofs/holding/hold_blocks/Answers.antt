use Rattle.std.proofs.Common.{IfOk, subst}
use Rattle.session.specs.Session.{AreTaken}
use Rattle.btcheck_c.proofs.Taking.{torrent_after_blocks}
use Rattle.btcheck_c.proofs.Placing.{taken_placed}
use Rattle.btcheck_c.proofs.holding.hold_blocks.Goals as goal

pub hold_unproved-requires : goal.hold_unproved-requires
hold_unproved-requires c =
    let S = c.args.session.now in let S' = c.take_blocks.new.self in
    taken_placed S S' c.args.index c.args.begin c.args.bytes.now c.in-Ok.blocks
    (torrent_after_blocks S S' c.args.index c.args.begin c.args.bytes c.take_blocks.result c.take_blocks.ensures.taken c.take_blocks.ensures.refused)
    (subst (λ r. IfOk r (λ v. AreTaken S c.args.index c.args.begin c.args.bytes.now v S')) c.in-Ok.is c.take_blocks.ensures.taken)
