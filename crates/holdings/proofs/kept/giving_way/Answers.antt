use Rattle.std.proofs.Common.{◌≤◌, arith}
use Rattle.std.specs.FinMap.{len}
use Rattle.holdings.proofs.GivingWay.{has-age, oldest-of}
use Rattle.holdings.proofs.kept.giving_way.Goals as goal

pub unreachable-requires : goal.unreachable-requires
unreachable-requires c =
    let (clock, kept) = c.requires in
    let full : c.args.most ≤ len c.args.pieces.now.pieces = omega (arith, c.if-len-most.false, c.len.ensures) in
    has-age c.args.pieces.now c.args.ages.now c.args.most clock kept full c.in_default.ensures.none

pub returns-clause-oldest : goal.returns-clause-oldest
returns-clause-oldest c =
    let (clock, kept) = c.requires in
    oldest-of c.args.pieces.now c.args.ages.now c.args.most clock kept (c.in-Some.field-0-0-0, c.in-Some.newest) c.in-Some.key c.in-Some.ensures.there
    c.in-Some.ensures.least
