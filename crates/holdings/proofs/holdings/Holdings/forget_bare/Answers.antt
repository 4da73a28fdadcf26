use Rattle.std.proofs.Common.{◌≡◌, sym, ap, ◌∙◌}
use Rattle.std.specs.FinMap.{remove}
use Rattle.fixed_maps.specs.FixedMaps.{map_of}
use Rattle.holdings.proofs.KeptPieces.{kept-gone}
use Rattle.holdings.proofs.holdings.Holdings.forget_bare.Goals as goal

pub invariant_of-self : goal.invariant_of-self
invariant_of-self c =
    let (x, there, newest, bare) = c.in-Some.ensures.bare in
    kept-gone c.self.inside.pieces c.withdraw.new.pieces c.self.inside.ages c.withdraw.new.ages c.self.inside.most c.self.inside.clock c.self.invariant
    c.args.key c.withdraw.ensures.room x there c.withdraw.ensures.piece
    (c.withdraw.ensures.age ∙ ap (λ t. remove (map_of c.self.inside.ages) (0, t)) (sym newest))
