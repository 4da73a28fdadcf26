use Rattle.std.proofs.Common.{◌≡◌, ℕ, ◌+◌, set, Some, None, refl, sym, ap, ◌∙◌, subst}
use Rattle.std.specs.FinMap.{get, remove}
use Rattle.std.proofs.lemmas.List.{length-set}
use Rattle.std.proofs.lemmas.Option.{same_Some}
use Rattle.fixed_maps.specs.FixedMaps.{map_of}
use Rattle.holdings.specs.Holdings.{PieceSeen, HoldingsSeen}
use Rattle.holdings.proofs.KeptPieces.{kept-renewed}
use Rattle.holdings.proofs.holdings.Holdings.renew.Goals as goal

pub invariant_of-self : goal.invariant_of-self
invariant_of-self c =
    let k = c.write.ensures in
    let x : PieceSeen = k.seen in
    let (z, held, before) = c.requires.newest in
    let same : x ≡ z = same_Some x z (sym k.there ∙ subst (λ (v : HoldingsSeen). get v.pieces c.args.key ≡ Some z) (sym c.self.view_is) held) in
    let newest : x.newest ≡ c.args.before = ap (λ (y : PieceSeen). y.newest) same ∙ before in
    kept-renewed c.self.inside.pieces c.write.new.self c.self.inside.ages c.remove.new.self c.self.inside.most c.self.inside.clock c.self.invariant c.args.key
    (c.remove.ensures.room ∙ c.insert.ensures.room) x
    (record { cells = set x.cells c.args.block (Some c.args.digest); newest = c.self.inside.clock }) c.insert.new.self k.there refl
    (length-set x.cells c.args.block (Some c.args.digest)) k.after c.insert.ensures.map
    (c.remove.ensures.map ∙ ap (λ t. remove (map_of c.insert.new.self) (0, t)) (sym newest))
