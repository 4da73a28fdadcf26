use Rattle.std.proofs.Common.{inl, inr, refl}
use Rattle.partial_tree.specs.declared.message.found.NewClaims.{NewClaims}
use Rattle.partial_tree.proofs.Noting.{noted-here, noted-grows}
use Rattle.partial_tree.proofs.message.found.NewClaims.note.Goals as goal

pub returns-then-len-capacity-clause-noted : goal.returns-then-len-capacity-clause-noted
returns-then-len-capacity-clause-noted c =
    let new : NewClaims = record { claims = c.push_reserved.new.self; incomplete = c.args.self.now.incomplete } in
    noted-here new c.args.self.now.claims.items c.args.claim (inr c.push_reserved.ensures.items)

pub returns-then-len-capacity-clause-grows : goal.returns-then-len-capacity-clause-grows
returns-then-len-capacity-clause-grows c =
    let new : NewClaims = record { claims = c.push_reserved.new.self; incomplete = c.args.self.now.incomplete } in
    noted-grows c.args.self.now new c.args.claim (inr (refl, c.push_reserved.ensures.items))

pub returns-else-len-capacity-clause-noted : goal.returns-else-len-capacity-clause-noted
returns-else-len-capacity-clause-noted c = inl refl

pub returns-else-len-capacity-clause-grows : goal.returns-else-len-capacity-clause-grows
returns-else-len-capacity-clause-grows c = record { keeps = λ l i v noted. inl refl }
