use Rattle.std.proofs.Common.{refl, subst}
use Rattle.hashtree.specs.PieceCheck as pieces
use Rattle.short_pushes.proofs.Rows.{handed_on}
use Rattle.short_pushes.proofs.row_check.RowCheck.hand_on.Goals as goal

pub returns-clause-content : goal.returns-clause-content
returns-clause-content c =
    let good = c.args.good.now in let marks = c.push_marking.new.good in
    handed_on c.args.self.now _ good marks refl refl refl c.clear.ensures
    (subst (λ w. pieces.FeedsRow c.args.self.now.check good w c.push_marking.new.self marks) c.as_slice.ensures c.push_marking.ensures)
