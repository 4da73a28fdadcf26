use Rattle.std.proofs.Common.{sym, subst}
use Rattle.hashtree.specs.PieceCheck as pieces
use Rattle.short_pushes.proofs.Rows.{begins, ended_row}
use Rattle.short_pushes.proofs.row_check.RowCheck.ended.Goals as goal

pub returns-clause-ended : goal.returns-clause-ended
returns-clause-ended c =
    ended_row c.args.self.now c.hand_on.new.self c.replace.result c.hand_on.new.good c.hand_on.ensures.content c.hand_on.ensures.none c.replace.ensures.value

pub returns-clause-anew : goal.returns-clause-anew
returns-clause-anew c =
    let on = c.hand_on.ensures.content in let kept = c.hand_on.new.self in
    begins c.args.self.now _ on.shape on.layer on.hashes c.hand_on.ensures.none
    (subst (pieces.BeginsRow kept.shape kept.layer kept.hashes.now) (sym c.replace.ensures.after) c.of_row-fresh.ensures)
