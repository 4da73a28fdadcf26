use Rattle.std.proofs.Common.{subst₂}
use Rattle.hashtree.specs.Judging.{IsJudgedRow}
use Rattle.short_pushes.proofs.row_check.RowCheck.finish.Goals as goal

pub returns-clause-found : goal.returns-clause-found
returns-clause-found c = λ bytes given.
    let is = c.ended.ensures.ended in
    let found = c.finish_marking.ensures.found bytes (is.fed c.args.good.now bytes given) in
    let judged = subst₂ (λ l h. IsJudgedRow l h bytes c.finish_marking.new.good c.finish_marking.result.2) is.layer is.hashes found.2 in
    (found.0, found.1, judged)
