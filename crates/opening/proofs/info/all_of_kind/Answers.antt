use Rattle.std.proofs.Common.{rules}
use Rattle.std.proofs.lemmas.Result.{err_from_is_err_and}
use Rattle.opening.proofs.Keys.{third_kind}
use Rattle.opening.proofs.info.all_of_kind.Goals as goal

pub returns-in_err-piece_length : goal.returns-in_err-piece_length
returns-in_err-piece_length c =
    let p = err_from_is_err_and c.from_residual-in_err-piece_length.result c.from_residual-in_err-piece_length.ensures.1 in
    rw (p.1, p.2, c.in_err-piece_length.ensures.1) (λ info there. third_kind info _ _ _ _ _ there.tree there.name there.piece_length c.in_ok-tree.ensures
    c.in_ok-name.ensures.0 c.in_ok-name.ensures.1 c.in_err-piece_length.ensures.0)

pub returns-in_err-tree : goal.returns-in_err-tree
returns-in_err-tree c = search rules

pub returns-in_err-name : goal.returns-in_err-name
returns-in_err-name c = search rules

pub returns : goal.returns
returns c = search rules
