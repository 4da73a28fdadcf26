use Rattle.std.proofs.lemmas.Result.{err_from_is_err_and}
use Rattle.benc.proofs.decoding.span.Goals as goal

pub returns-in_err-span-clause-first : goal.returns-in_err-span-clause-first
returns-in_err-span-clause-first c kind offset f =
    let p = err_from_is_err_and c.from_residual.result c.from_residual.ensures.1 in rw (p.1, p.2) (c.in_err-span.ensures.first kind offset f)

pub returns-clause-first : goal.returns-clause-first
returns-clause-first c kind offset f = c.in_ok-span.ensures.first kind offset f
