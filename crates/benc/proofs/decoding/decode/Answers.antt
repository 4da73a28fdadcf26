use Rattle.std.proofs.Common.{sym, subst}
use Rattle.std.proofs.lemmas.Result.{err_from_is_err_and}
use Rattle.benc.specs.Spelling.{Spells}
use Rattle.benc.proofs.Texts.{fits_spelled}
use Rattle.benc.proofs.decoding.decode.Goals as goal

pub returns-clause-first : goal.returns-clause-first
returns-clause-first c kind offset f = c.in_ok-v.ensures.first kind offset f

pub returns-in_err-v-clause-first : goal.returns-in_err-v-clause-first
returns-in_err-v-clause-first c kind offset f =
    let p = err_from_is_err_and c.from_residual.result c.from_residual.ensures.1 in rw (p.1, p.2) (c.in_err-v.ensures.first kind offset f)

pub returns-clause-encoded : goal.returns-clause-encoded
returns-clause-encoded c v canonical is = c.in_ok-v.ensures.only v (subst (Spells v) (sym is) (fits_spelled 128 v canonical))

pub returns-in_err-v-clause-encoded : goal.returns-in_err-v-clause-encoded
returns-in_err-v-clause-encoded c v canonical is =
    let p = err_from_is_err_and c.from_residual.result c.from_residual.ensures.1 in
    rw (p.1, p.2) (c.in_err-v.ensures.only v (subst (Spells v) (sym is) (fits_spelled 128 v canonical)))
