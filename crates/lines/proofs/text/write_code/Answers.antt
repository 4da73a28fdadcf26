use Rattle.std.proofs.Common.{decimal, refl}
use Rattle.std.proofs.lemmas.Result.{err_from_is_err_and}
use Rattle.benc.proofs.Out.{Wrote-then, Wrote-part}
use Rattle.lines.proofs.text.write_code.Goals as goal

pub returns-in_err-write_all : goal.returns-in_err-write_all
returns-in_err-write_all g c =
    let p = err_from_is_err_and c.from_residual.result c.from_residual.ensures.1 in
    Wrote-part _ p.0 _ _ c.args.letter.now (decimal c.args.number) _ refl p.1 c.in_err-write_all.ensures

pub returns : goal.returns
returns g c = Wrote-then _ _ _ _ c.args.letter.now (decimal c.args.number) _ refl c.in_ok-write_all.ensures c.write_number.ensures
