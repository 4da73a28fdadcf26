use Rattle.std.proofs.Common.{◌++◌, ap, refl, sym}
use Rattle.std.proofs.lemmas.Result.{err_from_is_err_and}
use Rattle.benc.proofs.Out.{Wrote-then, Wrote-part}
use Rattle.printing.specs.Text.{escaped}
use Rattle.printing.proofs.fault.write_about.Goals as goal

pub returns-in_err-write_all : goal.returns-in_err-write_all
returns-in_err-write_all g c =
    let p = err_from_is_err_and c.from_residual.result c.from_residual.ensures.1 in
    Wrote-part _ p.0 _ _ c.args.text.now (escaped c.args.path.now) _ refl p.1 c.in_err-write_all.ensures

pub returns : goal.returns
returns g c =
    let text = c.args.text.now in
    let path = escaped c.as_bytes.result.now in
    Wrote-then _ _ _ _ text path _ (ap (λ t. text ++ escaped t) (sym c.as_bytes.ensures.value)) c.in_ok-write_all.ensures c.write_escaped.ensures
