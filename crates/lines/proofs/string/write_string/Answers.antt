use Rattle.std.proofs.Common.{◌++◌, codes, refl}
use Rattle.std.proofs.lemmas.Result.{err_from_is_err_and}
use Rattle.benc.proofs.Out.{Wrote-then, Wrote-part}
use Rattle.lines.specs.Strings.{string_bytes}
use Rattle.lines.proofs.string.write_string.Goals as goal

pub returns-in_err-write_all : goal.returns-in_err-write_all
returns-in_err-write_all g c =
    let p = err_from_is_err_and c.from_residual.result c.from_residual.ensures.1 in
    Wrote-part _ p.0 _ _ (codes "\"") (string_bytes c.args.text.now ++ codes "\"") _ refl p.1 c.in_err-write_all.ensures

pub returns : goal.returns
returns g c =
    Wrote-then _ _ _ _ (codes "\"") (string_bytes c.args.text.now ++ codes "\"") _ refl c.in_ok-write_all.ensures
    (c.close_string.ensures _ (string_bytes c.args.text.now) c.write_inside-said.ensures)
