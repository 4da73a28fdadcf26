use Rattle.std.proofs.Common.{map, refl, string_bytes}
use Rattle.std.proofs.lemmas.Result.{err_from_is_err_and}
use Rattle.benc.proofs.Out.{Wrote-then, Wrote-part}
use Rattle.printing.specs.Text.{path_text}
use Rattle.printing.proofs.fault.write_about_file.Goals as goal

pub returns-in_err-write_all : goal.returns-in_err-write_all
returns-in_err-write_all g c =
    let p = err_from_is_err_and c.from_residual.result c.from_residual.ensures.1 in
    Wrote-part _ p.0 _ _ c.args.text.now (path_text (map string_bytes c.args.path.now)) _ refl p.1 c.in_err-write_all.ensures

pub returns : goal.returns
returns g c =
    let path = path_text (map string_bytes c.args.path.now) in
    Wrote-then _ _ _ _ c.args.text.now path _ refl c.in_ok-write_all.ensures c.write_path.ensures
