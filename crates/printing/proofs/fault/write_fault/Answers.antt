use Rattle.std.proofs.Common.{◌++◌, codes, refl}
use Rattle.std.proofs.lemmas.Result.{err_from_is_err_and}
use Rattle.benc.proofs.Out.{Wrote-then, Wrote-part}
use Rattle.printing.specs.Fault.{fault_reason}
use Rattle.printing.proofs.fault.write_fault.Goals as goal

pub returns-in_err-write_all : goal.returns-in_err-write_all
returns-in_err-write_all g c =
    let reason = fault_reason c.args.fault.now in
    let p = err_from_is_err_and c.from_residual.result c.from_residual.ensures.1 in
    Wrote-part _ p.0 _ _ (codes "fault: ") (reason ++ codes "\n") _ refl p.1 c.in_err-write_all.ensures

pub returns-in_err-write_reason : goal.returns-in_err-write_reason
returns-in_err-write_reason g c =
    let reason = fault_reason c.args.fault.now in
    let p = err_from_is_err_and c.from_residual-in_err-write_reason.result c.from_residual-in_err-write_reason.ensures.1 in
    Wrote-then _ _ _ _ (codes "fault: ") (reason ++ codes "\n") _ refl c.in_ok-write_all.ensures
    (Wrote-part _ p.0 _ _ reason (codes "\n") _ refl p.1 c.in_err-write_reason.ensures)

pub returns : goal.returns
returns g c =
    let reason = fault_reason c.args.fault.now in
    Wrote-then _ _ _ _ (codes "fault: ") (reason ++ codes "\n") _ refl c.in_ok-write_all.ensures
    (Wrote-then _ _ _ _ reason (codes "\n") _ refl c.in_ok-write_reason.ensures c.write_all-2.ensures)
