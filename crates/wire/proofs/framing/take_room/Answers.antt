use Rattle.std.proofs.Common.{arith}
use Rattle.std.proofs.lemmas.Result.{err_from_is_err_and}
use Rattle.wire.proofs.framing.take_room.Goals as goal

pub returns-in_ok-reserve_exact-clause-grows : goal.returns-in_ok-reserve_exact-clause-grows
returns-in_ok-reserve_exact-clause-grows c = omega (arith, c.in_ok-reserve_exact.ensures.capacity_exact, c.args.kept.now.ok.0)

pub returns-in_err-reserve_exact-clause-memory : goal.returns-in_err-reserve_exact-clause-memory
returns-in_err-reserve_exact-clause-memory c =
    let p = err_from_is_err_and c.from_residual.result c.from_residual.ensures.1 in
    rw p.1 (omega (arith, c.in_err-reserve_exact.ensures.full, c.args.kept.now.ok.0))
