use Rattle.std.proofs.Common.{◌≡◌, refl, inl, inr, arith}
use Rattle.btcheck_c.specs.FileChecks.{check_bytes_left}
use Rattle.btcheck_c.proofs.check_calls.finish_bits.Goals as goal

pub stop-requires : goal.stop-requires
stop-requires c = omega (arith, c.left.ensures, c.if-left-eq0.false)

pub finish-requires : goal.finish-requires
finish-requires c = omega (arith, c.left.ensures)

pub returns-clause-done : goal.returns-clause-done
returns-clause-done c =
    inr (refl, (omega (arith, c.left.ensures, c.if-left-eq0.false), (c.stop.ensures.verdict, (c.stop.new.self, refl, c.stop.ensures.begins))))

pub returns-then-left-eq0-clause-done : goal.returns-then-left-eq0-clause-done
returns-then-left-eq0-clause-done c =
    let none : check_bytes_left c.args.check.now ≡ 0 = omega (arith, c.left.ensures, c.if-left-eq0.true) in
    inl (
      none,
      (
        c.finish.result,
        c.write_piece.ensures.done,
        (c.finish.ensures.verdict, (c.finish.new.self, refl, c.finish.ensures.begins)),
      ),
    )
