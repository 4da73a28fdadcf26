use Rattle.std.proofs.Common.{◌+◌, arith, get_or, ap}
use Rattle.std.specs.Str.Parse.{digits_value}
use Rattle.std.proofs.lemmas.List.{take_all}
use Rattle.benc.proofs.Digits.{run_step, run_le, digit_low}
use Rattle.benc.proofs.scan.number.Goals as goal

pub returns-in_err-checked_mul : goal.returns-in_err-checked_mul
returns-in_err-checked_mul c =
    let step = run_step c.args.run.now c.loop-c.c-index c.requires (omega arith) in
    let le = run_le c.args.run.now (c.loop-c.c-index + 1) in
    rw c.from_residual.ensures (λ h. c.in_err-checked_mul.ensures (omega arith))

pub returns-in_err-n : goal.returns-in_err-n
returns-in_err-n c =
    let step = run_step c.args.run.now c.loop-c.c-index c.requires (omega arith) in
    let le = run_le c.args.run.now (c.loop-c.c-index + 1) in
    rw c.from_residual-in_err-n.ensures (λ h. c.in_err-n.ensures (omega arith))

pub loop-c-preserved : goal.loop-c-preserved
loop-c-preserved c =
    let run = c.args.run.now in
    let i = c.loop-c.c-index in
    let step = run_step run i c.requires (omega arith) in
    let low = digit_low (get_or run i 0) (c.requires i (omega arith)) in
    record { fits = omega (arith, c.in_ok-n.ensures); is = omega (arith, step, c.in_ok-n.ensures, c.in_ok-checked_mul.ensures, c.from.ensures) }

pub returns : goal.returns
returns c =
    let all = ap (digits_value 10) (take_all c.loop-c.c-index c.args.run.now (omega arith)) in
    (omega (arith, all), omega (arith, all))
