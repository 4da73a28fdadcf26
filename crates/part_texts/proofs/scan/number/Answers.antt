use Rattle.std.proofs.Common.{◌<◌, get_or, arith}
use Rattle.part_texts.proofs.Numbers.{number_in_front}
use Rattle.part_texts.proofs.scan.number.Goals as goal

pub returns-clause-front : goal.returns-clause-front
returns-clause-front c =
    let e = c.in_ok-bytes.ensures.cases in
    number_in_front c.args.text.now c.in_ok-bytes.bytes.now c.in_ok-bytes.rest.now c.from_be_bytes.result (λ i. omega (arith, c.type_inv.text i)) e.0 e.1 e.2
    c.from_be_bytes.ensures
