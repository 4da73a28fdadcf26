use Rattle.std.proofs.lemmas.Result.{err_from_is_err_and}
use Rattle.printing.proofs.Parts.{sent_fault, sent_next}
use Rattle.lines.proofs.Spelled.{next_byte}
use Rattle.lines.proofs.string.write_inside.Goals as goal

pub returns-in_err-write_byte : goal.returns-in_err-write_byte
returns-in_err-write_byte g c =
    let next = next_byte c.args.text.now c.bytes.byte-index 0 c.bytes-test.true in
    let p = err_from_is_err_and c.from_residual.result c.from_residual.ensures.1 in
    sent_fault _ p.0 _ _ _ _ _ _ _ c.bytes.invariant next p.1 c.in_err-write_byte.ensures

pub bytes-preserved : goal.bytes-preserved
bytes-preserved g c =
    let next = next_byte c.args.text.now c.bytes.byte-index 0 c.bytes-test.true in
    sent_next _ _ _ _ _ _ _ c.bytes.invariant next c.in_ok-write_byte.ensures
