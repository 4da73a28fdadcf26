use Rattle.std.proofs.Common.{refl}
use Rattle.wire.specs.declared.form.Direction.TheVariants.{In}
use Rattle.wire.proofs.RecordParts.{first_frame, stops_in_body, stops_in_length}
use Rattle.benc.proofs.Handed.{handed_on}
use Rattle.wire.proofs.Stopping.{device}
use Rattle.wire.proofs.record.read_first.Goals as goal

pub returns-in_err-read_length-clause-bytes : goal.returns-in_err-read_length-clause-bytes
returns-in_err-read_length-clause-bytes g c =
    rw (handed_on c.from_residual.result _ c.from_residual.ensures.1)
    (stops_in_length _ _ _ (device _ c.in_err-read_length.ensures.no_memory)
    c.in_err-read_length.ensures.bytes)

pub returns-in_err-read_body-in-Some-clause-bytes : goal.returns-in_err-read_body-in-Some-clause-bytes
returns-in_err-read_body-in-Some-clause-bytes g c =
    let front = rw c.in-Some.is at c.in_ok-read_length.ensures.bytes in
    rw (handed_on c.from_residual-in_err-read_body-in-Some.result _ c.from_residual-in_err-read_body-in-Some.ensures.1)
    (stops_in_body _ _ _ c.in-Some.len _ front.1
    c.in-Some.len-test.1 front.0 c.in_err-read_body-in-Some.ensures.bytes)

pub returns-in_ok-read_body-in-Some-clause-bytes : goal.returns-in_ok-read_body-in-Some-clause-bytes
returns-in_ok-read_body-in-Some-clause-bytes g c =
    let front = rw c.in-Some.is at c.in_ok-read_length.ensures.bytes in
    let rest = c.in_ok-read_body-in-Some.ensures.bytes in (
      (In, rest.0),
      first_frame _ _ _ c.in-Some.len rest.0 front.1 c.in-Some.len-test.1
          front.0 rest.1 rest.2,
      (refl, rest.3),
    )
