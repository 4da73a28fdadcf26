use Rattle.std.proofs.Common.{refl}
use Rattle.wire.proofs.RecordParts.{frame_directed, stops_directed}
use Rattle.benc.proofs.Handed.{handed_on}
use Rattle.wire.proofs.record.read_directed.Goals as goal

pub returns-in_err-read_body-in-Some-clause-bytes : goal.returns-in_err-read_body-in-Some-clause-bytes
returns-in_err-read_body-in-Some-clause-bytes g c =
    let start = rw c.in-Some.is at c.in_ok-read_start.ensures.bytes in
    rw (handed_on c.from_residual-in_err-read_body-in-Some.result _ c.from_residual-in_err-read_body-in-Some.ensures.1)
    (stops_directed c.in-Some.direction c.in-Some.len _ _ _
    _ start.1 start.0 c.in_err-read_body-in-Some.ensures.bytes)

pub returns-in_ok-read_body-in-Some-clause-bytes : goal.returns-in_ok-read_body-in-Some-clause-bytes
returns-in_ok-read_body-in-Some-clause-bytes g c =
    let start = rw c.in-Some.is at c.in_ok-read_start.ensures.bytes in
    let rest = c.in_ok-read_body-in-Some.ensures.bytes in (
      (c.in-Some.direction, rest.0),
      frame_directed (c.in-Some.direction, rest.0) c.in-Some.len _ _
          _ start.1 rest.2 start.0 rest.1,
      (refl, rest.3),
    )
