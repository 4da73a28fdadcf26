use Rattle.std.proofs.Common.{refl}
use Rattle.wire.proofs.RecordParts.{frame_later, ends_later, stops_later}
use Rattle.wire.specs.declared.form.Direction.TheVariants.{In}
use Rattle.wire.specs.declared.form.Form.TheVariants.{One}
use Rattle.benc.proofs.Handed.{handed_on}
use Rattle.wire.proofs.record.read_incoming.Goals as goal

pub returns-in_err-read_frame-clause-bytes : goal.returns-in_err-read_frame-clause-bytes
returns-in_err-read_frame-clause-bytes g c =
    rw (handed_on c.from_residual.result _ c.from_residual.ensures.1) (stops_later _ _ _ c.in_err-read_frame.ensures.bytes)

pub returns-in-Some-clause-bytes : goal.returns-in-Some-clause-bytes
returns-in-Some-clause-bytes g c =
    let p = rw c.in-Some.is at c.in_ok-read_frame.ensures.bytes in
    ((In, p.0), frame_later p.0 _ _ p.1 p.2, (refl, p.3))

pub returns-in-None-clause-bytes : goal.returns-in-None-clause-bytes
returns-in-None-clause-bytes g c =
    let p = rw c.in-None.is at c.in_ok-read_frame.ensures.bytes in
    ends_later One _ _ p.0 p.1
