use Rattle.wire.specs.Frames.{four_bytes, frame}
use Rattle.wire.proofs.Giving.{Faultless-trans}
use Rattle.benc.proofs.Handed.{handed_on}
use Rattle.wire.proofs.Stopping.{StopsInFrame-in_body, StopsInFrame-in_length, device}
use Rattle.wire.proofs.framing.read_frame.Goals as goal

pub returns-in_err-read_length-clause-bytes : goal.returns-in_err-read_length-clause-bytes
returns-in_err-read_length-clause-bytes g c =
    rw (handed_on c.from_residual.result _ c.from_residual.ensures.1)
    (StopsInFrame-in_length _ _ _ (device _ c.in_err-read_length.ensures.no_memory)
    c.in_err-read_length.ensures.bytes)

pub returns-in_err-read_body-in-Some-clause-bytes : goal.returns-in_err-read_body-in-Some-clause-bytes
returns-in_err-read_body-in-Some-clause-bytes g c =
    let front = rw c.in-Some.is at c.in_ok-read_length.ensures.bytes in
    rw (handed_on c.from_residual-in_err-read_body-in-Some.result _ c.from_residual-in_err-read_body-in-Some.ensures.1)
    (StopsInFrame-in_body _ _ _ c.in-Some.len _ front.1
    front.0 c.in_err-read_body-in-Some.ensures.bytes)

pub returns-in_ok-read_body-in-Some-clause-bytes : goal.returns-in_ok-read_body-in-Some-clause-bytes
unfolding frame
returns-in_ok-read_body-in-Some-clause-bytes g c =
    let front = rw c.in-Some.is at c.in_ok-read_length.ensures.bytes in
    let rest = c.in_ok-read_body-in-Some.ensures.bytes in (
      rest.0,
      rw rest.2 front.1,
      rw rest.2 (Faultless-trans _ _ _ (four_bytes c.in-Some.len) rest.0
          front.0 rest.1),
      rest.3,
    )

pub returns-in_err-read_body-in-Some-clause-room : goal.returns-in_err-read_body-in-Some-clause-room
returns-in_err-read_body-in-Some-clause-room g c =
    rw (handed_on c.from_residual-in_err-read_body-in-Some.result _ c.from_residual-in_err-read_body-in-Some.ensures.1)
    c.in_err-read_body-in-Some.ensures.room

pub returns-in_err-read_body-in-Some-clause-enough : goal.returns-in_err-read_body-in-Some-clause-enough
returns-in_err-read_body-in-Some-clause-enough g c = c.in_err-read_body-in-Some.ensures.enough

pub returns-in_ok-read_body-in-Some-clause-room : goal.returns-in_ok-read_body-in-Some-clause-room
returns-in_ok-read_body-in-Some-clause-room g c = c.in_ok-read_body-in-Some.ensures.room

pub returns-in_ok-read_body-in-Some-clause-enough : goal.returns-in_ok-read_body-in-Some-clause-enough
returns-in_ok-read_body-in-Some-clause-enough g c = c.in_ok-read_body-in-Some.ensures.enough
