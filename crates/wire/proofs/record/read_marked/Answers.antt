use Rattle.std.proofs.Common.{refl, ◌++◌}
use Rattle.wire.specs.declared.form.Direction.TheVariants.{In}
use Rattle.wire.proofs.Heads.{Holds-longest}
use Rattle.wire.proofs.RecordParts.{longest_frame, next_after_header, stops_after_header, stops_behind_half, stops_in_half, gave_header, half_is, half_is_not}
use Rattle.benc.proofs.Handed.{handed_on}
use Rattle.wire.proofs.Stopping.{device}
use Rattle.wire.specs.RecordReader.{HasDirectedHead}
use Rattle.wire.proofs.record.read_marked.Goals as goal

pub returns-in_err-read_exact-clause-bytes : goal.returns-in_err-read_exact-clause-bytes
returns-in_err-read_exact-clause-bytes g c = λ start first.
    rw (handed_on c.from_residual.result _ c.from_residual.ensures.1)
    (stops_in_half start _ _ _ _ refl (device _ c.in_err-read_exact.ensures.no_memory)
    first c.in_err-read_exact.ensures.bytes)

pub returns-in_err-read_directed-clause-bytes : goal.returns-in_err-read_directed-clause-bytes
returns-in_err-read_directed-clause-bytes g c = λ start first.
    let head = gave_header start _ _ c.read_exact.new.buf (half_is _ c.if-eq.ensures) first
    c.in_ok-read_exact.ensures.bytes in
    rw (handed_on c.from_residual-in_err-read_directed.result _ c.from_residual-in_err-read_directed.ensures.1)
    (stops_after_header start _ _ _ head c.in_err-read_directed.ensures.bytes)

pub returns-in_err-skip-clause-bytes : goal.returns-in_err-skip-clause-bytes
returns-in_err-skip-clause-bytes g c = λ start first.
    rw (handed_on c.from_residual-in_err-skip.result _ c.from_residual-in_err-skip.ensures.1)
    (stops_behind_half start _ _ _ c.read_exact.new.buf _ _
    c.read_exact.auto.buf (half_is_not _ c.if-eq.ensures) refl
    (device _ c.in_err-skip.ensures.no_memory) first c.in_ok-read_exact.ensures.bytes c.in_err-skip.ensures.bytes)

pub returns-in_ok-read_directed-clause-bytes : goal.returns-in_ok-read_directed-clause-bytes
returns-in_ok-read_directed-clause-bytes g c = λ start first.
    let head = gave_header start _ _ c.read_exact.new.buf (half_is _ c.if-eq.ensures) first
    c.in_ok-read_exact.ensures.bytes in
    next_after_header (HasDirectedHead c.read_directed.new.kept.items) start _ _
    c.in_ok-read_directed.field-0 head c.in_ok-read_directed.ensures.bytes

pub returns-in_ok-skip-clause-bytes : goal.returns-in_ok-skip-clause-bytes
returns-in_ok-skip-clause-bytes g c = λ start first.
    let half = c.read_exact.new.buf in
    let rest = c.in_ok-skip.ensures.bytes in (
      (In, half ++ rest.0),
      longest_frame start _ _ _ half rest.0 c.read_exact.auto.buf
          (half_is_not _ c.if-eq.ensures) rest.2 first c.in_ok-read_exact.ensures.bytes rest.1,
      (refl, Holds-longest c.of.result c.args.kept.now.items half rest.0 c.read_exact.auto.buf c.of.ensures rest.2),
    )
