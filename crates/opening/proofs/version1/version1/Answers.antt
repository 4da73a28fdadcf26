use Rattle.std.proofs.Common.{sym, map, subst, ap, ◌∙◌}
use Rattle.benc.specs.View.{view}
use Rattle.opening.specs.PieceLayers.{as_digests}
use Rattle.opening.specs.Seen.{file_entry}
use Rattle.opening.specs.Stream.{parts_in}
use Rattle.opening.proofs.Streams.{Streamed, streamed, no_hybrid, stream_refused, cuts_refused, hybrid_read}
use Rattle.benc.proofs.Handed.{handed_on}
use Rattle.opening.proofs.version1.version1.Goals as goal

pub returns-in_default : goal.returns-in_default
returns-in_default c = λ fs fits. no_hybrid c.args.piece_length (view c.args.info.now) c.args.name.now fs (sym c.in_default.ensures)

pub returns-in_err-total : goal.returns-in_err-total
returns-in_err-total c =
    rw (handed_on c.from_residual.result _ c.from_residual.ensures.1)
    (λ fs fits.
    let at = streamed c.args.piece_length fs (map file_entry c.args.files.now) (view c.args.info.now) c.args.name.now fits.some fits.names fits.short in
    stream_refused c.args.piece_length (view c.args.info.now) (view c.in-Some.pieces.now) c.args.name.now fs c.in_err-total.field-0.0
    (sym c.in-Some.ensures)
    (subst (Streamed c.args.piece_length fs (parts_in (view c.args.info.now) c.args.name.now)) (sym c.in_err-total.ensures) at))

pub returns : goal.returns
returns c = λ fs fits.
    let at = streamed c.args.piece_length fs (map file_entry c.args.files.now) (view c.args.info.now) c.args.name.now fits.some fits.names fits.short in
    hybrid_read c.args.piece_length (view c.args.info.now) (view c.in-Some.pieces.now) c.args.name.now fs c.in_ok-total.total c.in-Some-digests.pieces.now
    (sym c.in-Some.ensures)
    (subst (Streamed c.args.piece_length fs (parts_in (view c.args.info.now) c.args.name.now)) (sym c.in_ok-total.ensures) at)
    (ap (λ n. as_digests 20 n (view c.in-Some.pieces.now)) (sym c.pieces.ensures) ∙ sym c.in-Some-digests.ensures.value)

pub returns-in_default-digests : goal.returns-in_default-digests
returns-in_default-digests c = λ fs fits.
    let at = streamed c.args.piece_length fs (map file_entry c.args.files.now) (view c.args.info.now) c.args.name.now fits.some fits.names fits.short in
    cuts_refused c.args.piece_length (view c.args.info.now) (view c.in-Some.pieces.now) c.args.name.now fs c.in_ok-total.total
    (sym c.in-Some.ensures)
    (subst (Streamed c.args.piece_length fs (parts_in (view c.args.info.now) c.args.name.now)) (sym c.in_ok-total.ensures) at)
    (ap (λ n. as_digests 20 n (view c.in-Some.pieces.now)) (sym c.pieces.ensures) ∙ sym c.in_default-digests.ensures.value)
