use Rattle.std.proofs.Common.{sym, arith}
use Rattle.std.proofs.lemmas.List.{length-take-le}
use Rattle.wire.specs.Meaning.{ask_bytes}
use Rattle.wire.proofs.AskFields.{drop-number, five_fields}
use Rattle.wire.proofs.parse.ask_at.Goals as goal

pub slice_bounds-copy_from_slice-end-2 : goal.slice_bounds-copy_from_slice-end-2
slice_bounds-copy_from_slice-end-2 c = sym (length-take-le 32 c.args.bytes.now (omega (arith, c.requires)))

pub copy_from_slice-requires : goal.copy_from_slice-requires
copy_from_slice-requires c = sym (length-take-le 32 c.args.bytes.now (omega (arith, c.requires)))

pub returns-clause-bytes : goal.returns-clause-bytes
unfolding ask_bytes
returns-clause-bytes c =
    let bytes = c.args.bytes.now in
    five_fields c.copy_from_slice.new.self bytes c.number_at.result c.number_at-2.result c.number_at-3.result c.number_at-4.result
    c.copy_from_slice.ensures.after
    (drop-number 32 c.number_at.result bytes c.number_at.ensures) (drop-number 36 c.number_at-2.result bytes c.number_at-2.ensures)
    (drop-number 40 c.number_at-3.result bytes c.number_at-3.ensures) (drop-number 44 c.number_at-4.result bytes c.number_at-4.ensures)
