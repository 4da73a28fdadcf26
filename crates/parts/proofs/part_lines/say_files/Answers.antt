use Rattle.std.proofs.Common.{arith}
use Rattle.std.proofs.lemmas.Result.{err_from_is_err_and}
use Rattle.opening.proofs.Placing.{file_there}
use Rattle.printing.proofs.Parts.{sent_fault, sent_next}
use Rattle.parts.proofs.PlaceTests.{next_line}
use Rattle.parts.proofs.part_lines.say_files.Goals as goal

pub say_held-requires : goal.say_held-requires
say_held-requires g c = (
  c.files.i,
  file_there c.args.torrent.now c.args.files.now c.files.i c.index-files-i.result c.requires.of (omega (arith, c.files-test.true)) c.index-files-i.is,
)

pub returns-in_err-say_held : goal.returns-in_err-say_held
returns-in_err-say_held g c =
    let next = next_line g.L.LineSink.spelled c.args.torrent.now c.args.places c.args.verdicts.now c.args.files.now c.files.i c.index-files-i.result
    (omega (arith, c.files-test.true, c.requires.count)) (omega (arith, c.files-test.true)) c.index-files-i.is in
    let p = err_from_is_err_and c.from_residual.result c.from_residual.ensures.1 in
    sent_fault _ p.0 _ _ _ _ _ _ _ c.files.invariant next p.1 c.in_err-say_held.ensures

pub files-preserved : goal.files-preserved
files-preserved g c =
    let next = next_line g.L.LineSink.spelled c.args.torrent.now c.args.places c.args.verdicts.now c.args.files.now c.files.i c.index-files-i.result
    (omega (arith, c.files-test.true, c.requires.count)) (omega (arith, c.files-test.true)) c.index-files-i.is in
    sent_next _ _ _ _ _ _ _ c.files.invariant next c.in_ok-say_held.ensures
