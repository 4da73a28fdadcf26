use Rattle.std.proofs.Common.{◌∙◌, sym, subst, Err, Ok}
use Rattle.std.proofs.lemmas.Result.{err_from_is_err_and}
use Rattle.benc.specs.declared.device.DeviceFault.{DeviceFault}
use Rattle.folders.specs.Printed.{wanted_rows}
use Rattle.opening.specs.Seen.{file_entry}
use Rattle.parts.specs.Parts.{piece_count}
use Rattle.parts.specs.RowBits.{HasGoodPiece}
use Rattle.parts.specs.Runs.{IsSetIfIn, WritesRuns}
use Rattle.parts.specs.Telling.{TellsFile}
use Rattle.parts.proofs.Tellings.{front_and_runs, front_broke, needs_bits, runs_broke, whole_asks}
use Rattle.parts.proofs.Tellings.{whole_first, whole_row, whole_told}
use Rattle.parts.proofs.telling.Telling.tell.Goals as goal

pub returns-in_err-say_wanted-in-LineAndRuns-clause-tells : goal.returns-in_err-say_wanted-in-LineAndRuns-clause-tells
returns-in_err-say_wanted-in-LineAndRuns-clause-tells g c =
    let spelled = g.L.LineSink.spelled in
    let t = c.args.torrent.now in
    let f = file_entry c.args.file.now in
    let lines = c.in-LineAndRuns.lines in
    let v = c.args.verdict in
    let bits = c.args.bits.now in
    let old = g.L.LineSink.seen c.args.out.now in
    let new = g.L.LineSink.seen c.say_wanted-in-LineAndRuns.new.out in
    let p = err_from_is_err_and c.from_residual.result c.from_residual.ensures.1 in
    let room = c.requires.room (needs_bits c.args.self lines c.in-LineAndRuns.is) in
    subst (TellsFile spelled t c.args.self f v bits old new) (sym p.1)
    (subst (λ s. TellsFile spelled t s f v bits old new (Err p.0)) (sym c.in-LineAndRuns.is)
    (whole_first spelled t lines f v bits old new p.0
    (front_broke spelled t f v bits 0 (piece_count t f) (wanted_rows lines v f) (HasGoodPiece t f) old new (whole_row t f bits room)
    (whole_asks t f)
    c.in_err-say_wanted-in-LineAndRuns.ensures)))

pub returns-in_err-say_runs-in-LineAndRuns-clause-tells : goal.returns-in_err-say_runs-in-LineAndRuns-clause-tells
returns-in_err-say_runs-in-LineAndRuns-clause-tells g c =
    let spelled = g.L.LineSink.spelled in
    let t = c.args.torrent.now in
    let f = file_entry c.args.file.now in
    let lines = c.in-LineAndRuns.lines in
    let v = c.args.verdict in
    let bits = c.args.bits.now in
    let old = g.L.LineSink.seen c.args.out.now in
    let mid = g.L.LineSink.seen c.say_wanted-in-LineAndRuns.new.out in
    let new = g.L.LineSink.seen c.say_runs.new.out in
    let r = c.from_residual-in_err-say_runs-in-LineAndRuns in
    let p = err_from_is_err_and r.result r.ensures.1 in
    let room = c.requires.room (needs_bits c.args.self lines c.in-LineAndRuns.is) in
    let ran = subst (λ n. WritesRuns spelled t f (IsSetIfIn 0 0 n bits) mid new
    (Err p.0)) c.piece_count-count.ensures c.in_err-say_runs-in-LineAndRuns.ensures in
    subst (TellsFile spelled t c.args.self f v bits old new) (sym p.1)
    (subst (λ s. TellsFile spelled t s f v bits old new (Err p.0)) (sym c.in-LineAndRuns.is)
    (whole_first spelled t lines f v bits old new p.0
    (runs_broke spelled t f v bits 0 (piece_count t f) (wanted_rows lines v f) (HasGoodPiece t f) old mid new (whole_row t f bits room)
    (whole_asks t f)
    (sym c.has_runs.ensures ∙ c.if-has_runs.true) c.in_ok-say_wanted-in-LineAndRuns.ensures ran)))

pub returns-in_ok-say_runs-in-LineAndRuns-clause-tells : goal.returns-in_ok-say_runs-in-LineAndRuns-clause-tells
returns-in_ok-say_runs-in-LineAndRuns-clause-tells g c =
    let spelled = g.L.LineSink.spelled in
    let t = c.args.torrent.now in
    let f = file_entry c.args.file.now in
    let lines = c.in-LineAndRuns.lines in
    let v = c.args.verdict in
    let bits = c.args.bits.now in
    let old = g.L.LineSink.seen c.args.out.now in
    let mid = g.L.LineSink.seen c.say_wanted-in-LineAndRuns.new.out in
    let new = g.L.LineSink.seen c.say_runs.new.out in
    let room = c.requires.room (needs_bits c.args.self lines c.in-LineAndRuns.is) in
    let ran = subst (λ n. WritesRuns {E = DeviceFault} spelled t f (IsSetIfIn 0 0 n bits) mid new
    (Ok tt)) c.piece_count-count.ensures c.in_ok-say_runs-in-LineAndRuns.ensures in
    subst (λ s. TellsFile spelled t s f v bits old new (Ok tt)) (sym c.in-LineAndRuns.is)
    (whole_told spelled t lines f v bits old new
    (front_and_runs spelled t f v bits 0 (piece_count t f) (wanted_rows lines v f) (HasGoodPiece t f) old mid new ran.0
    (whole_row t f bits room) (whole_asks t f)
    (sym c.has_runs.ensures ∙ c.if-has_runs.true) c.in_ok-say_wanted-in-LineAndRuns.ensures ran.1 ran.2))
