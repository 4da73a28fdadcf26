use Rattle.std.proofs.Common.{subst}
use Rattle.benc.specs.Device.{Wrote}
use Rattle.lines.specs.Rows.{spell}
use Rattle.opening.specs.Seen.{file_entry}
use Rattle.parts.specs.PartLines.{held_rows}
use Rattle.parts.proofs.PlaceTests.{place_test}
use Rattle.parts.proofs.part_lines.say_held.Goals as goal

pub returns : goal.returns
returns g c =
    let f = file_entry c.args.file.now in
    subst (λ b. Wrote (g.L.LineSink.seen c.args.out.now) (g.L.LineSink.seen c.say_if.new.out) c.say_if.result
    (spell g.L.LineSink.spelled (held_rows b c.args.verdict f)))
    (place_test c.args.torrent.now c.args.places f c.touches-is_held.result c.touches-is_held.ensures) c.say_if.ensures
