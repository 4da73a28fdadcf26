use Rattle.std.proofs.Common.{◌∷◌, []}
use Rattle.opening.specs.Seen.{file_entry}
use Rattle.folders.specs.Printed.{verdict_row}
use Rattle.folders.proofs.SentLines.{wrote_if, wrote_none, wrote_one}
use Rattle.parts.proofs.part_lines.say_if.Goals as goal

pub returns-then-is_held : goal.returns-then-is_held
returns-then-is_held g c =
    let line = verdict_row c.args.verdict (file_entry c.args.file.now) in
    wrote_if g.L.LineSink.spelled (line ∷ []) _ _ _ _ c.if-is_held.true (wrote_one g.L.LineSink.spelled line _ _ _ c.say_verdict.ensures)

pub returns-else-is_held : goal.returns-else-is_held
returns-else-is_held g c =
    let line = verdict_row c.args.verdict (file_entry c.args.file.now) in
    wrote_none g.L.LineSink.spelled (line ∷ []) _ _ c.if-is_held.false
