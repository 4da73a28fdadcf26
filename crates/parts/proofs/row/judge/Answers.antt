use Rattle.std.proofs.Common.{◌≡◌, arith}
use Rattle.opening.specs.Seen.{file_entry}
use Rattle.parts.proofs.SoFar.{no_row}
use Rattle.parts.proofs.row.judge.Goals as goal

pub returns-then-span-clause-judged : goal.returns-then-span-clause-judged
returns-then-span-clause-judged g c =
    let t = c.args.torrent.now in
    let f = file_entry c.args.file.now in
    let s = c.args.span in
    let same : s.from ≡ s.to = omega (arith, c.if-span.true) in
    no_row t f s (g.F.Source.seen c.args.source.now) c.args.bits.now.items c.recall_sound.ensures c.requires.span same c.requires.clear
