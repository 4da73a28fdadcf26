use Rattle.part_reports.proofs.Faults.{head_of}
use Rattle.part_reports.proofs.TextReads.{text_read}
use Rattle.part_reports.proofs.joining.join_text.Goals as goal

pub returns : goal.returns
returns c =
    let a = c.args.awaited in
    text_read a.kind c.args.torrent.now a.part a.parts a.places c.in_ok-lines.lines.now c.args.text.now c.args.joined.now c.join_lines.new.joined
    c.join_lines.result c.requires.places c.in_ok-lines.ensures c.join_lines.ensures

pub returns-in_err-lines : goal.returns-in_err-lines
returns-in_err-lines c = rw c.from_residual.ensures (λ report.
    let head = head_of c.args.awaited.kind c.args.torrent.now c.args.awaited.part c.args.awaited.parts c.args.text.now report in
    c.in_err-lines.ensures (head.more, head.is))
