use Rattle.std.proofs.Common.{◌/◌, refl, arith}
use Rattle.part_reports.proofs.MarkBits.{set_in}
use Rattle.part_reports.proofs.marked_report.BadPieces.none.Goals as goal

pub returns-clause-none : goal.returns-clause-none
returns-clause-none c = λ piece marked.
    let made = c.in_ok-resize.ensures in
    let old = c.new-bits.ensures.len in
    let byte = made.by_index.1 (piece / 8) 0 refl (omega (arith, old)) (omega (arith, marked.0, made.len, c.resize.new.self.ok.0)) in
    omega (arith, set_in c.resize.new.self.items piece byte, marked.1)
