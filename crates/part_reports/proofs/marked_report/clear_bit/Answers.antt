use Rattle.part_reports.proofs.MarkBits.{bit_is_clear, bit_stays}
use Rattle.part_reports.proofs.marked_report.clear_bit.Goals as goal

pub returns-clause-clear : goal.returns-clause-clear
returns-clause-clear c = bit_is_clear c.args.bits.now c.args.place c.requires

pub returns-clause-others : goal.returns-clause-others
returns-clause-others c = λ k apart. bit_stays c.args.bits.now c.args.place k c.requires apart
