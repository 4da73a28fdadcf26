use Rattle.std.proofs.Common.{arith}
use Rattle.file_windows.proofs.FileCuts.{cut_begins}
use Rattle.file_windows.proofs.cuts.window.cut_of.Goals as goal

pub overflow_mul-begin : goal.overflow_mul-begin
overflow_mul-begin c =
    omega (arith, cut_begins c.args.piece_length c.args.size c.args.number c.requires.some c.requires.there, c.ranges.size.fits)

pub overflow_sub-size : goal.overflow_sub-size
overflow_sub-size c = omega (arith, cut_begins c.args.piece_length c.args.size c.args.number c.requires.some c.requires.there)

pub returns-clause-inside : goal.returns-clause-inside
returns-clause-inside c =
    omega (arith, cut_begins c.args.piece_length c.args.size c.args.number c.requires.some c.requires.there, c.min.ensures)
