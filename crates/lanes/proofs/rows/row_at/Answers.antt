use Rattle.std.proofs.Common.{◌+◌, ◌∙◌, arith}
use Rattle.lanes.proofs.FourWords.{word_of_first, word_of_second}
use Rattle.lanes.proofs.rows.row_at.Goals as goal

pub returns-clause-first : goal.returns-clause-first
returns-clause-first c k lt =
    c.words_of.ensures k (omega arith)
    ∙ rw (c.bytes_at.ensures, c.bytes_at-2.ensures)
    (word_of_first c.args.buffer.now c.args.first c.args.second c.requires.first c.requires.second k lt)

pub returns-clause-second : goal.returns-clause-second
returns-clause-second c k lt =
    c.words_of.ensures (4 + k) (omega arith)
    ∙ rw (c.bytes_at.ensures, c.bytes_at-2.ensures)
    (word_of_second c.args.buffer.now c.args.first c.args.second c.requires.first c.requires.second k lt)
