use Rattle.std.proofs.Common.{refl}
use Rattle.padded.proofs.padding.without_padding.Goals as goal

pub returns-in-Piece : goal.returns-in-Piece
returns-in-Piece c = rw c.in-Piece.is (c.cut.result, refl, c.cut.ensures)
