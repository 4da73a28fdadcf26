use Rattle.std.proofs.Common.{◌≡◌, sym, ◌∙◌, subst}
use Rattle.std.specs.FinMap.{len}
use Rattle.holdings.specs.Holdings.{KeptPieces}
use Rattle.holdings.proofs.Rows.{len-rows}
use Rattle.holdings.proofs.piece_table.PieceTable.len.Goals as goal

pub returns : goal.returns
returns c = subst (λ (m : KeptPieces). c.len.result ≡ len m.pieces) c.self.view_is
    (c.len.ensures ∙ sym (len-rows c.self.inside.cells.items c.self.inside.newest.items c.self.inside.width _))
